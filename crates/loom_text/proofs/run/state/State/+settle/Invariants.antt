use Rattle.loom_text.proofs.run.state.State.+settle.Given as goal

abbrev pub decreases-settle : goal.decreases-settle
decreases-settle l = l.most
