use Rattle.std.proofs.Common.{sym, ◌∙◌}
use Rattle.loom_text.proofs.RunLemmas.{settled_none, settled_still}
use Rattle.loom_text.proofs.run.state.State.+settle.Goals as goal
use Rattle.loom_text.proofs.run.state.State.+settle.Goals.{else-most-gt0-via-then-most-gt0+else-moves, else-most-gt0-via-else-most-gt0}

pub returns-else-most-gt0 : goal.returns-else-most-gt0
returns-else-most-gt0 t c = elim c.else-most-gt0.branch [
  | else-most-gt0-via-then-most-gt0+else-moves w ↦
      let stays = w.moves.ensures.stays w.if-moves.false in
      let still = settled_still c.args.most c.args.code.now c.args.self.now (sym w.moves.ensures.moved ∙ stays) in
      cc (stays, still)
  | else-most-gt0-via-else-most-gt0 w ↦
      let none = settled_none c.args.most c.args.code.now c.args.self.now w.if-most-gt0.false in
      cc none
]
