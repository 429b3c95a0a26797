use Rattle.loom_explain.proofs.explanation.Explanation.to_svg.Goals as goal

pub returns : goal.returns
returns c = (c.in_ok-picture.picture.rows.items, (c.in_ok-picture.ensures.told, c.in_ok-text.ensures))
