use Rattle.std.proofs.Common.{◌≡◌, ◌<◌, length, Some, ap, ◌∙◌, arith}
use Rattle.loom_engine.proofs.Covering.Between.{within}
use Rattle.loom_engine.proofs.rt.states.trails.has_at.Goals as goal

pub returns-then-place-made : goal.returns-then-place-made
returns-then-place-made c =
    (λ t. absurd (cc t), λ e. absurd (let l : c.args.place < length c.args.made.now = within c.args.made.now c.args.place c.args.choice e in omega (arith, l)))

pub returns : goal.returns
returns c =
    let at = c.choice_at-there.ensures in
    (λ t. at ∙ ap Some (c.are_alike.ensures.0 t), λ e. let same : c.choice_at-there.result ≡ c.args.choice = cc (at, e) in c.are_alike.ensures.1 same)
