use Rattle.std.proofs.Common.{ℕ, ◌+◌, ◌*◌, ap₂, ◌∙◌}
use Rattle.loom_views.proofs.Views.Lanes.{halves_of_lanes}
use Rattle.loom_views.proofs.rt.vv.lanes.word_of.Goals as goal

pub returns : goal.returns
returns c = ap₂ (λ (high low : ℕ). high * 18446744073709551616 + low) c.from.ensures c.from-2.ensures ∙ halves_of_lanes c.args.lanes c.fits-lanes.0 c.fits-lanes.1
