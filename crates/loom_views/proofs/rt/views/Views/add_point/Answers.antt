use Rattle.std.proofs.Common.{[], ◌∷◌, ◌++◌}
use Rattle.loom_views.specs.declared.rt.views.Kept.TheVariants.{Point}
use Rattle.loom_views.specs.Views.{ShowsViews, points_with_point}
use Rattle.loom_views.proofs.Atomic.Table.Carried.{ok_as, ok_placed}
use Rattle.loom_views.proofs.Atomic.Table.Moves.{point-added}
use Rattle.loom_views.proofs.rt.views.Views.add_point.Goals as goal

pub returns-clause-shown : goal.returns-clause-shown
returns-clause-shown c = λ p z.
    ok_as c.push.result (ShowsViews (points_with_point p)) (record c.args.self.now { places = c.push.new.self }) (record c.args.self.now { places = c.args.self.now.places ++ Point c.new.result ∷ [] })
    (ok_placed c.push.result c.args.self.now c.push.new.self (c.args.self.now.places ++ Point c.new.result ∷ []) c.push.ensures.ok) (rw c.new.ensures (point-added p c.args.self.now z))
