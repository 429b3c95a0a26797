use Rattle.std.proofs.Common.{[], ◌∷◌, ◌++◌}
use Rattle.loom_views.specs.declared.rt.views.Kept.TheVariants.{Cell}
use Rattle.loom_views.specs.Views.{ShowsViews, points_with_cell}
use Rattle.loom_views.proofs.Atomic.Table.Carried.{ok_as, ok_placed}
use Rattle.loom_views.proofs.Atomic.Table.Cells.{cell-added}
use Rattle.loom_views.proofs.rt.views.Views.add_cell.Goals as goal

pub returns-clause-shown : goal.returns-clause-shown
returns-clause-shown c = λ p z. ok_as c.push.result (ShowsViews (points_with_cell p c.args.thread)) (record c.args.self.now { places = c.push.new.self }) (record c.args.self.now { places = c.args.self.now.places ++ Cell c.new.result ∷ [] })
    (ok_placed c.push.result c.args.self.now c.push.new.self (c.args.self.now.places ++ Cell c.new.result ∷ []) c.push.ensures.ok) (cell-added p c.args.self.now c.args.thread c.index-self-thread.result c.new.result c.if-thread-self.false c.if-thread-ge-MAX_THREADS.false z c.new.ensures)
