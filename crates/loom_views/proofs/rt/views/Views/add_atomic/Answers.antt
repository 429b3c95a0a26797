use Rattle.std.proofs.Common.{[], ◌∷◌, ◌++◌}
use Rattle.loom_views.specs.declared.rt.views.Kept.TheVariants.{Atomic}
use Rattle.loom_views.specs.Views.{ShowsViews, points_with_atomic}
use Rattle.loom_views.proofs.Atomic.Table.Carried.{ok_as, ok_placed}
use Rattle.loom_views.proofs.Atomic.Table.Accesses.{atomic-added}
use Rattle.loom_views.proofs.rt.views.Views.add_atomic.Goals as goal

pub returns-clause-shown : goal.returns-clause-shown
returns-clause-shown c = λ p z. ok_as c.push.result (ShowsViews (points_with_atomic p c.args.thread c.args.value)) (record c.args.self.now { places = c.push.new.self }) (record c.args.self.now { places = c.args.self.now.places ++ Atomic c.new.result ∷ [] })
    (ok_placed c.push.result c.args.self.now c.push.new.self (c.args.self.now.places ++ Atomic c.new.result ∷ []) c.push.ensures.ok) (atomic-added p c.args.self.now c.args.thread c.args.value c.index-self-thread.result c.new.result c.if-thread-self.false c.if-thread-ge-MAX_THREADS.false z c.new.ensures)
