use Rattle.loom_views.proofs.Atomic.Table.Moves.{stamp-added}
use Rattle.loom_views.proofs.rt.views.Views.add_stamp.Goals as goal

pub returns-clause-shown : goal.returns-clause-shown
returns-clause-shown c = λ p z. rw (c.in_ok-push.ensures.ok, c.new.ensures) (stamp-added p c.args.self.now z)
