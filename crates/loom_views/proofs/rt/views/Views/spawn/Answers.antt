use Rattle.std.proofs.Common.{◌≤◌, ◌≢◌, length, subst, sym, refl, arith}
use Rattle.std.proofs.lemmas.Bool.{true≢false}
use Rattle.loom_views.specs.Graph.{raised}
use Rattle.loom_views.proofs.Atomic.Table.Spawned.{spawn-unmade, spawn-moved}
use Rattle.loom_views.proofs.rt.views.Views.spawn.Goals as goal

pub returns-clause-shown : goal.returns-clause-shown
returns-clause-shown c = λ p z. spawn-moved p c.args.self.now c.args.parent c.index-self-parent.result c.if-parent-self.false c.if-parent-ge-MAX_THREADS.false z c.in-Some.child_views c.spawn.new.self c.if-child-ge-MAX_THREADS.false
    (λ g own h r i s.
    let counted : length (raised g c.args.parent) ≤ 65534 = c.in-Some.ensures.counted g own r i s in
    let room : length (raised g c.args.parent) ≢ 65534 = λ f. true≢false ((c.in-Some.ensures.room g own r i s).1 f) in
    omega arith)
    (λ g own h r i s. c.in-Some.ensures.shown g own h r s)

pub returns-in_default-clause-shown : goal.returns-in_default-clause-shown
returns-in_default-clause-shown c = λ p z. spawn-unmade p c.args.self.now c.args.parent c.index-self-parent.result c.if-parent-self.false c.if-parent-ge-MAX_THREADS.false z c.if-child-ge-MAX_THREADS.false
    (λ g own h r i s. subst (λ k. 65534 ≤ k) (sym ((c.in_default.ensures.room g own r i s).0 refl)) (omega arith))
