use Rattle.std.proofs.Common.{◌≡◌, ℕ, suc, length, take, List, [], arith, add-one, refl, ap, ◌∙◌, subst}
use Rattle.std.proofs.Math.Seq.{take-length}
use Rattle.std.specs.Prelude.{Ok, slice_index_or}
use Rattle.loom_objects.specs.Rules.Condvar.{rouse, rouse_all}
use Rattle.loom_objects.specs.Rules.Rule.{◌>>=◌}
use Rattle.loom_objects.specs.Scene.Stage.{Does, world_of}
use Rattle.loom_objects.proofs.Scene.Showing.{does_as, follows, keeps}
use Rattle.loom_objects.specs.World.{World}
use Rattle.loom_objects.proofs.Sync.Rousing.{one_more}
use Rattle.loom_objects.proofs.rt.condvar.rouse_all.Goals as goal

pub loop-i-init : goal.loop-i-init
loop-i-init g c = keeps (rouse_all []) c.args.scene.now c.args.scene.now tt refl (λ p left. refl)

pub loop-i-preserved : goal.loop-i-preserved
loop-i-preserved g c =
    rw add-one
    (does_as (rouse_all (take (suc c.loop-i.i) c.args.threads.now)) (λ w. rouse_all (take c.loop-i.i c.args.threads.now) w >>= (λ x. rouse (slice_index_or c.args.threads.now c.loop-i.i 0) x.1)) c.args.scene.now c.rouse.new.scene (Ok tt)
    (λ p left. ap (λ (v : World g.row.D.Denot). Ok (tt, v)) (one_more c.args.threads.now c.loop-i.i (world_of p left c.args.scene.now) c.loop-i-test.true))
    (follows (rouse_all (take c.loop-i.i c.args.threads.now)) (λ x. rouse (slice_index_or c.args.threads.now c.loop-i.i 0) x.1) c.args.scene.now c.loop-i.scene c.rouse.new.scene tt (Ok tt) c.loop-i.invariant c.rouse.ensures))

pub returns : goal.returns
returns g c =
    let end : c.loop-i.i ≡ length c.args.threads.now = omega arith in
    subst (λ (threads : List ℕ). Does (rouse_all threads) c.args.scene.now (Ok tt) c.loop-i.scene) (ap (λ (i : ℕ). take i c.args.threads.now) end ∙ take-length c.args.threads.now) c.loop-i.invariant
