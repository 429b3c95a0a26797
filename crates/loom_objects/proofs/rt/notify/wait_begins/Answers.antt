use Rattle.std.proofs.Common.{refl, rules, Ok, false}
use Rattle.loom_objects.specs.declared.rt.run.Entry.{Entry}
use Rattle.loom_objects.specs.declared.rt.run.Entry.TheVariants.{AtBranch}
use Rattle.loom_objects.specs.Rules.Notify.{enters_wait, wait_begins}
use Rattle.loom_objects.specs.Rules.Rule.{◌>>=◌}
use Rattle.loom_objects.proofs.Scene.Showing.{does_as, follows, keeps}
use Rattle.loom_objects.proofs.rt.notify.wait_begins.Goals as goal

pub returns : goal.returns
returns g c =
    let scene = c.enter_wait.new.scene in
    does_as (wait_begins c.args.number) (λ w. enters_wait false c.args.number w >>= (λ after. Ok (AtBranch, after.1))) c.args.scene.now scene (Ok AtBranch) (λ p left. search rules)
    (follows (enters_wait false c.args.number) (λ after. Ok (AtBranch, after.1)) c.args.scene.now scene scene tt (Ok AtBranch) c.in_ok-enter_wait.ensures
    (keeps {A = Entry g.row.D.Denot} (λ w. Ok (AtBranch, w)) scene scene AtBranch refl (λ p left. refl)))

pub returns-then-may_be_spurious : goal.returns-then-may_be_spurious
returns-then-may_be_spurious g c = search rules
