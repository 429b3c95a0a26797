use Rattle.std.proofs.Common.{◌≡◌, ◌-◌, length, subst, sym, ◌∙◌, Some}
use Rattle.std.specs.Prelude.{slice_get}
use Rattle.loom_engine.specs.Snapshots.{Fits}
use Rattle.loom_engine.proofs.Snapshots.{all_at}
use Rattle.loom_engine.proofs.rt.snapshots.Snapshots.copy_last.Goals as goal

pub go_on-requires : goal.go_on-requires
go_on-requires g c =
    let list = c.deref.ensures.value ∙ c.self.view_is in
    all_at (Fits c.args.path.now) c.args.self.now (length c.args.self.now - 1) c.in-Some.last.now (subst (λ l. slice_get l (length l - 1) ≡ Some c.in-Some.last.now) list (sym c.in-Some.ensures.value)) c.requires

pub returns-in_ok-go_on-in-Some-clause-goes : goal.returns-in_ok-go_on-in-Some-clause-goes
returns-in_ok-go_on-in-Some-clause-goes g c =
    let list = c.deref.ensures.value ∙ c.self.view_is in (
      length c.args.self.now - 1,
      c.in-Some.last.now,
      subst (λ l. slice_get l (length l - 1) ≡ Some c.in-Some.last.now) list (sym c.in-Some.ensures.value),
      c.in_ok-go_on-in-Some.ensures.goes,
    )

pub returns-in_ok-go_on-in-Some-clause-same : goal.returns-in_ok-go_on-in-Some-clause-same
returns-in_ok-go_on-in-Some-clause-same g c = c.go_on.ensures.same
