use Rattle.std.proofs.Common.{refl, ap, sym, ◌∙◌, Option, length, suc, add-one, arith, ◌≡◌, ℕ, drop}
use Rattle.loom_views.specs.declared.rt.failure.FailureKind.{FailureKind}
use Rattle.loom_objects.specs.Rules.Leaks.{first_leak, first_of}
use Rattle.loom_objects.proofs.Values.Leaking.{leak_from, none_after}
use Rattle.loom_objects.proofs.rt.leaks.first_leak.Goals as goal

pub loop-i-init : goal.loop-i-init
loop-i-init g c = (refl, sym c.len-i-end.ensures)

pub returns-in-Some : goal.returns-in-Some
returns-in-Some g c =
    sym (c.loop-i.invariant.0 ∙ leak_from c.args.objects.now c.loop-i.i c.at.result.now c.at.ensures ∙ ap (λ (o : Option FailureKind). first_of o (first_leak (drop (suc c.loop-i.i) c.args.objects.now))) (sym c.leak.ensures ∙ c.in-Some.is))

pub loop-i-preserved : goal.loop-i-preserved
loop-i-preserved g c =
    rw add-one (
      c.loop-i.invariant.0 ∙ leak_from c.args.objects.now c.loop-i.i c.at.result.now c.at.ensures ∙ ap (λ (o : Option FailureKind). first_of o (first_leak (drop (suc c.loop-i.i) c.args.objects.now))) (sym c.leak.ensures ∙ c.in_default.is),
      c.loop-i.invariant.1,
    )

pub returns : goal.returns
returns g c =
    let end : c.loop-i.i ≡ length c.args.objects.now = omega arith in
    sym (c.loop-i.invariant.0 ∙ ap (λ (i : ℕ). first_leak (drop i c.args.objects.now)) end ∙ none_after c.args.objects.now)
