use Rattle.std.proofs.Common.{◌≡◌, ◌+◌, ◌∙◌, ap, sym, subst, arith, length, length-append}
use Rattle.std.specs.Prelude.{slice_get}
use Rattle.loom.specs.Runner.Workers.{AreHandedOut}
use Rattle.loom.proofs.RunnerLemmas.Workers.{handed_more}
use Rattle.loom.proofs.runner.parallel.round.hand_out.Goals as goal

pub loop-number-preserved : goal.loop-number-preserved
loop-number-preserved g c =
    let z = c.loop-number.invariant in
    let taken = rw c.in-Some.is at c.in_ok-part.ensures in
    let list = c.args.parts.now.list.items in
    let here : 0 + length c.loop-number.jobs.items ≡ c.loop-number.number = omega (arith, z.1) in (
      subst (λ jobs. AreHandedOut g.G.Visitors.is_new c.args.parts.now.list.items 0 jobs) (sym c.in_ok-push.ensures.items)
          (handed_more g.G.Visitors.is_new list 0 c.loop-number.jobs.items (record { part = c.in-Some.part; visitor = c.in_ok-visitor.visitor }) z.0 taken.0 (ap (slice_get list) here ∙ taken.1) taken.2
          c.in_ok-visitor.ensures),
      (let e = ap length c.in_ok-push.ensures.items in let f = z.1 in grind (arith, length-append, e, f)),
    )
