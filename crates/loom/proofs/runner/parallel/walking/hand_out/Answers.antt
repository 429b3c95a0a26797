use Rattle.std.proofs.Common.{◌≡◌, ◌+◌, ◌∙◌, inl, inr, ap, sym, subst, arith}
use Rattle.loom.specs.Runner.Legs.{AreNew, asked_of}
use Rattle.loom.specs.Model.Walking.{asked_runs}
use Rattle.loom.proofs.RunnerLemmas.Legs.{asked_more, new_more}
use Rattle.loom.proofs.runner.parallel.walking.hand_out.Goals as goal

pub leg_of-its-requires : goal.leg_of-its-requires
leg_of-its-requires g c = let f = c.if-is_over.false in omega (arith, f)

pub loop-number-preserved : goal.loop-number-preserved
loop-number-preserved g c =
    let z = c.loop-number.invariant in
    let asked : asked_of c.push.new.self.items ≡ asked_of c.loop-number.legs.items + asked_runs c.of_runs.result =
    ap asked_of c.in_ok-push.ensures.items ∙ asked_more c.loop-number.legs.items (record { walk = c.of_runs.result; drawer = c.hand_out.result; visitor = c.in_ok-visitor.visitor }) in
    let o = c.of_runs.ensures in
    let s = c.leg_of-its.ensures.some in
    let w = c.leg_of-its.ensures.within in
    let l = z.left in
    record {
      new = subst (AreNew g.G.Visitors.is_new) (sym c.in_ok-push.ensures.items)
          (new_more g.G.Visitors.is_new c.loop-number.legs.items (record { walk = c.of_runs.result; drawer = c.hand_out.result; visitor = c.in_ok-visitor.visitor }) z.new c.in_ok-visitor.ensures);
      left = omega (arith, l, asked, o, w);
      some = inr (omega (arith, asked, o, s));
    }

pub returns-then-is_over-clause-on : goal.returns-then-is_over-clause-on
returns-then-is_over-clause-on g c =
    let l = c.loop-number.invariant.left in
    let t = c.if-is_over.true in
    let r = c.requires.left in
    omega (arith, l, t, r)

pub returns-clause-on : goal.returns-clause-on
returns-clause-on g c = elim c.loop-number.invariant.some [
  | inl none ↦ (let r = c.requires.some in omega (arith, none, r))
  | inr some ↦ some
]
