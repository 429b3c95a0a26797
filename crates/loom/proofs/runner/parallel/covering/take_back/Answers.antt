use Rattle.std.proofs.Common.{◌≡◌, ◌≤◌, ◌+◌, ◌*◌, ◌++◌, ◌∷◌, List, [], None, ap, refl, ◌∙◌, subst, arith, length}
use Rattle.std.specs.Option.{option_to_list}
use Rattle.loom.specs.declared.runner.parallel.covering.PartDone.{PartDone}
use Rattle.loom.specs.Runner.Covering.{AreAtMost}
use Rattle.loom.proofs.RunnerLemmas.Covering.{IsTaking, most_on, room_for, taking_end, taking_one, taking_start}
use Rattle.loom.proofs.runner.parallel.covering.take_back.Goals as goal

pub back-init : goal.back-init
back-init g c = record {
  within = λ most h. (h, omega arith);
  taking = λ b body given start out once.
      taking_start g.V.Visitor.takes g.G.Visitors.is_new g.G.Visitors.joins b g.B.Body.next body given c.args.visitors.now c.args.parts.now c.args.states.now start (record { runs = 0; met = 0; lost = None }) c.args.done.items refl refl
      out once;
}

pub take_one-requires : goal.take_one-requires
take_one-requires g c =
    let most = c.requires.fits in
    let items : c.back.done.items ≡ c.pop.new.self.items ++ c.in-Some.one ∷ [] = c.pop.ensures.items ∙ ap (λ o. c.pop.new.self.items ++ option_to_list o) c.in-Some.is in
    let z = c.back.invariant.within most.0 most.1 in
    record {
      fits = room_for most.0 (c.back.turn.runs + c.back.turn.met) (length c.args.done.items * most.0) c.pop.new.self.items c.in-Some.one (subst (λ (list : List (PartDone _ _ _)). AreAtMost most.0 list) items z.0)
          (subst (λ (list : List (PartDone _ _ _)). (c.back.turn.runs + c.back.turn.met) + length list * most.0 ≤ length c.args.done.items * most.0) items z.1) most.2;
    }

pub back-preserved : goal.back-preserved
back-preserved g c =
    let items : c.back.done.items ≡ c.pop.new.self.items ++ c.in-Some.one ∷ [] = c.pop.ensures.items ∙ ap (λ o. c.pop.new.self.items ++ option_to_list o) c.in-Some.is in
    let z = c.back.invariant in
    record {
      within = λ most h.
          let w = z.within most h in
          most_on g.G.Visitors.joins c.back.parts c.take_one.new.parts c.back.states c.take_one.new.states c.back.visitors c.take_one.new.visitors c.back.turn c.take_one.new.turn most (length c.args.done.items * most)
          c.pop.new.self.items c.in-Some.one c.in_ok-take_one.ensures (subst (λ (list : List (PartDone _ _ _)). AreAtMost most list) items w.0)
          (subst (λ (list : List (PartDone _ _ _)). (c.back.turn.runs + c.back.turn.met) + length list * most ≤ length c.args.done.items * most) items w.1);
      taking = λ b body given start out once.
          taking_one g.V.Visitor.takes g.G.Visitors.is_new g.G.Visitors.joins b g.B.Body.next body given c.args.visitors.now c.args.parts.now c.args.states.now start c.back.parts c.take_one.new.parts c.back.visitors
          c.take_one.new.visitors c.back.states c.take_one.new.states c.back.turn c.take_one.new.turn c.pop.new.self.items c.in-Some.one
          (subst (λ (list : List (PartDone _ _ _)). IsTaking g.V.Visitor.takes g.G.Visitors.is_new g.G.Visitors.joins b g.B.Body.next body given c.args.visitors.now c.args.parts.now c.args.states.now start c.back.parts c.back.visitors c.back.states c.back.turn list) items
          (z.taking b body given start out once)) c.in_ok-take_one.ensures;
    }

pub returns-clause-takes : goal.returns-clause-takes
returns-clause-takes g c = λ b body given start out once.
    taking_end g.V.Visitor.takes g.G.Visitors.is_new g.G.Visitors.joins b g.B.Body.next body given c.args.visitors.now c.args.parts.now c.args.states.now start c.back.parts c.back.visitors c.back.states c.back.turn c.back.done.items
    (c.back.invariant.taking b body given start out once)
