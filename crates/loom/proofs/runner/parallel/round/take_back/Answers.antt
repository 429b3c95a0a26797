use Rattle.std.proofs.Common.{◌≡◌, ◌≤◌, ◌+◌, ◌*◌, ◌++◌, ◌∷◌, List, [], None, ap, refl, ◌∙◌, subst, arith, length}
use Rattle.std.specs.Option.{option_to_list}
use Rattle.loom.specs.declared.runner.parallel.round.Done.{Done}
use Rattle.loom.specs.Runner.Workers.{AreAtMost}
use Rattle.loom.proofs.RunnerLemmas.Turns.{IsTaking, taking_start, taking_one, taking_end, room_for, most_on}
use Rattle.loom.proofs.runner.parallel.round.take_back.Goals as goal

pub back-init : goal.back-init
back-init g c = record {
  within = λ most h. (h, omega arith);
  taking = λ b tree made sound at out once.
      taking_start g.V.Visitor.takes g.G.Visitors.is_new g.G.Visitors.joins b tree made c.args.visitors.now c.args.parts.now (record { runs = 0; lost = None }) c.args.done.items refl refl at out once;
}

pub take_one-requires : goal.take_one-requires
take_one-requires g c =
    let most = c.requires.fits in
    let items : c.back.done.items ≡ c.pop.new.self.items ++ c.in-Some.one ∷ [] = c.pop.ensures.items ∙ ap (λ o. c.pop.new.self.items ++ option_to_list o) c.in-Some.is in
    let z = c.back.invariant.within most.0 most.1 in
    record {
      fits = room_for most.0 c.back.turn.runs (length c.args.done.items * most.0) c.pop.new.self.items c.in-Some.one (subst (λ (list : List (Done _)). AreAtMost most.0 list) items z.0)
          (subst (λ (list : List (Done _)). c.back.turn.runs + length list * most.0 ≤ length c.args.done.items * most.0) items z.1) most.2;
    }

pub back-preserved : goal.back-preserved
back-preserved g c =
    let items : c.back.done.items ≡ c.pop.new.self.items ++ c.in-Some.one ∷ [] = c.pop.ensures.items ∙ ap (λ o. c.pop.new.self.items ++ option_to_list o) c.in-Some.is in
    let z = c.back.invariant in
    record {
      within = λ most h.
          let w = z.within most h in
          most_on g.G.Visitors.joins c.back.parts c.take_one.new.parts c.back.visitors c.take_one.new.visitors c.back.turn c.take_one.new.turn most (length c.args.done.items * most) c.pop.new.self.items c.in-Some.one
          c.in_ok-take_one.ensures (subst (λ (list : List (Done _)). AreAtMost most list) items w.0)
          (subst (λ (list : List (Done _)). c.back.turn.runs + length list * most ≤ length c.args.done.items * most) items w.1);
      taking = λ b tree made sound at out once.
          taking_one g.V.Visitor.takes g.G.Visitors.is_new g.G.Visitors.joins b tree made c.args.visitors.now sound c.back.parts c.take_one.new.parts c.back.visitors c.take_one.new.visitors c.back.turn c.take_one.new.turn
          c.pop.new.self.items c.in-Some.one
          (subst (λ (list : List (Done _)). IsTaking g.V.Visitor.takes g.G.Visitors.is_new g.G.Visitors.joins b tree made c.args.visitors.now c.back.parts c.back.visitors c.back.turn list) items
          (z.taking b tree made sound at out once)) c.in_ok-take_one.ensures;
    }

pub returns-clause-takes : goal.returns-clause-takes
returns-clause-takes g c = λ b tree made sound at out once.
    taking_end g.V.Visitor.takes g.G.Visitors.is_new g.G.Visitors.joins b tree made c.args.visitors.now sound c.back.parts c.back.visitors c.back.turn c.back.done.items (c.back.invariant.taking b tree made sound at out once)
