use Rattle.std.proofs.Common.{◌≡◌, ◌≤◌, ◌+◌, ◌∷◌, List, [], Some, None, length, ap, subst, arith}
use Rattle.std.specs.Vec.Iter.{into_iter_items}
use Rattle.loom.specs.declared.runner.parallel.walking.LegDone.{LegDone}
use Rattle.loom.specs.Runner.Legs.{IsTaken, asked_of, made_of}
use Rattle.loom.proofs.RunnerLemmas.Legs.{IsTaking, none_left, room_on, taking_end, taking_failed, taking_on}
use Rattle.loom.proofs.runner.parallel.walking.take_back.Goals as goal

pub returns-in-Some-failed : goal.returns-in-Some-failed
returns-in-Some-failed g c = λ b tree first legs new made come.
    let items : into_iter_items c.back.left ≡ c.in-Some.one ∷ into_iter_items c.next.new.self = c.in-Some.ensures.items in
    let all = c.args.gone.now.runs + c.args.gone.now.cut + asked_of legs in
    let taken : IsTaken g.G.Visitors.joins c.back.visitors c.take_one.new.visitors c.in-Some.one c.back.gone c.take_one.new.gone c.in-Some.one.walked (Some c.in-Some-failed.failed) =
    rw c.in-Some-failed.is at c.in_ok-failed.ensures in
    taking_failed g.V.Visitor.takes g.G.Visitors.is_new g.G.Visitors.joins first b tree all c.back.visitors c.take_one.new.visitors c.back.gone c.take_one.new.gone c.in-Some.one (into_iter_items c.next.new.self)
    c.in-Some-failed.failed c.take_one.new.gone
    (subst (λ (list : List (LegDone _)). IsTaking g.V.Visitor.takes g.G.Visitors.is_new g.G.Visitors.joins first b tree all c.back.visitors c.back.gone list) items (c.back.invariant.taking b tree first legs new made come)) taken

pub back-preserved : goal.back-preserved
back-preserved g c =
    let items : into_iter_items c.back.left ≡ c.in-Some.one ∷ into_iter_items c.next.new.self = c.in-Some.ensures.items in
    let taken : IsTaken g.G.Visitors.joins c.back.visitors c.take_one.new.visitors c.in-Some.one c.back.gone c.take_one.new.gone c.in-Some.one.walked None = rw c.in_default-failed.is at c.in_ok-failed.ensures in
    record {
      length = (let v = c.back.invariant.length in let i = c.in-Some.ensures.len in let e = ap length items in omega (arith, v, i, e));
      fits = room_on g.G.Visitors.joins c.back.visitors c.take_one.new.visitors c.back.gone c.take_one.new.gone c.in-Some.one c.in-Some.one.walked (made_of (into_iter_items c.next.new.self))
          (c.args.gone.now.runs + c.args.gone.now.cut + made_of c.args.done.items) taken
          (subst (λ (list : List (LegDone _)). c.back.gone.runs + c.back.gone.cut + made_of list ≤ c.args.gone.now.runs + c.args.gone.now.cut + made_of c.args.done.items) items c.back.invariant.fits);
      taking = λ b tree first legs new made come.
          let all = c.args.gone.now.runs + c.args.gone.now.cut + asked_of legs in
          taking_on g.V.Visitor.takes g.G.Visitors.is_new g.G.Visitors.joins first b tree all c.back.visitors c.take_one.new.visitors c.back.gone c.take_one.new.gone c.in-Some.one (into_iter_items c.next.new.self)
          (subst (λ (list : List (LegDone _)). IsTaking g.V.Visitor.takes g.G.Visitors.is_new g.G.Visitors.joins first b tree all c.back.visitors c.back.gone list) items (c.back.invariant.taking b tree first legs new made come)) taken;
    }

pub returns : goal.returns
returns g c = λ b tree first legs new made come.
    let none : into_iter_items c.back.left ≡ [] = none_left (into_iter_items c.back.left) _ c.back.invariant.length (λ less. cc (c.in_default.ensures.variant.1 less)) in
    let all = c.args.gone.now.runs + c.args.gone.now.cut + asked_of legs in
    taking_end g.V.Visitor.takes g.G.Visitors.is_new g.G.Visitors.joins first b tree all c.back.visitors c.back.gone
    (subst (λ (list : List (LegDone _)). IsTaking g.V.Visitor.takes g.G.Visitors.is_new g.G.Visitors.joins first b tree all c.back.visitors c.back.gone list) none (c.back.invariant.taking b tree first legs new made come))
