use Rattle.std.proofs.Common.{◌≡◌, ◌+◌, ◌-◌, ◌^◌, min, remove, append_assoc, List, [], ◌∷◌, ◌++◌, Bool, refl, ap, sym, ◌∙◌, subst, length, arith}
use Rattle.loom_engine.specs.declared.rt.path.opening.Opening.{Opening}
use Rattle.loom_engine.specs.declared.rt.parts.Part.{Part as Kept}
use Rattle.loom_engine.specs.Path.Nodes.{stored}
use Rattle.loom_engine.specs.Parts.Slices.{Slice, Ended}
use Rattle.loom_engine.specs.Parts.Openings.{OpensAt, AreLow, EachOpening}
use Rattle.loom_engine.specs.Parts.Keeping.{part_of, Leaves, keys, views}
use Rattle.loom_engine.specs.Covering.Spread.{AllRounds, LeadSo, Rounds, Spread}
use Rattle.loom_engine.proofs.Parts.Gathering.{each_at}
use Rattle.loom_engine.proofs.Parts.Keeping.{within_list}
use Rattle.loom_engine.proofs.Covering.Returning.{done_so, left_so}
use Rattle.loom_engine.proofs.Covering.Spread.{holds}
use Rattle.loom_engine.proofs.Parts.Giving.{Each, HandsEach, Now, others_kept, none_of, left_back, done_back, same_part, bases_once}
use Rattle.loom_engine.proofs.rt.parts.Parts.give_back.Goals as goal

pub returns-in_default-clause-back : goal.returns-in_default-clause-back
returns-in_default-clause-back c =
    (refl, λ number h. c.place_of.ensures.none (none_of c.place_of.result (λ x e. c.in_default.not-Some x e)) number (h.0, h.1, h.2 ∙ sym c.deref.ensures.value))

pub remove-requires : goal.remove-requires
remove-requires c =
    let list = c.args.self.now.list in
    let found = c.in-Some.ensures.some in
    omega (arith, within_list list.items c.in-Some.number found.0 found.1, list.ok.0)

pub hand_out_each-requires : goal.hand_out_each-requires
hand_out_each-requires c =
    subst (λ (l : List Opening). EachOpening (OpensAt c.args.part.path.nodes) l) (sym c.deref-2.ensures.value)
    (each_at c.in_ok-notes.notes.items (λ opening h. h.0) c.in_ok-notes.ensures.each)

pub returns-in_ok-push-clause-back : goal.returns-in_ok-push-clause-back
returns-in_ok-push-clause-back c = λ m made runs number q w now at same leaves.
    let list = c.args.self.now.list.items in
    let trunk = c.args.self.now.trunk.items in
    let nodes = c.args.part.path.nodes in
    let found = c.in-Some.ensures.some in
    let base : c.in-Some.ensures.some.0.base.items ≡ c.args.part.base.items = found.2 ∙ c.deref.ensures.value in
    let one : q ≡ c.in-Some.ensures.some.0 = same_part list [] number c.in-Some.number q found.0 (bases_once m made list trunk w now) at found.1 (same ∙ sym base) in
    let size : c.len.result ≡ length c.in-Some.ensures.some.0.base.items = omega (arith, c.len.ensures, c.args.part.base.ok.0, ap length base) in
    let low : AreLow (length c.in-Some.ensures.some.0.base.items) c.args.part.path.nodes c.in_ok-notes.notes.items = subst (λ k. AreLow k c.args.part.path.nodes c.in_ok-notes.notes.items) size c.in_ok-notes.ensures in
    let each : Each c.remove.new.self.items c.args.self.now.trunk.items c.hand_out_each.new.self.list.items c.hand_out_each.new.self.trunk.items c.args.part.path.nodes c.in_ok-notes.notes.items =
    subst (λ (l : List Opening). Each c.remove.new.self.items c.args.self.now.trunk.items c.hand_out_each.new.self.list.items c.hand_out_each.new.self.trunk.items c.args.part.path.nodes l) c.deref-2.ensures.value
    c.in_ok-hand_out_each.ensures.hands in
    let slice : Slice m (length (part_of c.in-Some.ensures.some.0).base) (part_of c.in-Some.ensures.some.0).path runs (stored c.args.part.path.nodes) =
    subst (λ (y : Kept). Slice m (length (part_of y).base) (part_of y).path runs (stored c.args.part.path.nodes)) one
    (subst (λ (v : Bool). Leaves m (part_of q) runs v (stored c.args.part.path.nodes)) c.if-not-part.true leaves) in
    subst (λ (l : List Kept). Now m (runs ++ made) l c.hand_out_each.new.self.trunk.items) (sym c.in_ok-push.ensures.items)
    (left_back list trunk c.in-Some.number found.0 nodes c.in_ok-notes.notes.items found.1 low c.remove.new.self.items c.hand_out_each.new.self.list.items c.hand_out_each.new.self.trunk.items
    c.remove.ensures.items each m made runs w now slice (record { base = c.args.part.base; path = c.args.part.path; is_done = c.args.part.is_done; runs = 0 }) refl (sym base))

pub returns-else-not-part-clause-back : goal.returns-else-not-part-clause-back
returns-else-not-part-clause-back c = λ m made runs number q w now at same leaves.
    let list = c.args.self.now.list.items in
    let trunk = c.args.self.now.trunk.items in
    let nodes = c.args.part.path.nodes in
    let found = c.in-Some.ensures.some in
    let base : c.in-Some.ensures.some.0.base.items ≡ c.args.part.base.items = found.2 ∙ c.deref.ensures.value in
    let one : q ≡ c.in-Some.ensures.some.0 = same_part list [] number c.in-Some.number q found.0 (bases_once m made list trunk w now) at found.1 (same ∙ sym base) in
    let size : c.len.result ≡ length c.in-Some.ensures.some.0.base.items = omega (arith, c.len.ensures, c.args.part.base.ok.0, ap length base) in
    let low : AreLow (length c.in-Some.ensures.some.0.base.items) c.args.part.path.nodes c.in_ok-notes.notes.items = subst (λ k. AreLow k c.args.part.path.nodes c.in_ok-notes.notes.items) size c.in_ok-notes.ensures in
    let each : Each c.remove.new.self.items c.args.self.now.trunk.items c.hand_out_each.new.self.list.items c.hand_out_each.new.self.trunk.items c.args.part.path.nodes c.in_ok-notes.notes.items =
    subst (λ (l : List Opening). Each c.remove.new.self.items c.args.self.now.trunk.items c.hand_out_each.new.self.list.items c.hand_out_each.new.self.trunk.items c.args.part.path.nodes l) c.deref-2.ensures.value
    c.in_ok-hand_out_each.ensures.hands in
    let ended : Ended m (length (part_of c.in-Some.ensures.some.0).base) (part_of c.in-Some.ensures.some.0).path runs (stored c.args.part.path.nodes) =
    subst (λ (y : Kept). Ended m (length (part_of y).base) (part_of y).path runs (stored c.args.part.path.nodes)) one
    (subst (λ (v : Bool). Leaves m (part_of q) runs v (stored c.args.part.path.nodes)) c.if-not-part.false leaves) in
    done_back list trunk c.in-Some.number found.0 nodes c.in_ok-notes.notes.items found.1 low c.remove.new.self.items c.hand_out_each.new.self.list.items c.hand_out_each.new.self.trunk.items
    c.remove.ensures.items each m made runs w now ended

pub returns-in_default-clause-spreads : goal.returns-in_default-clause-spreads
returns-in_default-clause-spreads c = tt

pub returns-in_ok-push-clause-spreads : goal.returns-in_ok-push-clause-spreads
returns-in_ok-push-clause-spreads c = λ m left more number q now at same leaves.
    let list = c.args.self.now.list.items in
    let trunk = c.args.self.now.trunk.items in
    let nodes = c.args.part.path.nodes in
    let found = c.in-Some.ensures.some in
    let base : c.in-Some.ensures.some.0.base.items ≡ c.args.part.base.items = found.2 ∙ c.deref.ensures.value in
    let one : q ≡ c.in-Some.ensures.some.0 =
    same_part list [] number c.in-Some.number q found.0 (holds m left (views list) now.0 (keys trunk) [] now.1).bases_once at found.1 (same ∙ sym base) in
    let size : c.len.result ≡ length c.in-Some.ensures.some.0.base.items = omega (arith, c.len.ensures, c.args.part.base.ok.0, ap length base) in
    let low : AreLow (length c.in-Some.ensures.some.0.base.items) c.args.part.path.nodes c.in_ok-notes.notes.items = subst (λ k. AreLow k c.args.part.path.nodes c.in_ok-notes.notes.items) size c.in_ok-notes.ensures in
    let each : HandsEach (Spread m (more ++ left)) c.remove.new.self.items c.args.self.now.trunk.items c.hand_out_each.new.self.list.items c.hand_out_each.new.self.trunk.items c.args.part.path.nodes c.in_ok-notes.notes.items =
    subst (λ (l : List Opening). HandsEach (Spread m (more ++ left)) c.remove.new.self.items c.args.self.now.trunk.items c.hand_out_each.new.self.list.items c.hand_out_each.new.self.trunk.items c.args.part.path.nodes l)
    c.deref-2.ensures.value (c.in_ok-hand_out_each.ensures.spreads m (more ++ left)) in
    let rounds : Rounds m (length c.in-Some.ensures.some.0.base.items) (stored c.in-Some.ensures.some.0.path.nodes) more (stored c.args.part.path.nodes) =
    subst (λ (y : Kept). Rounds m (length y.base.items) (stored y.path.nodes) more (stored c.args.part.path.nodes)) one
    (subst (λ (v : Bool). LeadSo m (length q.base.items) (stored q.path.nodes) more v (stored c.args.part.path.nodes)) c.if-not-part.true leaves) in (
      now.0,
      subst (λ (l : List Kept). Spread m (more ++ left) (views l) now.0 (keys c.hand_out_each.new.self.trunk.items) []) (sym c.in_ok-push.ensures.items)
          (left_so list trunk c.in-Some.number found.0 nodes c.in_ok-notes.notes.items found.1 low c.remove.new.self.items c.hand_out_each.new.self.list.items c.hand_out_each.new.self.trunk.items
          c.remove.ensures.items m left more each now.0 now.1 rounds (record { base = c.args.part.base; path = c.args.part.path; is_done = c.args.part.is_done; runs = 0 }) refl (sym base)),
    )

pub returns-else-not-part-clause-spreads : goal.returns-else-not-part-clause-spreads
returns-else-not-part-clause-spreads c = λ m left more number q now at same leaves.
    let list = c.args.self.now.list.items in
    let trunk = c.args.self.now.trunk.items in
    let nodes = c.args.part.path.nodes in
    let found = c.in-Some.ensures.some in
    let base : c.in-Some.ensures.some.0.base.items ≡ c.args.part.base.items = found.2 ∙ c.deref.ensures.value in
    let one : q ≡ c.in-Some.ensures.some.0 =
    same_part list [] number c.in-Some.number q found.0 (holds m left (views list) now.0 (keys trunk) [] now.1).bases_once at found.1 (same ∙ sym base) in
    let size : c.len.result ≡ length c.in-Some.ensures.some.0.base.items = omega (arith, c.len.ensures, c.args.part.base.ok.0, ap length base) in
    let low : AreLow (length c.in-Some.ensures.some.0.base.items) c.args.part.path.nodes c.in_ok-notes.notes.items = subst (λ k. AreLow k c.args.part.path.nodes c.in_ok-notes.notes.items) size c.in_ok-notes.ensures in
    let each : HandsEach (Spread m (more ++ left)) c.remove.new.self.items c.args.self.now.trunk.items c.hand_out_each.new.self.list.items c.hand_out_each.new.self.trunk.items c.args.part.path.nodes c.in_ok-notes.notes.items =
    subst (λ (l : List Opening). HandsEach (Spread m (more ++ left)) c.remove.new.self.items c.args.self.now.trunk.items c.hand_out_each.new.self.list.items c.hand_out_each.new.self.trunk.items c.args.part.path.nodes l)
    c.deref-2.ensures.value (c.in_ok-hand_out_each.ensures.spreads m (more ++ left)) in
    let rounds : AllRounds m (length c.in-Some.ensures.some.0.base.items) (stored c.in-Some.ensures.some.0.path.nodes) more (stored c.args.part.path.nodes) =
    subst (λ (y : Kept). AllRounds m (length y.base.items) (stored y.path.nodes) more (stored c.args.part.path.nodes)) one
    (subst (λ (v : Bool). LeadSo m (length q.base.items) (stored q.path.nodes) more v (stored c.args.part.path.nodes)) c.if-not-part.false leaves) in (
      _,
      done_so list trunk c.in-Some.number found.0 nodes c.in_ok-notes.notes.items found.1 low c.remove.new.self.items c.hand_out_each.new.self.list.items c.hand_out_each.new.self.trunk.items
          c.remove.ensures.items m left more each now.0 now.1 rounds,
    )

pub returns-in_default-clause-others : goal.returns-in_default-clause-others
returns-in_default-clause-others c = λ number q at other. (number, at)

pub returns-in_ok-push-clause-others : goal.returns-in_ok-push-clause-others
returns-in_ok-push-clause-others c = λ number q at other.
    let found = c.in-Some.ensures.some in
    let added = c.in_ok-hand_out_each.ensures.adds.0 in
    let base : c.in-Some.ensures.some.0.base.items ≡ c.args.part.base.items = found.2 ∙ c.deref.ensures.value in
    let last : List Kept = record { base = c.args.part.base; path = c.args.part.path; is_done = c.args.part.is_done; runs = 0 } ∷ [] in
    let new = c.in_ok-push.ensures.items ∙ ap (λ l. l ++ last) (added.1 ∙ ap (λ l. l ++ added.0) c.remove.ensures.items)
    ∙ append_assoc (remove c.args.self.now.list.items c.in-Some.number) added.0 last in
    others_kept c.args.self.now.list.items c.in-Some.number found.0 c.args.part.base.items (added.0 ++ last) _ new found.1 base number q at other

pub returns-else-not-part-clause-others : goal.returns-else-not-part-clause-others
returns-else-not-part-clause-others c = λ number q at other.
    let found = c.in-Some.ensures.some in
    let added = c.in_ok-hand_out_each.ensures.adds.0 in
    let base : c.in-Some.ensures.some.0.base.items ≡ c.args.part.base.items = found.2 ∙ c.deref.ensures.value in
    let new = added.1 ∙ ap (λ l. l ++ added.0) c.remove.ensures.items in
    others_kept c.args.self.now.list.items c.in-Some.number found.0 c.args.part.base.items added.0 _ new found.1 base number q at other

pub returns-in_ok-push-clause-counts : goal.returns-in_ok-push-clause-counts
returns-in_ok-push-clause-counts c =
    (c.saturating_add-self.ensures ∙ ap (λ n. min (n + c.args.part.runs) (2 ^ 64 - 1)) c.in_ok-hand_out_each.ensures.adds.1.0, c.in_ok-hand_out_each.ensures.adds.1.1)

pub returns-else-not-part-clause-counts : goal.returns-else-not-part-clause-counts
returns-else-not-part-clause-counts c =
    (c.saturating_add-self.ensures ∙ ap (λ n. min (n + c.args.part.runs) (2 ^ 64 - 1)) c.in_ok-hand_out_each.ensures.adds.1.0, c.in_ok-hand_out_each.ensures.adds.1.1)
