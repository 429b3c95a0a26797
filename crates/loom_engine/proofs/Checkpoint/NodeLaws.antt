-- A node is read from its JSON value, and from nothing else.
use Rattle.std.proofs.Common.{◌≡◌, ℕ, zero, suc, ◌<◌, ◌≤◌, Bool, true, false, ◌&&◌, if◌then◌else◌, codes, List, [], ◌∷◌, length, map, Option, Some, None, ◌⊎◌, inl, inr, refl, sym, ap, ◌∙◌, subst, arith, tests}
use Rattle.std.specs.Prelude.{nat_lt}
use Rattle.std.proofs.lemmas.Bool.{false≢true, eqb-true}
use borrow.Author.Tests.{ltb-true}
use Rattle.serde_json.specs.Data.{Data, boolean, object, Members, member}
use Rattle.serde_json.specs.Find.{as_bool, as_object}
use Rattle.serde_json.specs.View.{items_of}
use Rattle.loom_engine.specs.declared.rt.path.node.Status.{Status}
use Rattle.loom_engine.specs.declared.rt.path.node.Node.{Node}
use Rattle.loom_engine.specs.declared.rt.path.node.Node.TheVariants.{Schedule, Load, Spurious}
use Rattle.loom_objects.specs.Tree.Stores.{slots_from, slots}
use Rattle.loom_engine.specs.Path.WellFormed.{is_at, is_tried, is_well_formed_schedule, is_well_formed_load, is_well_formed_spurious, is_well_formed_from, IsWellFormed, bare, unnoted}
use Rattle.loom_engine.specs.Checkpoint.Grammar.{whole, list_data, status_data, schedule_data, load_data, spurious_data, node_data}
use Rattle.loom_engine.specs.Checkpoint.Reader.{as_whole, as_list, ends, taken, statuses_of, marks_of, or_else, list_of, new_schedule, new_load, new_spurious, schedule_of, load_of, spurious_of, node_of}
use Rattle.loom_engine.proofs.Checkpoint.Lists.{list_of-items_of}
use Rattle.loom_engine.proofs.Checkpoint.Chains.{with_step, test_passed, both, and_true}
use Rattle.loom_engine.proofs.Checkpoint.Inverse.{statuses_of-of, statuses_of-gave, marks_of-of, marks_of-gave, with_taken, as_bool-gave, as_whole-gave, as_list-gave, as_object-gave, ends-gave}

passes : {A : Type 0} (b : Bool) (x : A) → b ≡ true → (if b then Some x else None) ≡ Some x
passes b x e = rw e refl

below_test : (a b : ℕ) → a < b → nat_lt a b ≡ true
below_test a b h = search (arith, tests)

at_within : (p : Status → Bool) (n : ℕ) (ss : List Status) → is_at p n ss ≡ true → n < length ss
at_within p n [] e = absurd (false≢true e)
at_within p zero (s ∷ ss) e = omega arith
at_within p (suc n) (s ∷ ss) e = omega (arith, at_within p n ss e)

sound_five : (f : ℕ) (e : Bool) (ss : List Status) → is_well_formed_schedule f e ss ≡ true → length ss ≡ 5
sound_five f e ss sound = eqb-true (length ss) 5 (both _ _ (both _ _ (both _ _ sound).0).0).0

sound_first : (f : ℕ) (e : Bool) (ss : List Status) → is_well_formed_schedule f e ss ≡ true → f < 5
sound_first f e ss sound = omega (arith, at_within is_tried f ss (both _ _ (both _ _ sound).0).1, sound_five f e ss sound)

count_le : (bs : List Bool) (start : ℕ) → length (slots_from start bs) ≤ length bs
count_le [] start = omega arith
count_le (true ∷ bs) start = omega (arith, count_le bs (suc start))
count_le (false ∷ bs) start = omega (arith, count_le bs (suc start))

sound_seven : (e : Bool) (r : List Bool) (n : ℕ) → is_well_formed_load e r n ≡ true → length r ≡ 7
sound_seven e r n sound = eqb-true (length r) 7 (both _ _ (both _ _ sound).0).0

sound_position : (e : Bool) (r : List Bool) (n : ℕ) → is_well_formed_load e r n ≡ true → n < length (slots r)
sound_position e r n sound = ltb-true _ _ (both _ _ (both _ _ sound).0).1

sound_below : (e : Bool) (r : List Bool) (n : ℕ) → is_well_formed_load e r n ≡ true → n < 7
sound_below e r n sound = omega (arith, sound_position e r n sound, count_le r 0, sound_seven e r n sound)

-- ---- what is written reads as the node

schedule_reads : (f : ℕ) (e : Bool) (ss : List Status) → is_well_formed_schedule f e ss ≡ true → node_of (schedule_data (Some f) e ss) ≡ Some (new_schedule f e ss)
unfolding node_of schedule_data schedule_of taken
schedule_reads f e ss sound =
    let st : statuses_of (list_of (items_of (map status_data ss))) ≡ Some ss = ap statuses_of (list_of-items_of (map status_data ss)) ∙ statuses_of-of ss (sound_five f e ss sound) in
    rw (st, passes _ (new_schedule f e ss) (and_true _ _ (below_test f 5 (sound_first f e ss sound)) sound)) refl

load_reads : (e : Bool) (r : List Bool) (n : ℕ) → is_well_formed_load e r n ≡ true → node_of (load_data e r n) ≡ Some (new_load e r n)
unfolding node_of load_data schedule_of load_of taken
load_reads e r n sound =
    let seven = sound_seven e r n sound in
    let st : marks_of 7 0 (list_of (items_of (map whole (slots r)))) ≡ Some r =
    ap (marks_of 7 0) (list_of-items_of (map whole (slots r))) ∙ ap (λ k. marks_of k 0 (map whole (slots r))) (sym seven) ∙ marks_of-of r 0 in
    rw (st, passes _ (new_load e r n) (and_true _ _ (below_test n 7 (sound_below e r n sound)) sound)) refl

spurious_reads : (e b : Bool) → is_well_formed_spurious e b ≡ true → node_of (spurious_data e b) ≡ Some (new_spurious e b)
unfolding node_of spurious_data schedule_of load_of spurious_of taken
spurious_reads e b sound = passes _ (new_spurious e b) sound

schedule_from : (first : Option ℕ) (e : Bool) (ss : List Status) → is_well_formed_from first e ss ≡ true → node_of (schedule_data first e ss) ≡ Some (Schedule (unnoted first e ss))
schedule_from None e ss well = absurd (false≢true well)
schedule_from (Some f) e ss well = schedule_reads f e ss well

pub node_of-of : (n : Node) → IsWellFormed n → node_of (node_data n) ≡ Some (bare n)
node_of-of (Schedule n) well = schedule_from n.first n.exploring n.statuses well
node_of-of (Load n) well = load_reads n.exploring n.readable n.position well
node_of-of (Spurious n) well = spurious_reads n.exploring n.answer well

-- ---- what is read was written for the node

-- the value is the node's, which is well formed and notes nothing
abbrev pub IsWritten : Data → Node → Type 0
IsWritten d n = (d ≡ node_data n) × IsWellFormed n × (bare n ≡ n)

schedule_is : (ms m1 m2 m3 : Members) (e : Bool) (f : ℕ) (items : List Data) (ss : List Status) (n : Node)
    → ms ≡ member (codes "exploring") (boolean e) m1 → m1 ≡ member (codes "first") (whole f) m2 → m2 ≡ member (codes "schedule") (list_data items) m3 → statuses_of items ≡ Some ss
    → (if ends m3 && nat_lt f 5 && is_well_formed_schedule f e ss then Some (new_schedule f e ss) else None) ≡ Some n → IsWritten (object ms) n
unfolding schedule_data
schedule_is ms m1 m2 m3 e f items ss n is1 is2 is3 is4 passed =
    let t = test_passed _ (new_schedule f e ss) n passed in
    let tested = both _ _ t.0 in
    let last = ends-gave m3 (both _ _ tested.0).0 in
    let node : object ms ≡ schedule_data (Some f) e ss = rw (is1, is2, is3, last, statuses_of-gave items ss is4) refl in
    subst (IsWritten (object ms)) t.1 (node, tested.1, refl)

schedule_of-gave : (ms : Members) (n : Node) → schedule_of ms ≡ Some n → IsWritten (object ms) n
unfolding schedule_of
schedule_of-gave ms n e =
    with_taken as_bool boolean as_bool-gave (codes "exploring") ms _ n e (λ exploring m1 is1 e1.
    with_taken as_whole whole as_whole-gave (codes "first") m1 _ n e1 (λ first m2 is2 e2.
    with_taken as_list list_data as_list-gave (codes "schedule") m2 _ n e2 (λ items m3 is3 e3.
    with_step (statuses_of items) _ n e3 (λ ss is4 e4.
    schedule_is ms m1 m2 m3 exploring first items ss n is1 is2 is3 is4 e4))))

load_is : (ms m1 m2 m3 : Members) (e : Bool) (at : ℕ) (items : List Data) (r : List Bool) (n : Node)
    → ms ≡ member (codes "at") (whole at) m1 → m1 ≡ member (codes "exploring") (boolean e) m2 → m2 ≡ member (codes "load") (list_data items) m3 → marks_of 7 0 items ≡ Some r
    → (if ends m3 && nat_lt at 7 && is_well_formed_load e r at then Some (new_load e r at) else None) ≡ Some n → IsWritten (object ms) n
unfolding load_data
load_is ms m1 m2 m3 e at items r n is1 is2 is3 is4 passed =
    let t = test_passed _ (new_load e r at) n passed in
    let tested = both _ _ t.0 in
    let last = ends-gave m3 (both _ _ tested.0).0 in
    let node : object ms ≡ load_data e r at = rw (is1, is2, is3, last, (marks_of-gave 7 0 items r is4).0) refl in
    subst (IsWritten (object ms)) t.1 (node, tested.1, refl)

load_of-gave : (ms : Members) (n : Node) → load_of ms ≡ Some n → IsWritten (object ms) n
unfolding load_of
load_of-gave ms n e =
    with_taken as_whole whole as_whole-gave (codes "at") ms _ n e (λ at m1 is1 e1.
    with_taken as_bool boolean as_bool-gave (codes "exploring") m1 _ n e1 (λ exploring m2 is2 e2.
    with_taken as_list list_data as_list-gave (codes "load") m2 _ n e2 (λ items m3 is3 e3.
    with_step (marks_of 7 0 items) _ n e3 (λ r is4 e4.
    load_is ms m1 m2 m3 exploring at items r n is1 is2 is3 is4 e4))))

spurious_is : (ms m1 m2 : Members) (e b : Bool) (n : Node)
    → ms ≡ member (codes "exploring") (boolean e) m1 → m1 ≡ member (codes "spurious") (boolean b) m2
    → (if ends m2 && is_well_formed_spurious e b then Some (new_spurious e b) else None) ≡ Some n → IsWritten (object ms) n
unfolding spurious_data
spurious_is ms m1 m2 e b n is1 is2 passed =
    let t = test_passed _ (new_spurious e b) n passed in
    let tested = both _ _ t.0 in
    let last = ends-gave m2 tested.0 in
    let node : object ms ≡ spurious_data e b = rw (is1, is2, last) refl in
    subst (IsWritten (object ms)) t.1 (node, tested.1, refl)

spurious_of-gave : (ms : Members) (n : Node) → spurious_of ms ≡ Some n → IsWritten (object ms) n
unfolding spurious_of
spurious_of-gave ms n e =
    with_taken as_bool boolean as_bool-gave (codes "exploring") ms _ n e (λ exploring m1 is1 e1.
    with_taken as_bool boolean as_bool-gave (codes "spurious") m1 _ n e1 (λ answer m2 is2 e2.
    spurious_is ms m1 m2 exploring answer n is1 is2 e2))

or_else-gave : {A : Type 0} (a b : Option A) (r : A) → or_else a b ≡ Some r → (a ≡ Some r) ⊎ (b ≡ Some r)
or_else-gave None b r e = inr e
or_else-gave (Some x) b r e = inl e

pub node_of-gave : (d : Data) (n : Node) → node_of d ≡ Some n → IsWritten d n
unfolding node_of
node_of-gave d n e =
    with_step (as_object d) _ n e (λ ms is e1.
    let w : IsWritten (object ms) n =
    elim (or_else-gave (schedule_of ms) _ n e1) [
      | inl h ↦ schedule_of-gave ms n h
      | inr h ↦ elim (or_else-gave (load_of ms) _ n h) [ inl k ↦ load_of-gave ms n k | inr k ↦ spurious_of-gave ms n k ]
    ] in
    (as_object-gave d ms is ∙ w.0, w.1, w.2))
