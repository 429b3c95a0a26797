use Rattle.std.proofs.Common.{◌≡◌, ◌↔◌, ℕ, Bool, true, false, List, [], ◌∷◌, ap, sym, ◌∙◌, refl, Option, IsTrue, length, Some, None, ◌==◌, nat_eq, is_some, not, arith}
use Rattle.std.specs.Prelude.{⊤, ◌≢◌}
use Rattle.std.proofs.lemmas.Bool.Decides.{nat_tests}
use Rattle.std.proofs.lemmas.List.{nil_from_length}
use Rattle.loom_objects.specs.declared.operation.Request.{Request}
use Rattle.loom_objects.specs.declared.operation.Reply.{Reply}
use Rattle.loom.specs.declared.runner.history.event.Event.{Event}
use Rattle.loom.specs.declared.runner.history.event.Entry.{Entry}
use Rattle.loom.specs.Runner.Events.{part, answer, replied, or_else, is_own, entry, Share, share}

pub part_own : {D : Type 0} (n : ℕ) (e : Event D) (es : List (Event D)) → is_own n e ≡ true → part n (e ∷ es) ≡ entry e.op (answer n (e ∷ es)) ∷ part n es
part_own n e es own = rw own refl

pub part_other : {D : Type 0} (n : ℕ) (e : Event D) (es : List (Event D)) → is_own n e ≡ false → part n (e ∷ es) ≡ part n es
part_other n e es own = rw own refl

-- an own event, and nothing left
pub none_left : {D X : Type 0} (n : ℕ) (rest es : List (Event D)) (left : List (Entry D)) (e : Event D) → rest ≡ e ∷ es → is_own n e ≡ true → length left ≡ 0
    → ((part n rest ≡ left) ↔ X) → IsTrue false ↔ X
none_left n rest es left e at own none i =
    let p = part_own n e es own in
    let q = nil_from_length left none in
    ((λ f. cc f), (λ x. let h = i.1 x in let k = ap (part n) at in cc))

-- an own event, and another entry
pub wrong_entry : {D X : Type 0} (n : ℕ) (rest es : List (Event D)) (left others : List (Entry D)) (e : Event D) (x : Entry D) → rest ≡ e ∷ es → is_own n e ≡ true → left ≡ x ∷ others
    → (x ≡ entry e.op (answer n rest) → IsTrue false)
    → ((part n rest ≡ left) ↔ X) → IsTrue false ↔ X
wrong_entry n rest es left others e x at own is wrong i =
    let p = part_own n e es own in
    ((λ f. cc f), (λ y. let h = i.1 y in let k = ap (part n) at in let a = ap (answer n) at in let same : x ≡ entry e.op (answer n rest) = cc in wrong same))

-- an own event, and its entry
pub right_entry : {D X : Type 0} (n : ℕ) (rest es : List (Event D)) (left others : List (Entry D)) (e : Event D) (x : Entry D) → rest ≡ e ∷ es → is_own n e ≡ true → left ≡ x ∷ others
    → x ≡ entry e.op (answer n rest)
    → ((part n rest ≡ left) ↔ X) → (part n es ≡ others) ↔ X
right_entry n rest es left others e x at own is same i =
    let p = part_own n e es own in
    let k = ap (part n) at in let a = ap (answer n) at in
    ((λ h. i.0 cc), (λ y. let h = i.1 y in cc))

-- an event of another thread
pub other_event : {D X : Type 0} (n : ℕ) (rest es : List (Event D)) (left : List (Entry D)) (e : Event D) → rest ≡ e ∷ es → is_own n e ≡ false
    → ((part n rest ≡ left) ↔ X) → (part n es ≡ left) ↔ X
other_event n rest es left e at own i =
    let p = part_other n e es own in
    let k = ap (part n) at in
    ((λ h. i.0 cc), (λ y. let h = i.1 y in cc))

test_zero : (n : ℕ) (b : Bool) → b ≡ (n == 0) → IsTrue b ↔ (n ≡ 0)
test_zero n b e = ((λ t. grind (arith, nat_tests, e, t)), (λ z. grind (arith, nat_tests, e, z)))

-- no event left
pub at_end : {D X : Type 0} (n : ℕ) (rest : List (Event D)) (left : List (Entry D)) (b : Bool) → length rest ≡ 0 → b ≡ (length left == 0)
    → ((part n rest ≡ left) ↔ X) → IsTrue b ↔ X
at_end n rest left b none is i =
    let empty = test_zero (length left) b is in
    let q = nil_from_length rest none in
    let k = ap (part n) q in
    ((λ t. let l = nil_from_length left (empty.0 t) in i.0 cc), (λ y. let h = i.1 y in let l : left ≡ [] = cc in empty.1 (ap length l)))

-- ---- the reply to the first of a thread's operations

-- the first event replies to the thread
pub answered_here : {D : Type 0} (n : ℕ) (rest es : List (Event D)) (e : Event D) (r : Reply D) (a : Option (Reply D)) → rest ≡ e ∷ es → replied n e.outcome ≡ Some r → answer n rest ≡ a → a ≡ Some r
answered_here n rest es e r a at here is = sym is ∙ (ap (answer n) at ∙ ap (λ o. or_else o (answer n es)) here)

-- or a later one may
pub answered_later : {D : Type 0} (n : ℕ) (rest es : List (Event D)) (e : Event D) (a : Option (Reply D)) → rest ≡ e ∷ es → replied n e.outcome ≡ None → answer n rest ≡ a → answer n es ≡ a
answered_later n rest es e a at none is = sym (ap (answer n) at ∙ ap (λ o. or_else o (answer n es)) none) ∙ is

-- or none does
pub not_answered : {D : Type 0} (n : ℕ) (rest : List (Event D)) (a : Option (Reply D)) → length rest ≡ 0 → answer n rest ≡ a → a ≡ None
not_answered n rest a none is = sym is ∙ ap (answer n) (nil_from_length rest none)

-- ---- one entry

-- an entry is its two parts
entry_of : {D : Type 0} (told : Entry D) (op : Request D ⊤) (a : Option (Reply D)) → told.op ≡ op → told.reply ≡ a → told ≡ entry op a
entry_of told op a asked is = ap (λ o. entry o told.reply) asked ∙ ap (entry op) is

-- another operation
pub other_request : {D : Type 0} (told : Entry D) (op : Request D ⊤) (a : Option (Reply D)) → (told.op ≡ op → IsTrue false) → IsTrue false ↔ (told ≡ entry op a)
other_request told op a wrong = ((λ f. cc f), (λ h. wrong (ap (λ (t : Entry _). t.op) h)))

-- the operation, and a reply to it
pub replied_entry : {D : Type 0} (told : Entry D) (op : Request D ⊤) (a : Option (Reply D)) (x r : Reply D) (b : Bool) → told.op ≡ op → told.reply ≡ Some x → a ≡ Some r → IsTrue b ↔ (x ≡ r) → IsTrue b ↔ (told ≡ entry op a)
replied_entry told op a x r b asked has is same = (
  (λ t. entry_of told op a asked (has ∙ (ap Some (same.0 t) ∙ sym is))),
  (λ h. let k : Some x ≡ Some r = sym has ∙ (ap (λ (t : Entry _). t.reply) h ∙ is) in same.1 cc),
)

none_told : {A : Type 0} (o : Option A) (b : Bool) → is_some o ≡ not b → IsTrue b ↔ (o ≡ None)
none_told None true h = ((λ t. refl), (λ e. refl))
none_told None false h = ((λ t. refl), (λ e. cc h))
none_told (Some x) true h = ((λ t. cc h), (λ e. refl))
none_told (Some x) false h = ((λ t. cc t), (λ e. cc e))

-- the operation, and no reply to it
pub open_entry : {D : Type 0} (told : Entry D) (op : Request D ⊤) (a : Option (Reply D)) (b : Bool) → told.op ≡ op → a ≡ None → is_some told.reply ≡ not b → IsTrue b ↔ (told ≡ entry op a)
open_entry told op a b asked is test =
    let told_none = none_told told.reply b test in (
      (λ t. entry_of told op a asked (told_none.0 t ∙ sym is)),
      (λ h. told_none.1 (ap (λ (t : Entry _). t.reply) h ∙ is)),
    )

-- ---- the list of one thread

-- the list of this thread
pub own_share : {D : Type 0} (list : Share D) (k t : ℕ) (es entries : List (Entry D)) (h : List (Event D)) (b : Bool) → share t es ≡ list → t ≡ k → entries ≡ es → IsTrue b ↔ (part t h ≡ entries) → IsTrue b ↔ (list ≡ share k (part k h))
own_share list k t es entries h b is same value i =
    let one : part t h ≡ part k h = ap (λ n. part n h) same in (
      (λ y. sym is ∙ (ap (λ n. share n es) same ∙ ap (share k) (sym value ∙ (sym (i.0 y) ∙ one)))),
      (λ y. i.1 (one ∙ (sym (ap (λ (s : Share _). s.entries) (is ∙ y)) ∙ sym value))),
    )

-- the list of another thread
pub other_share : {D : Type 0} (list : Share D) (k t : ℕ) (es : List (Entry D)) (h : List (Event D)) → share t es ≡ list → t ≢ k → IsTrue (nat_eq t k) ↔ (list ≡ share k (part k h))
other_share list k t es h is wrong = (
  (λ y. absurd (wrong (grind (arith, nat_tests, y)))),
  (λ y. absurd (wrong (ap (λ (s : Share _). s.thread) (is ∙ y)))),
)
