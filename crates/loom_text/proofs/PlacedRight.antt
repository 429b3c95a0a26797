-- What holds of the locations of a test wherever its reading stands, and what stays of them.
use Rattle.std.proofs.Common.{◌≡◌, ◌≢◌, ℕ, ℤ, pos, zero, suc, ◌≤◌, ◌<◌, nat_eq, nat_lt, not, ◌&&◌, ◌||◌, int_eq, set, List, [], ◌∷◌, ◌++◌, length, get_or, AllPairs, Bool, true, false, Option, Some, None, is_some, refl, sym, ap, subst, ◌∙◌, inl, inr, append_assoc, arith}
use Rattle.std.specs.List.{list_any, slice_get}
use Rattle.std.specs.Option.{unwrap_or}
use Rattle.std.specs.Str.{is_utf8}
use Rattle.std.proofs.lemmas.Bool.{and_parts, cases_Bool, ltb-true}
use Rattle.std.proofs.lemmas.Bool.Decides.{Decides-int_eq}
use Rattle.std.proofs.lemmas.List.{length-append, length-set}
use Rattle.std.proofs.lemmas.List.Quantifiers.{all_pairs_push}
use Rattle.std.proofs.lemmas.Option.{cond_some, none-some, same_Some, slice_get_within}
use Rattle.loom_text.specs.contracts.test.KindPartialEq.TheImpl as same_kinds
use Rattle.loom_text.specs.declared.read.symbol.Symbol.TheVariants as signs
use Rattle.loom_text.specs.declared.test.Kind.{Kind}
use Rattle.loom_text.specs.declared.test.Kind.TheVariants as location_kinds
use Rattle.loom_text.specs.Heads.{Passing, Placed, agreed, agreed_as, all_parameters_at, holds_lock, initial_at, initial_name_at, initial_number_at, initial_part_at, initial_parts_at, initial_value_at, is_lock, kind_said, location_declared, nowhere, parameter_at, parameters_at, passed_kind, placed_as, with_kind, without_void}
use Rattle.loom_text.specs.Known.{Located, location_in}
use Rattle.loom_text.specs.Printing.{IsInt}
use Rattle.loom_text.specs.Statements.{kind_at}
use Rattle.loom_text.specs.Tokens.{Left, after_sign, is_next, name_at, passed}
use Rattle.loom_text.proofs.ConditionsFit.{bind_some, constant_fits, else_some}
use Rattle.loom_text.proofs.NameLemmas.{no_such_name}

pub true_false : true ≡ false → ⊥
true_false h = cc

-- ---- lists

pub front : {X : Type 0} (xs ys : List X) (n : ℕ) → n < length xs → slice_get (xs ++ ys) n ≡ slice_get xs n
front [] ys n lt = absurd (omega (arith, lt))
front (x ∷ xs) ys zero lt = refl
front (x ∷ xs) ys (suc n) lt = front xs ys n (omega (arith, lt))

pub seam : {X : Type 0} (xs ys : List X) (x : X) → slice_get (xs ++ x ∷ ys) (length xs) ≡ Some x
seam [] ys x = refl
seam (y ∷ xs) ys x = seam xs ys x

set_here : (bs : List Bool) (n : ℕ) → n < length bs → slice_get (set bs n true) n ≡ Some true
set_here [] n lt = absurd (omega (arith, lt))
set_here (b ∷ bs) zero lt = refl
set_here (b ∷ bs) (suc n) lt = set_here bs n (omega (arith, lt))

set_there : (bs : List Bool) (n m : ℕ) → slice_get bs m ≡ Some true → slice_get (set bs n true) m ≡ Some true
set_there [] n m h = absurd (none-some true h)
set_there (b ∷ bs) zero zero h = refl
set_there (b ∷ bs) zero (suc m) h = h
set_there (b ∷ bs) (suc n) zero h = h
set_there (b ∷ bs) (suc n) (suc m) h = set_there bs n m h

kind_here : (n : ℕ) (kind : Kind) (ls : List Located) (l : Located) → slice_get ls n ≡ Some l → slice_get (with_kind n kind ls) n ≡ Some (record l { kind = kind })
kind_here n kind [] l h = absurd (none-some l h)
kind_here zero kind (x ∷ ls) l h = ap (λ (y : Located). Some (record y { kind = kind })) (same_Some x l h)
kind_here (suc n) kind (x ∷ ls) l h = kind_here n kind ls l h

-- where it was of that kind
kind_there : (n m : ℕ) (kind : Kind) (ls : List Located) (l : Located) → slice_get ls m ≡ Some l → (n ≡ m → l.kind ≡ kind) → slice_get (with_kind n kind ls) m ≡ Some l
kind_there n m kind [] l h same = absurd (none-some l h)
kind_there zero zero kind (x ∷ ls) l h same =
    let is = same_Some x l h in
    let again : Kind → Option Located = λ k. Some (record l { kind = k }) in
    ap (λ (y : Located). Some (record y { kind = kind })) is ∙ ap again (sym (same refl))
kind_there zero (suc m) kind (x ∷ ls) l h same = h
kind_there (suc n) zero kind (x ∷ ls) l h same = h
kind_there (suc n) (suc m) kind (x ∷ ls) l h same = kind_there n m kind ls l h (λ e. same (ap (λ (k : ℕ). suc k) e))

kind_many : (n : ℕ) (kind : Kind) (ls : List Located) → length (with_kind n kind ls) ≡ length ls
kind_many n kind [] = refl
kind_many zero kind (x ∷ ls) = refl
kind_many (suc n) kind (x ∷ ls) = ap (λ (k : ℕ). suc k) (kind_many n kind ls)

kind_name : (n : ℕ) (kind : Kind) (ls : List Located) (i : ℕ) (d : Located) → (get_or (with_kind n kind ls) i d).name ≡ (get_or ls i d).name
kind_name n kind [] i d = refl
kind_name zero kind (x ∷ ls) zero d = refl
kind_name zero kind (x ∷ ls) (suc i) d = refl
kind_name (suc n) kind (x ∷ ls) zero d = refl
kind_name (suc n) kind (x ∷ ls) (suc i) d = kind_name n kind ls i d

same_kind : (a b : Kind) → (same_kinds.ghosts).eq a b ≡ true → a ≡ b
same_kind location_kinds.Atomic location_kinds.Atomic h = refl
same_kind location_kinds.Plain location_kinds.Plain h = refl
same_kind location_kinds.Mutex location_kinds.Mutex h = refl
same_kind location_kinds.Condvar location_kinds.Condvar h = refl
same_kind _ _ h = absurd (true_false (sym h))

-- ---- each location, and all

-- A name that can be read, an int, and none where it has no value.
pub record IsRight (location : Located) : Type 0 where
  pub text : is_utf8 location.name ≡ true
  pub int : IsInt location.value
  pub lock : is_lock location.kind ≡ true → location.value ≡ pos 0

abbrev pub EachRight : List Located → Type 0
EachRight [] = Unit {0}
EachRight (location ∷ locations) = IsRight location × EachRight locations

each_push : (ls : List Located) (l : Located) → EachRight ls → IsRight l → EachRight (ls ++ l ∷ [])
each_push [] l each right = (right, tt)
each_push (x ∷ ls) l each right = (each.0, each_push ls l each.1 right)

each_kind : (n : ℕ) (kind : Kind) (ls : List Located) → EachRight ls → ((l : Located) → slice_get ls n ≡ Some l → is_lock kind ≡ true → l.value ≡ pos 0) → EachRight (with_kind n kind ls)
each_kind n kind [] each none = tt
each_kind zero kind (x ∷ ls) each none = (record { text = each.0.text; int = each.0.int; lock = λ h. none x refl h }, each.1)
each_kind (suc n) kind (x ∷ ls) each none = (each.0, each_kind n kind ls each.1 none)

pub each_at : (ls : List Located) (n : ℕ) (l : Located) → EachRight ls → slice_get ls n ≡ Some l → IsRight l
each_at [] n l each h = absurd (none-some l h)
each_at (x ∷ ls) zero l each h = subst IsRight (same_Some x l h) each.0
each_at (x ∷ ls) (suc n) l each h = each_at ls n l each.1 h

abbrev pub Differ : List Located → Type 0
Differ locations = AllPairs (λ x y. x.name ≢ y.name) locations

pub record Right (placed : Placed) : Type 0 where
  pub few : length placed.locations ≤ 64
  pub as_many : length placed.typed ≡ length placed.locations
  pub differ : Differ placed.locations
  pub each : EachRight placed.locations

-- ---- what stays

-- its kind was said
abbrev pub IsSaid : Placed → ℕ → Type 0
IsSaid placed number = slice_get placed.typed number ≡ Some true

-- a location whose kind was said stays as it is
abbrev pub Stays : Placed → Placed → Type 0
Stays p q = (n : ℕ) (l : Located) → slice_get p.locations n ≡ Some l → IsSaid p n → (slice_get q.locations n ≡ Some l) × IsSaid q n

pub stays_itself : (p : Placed) → Stays p p
stays_itself p n l h said = (h, said)

pub stays_on : (p q r : Placed) → Stays p q → Stays q r → Stays p r
stays_on p q r first second n l h said = let here = first n l h said in second n l here.0 here.1

-- a location there, whose kind was said
abbrev pub Said : Placed → ℕ → Type 0
Said placed number = (l : Located) × (slice_get placed.locations number ≡ Some l) × IsSaid placed number

pub said_on : (p q : Placed) (n : ℕ) → Stays p q → Said p n → Said q n
said_on p q n stays said = let here = stays n said.0 said.1 said.2 in (said.0, here.0, here.1)

-- ---- a new location

pub record Added (p : Placed) (kind : Option Kind) (x : ℕ × Placed) : Type 0 where
  pub right : Right x.1
  pub stays : Stays p x.1
  pub said : is_some kind ≡ true → Said x.1 x.0

pub declared_right : (name : List ℕ) (kind : Option Kind) (value : ℤ) (p : Placed) (x : ℕ × Placed) → Right p → location_in p.locations name ≡ None → IsInt value
    → (is_lock (unwrap_or kind location_kinds.Plain) ≡ true → value ≡ pos 0) → location_declared name kind value p ≡ Some x → Added p kind x
unfolding location_declared
declared_right name kind value p x right new int lock h =
    let l : Located = record { name = name; kind = unwrap_or kind location_kinds.Plain; value = value } in
    let q : Placed = record { locations = p.locations ++ l ∷ []; typed = p.typed ++ is_some kind ∷ [] } in
    let made : ℕ × Placed = (length p.locations, q) in
    let some = cond_some (nat_lt (length p.locations) 64 && is_utf8 name) made x h in
    let both = and_parts (nat_lt (length p.locations) 64) (is_utf8 name) some.0 in
    let less = ltb-true (length p.locations) 64 both.0 in
    let many = length-append p.locations (l ∷ []) in
    let types = length-append p.typed (is_some kind ∷ []) in
    let as_many = right.as_many in
    let added : Added p kind made = record {
      right = record {
        few = omega (arith, less, many);
        as_many = omega (arith, many, types, as_many);
        differ = all_pairs_push (λ (x y : Located). x.name ≢ y.name) p.locations l right.differ (λ k d lt. no_such_name (λ (x : Located). x.name) p.locations name new k d lt);
        each = each_push p.locations l right.each (record { text = both.1; int = int; lock = lock });
      };
      stays = λ n other e said. (
        front p.locations (l ∷ []) n (slice_get_within p.locations n other e) ∙ e,
        front p.typed (is_some kind ∷ []) n (slice_get_within p.typed n true said) ∙ said,
      );
      said = λ has. (
        l,
        seam p.locations [] l,
        ap (λ (k : ℕ). slice_get (p.typed ++ is_some kind ∷ []) k) (sym as_many) ∙ seam p.typed [] (is_some kind) ∙ ap (λ (b : Bool). Some b) has,
      );
    } in
    subst (λ (y : ℕ × Placed). Added p kind y) some.1 added

-- ---- a location that is named again

typed_true : (o : Option Bool) → unwrap_or o false ≡ true → o ≡ Some true
typed_true None h = absurd (true_false (sym h))
typed_true (Some b) h = ap (λ (b : Bool). Some b) h

and_left : (a b : Bool) → a ≡ true → (a && not b) ≡ false → b ≡ true
and_left true true p h = refl
and_left true false p h = absurd (true_false h)
and_left false b p h = absurd (true_false (sym p))

and_right : (a b : Bool) → b ≡ true → (not a && b) ≡ false → a ≡ true
and_right true b p h = refl
and_right false true p h = absurd (true_false h)
and_right false false p h = absurd (true_false (sym p))

pub record Agreed (p q : Placed) (n : ℕ) : Type 0 where
  pub right : Right q
  pub stays : Stays p q
  pub said : Said q n

pub agreed_right : (n : ℕ) (kind : Kind) (p q : Placed) → Right p → agreed n kind p ≡ Some q → Agreed p q n
unfolding agreed
agreed_right n kind p q right h = go (slice_get p.locations n) refl h
  where
    go : (o : Option Located) → slice_get p.locations n ≡ o → agreed_as n kind p o ≡ Some q → Agreed p q n
    go None e h = absurd (none-some q h)
    go (Some l) e h =
        let first = else_some (unwrap_or (slice_get p.typed n) false && not ((same_kinds.ghosts).eq l.kind kind)) _ q h in
        let second = else_some (not (int_eq l.value (pos 0)) && is_lock kind) _ q first.1 in
        let new : Placed = kind_said n kind p in
        let many = kind_many n kind p.locations in
        let types = length-set p.typed n true in
        let as_many = right.as_many in
        let few = right.few in
        let within = slice_get_within p.locations n l e in
        let kept : (m : ℕ) (other : Located) → slice_get p.locations m ≡ Some other → IsSaid p m → n ≡ m → other.kind ≡ kind =
        (λ m other e' said is.
        let same : l ≡ other = same_Some l other (sym e ∙ ap (λ (k : ℕ). slice_get p.locations k) is ∙ e') in
        let typed : unwrap_or (slice_get p.typed n) false ≡ true = ap (λ (k : ℕ). unwrap_or (slice_get p.typed k) false) is ∙ ap (λ (o : Option Bool). unwrap_or o false) said in
        ap (λ (x : Located). x.kind) (sym same) ∙ same_kind l.kind kind (and_left _ _ typed first.0)) in
        let value : (other : Located) → slice_get p.locations n ≡ Some other → is_lock kind ≡ true → other.value ≡ pos 0 =
        (λ other e' lock.
        ap (λ (x : Located). x.value) (sym (same_Some l other (sym e ∙ e'))) ∙ (Decides-int_eq l.value (pos 0)).0 (and_right _ _ lock second.0)) in
        let made : Agreed p new n = record {
          right = record {
            few = omega (arith, many, few);
            as_many = omega (arith, many, types, as_many);
            differ = λ i j d lt in_list same. right.differ i j d lt (omega (arith, in_list, many)) (sym (kind_name n kind p.locations i d) ∙ same ∙ kind_name n kind p.locations j d);
            each = each_kind n kind p.locations right.each value;
          };
          stays = λ m other e' said. (kind_there n m kind p.locations other e' (kept m other e' said), set_there p.typed n m said);
          said = (record l { kind = kind }, kind_here n kind p.locations l e, set_here p.typed n (omega (arith, within, as_many)));
        } in
        subst (λ (y : Placed). Agreed p y n) (same_Some new q second.1) made

-- ---- one of the two

pub record PlacedRight (p : Placed) (x : ℕ × Placed) : Type 0 where
  pub right : Right x.1
  pub stays : Stays p x.1
  pub said : Said x.1 x.0

pub placed_right : (name : List ℕ) (kind : Kind) (found : Option ℕ) (p : Placed) (x : ℕ × Placed) → Right p → location_in p.locations name ≡ found → placed_as name kind found p ≡ Some x → PlacedRight p x
placed_right name kind None p x right e h =
    let added = declared_right name (Some kind) (pos 0) p x right e (omega arith) (λ lock. refl) h in
    record { right = added.right; stays = added.stays; said = added.said refl }
placed_right name kind (Some n) p x right e h =
    bind_some (agreed n kind p) _ x h (λ q p' q'.
    let again = agreed_right n kind p q right p' in
    subst (λ (y : ℕ × Placed). PlacedRight p y) (same_Some (n, q) x q') (record { right = again.right; stays = again.stays; said = again.said }))

-- ---- the initial state

none_of : {A : Type 0} (o : Option A) → is_some o ≡ false → o ≡ None
none_of None h = refl
none_of (Some a) h = absurd (true_false h)

or_parts : (a b : Bool) → (a || b) ≡ false → (a ≡ false) × (b ≡ false)
or_parts true b h = absurd (true_false h)
or_parts false b h = (refl, h)

no_lock : (kind : Option Kind) → holds_lock kind ≡ false → is_lock (unwrap_or kind location_kinds.Plain) ≡ true → ⊥
no_lock None h lock = true_false (sym lock)
no_lock (Some kind) h lock = true_false (sym lock ∙ h)

abbrev NumberRight : Option Kind → ℤ → Type 0
NumberRight kind value = IsInt value × (is_lock (unwrap_or kind location_kinds.Plain) ≡ true → value ≡ pos 0)

number_right : (kind : Option Kind) (pointer : Bool) (left : Left) (x : ℤ × Left) → initial_number_at kind pointer left ≡ Some x → NumberRight kind x.0
unfolding initial_number_at
number_right kind pointer left x h = elim (cases_Bool (is_next signs.Assign left)) [
  | inl there ↦
      let plain = else_some (pointer || holds_lock kind) _ x (rw there at h) in
      ((constant_fits (passed left) x plain.1).1, λ lock. absurd (no_lock kind (or_parts pointer (holds_lock kind) plain.0).1 lock))
  | inr other ↦
      let some = cond_some (is_some kind) (pos 0, left) x (rw other at h) in
      subst (λ (y : ℤ × Left). NumberRight kind y.0) some.1 (omega arith, λ lock. refl)
]

initial_value_right : (p : Placed) (left : Left) (x : Placed × Left) → Right p → initial_value_at p left ≡ Some x → Right x.0
unfolding initial_value_at
initial_value_right p left x right h =
    bind_some (kind_at left) _ x h (λ kind p1 q1.
    bind_some (initial_name_at _) _ x q1 (λ name p2 q2.
    let new = else_some (is_some (location_in p.locations name.0)) _ x q2 in
    bind_some (initial_number_at kind.0 _ name.1) _ x new.1 (λ value p3 q3.
    bind_some (location_declared name.0 kind.0 value.0 p) _ x q3 (λ more p4 q4.
    let number = number_right kind.0 _ name.1 value p3 in
    let added = declared_right name.0 kind.0 value.0 p more right (none_of (location_in p.locations name.0) new.0) number.0 number.1 p4 in
    subst (λ (y : Placed × Left). Right y.0) (same_Some (more.1, value.1) x q4) added.right))))

initial_part_right : (p : Placed) (left : Left) (x : Placed × Left) → Right p → initial_part_at p left ≡ Some x → Right x.0
unfolding initial_part_at
initial_part_right p left x right h = elim (cases_Bool (is_next signs.Semicolon left)) [
  | inl alone ↦ subst (λ (y : Placed × Left). Right y.0) (same_Some (p, passed left) x (rw alone at h)) right
  | inr other ↦ bind_some (initial_value_at p left) _ x (rw other at h) (λ read p1 q1.
      let more = initial_value_right p left read right p1 in
      elim (cases_Bool (is_next signs.CloseBrace read.1)) [
        | inl last ↦ subst (λ (y : Placed × Left). Right y.0) (same_Some read x (rw last at q1)) more
        | inr goes_on ↦ bind_some (after_sign signs.Semicolon read.1) _ x (rw goes_on at q1) (λ l p2 q2.
            subst (λ (y : Placed × Left). Right y.0) (same_Some (read.0, l) x q2) more)
      ])
]

initial_parts_right : (n : ℕ) (p : Placed) (left : Left) (x : Placed × Left) → Right p → initial_parts_at n p left ≡ Some x → Right x.0
unfolding initial_parts_at
initial_parts_right zero p left x right h = absurd (none-some x h)
initial_parts_right (suc n) p left x right h = elim (cases_Bool (is_next signs.CloseBrace left)) [
  | inl last ↦ subst (λ (y : Placed × Left). Right y.0) (same_Some (p, passed left) x (rw last at h)) right
  | inr other ↦ bind_some (initial_part_at p left) _ x (rw other at h) (λ read p1 q1. initial_parts_right n read.0 read.1 x (initial_part_right p left read right p1) q1)
]

nowhere_right : Right nowhere
nowhere_right = record { few = omega arith; as_many = refl; differ = λ i j d lt within. absurd (omega (arith, within)); each = tt }

pub initial_right : (left : Left) (x : Placed × Left) → initial_at nowhere left ≡ Some x → Right x.0
unfolding initial_at
initial_right left x h = bind_some (after_sign signs.OpenBrace left) _ x h (λ l p q. initial_parts_right (length l.0) nowhere l x nowhere_right q)

-- ---- parameters

-- none of them is among those before it
abbrev pub Apart : List ℕ → List ℕ → Type 0
Apart done [] = Unit {0}
Apart done (number ∷ numbers) = (list_any (λ other. nat_eq other number) done ≡ false) × Apart (done ++ number ∷ []) numbers

abbrev pub EachSaid : Placed → List ℕ → Type 0
EachSaid placed [] = Unit {0}
EachSaid placed (number ∷ numbers) = Said placed number × EachSaid placed numbers

pub each_said_on : (p q : Placed) (numbers : List ℕ) → Stays p q → EachSaid p numbers → EachSaid q numbers
each_said_on p q [] stays each = tt
each_said_on p q (n ∷ numbers) stays each = (said_on p q n stays each.0, each_said_on p q numbers stays each.1)

record OneMore (done : List ℕ) (p : Placed) (x : Passing) : Type 0 where
  number : ℕ
  are : x.0 ≡ done ++ number ∷ []
  apart : list_any (λ other. nat_eq other number) done ≡ false
  right : Right x.1
  stays : Stays p x.1
  said : Said x.1 number

parameter_read : (done : List ℕ) (p : Placed) (left : Left) (x : Passing × Left) → Right p → parameter_at (done, p) left ≡ Some x → OneMore done p x.0
unfolding parameter_at
parameter_read done p left x right h =
    bind_some (kind_at left) _ x h (λ found p1 q1.
    bind_some (passed_kind found.0 found.1) _ x q1 (λ kind p2 q2.
    bind_some (after_sign signs.Star kind.1) _ x q2 (λ l p3 q3.
    bind_some (name_at l) _ x (else_some (is_next signs.Star l) _ x q3).1 (λ name p4 q4.
    bind_some (placed_as name.0 kind.0 (location_in p.locations name.0) p) _ x (else_some (is_next signs.OpenBracket name.1) _ x q4).1 (λ location p5 q5.
    let there = placed_right name.0 kind.0 (location_in p.locations name.0) p location right refl p5 in
    let new = else_some (list_any (λ number. nat_eq number location.0) done) _ x q5 in
    subst (λ (y : Passing × Left). OneMore done p y.0) (same_Some ((done ++ location.0 ∷ [], location.1), name.1) x new.1)
    (record { number = location.0; are = refl; apart = new.0; right = there.right; stays = there.stays; said = there.said }))))))

pub record SomeMore (done : List ℕ) (p : Placed) (x : Passing) : Type 0 where
  pub more : List ℕ
  pub are : x.0 ≡ done ++ more
  pub apart : Apart done more
  pub said : EachSaid x.1 more
  pub right : Right x.1
  pub stays : Stays p x.1

and_more : (done : List ℕ) (p : Placed) (x y : Passing) (one : OneMore done p x) → SomeMore (done ++ one.number ∷ []) x.1 y → SomeMore done p y
and_more done p x y one more = record {
  more = one.number ∷ more.more;
  are = more.are ∙ append_assoc done (one.number ∷ []) more.more;
  apart = (one.apart, more.apart);
  said = (said_on x.1 y.1 one.number more.stays one.said, more.said);
  right = more.right;
  stays = stays_on p x.1 y.1 one.stays more.stays;
}

pub parameters_read : (n : ℕ) (done : List ℕ) (p : Placed) (left : Left) (x : Passing × Left) → Right p → parameters_at n (done, p) left ≡ Some x → SomeMore done p x.0
unfolding parameters_at
parameters_read zero done p left x right h = absurd (none-some x h)
parameters_read (suc n) done p left x right h =
    bind_some (parameter_at (done, p) left) _ x h (λ read p1 q1.
    let one = parameter_read done p left read right p1 in
    elim (cases_Bool (is_next signs.Comma read.1)) [
      | inl comma ↦
          let q2 : parameters_at n read.0 (passed read.1) ≡ Some x = rw comma at q1 in
          let q3 : parameters_at n (done ++ one.number ∷ [], read.0.1) (passed read.1) ≡ Some x = subst (λ (ns : List ℕ). parameters_at n (ns, read.0.1) (passed read.1) ≡ Some x) one.are q2 in
          and_more done p read.0 x.0 one (parameters_read n (done ++ one.number ∷ []) read.0.1 (passed read.1) x one.right q3)
      | inr other ↦ bind_some (after_sign signs.CloseParenthesis read.1) _ x (rw other at q1) (λ l p2 q2.
          subst (λ (y : Passing × Left). SomeMore done p y.0) (same_Some (read.0, l) x q2)
          (record { more = one.number ∷ []; are = one.are; apart = (one.apart, tt); said = (one.said, tt); right = one.right; stays = one.stays }))
    ])

pub record AllPassed (p : Placed) (x : Passing) : Type 0 where
  pub apart : Apart [] x.0
  pub said : EachSaid x.1 x.0
  pub right : Right x.1
  pub stays : Stays p x.1

pub all_parameters_read : (p : Placed) (left : Left) (x : Passing × Left) → Right p → all_parameters_at p left ≡ Some x → AllPassed p x.0
unfolding all_parameters_at
all_parameters_read p left x right h = elim (cases_Bool (is_next signs.CloseParenthesis (without_void left))) [
  | inl none ↦
      subst (λ (y : Passing × Left). AllPassed p y.0) (same_Some (([], p), passed (without_void left)) x (rw none at h)) (record { apart = tt; said = tt; right = right; stays = stays_itself p })
  | inr some ↦
      let more = parameters_read (length (without_void left).0) [] p (without_void left) x right (rw some at h) in
      record {
        apart = subst (λ (ns : List ℕ). Apart [] ns) (sym more.are) more.apart;
        said = subst (λ (ns : List ℕ). EachSaid x.0.1 ns) (sym more.are) more.said;
        right = more.right;
        stays = more.stays;
      }
]
