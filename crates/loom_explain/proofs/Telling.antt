-- What rows tell that go on.
use Rattle.std.proofs.Common.{ℕ, suc, ◌≡◌, ◌+◌, ◌-◌, ◌≤◌, List, [], ◌∷◌, ◌++◌, length, take, drop, refl, sym, ◌∙◌, ap, subst, arith, length-drop, length-append}
use Rattle.std.proofs.lemmas.List.{drop-append-le, length-take-le}
use Rattle.std.proofs.Math.Seq.{take-add, drop-length}
use Rattle.loom_explain.specs.declared.event.Event.{Event}
use Rattle.loom_explain.specs.declared.picture.Shown.{Shown}
use Rattle.loom_explain.specs.declared.picture.Row.{Row}
use Rattle.loom_explain.specs.declared.picture.Row.TheVariants.{Told, Came, Folded}
use Rattle.loom_explain.specs.Pictures.{IsWhole, Tells}
use Rattle.loom_explain.specs.Rows.{FoldsOn, StaysWhole, TellsOn, TellsSame}

-- rows that tell events, and then rows that tell the events after those
pub tells_append : (n : ℕ) (rows more : List Row) (events rest : List Event) → Tells n rows events → Tells (n + length events) more rest → Tells n (rows ++ more) (events ++ rest)
tells_append n [] more [] rest t u =
    let e : n + 0 ≡ n = omega arith in
    subst (λ k. Tells k more rest) e u
tells_append n [] more (event ∷ events) rest t u = absurd t
tells_append n (Told shown ∷ rows) more [] rest t u = absurd t
tells_append n (Told shown ∷ rows) more (event ∷ events) rest t u =
    let e : n + suc (length events) ≡ suc n + length events = omega arith in
    (t.0, t.1, tells_append (suc n) rows more events rest t.2 (subst (λ k. Tells k more rest) e u))
tells_append n (Came shown ∷ rows) more events rest t u = tells_append n rows more events rest t u
tells_append n (Folded count ∷ rows) more events rest t u =
    let le : count ≤ length events = t.0 in
    let d : length (drop count events) ≡ length events - count = length-drop count events in
    let a : length (events ++ rest) ≡ length events + length rest = length-append events rest in
    let e : n + length events ≡ (n + count) + length (drop count events) = omega arith in
    let within : count ≤ length (events ++ rest) = omega arith in
    (within, subst (λ l. Tells (n + count) (rows ++ more) l) (sym (drop-append-le count events rest le)) (tells_append (n + count) rows more (drop count events) rest t.1 (subst (λ k. Tells k more rest) e u)))

append_nil : {A : Type 0} → (l : List A) → l ++ [] ≡ l
append_nil [] = refl
append_nil (x ∷ l) = ap (λ m. x ∷ m) (append_nil l)

-- a row of what came of an event tells nothing more
pub came_tells : (rows : List Row) (shown : Shown) (events : List Event) → Tells 1 rows events → Tells 1 (rows ++ Came shown ∷ []) events
came_tells rows shown events t = subst (λ l. Tells 1 (rows ++ Came shown ∷ []) l) (append_nil events) (tells_append 1 rows (Came shown ∷ []) events [] t tt)

-- a row of an event tells it besides
pub told_tells : (rows : List Row) (shown : Shown) (event : Event) (events : List Event) → shown.event ≡ suc (length events) → shown.thread ≡ event.thread → Tells 1 rows events → Tells 1 (rows ++ Told shown ∷ []) (events ++ event ∷ [])
told_tells rows shown event events e same t =
    let number : shown.event ≡ 1 + length events = omega (arith, e) in
    tells_append 1 rows (Told shown ∷ []) events (event ∷ []) t (number, same, tt)

-- a row of folded events tells as many besides
pub folded_tells : (rows : List Row) (count : ℕ) (events more : List Event) → length more ≡ count → Tells 1 rows events → Tells 1 (rows ++ Folded count ∷ []) (events ++ more)
folded_tells rows count events more e t =
    let le : count ≤ length more = omega (arith, e) in
    let none : drop count more ≡ [] = subst (λ k. drop k more ≡ []) e (drop-length more) in
    tells_append 1 rows (Folded count ∷ []) events more t (le, subst (λ l. Tells ((1 + length events) + count) [] l) (sym none) tt)

-- the rows tell the events up to one place, and then several that are folded
pub folds_next : (old new : List Row) (events : List Event) (place count : ℕ) → place + count ≤ length events → FoldsOn count old new → Tells 1 old (take place events) → Tells 1 new (take (place + count) events)
folds_next old new events place count le on t =
    let d : length (drop place events) ≡ length events - place = length-drop place events in
    let fits : count ≤ length (drop place events) = omega (arith, d, le) in
    let len : length (take count (drop place events)) ≡ count = length-take-le count (drop place events) fits in
    subst (λ l. Tells 1 new l) (sym (take-add place count events)) (on (take place events) (take count (drop place events)) len t)

-- nothing is folded where a row is put that folds nothing
pub whole_told : (rows : List Row) (shown : Shown) → IsWhole rows → IsWhole (rows ++ Told shown ∷ [])
whole_told [] shown w = tt
whole_told (Told other ∷ rows) shown w = whole_told rows shown w
whole_told (Came other ∷ rows) shown w = whole_told rows shown w
whole_told (Folded count ∷ rows) shown w = absurd w

pub whole_came : (rows : List Row) (shown : Shown) → IsWhole rows → IsWhole (rows ++ Came shown ∷ [])
whole_came [] shown w = tt
whole_came (Told other ∷ rows) shown w = whole_came rows shown w
whole_came (Came other ∷ rows) shown w = whole_came rows shown w
whole_came (Folded count ∷ rows) shown w = absurd w

-- ---- rows that are made one after the other

-- a row of what came of an event is put
pub came_on : (first old new : List Row) (shown : Shown) → new ≡ old ++ Came shown ∷ [] → TellsSame first old × StaysWhole first old → TellsSame first new × StaysWhole first new
came_on first old new shown e on = (
  λ events t. subst (λ l. Tells 1 l events) (sym e) (came_tells old shown events (on.0 events t)),
  λ w. subst (λ l. IsWhole l) (sym e) (whole_came old shown (on.1 w)),
)

-- a row of an event is put behind rows that tell the same as before
pub told_on : (first old new : List Row) (shown : Shown) (number : ℕ) (event : Event) → new ≡ old ++ Told shown ∷ [] → shown.event ≡ number → shown.thread ≡ event.thread → TellsSame first old → TellsOn number event first new
told_on first old new shown number event e is same on =
    λ events next t. subst (λ l. Tells 1 l (events ++ event ∷ [])) (sym e) (told_tells old shown event events (is ∙ next) same (on events t))

pub told_whole : (first old new : List Row) (shown : Shown) → new ≡ old ++ Told shown ∷ [] → StaysWhole first old → StaysWhole first new
told_whole first old new shown e on = λ w. subst (λ l. IsWhole l) (sym e) (whole_told old shown (on w))

-- a row of folded events is put
pub folds_on : (old new : List Row) (count : ℕ) → new ≡ old ++ Folded count ∷ [] → FoldsOn count old new
folds_on old new count e = λ events more is t. subst (λ l. Tells 1 l (events ++ more)) (sym e) (folded_tells old count events more is t)
