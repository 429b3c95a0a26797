-- A part that is given back.
use Rattle.std.proofs.Common.{◌≡◌, ℕ, zero, suc, List, [], ◌∷◌, ◌++◌, map, remove, length, Option, Some, None, Vec, refl, ap, ap₂, sym, ◌∙◌, subst, inl, inr}
use Rattle.std.specs.Prelude.{slice_get}
use Rattle.std.specs.declared.alloc.Global.{Global}
use Rattle.loom_objects.specs.declared.choice.Choice.{Choice}
use Rattle.loom_engine.specs.Walk.Machine.{Machine}
use Rattle.loom_engine.specs.Walk.Sound.{IsMachine}
use Rattle.loom_engine.specs.Walk.Path.{Stored, choices}
use Rattle.loom_engine.specs.Walk.Lists.{Member, IsOnce}
use Rattle.loom_engine.specs.declared.rt.path.node.Node.{Node}
use Rattle.loom_engine.specs.declared.rt.path.opening.Opening.{Opening}
use Rattle.loom_engine.specs.declared.rt.parts.Part.{Part as Kept}
use Rattle.loom_engine.specs.Path.Nodes.{stored}
use Rattle.loom_engine.specs.Parts.Cuts.{Part, IsBelow}
use Rattle.loom_engine.specs.Parts.Works.{view, Work}
use Rattle.loom_engine.specs.Parts.Slices.{Slice, Ended}
use Rattle.loom_engine.specs.Parts.Openings.{chosen_to, key_at, EachOpening, OpensAt, IsLow, AreLow}
use Rattle.loom_engine.specs.Parts.Keeping.{part_of, views_onto, views, keys, Stands}
use Rattle.loom_engine.proofs.Parts.Lists.{bases}
use Rattle.loom_engine.proofs.Parts.Works.{work_law, order_of, done_order}
use Rattle.loom_engine.proofs.Parts.Slices.{slice_law, left_begins, done_begins}
use Rattle.loom_engine.proofs.Parts.Disjoint.{disjoint_law}
use Rattle.loom_engine.proofs.Parts.Keeping.{AreSteps, among, views_join, views_snoc, work_steps}
use Rattle.loom_engine.proofs.Parts.Gathering.{below_of, gathers_of}

pub each_below : (b e : List Choice) (nodes : List Node) (list : List Opening) → choices (stored nodes) ≡ b ++ e → EachOpening (λ opening. OpensAt nodes opening × IsLow (length b) nodes opening) list
    → EachOpening (λ opening. IsBelow (chosen_to opening.place nodes) b) list
each_below b e nodes [] h l = tt
each_below b e nodes (x ∷ list) h l = (below_of b e nodes x.place h l.0.1.0, each_below b e nodes list h l.1)

-- these openings of the path are handed out
abbrev pub HandsEach : (List Part → List Part → List (List Choice) → List (List Choice) → Type 0) → List Kept → List (Vec Choice Global) → List Kept → List (Vec Choice Global) → List Node → List Opening → Type 0
HandsEach P ps ts qs us nodes list = (out spent : List Part) (source : Part) → P (out ++ views ps) spent (keys ts) (map (key_at nodes) list) → Stands out spent nodes source
    → EachOpening (λ opening. IsBelow (chosen_to opening.place nodes) source.base) list → P (out ++ views qs) spent (keys us) []

abbrev pub Each : List Kept → List (Vec Choice Global) → List Kept → List (Vec Choice Global) → List Node → List Opening → Type 0
Each ps ts qs us nodes list = (m : Machine) (made : List (List Choice)) (out spent : List Part) (source : Part) → Work m made (out ++ views ps) spent (keys ts) (map (key_at nodes) list)
    → Stands out spent nodes source → EachOpening (λ opening. IsBelow (chosen_to opening.place nodes) source.base) list → Work m made (out ++ views qs) spent (keys us) []

abbrev pub Now : Machine → List (List Choice) → List Kept → List (Vec Choice Global) → Type 0
Now m made ps ts = (spent : List Part) × Work m made (views ps) spent (keys ts) []

-- the part comes to the front
pub fronted : (xs : List Kept) (ts : List (Vec Choice Global)) (i : ℕ) (part : Kept) (ps : List Kept) → slice_get xs i ≡ Some part → ps ≡ remove xs i
    → (P : List Part → List Part → List (List Choice) → List (List Choice) → Type 0) (steps : AreSteps P) (spent : List Part) → P (views xs) spent (keys ts) [] → P (part_of part ∷ views ps) spent (keys ts) []
fronted xs ts i part ps at removed P steps spent s =
    let z = among xs i part [] at in
    subst (λ t. P (part_of part ∷ t) spent (keys ts) []) (sym z.without ∙ ap views (sym removed))
    (steps.turns z.front z.back (part_of part) spent (keys ts) [] (subst (λ t. P t spent (keys ts) []) z.whole s))

module _ (xs : List Kept) (ts : List (Vec Choice Global)) (i : ℕ) (part : Kept) (nodes : List Node) (list : List Opening) (at : slice_get xs i ≡ Some part)
    (low : AreLow (length part.base.items) nodes list)
    (ps qs : List Kept) (us : List (Vec Choice Global)) (removed : ps ≡ remove xs i) (each : Each ps ts qs us nodes list)
    (m : Machine) (made runs : List (List Choice)) (w : IsMachine m) (now : Now m made xs ts) where
  pub left_back : Slice m (length (part_of part).base) (part_of part).path runs (stored nodes) → (x : Kept) → x.path.nodes ≡ nodes → x.base.items ≡ part.base.items
      → Now m (runs ++ made) (qs ++ x ∷ []) us
  left_back s x same base = (now.0, subst (λ t. Work m (runs ++ made) t now.0 (keys us) []) (ap (λ t. t ∷ views qs) (sym same_part) ∙ sym (views_snoc qs x [])) handed)
    where
      worked : Work m (runs ++ made) (record { base = (part_of part).base; path = stored nodes } ∷ views ps) now.0 (keys ts) (map (key_at nodes) list)
      worked =
          let front = fronted xs ts i part ps at removed (Work m made) (work_steps m made) now.0 now.1 in
          let z = left_begins m w made (part_of part).base (part_of part).path (views ps) now.0 (keys ts) [] front runs (stored nodes) s in
          (slice_law m made runs (part_of part).base (part_of part).path (stored nodes) (views ps) now.0 (keys ts) [] (map (key_at nodes) list) w front
          (gathers_of (part_of part).base z.0 nodes list (keys ts) z.1 low)).0 s

      begins : (e : List Choice) × (choices (stored nodes) ≡ (part_of part).base ++ e)
      begins =
          (order_of m (runs ++ made) (record { base = (part_of part).base; path = stored nodes } ∷ views ps) now.0 (keys ts) (map (key_at nodes) list) w worked
          (record { base = (part_of part).base; path = stored nodes }) (inl refl)).begins

      handed : Work m (runs ++ made) (record { base = (part_of part).base; path = stored nodes } ∷ views qs) now.0 (keys us) []
      handed =
          each m (runs ++ made) (record { base = (part_of part).base; path = stored nodes } ∷ []) now.0 (record { base = (part_of part).base; path = stored nodes }) worked
          (record { known = inl (inl refl); path = refl }) (each_below (part_of part).base begins.0 nodes list begins.1 low.each)

      same_part : part_of x ≡ record { base = (part_of part).base; path = stored nodes }
      same_part = ap₂ (λ (b : List Choice) (p : List Stored). record { base = b; path = p }) base (ap stored same)

  pub done_back : Ended m (length (part_of part).base) (part_of part).path runs (stored nodes) → Now m (runs ++ made) qs us
  done_back s = (record { base = (part_of part).base; path = stored nodes } ∷ now.0, handed)
    where
      worked : Work m (runs ++ made) (views ps) (record { base = (part_of part).base; path = stored nodes } ∷ now.0) (keys ts) (map (key_at nodes) list)
      worked =
          let front = fronted xs ts i part ps at removed (Work m made) (work_steps m made) now.0 now.1 in
          let z = done_begins m w made (part_of part).base (part_of part).path (views ps) now.0 (keys ts) [] front runs (stored nodes) s in
          (slice_law m made runs (part_of part).base (part_of part).path (stored nodes) (views ps) now.0 (keys ts) [] (map (key_at nodes) list) w front
          (gathers_of (part_of part).base z.0 nodes list (keys ts) z.1 low)).1 s

      begins : (e : List Choice) × (choices (stored nodes) ≡ (part_of part).base ++ e)
      begins =
          (done_order m (runs ++ made) (views ps) (record { base = (part_of part).base; path = stored nodes } ∷ now.0) (keys ts) (map (key_at nodes) list) w worked
          (record { base = (part_of part).base; path = stored nodes }) (inl refl)).begins

      handed : Work m (runs ++ made) (views qs) (record { base = (part_of part).base; path = stored nodes } ∷ now.0) (keys us) []
      handed =
          each m (runs ++ made) [] (record { base = (part_of part).base; path = stored nodes } ∷ now.0) (record { base = (part_of part).base; path = stored nodes }) worked
          (record { known = inr (inl refl); path = refl }) (each_below (part_of part).base begins.0 nodes list begins.1 low.each)

-- ---- no two parts have one base

base_there : (xs : List Kept) (i : ℕ) (x : Kept) (later : List Part) → slice_get xs i ≡ Some x → Member x.base.items (bases (views_onto xs later))
base_there xs i x later h = let z = among xs i x later h in subst (λ (l : List Part). Member x.base.items (bases l)) (sym z.whole) (go z.front z.back)
  where
    go : (front back : List Part) → Member x.base.items (bases (front ++ part_of x ∷ back))
    go [] back = inl refl
    go (q ∷ front) back = inr (go front back)

-- one of the last ones, before others, has another base than the first of these
apart : (front : List Part) (q : Part) (back : List Part) (b : List Choice) → IsOnce (bases (front ++ q ∷ back)) → Member b (bases front) → b ≡ q.base → ⊥
apart [] q back b once h e = h
apart (y ∷ front) q back b once (inl f) e = once.0 (subst (λ c. Member c (bases (front ++ q ∷ back))) (sym e ∙ f) (there front))
  where
    there : (front : List Part) → Member q.base (bases (front ++ q ∷ back))
    there [] = inl refl
    there (z ∷ front) = inr (there front)
apart (y ∷ front) q back b once (inr h) e = apart front q back b once.1 h e

pub same_part : (xs : List Kept) (later : List Part) (i j : ℕ) (x y : Kept) → IsOnce (bases (views_onto xs later)) → slice_get xs i ≡ Some x → slice_get xs j ≡ Some y → x.base.items ≡ y.base.items → x ≡ y
same_part [] later i j x y once h g e = absurd (cc h)
same_part (z ∷ xs) later zero zero x y once h g e = cc (h, g)
same_part (z ∷ xs) later zero (suc j) x y once h g e =
    let first : z ≡ x = cc h in
    absurd (apart (views xs) (part_of z) later y.base.items (subst (λ (l : List Part). IsOnce (bases l)) (views_join xs (part_of z ∷ later)) once) (base_there xs j y [] g)
    (sym e ∙ ap (λ (k : Kept). k.base.items) (sym first)))
same_part (z ∷ xs) later (suc i) zero x y once h g e =
    let first : z ≡ y = cc g in
    absurd (apart (views xs) (part_of z) later x.base.items (subst (λ (l : List Part). IsOnce (bases l)) (views_join xs (part_of z ∷ later)) once) (base_there xs i x [] h)
    (e ∙ ap (λ (k : Kept). k.base.items) (sym first)))
same_part (z ∷ xs) later (suc i) (suc j) x y once h g e = same_part xs (part_of z ∷ later) i j x y once h g e

same_bases : (parts : List Part) → bases (map view parts) ≡ bases parts
same_bases [] = refl
same_bases (q ∷ parts) = ap (λ t. q.base ∷ t) (same_bases parts)

pub bases_once : (m : Machine) (made : List (List Choice)) (xs : List Kept) (ts : List (Vec Choice Global)) → IsMachine m → Now m made xs ts → IsOnce (bases (views xs))
bases_once m made xs ts w now =
    subst IsOnce (same_bases (views xs)) (disjoint_law m made (map view (views xs)) (keys ts) [] w (work_law m made (views xs) now.0 (keys ts) [] w now.1).0).0

pub none_of : (o : Option ℕ) → ((x : ℕ) → o ≡ Some x → ⊥) → o ≡ None
none_of None f = refl
none_of (Some x) f = absurd (f x refl)

-- ---- the other parts stay

got_front : (xs more : List Kept) (k : ℕ) (q : Kept) → slice_get xs k ≡ Some q → slice_get (xs ++ more) k ≡ Some q
got_front [] more k q h = absurd (cc h)
got_front (x ∷ xs) more zero q h = h
got_front (x ∷ xs) more (suc k) q h = got_front xs more k q h

other_kept : (xs : List Kept) (i k : ℕ) (x q : Kept) (b : List Choice) (more : List Kept) → slice_get xs i ≡ Some x → x.base.items ≡ b → slice_get xs k ≡ Some q → (q.base.items ≡ b → ⊥)
    → (place : ℕ) × (slice_get (remove xs i ++ more) place ≡ Some q)
other_kept [] i k x q b more h e g other = absurd (cc h)
other_kept (y ∷ xs) zero zero x q b more h e g other = let same : x ≡ q = cc (h, g) in absurd (other (ap (λ (z : Kept). z.base.items) (sym same) ∙ e))
other_kept (y ∷ xs) zero (suc k) x q b more h e g other = (k, got_front xs more k q g)
other_kept (y ∷ xs) (suc i) zero x q b more h e g other = (0, g)
other_kept (y ∷ xs) (suc i) (suc k) x q b more h e g other = let z = other_kept xs i k x q b more h e g other in (suc z.0, z.1)

pub others_kept : (xs : List Kept) (i : ℕ) (x : Kept) (b : List Choice) (more new : List Kept) → new ≡ remove xs i ++ more → slice_get xs i ≡ Some x → x.base.items ≡ b
    → (k : ℕ) (q : Kept) → slice_get xs k ≡ Some q → (q.base.items ≡ b → ⊥) → (place : ℕ) × (slice_get new place ≡ Some q)
others_kept xs i x b more new is h e k q g other =
    let z = other_kept xs i k x q b more h e g other in
    (z.0, subst (λ (l : List Kept). slice_get l z.0 ≡ Some q) (sym is) z.1)
