-- Parts of a list as values: what is read is a true part, and a refused value is none's.
use Rattle.std.proofs.Common.{◌≡◌, ◌≢◌, ℕ, zero, suc, ◌<◌, ◌≤◌, ◌+◌, Bool, true, List, [], ◌∷◌, ◌++◌, length, map, take, get_or, Some, Vec, ◌⊎◌, inl, inr, refl, sym, ap, ap₂, ◌∙◌, subst, arith}
use Rattle.std.specs.declared.alloc.Global.{Global}
use Rattle.std.proofs.lemmas.List.{length-map, length-take-le, map-append, take_more}
use Rattle.serde_json.specs.Data.{Data}
use Rattle.loom_objects.specs.declared.choice.Choice.{Choice}
use Rattle.loom_engine.specs.Trees.Meeting.{Settings}
use Rattle.loom_engine.specs.Walk.Path.{Stored}
use Rattle.loom_engine.specs.Path.Nodes.{seen, stored}
use Rattle.loom_engine.specs.Path.Route.{Route, at_rest}
use Rattle.loom_engine.specs.Path.WellFormed.{AreAlike, bare}
use Rattle.loom_engine.specs.Checkpoint.Accepted.{IsPathOf}
use Rattle.loom_engine.specs.Checkpoint.Grammar.{path_data}
use Rattle.loom_engine.specs.Parts.Openings.{chosen_to}
use Rattle.loom_engine.specs.Parts.Keeping.{part_of, views_onto}
use Rattle.loom_engine.specs.Parts.Cuts.{Part}
use Rattle.loom_engine.specs.Parts.Texts.Accepted.{IsTruePart, AreTrueParts, IsItemOf, IsAmong, IsRefusedItem, IsMemory}
use Rattle.loom_engine.specs.Parts.Texts.Grammar.{item_shape, item_data}
use Rattle.loom_engine.specs.Parts.Texts.Reader.{Item, item_of}
use Rattle.loom_engine.specs.declared.rt.path.node.Node.{Node}
use Rattle.loom_engine.specs.declared.rt.path.node.Node.TheVariants as node
use Rattle.loom_engine.specs.declared.rt.parts.Part.{Part as Kept}
use Rattle.loom_engine.specs.declared.rt.parts.error.PartsError.{PartsError}
use Rattle.loom_engine.specs.declared.rt.parts.error.PartsError.TheVariants.{NotJson, WrongFormat, WrongVersion, WrongShape, Path, WrongFloor, BadOption, Memory}
use Rattle.loom_engine.proofs.Checkpoint.ShapeLaws.{refused-no_path, same_nodes, data_alike}
use Rattle.loom_engine.proofs.Parts.Texts.Shapes.{item, item-same, item_of-gave}

-- ---- nodes that are alike

pub seen_bare : (n : Node) → seen (bare n) ≡ seen n
seen_bare (node.Schedule n) = refl
seen_bare (node.Load n) = refl
seen_bare (node.Spurious n) = refl

stored_bare : (ns : List Node) → stored (map bare ns) ≡ stored ns
stored_bare [] = refl
stored_bare (n ∷ ns) = ap₂ (λ (x : Stored) (l : List Stored). x ∷ l) (seen_bare n) (stored_bare ns)

pub alike_stored : (ns ms : List Node) → AreAlike ns ms → stored ns ≡ stored ms
alike_stored ns ms e = sym (stored_bare ns) ∙ ap stored e ∙ stored_bare ms

pub alike_length : (ns ms : List Node) → AreAlike ns ms → length ns ≡ length ms
alike_length ns ms e = sym (length-map ns bare) ∙ ap length e ∙ length-map ms bare

chosen_stored : (k : ℕ) (ns : List Node) → chosen_to k ns ≡ map (λ (n : Stored). n.present) (take k (stored ns))
chosen_stored zero ns = refl
chosen_stored (suc k) [] = refl
chosen_stored (suc k) (n ∷ ns) = ap (λ l. (seen n).present ∷ l) (chosen_stored k ns)

pub alike_chosen : (k : ℕ) (ns ms : List Node) → AreAlike ns ms → chosen_to k ns ≡ chosen_to k ms
alike_chosen k ns ms e = chosen_stored k ns ∙ ap (λ l. map (λ (n : Stored). n.present) (take k l)) (alike_stored ns ms e) ∙ sym (chosen_stored k ms)

pub chosen_length : (k : ℕ) (ns : List Node) → k ≤ length ns → length (chosen_to k ns) ≡ k
chosen_length k ns h = length-map (take k ns) (λ (n : Node). (seen n).present) ∙ length-take-le k ns h

module _ (s : Settings) (explores : Bool) where
  -- ---- what a true part's value has

  path_is : (q : Kept) → IsTruePart s explores q → path_data q.path.search q.path.explores q.path.nodes ≡ path_data s explores q.path.nodes
  path_is q t =
      ap (λ (r : Route). path_data r.search r.explores q.path.nodes) t.rests

  pub item_is : (q : Kept) → IsTruePart s explores q → item_data q ≡ item_shape q.is_done (length q.base.items) (path_data s explores q.path.nodes) q.runs
  item_is q t = ap (λ p. item_shape q.is_done (length q.base.items) p q.runs) (path_is q t)

  of_path : (q : Kept) → IsTruePart s explores q → IsPathOf s explores (path_data s explores q.path.nodes) q.path.nodes
  of_path q t = record { value = refl; fits = t.fits; well_formed = t.well_formed }

  -- the same value has the same parts
  pub same_item : (q : Kept) (done : Bool) (floor : ℕ) (path : Data) (runs : ℕ) → IsItemOf s explores (item_shape done floor path runs) q
      → item done floor path runs ≡ item q.is_done (length q.base.items) (path_data s explores q.path.nodes) q.runs
  same_item q done floor path runs h =
      item-same done q.is_done floor (length q.base.items) path (path_data s explores q.path.nodes) runs q.runs (h.value ∙ item_is q h.true_part)

  -- ---- what was read

  pub item_read : (d : Data) (p : Item) → item_of d ≡ Some p → (path : Route) → path ≡ at_rest s explores path.nodes → IsPathOf s explores p.path path.nodes
      → (base : Vec Choice Global) → base.items ≡ chosen_to p.floor path.nodes → p.floor ≤ length path.nodes → (p.done ≡ true → length path.nodes ≡ p.floor)
      → IsItemOf s explores d (record { base = base; path = path; is_done = p.done; runs = p.runs })
  item_read d p e path rests of base chosen within done =
      let size : length base.items ≡ p.floor = ap length chosen ∙ chosen_length p.floor path.nodes within in
      let q : Kept = record { base = base; path = path; is_done = p.done; runs = p.runs } in
      let t : IsTruePart s explores q = record {
        rests = rests;
        fits = of.fits;
        well_formed = of.well_formed;
        within = subst (λ k. k ≤ length path.nodes) (sym size) within;
        base = chosen ∙ ap (λ k. chosen_to k path.nodes) (sym size);
        done = λ h. done h ∙ sym size;
      } in
      let value : d ≡ item_shape p.done (length base.items) (path_data s explores path.nodes) p.runs =
      item_of-gave d p e ∙ ap (λ x. item_shape p.done p.floor x p.runs) of.value ∙ ap (λ k. item_shape p.done k (path_data s explores path.nodes) p.runs) (sym size) in
      record { value = value ∙ sym (item_is q t); true_part = t }

  -- ---- what was refused

  pub refused-no_item : (d : Data) (e : PartsError) → IsRefusedItem s explores d e → ¬ IsMemory e → (q : Kept) → ¬ IsItemOf s explores d q
  refused-no_item d NotJson why other q h = why
  refused-no_item d WrongFormat why other q h = why
  refused-no_item d (WrongVersion version) why other q h = why
  refused-no_item d WrongShape why other q h = why q.is_done (length q.base.items) (path_data q.path.search q.path.explores q.path.nodes) q.runs h.value
  refused-no_item d (Path e) why other q h =
      let of : IsItemOf s explores (item_shape why.0 why.1 why.2 why.3) q = record { value = sym why.4 ∙ h.value; true_part = h.true_part } in
      let same : why.2 ≡ path_data s explores q.path.nodes = ap (λ (p : Item). p.path) (same_item q why.0 why.1 why.2 why.3 of) in
      refused-no_path s explores why.2 e why.5 other q.path.nodes (record { value = same; fits = h.true_part.fits; well_formed = h.true_part.well_formed })
  refused-no_item d (WrongFloor floor) why other q h =
      let of : IsItemOf s explores (item_shape why.0 floor why.1 why.2) q = record { value = sym why.4 ∙ h.value; true_part = h.true_part } in
      let same = same_item q why.0 floor why.1 why.2 of in
      let path : why.1 ≡ path_data s explores q.path.nodes = ap (λ (p : Item). p.path) same in
      let done : why.0 ≡ q.is_done = ap (λ (p : Item). p.done) same in
      let size : floor ≡ length q.base.items = ap (λ (p : Item). p.floor) same in
      let alike : length why.3 ≡ length q.path.nodes =
      alike_length why.3 q.path.nodes (same_nodes s explores why.1 why.3 q.path.nodes why.5
      (record { value = path; fits = h.true_part.fits; well_formed = h.true_part.well_formed })) in
      wrong_floor floor (length why.3) (length q.path.nodes) (length q.base.items) why.0 q.is_done why.6 alike done size h.true_part.within h.true_part.done
    where
      wrong_floor : (floor count nodes base : ℕ) (was is : Bool) → (count < floor) ⊎ ((was ≡ true) × (count ≢ floor)) → count ≡ nodes → was ≡ is → floor ≡ base → base ≤ nodes → (is ≡ true → nodes ≡ base) → ⊥
      wrong_floor floor count nodes base was is (inl less) alike same size within done = omega arith
      wrong_floor floor count nodes base was is (inr h) alike same size within done = h.1 (alike ∙ done (sym same ∙ h.0) ∙ sym size)
  refused-no_item d BadOption why other q h = why
  refused-no_item d (Memory e) why other q h = other tt

  -- ---- lists

  pub true_more : (xs : List Kept) (x : Kept) → AreTrueParts s explores xs → IsTruePart s explores x → AreTrueParts s explores (xs ++ x ∷ [])
  true_more [] x all one = (one, tt)
  true_more (y ∷ xs) x all one = (all.0, true_more xs x all.1 one)

  pub among_items : (d : Data) (xs : List Kept) → IsAmong d (map item_data xs) → AreTrueParts s explores xs → (q : Kept) × IsItemOf s explores d q
  among_items d [] h all = absurd h
  among_items d (x ∷ xs) (inl e) all = (x, record { value = e; true_part = all.0 })
  among_items d (x ∷ xs) (inr h) all = among_items d xs h all.1

  -- ---- what is read back

  -- parts of the same value are the same for the rules
  pub same_part : (q r : Kept) → IsTruePart s explores q → IsTruePart s explores r → item_data q ≡ item_data r
      → AreAlike q.path.nodes r.path.nodes × (q.base.items ≡ r.base.items) × (q.is_done ≡ r.is_done) × (q.runs ≡ r.runs)
  same_part q r t u e =
      let same = item-same q.is_done r.is_done (length q.base.items) (length r.base.items) (path_data s explores q.path.nodes) (path_data s explores r.path.nodes) q.runs r.runs
      (sym (item_is q t) ∙ e ∙ item_is r u) in
      let alike = data_alike s explores q.path.nodes r.path.nodes t.well_formed u.well_formed (ap (λ (p : Item). p.path) same) in (
        alike,
        t.base ∙ ap (λ k. chosen_to k q.path.nodes) (ap (λ (p : Item). p.floor) same) ∙ alike_chosen (length r.base.items) q.path.nodes r.path.nodes alike ∙ sym u.base,
        ap (λ (p : Item). p.done) same,
        ap (λ (p : Item). p.runs) same,
      )

  pub same_views : (xs ys : List Kept) (later : List Part) → AreTrueParts s explores xs → AreTrueParts s explores ys → map item_data xs ≡ map item_data ys → views_onto xs later ≡ views_onto ys later
  same_views [] [] later a b e = refl
  same_views [] (y ∷ ys) later a b e = absurd (cc e)
  same_views (x ∷ xs) [] later a b e = absurd (cc e)
  same_views (x ∷ xs) (y ∷ ys) later a b e =
      let first : item_data x ≡ item_data y = cc e in
      let rest : map item_data xs ≡ map item_data ys = cc e in
      let same = same_part x y a.0 b.0 first in
      let part : part_of x ≡ part_of y = ap₂ (λ (b : List Choice) (p : List Stored). record { base = b; path = p }) same.1 (alike_stored x.path.nodes y.path.nodes same.0) in
      ap (λ q. views_onto xs (q ∷ later)) part ∙ same_views xs ys (part_of y ∷ later) a.1 b.1 rest

-- ---- among the elements that are read

pub among_at : {A : Type 0} (h : A → Data) (xs : List A) (k : ℕ) (x : A) → k < length xs → x ≡ get_or xs k x → IsAmong (h x) (map h xs)
among_at h [] k x below at = absurd (omega arith)
among_at h (y ∷ xs) zero x below at = inl (ap h at)
among_at h (y ∷ xs) (suc k) x below at = inr (among_at h xs k x (omega arith) at)

pub written_more : {A : Type 0} (h : A → Data) (g : Kept → Data) (xs : List A) (i : ℕ) (x : A) (ys zs : List Kept) (y : Kept) → i < length xs → x ≡ get_or xs i x
    → map h (take i xs) ≡ map g ys → h x ≡ g y → zs ≡ ys ++ y ∷ [] → map h (take (i + 1) xs) ≡ map g zs
written_more h g xs i x ys zs y below at so_far one pushed = rw (take_more xs i x below, ← at, map-append, pushed, map-append, so_far, one) refl

-- ---- the number of nodes that are fixed

pub floor_at : (done : Bool) (floor count nodes : ℕ) → count ≡ nodes → (floor ≤ count) × (done ≡ true → count ≡ floor) → (floor ≤ nodes) × (done ≡ true → nodes ≡ floor)
floor_at done floor count nodes same h = (subst (λ k. floor ≤ k) same h.0, λ e. sym same ∙ h.1 e)

pub no_floor_at : (done : Bool) (floor count nodes : ℕ) → count ≡ nodes → (count < floor) ⊎ ((done ≡ true) × (count ≢ floor)) → (nodes < floor) ⊎ ((done ≡ true) × (nodes ≢ floor))
no_floor_at done floor count nodes same h = let P : ℕ → Type 0 = λ k. (k < floor) ⊎ ((done ≡ true) × (k ≢ floor)) in subst P same h
