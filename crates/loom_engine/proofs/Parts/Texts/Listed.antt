-- Lists of parts as values: what is read is a true list, a refused value is none's, and what is read back is where it was.
use Rattle.std.proofs.Common.{◌≡◌, ℕ, Bool, codes, List, [], ◌∷◌, map, Option, Some, None, Vec, ◌⊎◌, inl, inr, refl, sym, ap, ap₂, ◌∙◌, subst, arith}
use Rattle.std.specs.declared.alloc.Global.{Global}
use Rattle.serde_json.specs.Data.{Data}
use Rattle.loom_objects.specs.declared.choice.Choice.{Choice}
use Rattle.loom_engine.specs.Trees.Meeting.{Settings}
use Rattle.loom_engine.specs.Path.Route.{at_rest, settings}
use Rattle.loom_engine.specs.Path.WellFormed.{AreAlike, bare}
use Rattle.loom_engine.specs.Checkpoint.Accepted.{IsPathOf, IsMemory as IsMemoryOfPath, version_of}
use Rattle.loom_engine.specs.Checkpoint.Grammar.{path_data}
use Rattle.loom_engine.specs.Checkpoint.Reader.{each}
use Rattle.loom_engine.specs.Parts.Cuts.{Part}
use Rattle.loom_engine.specs.Parts.Works.{Work}
use Rattle.loom_engine.specs.Parts.Keeping.{choices_of, views, keys, IsCopy}
use Rattle.loom_engine.specs.Parts.Texts.Accepted.{AreTrueParts, IsItemOf, IsPartOf, IsListOf, IsAmong, IsOfFormat, IsRefusedItem, IsRefusedHeader, IsRefusedPart, IsRefusedThere, IsRefusedSearch, HasParts, IsRefusedList, IsMemory, IsAtToo}
use Rattle.loom_engine.specs.Parts.Texts.Grammar.{key_data, item_data, part_shape, list_shape}
use Rattle.loom_engine.specs.Parts.Texts.Reader.{format_of, Single, single_of, Listed, listed_of, key_at}
use Rattle.loom_engine.specs.declared.rt.path.Search.{Search}
use Rattle.loom_engine.specs.declared.rt.path.node.Node.{Node}
use Rattle.loom_engine.specs.declared.rt.parts.Part.{Part as Kept}
use Rattle.loom_engine.specs.declared.rt.parts.Parts.{Parts}
use Rattle.loom_engine.specs.declared.rt.parts.error.PartsError.{PartsError}
use Rattle.loom_engine.specs.declared.rt.parts.error.PartsError.TheVariants.{NotJson, WrongFormat, WrongVersion, WrongShape, Path, WrongFloor, BadOption, Memory}
use Rattle.loom_engine.specs.declared.rt.path.checkpoint.error.PathError.{PathError}
use Rattle.loom_engine.specs.declared.rt.path.checkpoint.error.PathError.TheVariants as path
use Rattle.loom_engine.proofs.Checkpoint.ShapeLaws.{memory_refused, refused-no_path, same_nodes}
use Rattle.loom_engine.proofs.Parts.Texts.Choices.{keys_gave, keys_refused, keys_data, same_choices, same_keys}
use Rattle.loom_engine.proofs.Parts.Texts.Shapes.{part-same, part_format, part_version, no_single, single_read, listed, list-same, list_format, list_version, no_list, listed_read}
use Rattle.loom_engine.proofs.Parts.Texts.Items.{refused-no_item, among_items, same_part, same_views}

two_versions : (o : Option ℕ) (v w : ℕ) → o ≡ Some w → o ≡ Some v → v ≡ w
two_versions o v w e f = cc

no_version : (o : Option ℕ) (v : ℕ) → o ≡ Some v → o ≡ None → ⊥
no_version o v e f = cc

no_nodes : (nodes : List Node) → map bare nodes ≡ [] → nodes ≡ []
no_nodes [] e = refl
no_nodes (n ∷ nodes) e = absurd (cc e)

module _ (s : Settings) (explores : Bool) (d : Data) where
  -- ---- a part that is written alone

  pub part_read : (p : Single) → single_of d ≡ Some p → IsOfFormat (codes "part") d → (q : Kept) → IsItemOf s explores p.part q → IsPartOf s explores d q
  part_read p e head q h =
      record { value = single_read d p (codes "part") 2 e head.0 head.1 ∙ ap (λ x. part_shape (codes "part") x 2) h.value; true_part = h.true_part }

  pub part_refused : (p : Single) → single_of d ≡ Some p → IsOfFormat (codes "part") d → (e : PartsError) → IsRefusedItem s explores p.part e → IsRefusedPart s explores d e
  part_refused p e head NotJson why = why
  part_refused p e head WrongFormat why = absurd why
  part_refused p e head (WrongVersion version) why = absurd why
  part_refused p e head WrongShape why = λ part is.
      subst (λ x. IsRefusedItem s explores x WrongShape) (part-same (codes "part") (codes "part") p.part part 2 2 (sym (single_read d p (codes "part") 2 e head.0 head.1) ∙ is)) why
  part_refused p e head (Path x) why = (p.part, single_read d p (codes "part") 2 e head.0 head.1, why)
  part_refused p e head (WrongFloor floor) why = (p.part, single_read d p (codes "part") 2 e head.0 head.1, why)
  part_refused p e head BadOption why = why
  part_refused p e head (Memory m) why = tt

  pub part_no_shape : single_of d ≡ None → IsRefusedPart s explores d WrongShape
  part_no_shape e = λ part is. absurd (no_single d e (codes "part") part 2 is)

  pub part_header : (e : PartsError) → IsRefusedHeader (codes "part") d e → IsRefusedPart s explores d e
  part_header NotJson why = why
  part_header WrongFormat why = why
  part_header (WrongVersion version) why = why
  part_header WrongShape why = λ part is. absurd (no_version (version_of d) 2 (ap version_of is ∙ part_version (codes "part") part 2) why)
  part_header (Path e) why = absurd why
  part_header (WrongFloor floor) why = absurd why
  part_header BadOption why = why
  part_header (Memory m) why = tt

  pub refused-no_part : (e : PartsError) → IsRefusedPart s explores d e → ¬ IsMemory e → (q : Kept) → ¬ IsPartOf s explores d q
  refused-no_part NotJson why other q h = why
  refused-no_part WrongFormat why other q h = why (ap format_of h.value ∙ part_format (codes "part") (item_data q) 2)
  refused-no_part (WrongVersion version) why other q h = why.2 (two_versions (version_of d) version 2 (ap version_of h.value ∙ part_version (codes "part") (item_data q) 2) why.1)
  refused-no_part WrongShape why other q h = refused-no_item s explores (item_data q) WrongShape (why (item_data q) h.value) (λ m. m) q (record { value = refl; true_part = h.true_part })
  refused-no_part (Path e) why other q h =
      refused-no_item s explores why.0 (Path e) why.2 other q (record { value = part-same (codes "part") (codes "part") why.0 (item_data q) 2 2 (sym why.1 ∙ h.value); true_part = h.true_part })
  refused-no_part (WrongFloor floor) why other q h =
      refused-no_item s explores why.0 (WrongFloor floor) why.2 other q (record { value = part-same (codes "part") (codes "part") why.0 (item_data q) 2 2 (sym why.1 ∙ h.value); true_part = h.true_part })
  refused-no_part BadOption why other q h = why
  refused-no_part (Memory m) why other q h = other tt

  -- ---- a list

  pub list_no_shape : listed_of d ≡ None → IsRefusedList s explores d WrongShape
  list_no_shape e = λ xs r search ts is. absurd (no_list d e (codes "parts") xs r search ts 2 is)

  pub list_header : (e : PartsError) → IsRefusedHeader (codes "parts") d e → IsRefusedList s explores d e
  list_header NotJson why = why
  list_header WrongFormat why = why
  list_header (WrongVersion version) why = why
  list_header WrongShape why = λ xs r search ts is. absurd (no_version (version_of d) 2 (ap version_of is ∙ list_version (codes "parts") xs r search ts 2) why)
  list_header (Path e) why = absurd why
  list_header (WrongFloor floor) why = absurd why
  list_header BadOption why = absurd why
  list_header (Memory m) why = tt

  module _ (p : Listed) (e : listed_of d ≡ Some p) (head : IsOfFormat (codes "parts") d) where
    pub has_parts : HasParts d p.parts p.runs p.search p.trunk
    has_parts = listed_read d p (codes "parts") 2 e head.0 head.1

    same_as : (xs : List Data) (r : ℕ) (search : Data) (ts : List Data) → HasParts d xs r search ts → listed (codes "parts") p.parts p.runs p.search p.trunk 2 ≡ listed (codes "parts") xs r search ts 2
    same_as xs r search ts is = list-same (codes "parts") (codes "parts") p.parts xs p.runs r p.search search p.trunk ts 2 2 (sym has_parts ∙ is)

    pub list_search : (x : PartsError) → IsRefusedSearch s explores p.search x → IsRefusedList s explores d x
    list_search NotJson why = why
    list_search WrongFormat why = absurd why
    list_search (WrongVersion version) why = absurd why
    list_search WrongShape why = λ xs r search ts is. inr (subst (λ x. IsRefusedSearch s explores x WrongShape) (ap (λ (l : Listed). l.search) (same_as xs r search ts is)) why)
    list_search (Path x) why = (p.parts, p.runs, p.search, p.trunk, has_parts, inl why)
    list_search (WrongFloor floor) why = absurd why
    list_search BadOption why = absurd why
    list_search (Memory m) why = tt

    memory : (x : PartsError) → IsMemory x → IsRefusedList s explores d x
    memory NotJson m = m
    memory WrongFormat m = absurd m
    memory (WrongVersion version) m = absurd m
    memory WrongShape m = absurd m
    memory (Path x) m = (p.parts, p.runs, p.search, p.trunk, has_parts, inl (memory_refused s explores p.search x m))
    memory (WrongFloor floor) m = absurd m
    memory BadOption m = absurd m
    memory (Memory a) m = tt

    there : (x : PartsError) → IsRefusedThere s explores p.parts x → IsRefusedList s explores d x
    there NotJson why = why.2
    there WrongFormat why = absurd why.2
    there (WrongVersion version) why = absurd why.2
    there WrongShape why = λ xs r search ts is. inl (subst (λ l. IsRefusedThere s explores l WrongShape) (ap (λ (l : Listed). l.parts) (same_as xs r search ts is)) why)
    there (Path x) why = (p.parts, p.runs, p.search, p.trunk, has_parts, inr why)
    there (WrongFloor floor) why = (p.parts, p.runs, p.search, p.trunk, has_parts, why)
    there BadOption why = absurd why.2
    there (Memory a) why = tt

    pub list_items : (x : PartsError) → IsMemory x ⊎ IsRefusedThere s explores p.parts x → IsRefusedList s explores d x
    list_items x (inl m) = memory x m
    list_items x (inr why) = there x why

    pub list_keys : (x : PartsError) → IsMemory x ⊎ ((x ≡ BadOption) × (each key_at p.trunk ≡ None)) → IsRefusedList s explores d x
    list_keys x (inl m) = memory x m
    list_keys x (inr h) = subst (IsRefusedList s explores d) (sym h.0) (p.parts, p.runs, p.search, p.trunk, has_parts, keys_refused p.trunk h.1)

    pub list_read : (search : Search) → settings search ≡ s → search.explores ≡ explores → p.search ≡ path_data s explores [] → (list : Vec Kept Global) → p.parts ≡ map item_data list.items
        → AreTrueParts s explores list.items → (trunk : Vec (Vec Choice Global) Global) → each key_at p.trunk ≡ Some (map choices_of trunk.items)
        → IsListOf s explores d (record { search = search; runs = p.runs; list = list; trunk = trunk })
    list_read search same explore empty list items all trunk read =
        let got = keys_gave p.trunk (map choices_of trunk.items) read in
        let settled : path_data s explores [] ≡ path_data (settings search) search.explores [] = ap₂ (λ t x. path_data t x []) (sym same) (sym explore) in
        record {
          value = has_parts ∙ ap (λ l. list_shape (codes "parts") l p.runs p.search p.trunk 2) items
              ∙ ap (λ x. list_shape (codes "parts") (map item_data list.items) p.runs x p.trunk 2) (empty ∙ settled)
              ∙ ap (λ l. list_shape (codes "parts") (map item_data list.items) p.runs (path_data (settings search) search.explores []) l 2) (got.0 ∙ keys_data trunk.items);
          true_parts = record { search = same; exploring = explore; parts = all; options = got.1 };
        }

  -- ---- refusals

  module _ (q : Parts) (h : IsListOf s explores d q) where
    pub same_list : (xs : List Data) (r : ℕ) (search : Data) (ts : List Data) → HasParts d xs r search ts
        → listed (codes "parts") xs r search ts 2 ≡ listed (codes "parts") (map item_data q.list.items) q.runs (path_data (settings q.search) q.search.explores []) (map key_data q.trunk.items) 2
    same_list xs r search ts is =
        list-same (codes "parts") (codes "parts") xs (map item_data q.list.items) r q.runs search (path_data (settings q.search) q.search.explores []) ts (map key_data q.trunk.items) 2 2 (sym is ∙ h.value)

    settled : path_data (settings q.search) q.search.explores [] ≡ path_data s explores []
    settled = ap₂ (λ t x. path_data t x []) h.true_parts.search h.true_parts.exploring

    search_of : (xs : List Data) (r : ℕ) (search : Data) (ts : List Data) → HasParts d xs r search ts → IsPathOf s explores search []
    search_of xs r search ts is = record { value = ap (λ (l : Listed). l.search) (same_list xs r search ts is) ∙ settled; fits = omega arith; well_formed = tt }

    none_there : (xs : List Data) (r : ℕ) (search : Data) (ts : List Data) (e : PartsError) → HasParts d xs r search ts → IsRefusedThere s explores xs e → ¬ IsMemory e → ⊥
    none_there xs r search ts e is why other =
        let of = among_items s explores why.0 q.list.items (subst (IsAmong why.0) (ap (λ (l : Listed). l.parts) (same_list xs r search ts is)) why.1) h.true_parts.parts in
        refused-no_item s explores why.0 e why.2 other of.0 of.1

    has_value : HasParts d (map item_data q.list.items) q.runs (path_data (settings q.search) q.search.explores []) (map key_data q.trunk.items)
    has_value = h.value

    pub none_refused : (e : PartsError) → IsRefusedList s explores d e → ¬ IsMemory e → ⊥
    none_refused NotJson why other = why
    none_refused WrongFormat why other =
        why (ap format_of h.value ∙ list_format (codes "parts") (map item_data q.list.items) q.runs (path_data (settings q.search) q.search.explores []) (map key_data q.trunk.items) 2)
    none_refused (WrongVersion version) why other =
        why.2 (two_versions (version_of d) version 2
        (ap version_of h.value ∙ list_version (codes "parts") (map item_data q.list.items) q.runs (path_data (settings q.search) q.search.explores []) (map key_data q.trunk.items) 2) why.1)
    none_refused WrongShape why other =
        elim (why (map item_data q.list.items) q.runs (path_data (settings q.search) q.search.explores []) (map key_data q.trunk.items) has_value) [
          | inl t ↦ none_there (map item_data q.list.items) q.runs (path_data (settings q.search) q.search.explores []) (map key_data q.trunk.items) WrongShape has_value t other
          | inr t ↦ t.2 (no_nodes t.0 (same_nodes s explores (path_data (settings q.search) q.search.explores []) t.0 [] t.1
              (search_of (map item_data q.list.items) q.runs (path_data (settings q.search) q.search.explores []) (map key_data q.trunk.items) has_value)))
        ]
    none_refused (Path e) why other =
        elim why.5 [
          | inl r ↦ refused-no_path s explores why.2 e r other [] (search_of why.0 why.1 why.2 why.3 why.4)
          | inr t ↦ none_there why.0 why.1 why.2 why.3 (Path e) why.4 t other
        ]
    none_refused (WrongFloor floor) why other = none_there why.0 why.1 why.2 why.3 (WrongFloor floor) why.4 why.5 other
    none_refused BadOption why other =
        why.5 (map choices_of q.trunk.items) h.true_parts.options (ap (λ (l : Listed). l.trunk) (same_list why.0 why.1 why.2 why.3 why.4) ∙ sym (keys_data q.trunk.items))
    none_refused (Memory m) why other = other tt

-- ---- what is read back

pub reread_at : (s : Settings) (explores : Bool) (d : Data) (p q : Parts) → IsListOf s explores d p → IsListOf s explores d q → IsAtToo p q × (q.runs ≡ p.runs)
reread_at s explores d p q a b = (
  λ m made at. (
    at.0,
    subst (λ (l : List Part). Work m made l at.0 (keys q.trunk.items) []) same
        (subst (λ (k : List (List Choice)). Work m made (views p.list.items) at.0 k []) trunk at.1),
  ),
  sym (ap (λ (l : Listed). l.runs) whole),
)
  where
    whole : listed (codes "parts") (map item_data p.list.items) p.runs (path_data (settings p.search) p.search.explores []) (map key_data p.trunk.items) 2
        ≡ listed (codes "parts") (map item_data q.list.items) q.runs (path_data (settings q.search) q.search.explores []) (map key_data q.trunk.items) 2
    whole = same_list s explores d q b (map item_data p.list.items) p.runs (path_data (settings p.search) p.search.explores []) (map key_data p.trunk.items) a.value

    same : views p.list.items ≡ views q.list.items
    same = same_views s explores p.list.items q.list.items [] a.true_parts.parts b.true_parts.parts (ap (λ (l : Listed). l.parts) whole)

    trunk : keys p.trunk.items ≡ keys q.trunk.items
    trunk = same_keys p.trunk.items q.trunk.items [] (same_choices p.trunk.items q.trunk.items a.true_parts.options b.true_parts.options (ap (λ (l : Listed). l.trunk) whole))

of_path : (e : PathError) → IsMemoryOfPath e ⊎ (¬ IsMemoryOfPath e)
of_path path.NotJson = inr (λ m. m)
of_path path.WrongShape = inr (λ m. m)
of_path (path.WrongVersion version) = inr (λ m. m)
of_path (path.OtherSettings setting) = inr (λ m. m)
of_path (path.TooManyNodes count) = inr (λ m. m)
of_path path.BadNode = inr (λ m. m)
of_path (path.Memory a) = inl tt

memory_or_not : (e : PartsError) → IsMemory e ⊎ (¬ IsMemory e)
memory_or_not NotJson = inr (λ m. m)
memory_or_not WrongFormat = inr (λ m. m)
memory_or_not (WrongVersion version) = inr (λ m. m)
memory_or_not WrongShape = inr (λ m. m)
memory_or_not (Path e) = of_path e
memory_or_not (WrongFloor floor) = inr (λ m. m)
memory_or_not BadOption = inr (λ m. m)
memory_or_not (Memory a) = inl tt

-- a list's value is refused for want of memory alone
pub list_again : (s : Settings) (explores : Bool) (d : Data) (p : Parts) → IsListOf s explores d p → (e : PartsError) → (¬ IsMemory e → (q : Parts) → ¬ IsListOf s explores d q) → IsMemory e
list_again s explores d p given e h = elim (memory_or_not e) [ inl m ↦ m | inr n ↦ absurd (h n p given) ]

-- and so is a part's
pub part_again : (s : Settings) (explores : Bool) (d : Data) (p : Kept) → IsPartOf p.path.search p.path.explores d p → p.path.search ≡ s → p.path.explores ≡ explores
    → (e : PartsError) → (¬ IsMemory e → (q : Kept) → ¬ IsPartOf s explores d q) → IsMemory e
part_again s explores d p given a b e h = elim (memory_or_not e) [ inl m ↦ m | inr n ↦ absurd (h n p (there s explores a b)) ]
  where
    there : (t : Settings) (x : Bool) → p.path.search ≡ t → p.path.explores ≡ x → IsPartOf t x d p
    there t x i j = subst (λ (k : Settings). IsPartOf k x d p) i (subst (λ (y : Bool). IsPartOf p.path.search y d p) j given)

pub part_copy : (s : Settings) (explores : Bool) (d : Data) (p q : Kept) → IsPartOf p.path.search p.path.explores d p → p.path.search ≡ s → p.path.explores ≡ explores → IsPartOf s explores d q
    → (AreAlike q.path.nodes p.path.nodes → q.path.nodes ≡ p.path.nodes) → IsCopy p q
part_copy s explores d p q given a b read follow =
    let there : IsPartOf s explores d p = subst (λ (k : Settings). IsPartOf k explores d p) a (subst (λ (y : Bool). IsPartOf p.path.search y d p) b given) in
    let items : item_data q ≡ item_data p = part-same (codes "part") (codes "part") (item_data q) (item_data p) 2 2 (sym read.value ∙ there.value) in
    let same = same_part s explores q p read.true_part there.true_part items in
    let nodes : q.path.nodes ≡ p.path.nodes = follow same.0 in
    (same.1, read.true_part.rests ∙ ap (λ (l : List Node). at_rest s explores l) nodes ∙ sym there.true_part.rests, same.2, same.3)
