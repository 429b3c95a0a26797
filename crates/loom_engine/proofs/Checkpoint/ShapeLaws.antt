-- The whole value: what is read was written, and a refused value is no path's.
use Rattle.std.proofs.Common.{◌≡◌, ◌≢◌, ℕ, ◌≤◌, Bool, if◌then◌else◌, codes, List, [], ◌∷◌, length, map, Option, Some, None, ◌⊎◌, inl, inr, refl, sym, ap, ap₂, ◌∙◌, subst, arith}
use Rattle.std.proofs.lemmas.List.{length-map}
use Rattle.serde_json.specs.Data.{Data, boolean, string, object, Members, member}
use Rattle.serde_json.specs.Find.{as_bool, as_str, as_object}
use Rattle.loom_engine.specs.declared.rt.path.node.Node.{Node}
use Rattle.loom_engine.specs.Trees.Meeting.{Settings}
use Rattle.loom_engine.specs.Path.WellFormed.{IsWellFormed, AreWellFormed, bare, AreAlike}
use Rattle.loom_engine.specs.declared.rt.path.node.Node.TheVariants.{Schedule, Load, Spurious}
use Rattle.loom_engine.specs.declared.rt.path.checkpoint.error.PathError.{PathError}
use Rattle.loom_engine.specs.declared.rt.path.checkpoint.error.PathError.TheVariants.{NotJson, WrongShape, WrongVersion, OtherSettings, TooManyNodes, BadNode, Memory}
use Rattle.loom_engine.specs.Checkpoint.Grammar.{whole, whole_or_null, list_data, order_rule, node_data, shape_data, path_data}
use Rattle.loom_engine.specs.declared.rt.path.checkpoint.error.Setting.{Setting}
use Rattle.loom_engine.specs.declared.rt.path.checkpoint.error.Setting.TheVariants.{Order, Reduce, PreemptionBound, Exploring}
use Rattle.loom_engine.specs.Checkpoint.Accepted.{DiffersIn, IsPathOf, version_of, HasNodes, IsRefused, IsMemory}
use Rattle.loom_engine.specs.Checkpoint.Reader.{each, as_whole, as_list, as_whole_or_null, ends, taken, Shape, shape_of, node_of}
use Rattle.loom_engine.proofs.Checkpoint.Lists.{list_of-items_of}
use Rattle.loom_engine.proofs.Checkpoint.Chains.{with_step, with_map, test_passed}
use Rattle.loom_engine.proofs.Checkpoint.Inverse.{each-gave, with_taken, as_bool-gave, as_whole-gave, as_str-gave, as_list-gave, as_object-gave, as_whole_or_null-gave, as_whole_or_null-of, ends-gave}
use Rattle.loom_engine.proofs.Checkpoint.NodeLaws.{node_of-of, node_of-gave}

abbrev pub shape : Bool → List Data → List ℕ → Option ℕ → Bool → ℕ → Shape
shape exploring nodes order bound reduce version = record { exploring = exploring; nodes = nodes; order = order; preemption_bound = bound; reduce = reduce; version = version }

pub shape_of-of : (e : Bool) (nodes : List Data) (o : List ℕ) (b : Option ℕ) (r : Bool) (v : ℕ) → shape_of (shape_data e nodes o b r v) ≡ Some (shape e nodes o b r v)
unfolding shape_of shape_data taken
shape_of-of e nodes o b r v = rw (list_of-items_of nodes, as_whole_or_null-of b) refl

pub version_of-of : (e : Bool) (nodes : List Data) (o : List ℕ) (b : Option ℕ) (r : Bool) (v : ℕ) → version_of (shape_data e nodes o b r v) ≡ Some v
unfolding shape_data
version_of-of e nodes o b r v = refl

shape_is : (d : Data) (ms m1 m2 m3 m4 m5 m6 : Members) (e : Bool) (nodes : List Data) (o : List ℕ) (b : Option ℕ) (r : Bool) (v : ℕ) (p : Shape)
    → d ≡ object ms → ms ≡ member (codes "exploring") (boolean e) m1 → m1 ≡ member (codes "nodes") (list_data nodes) m2 → m2 ≡ member (codes "order") (string o) m3
    → m3 ≡ member (codes "preemption_bound") (whole_or_null b) m4 → m4 ≡ member (codes "reduce") (boolean r) m5 → m5 ≡ member (codes "version") (whole v) m6
    → (if ends m6 then Some (shape e nodes o b r v) else None) ≡ Some p → d ≡ shape_data p.exploring p.nodes p.order p.preemption_bound p.reduce p.version
unfolding shape_data
shape_is d ms m1 m2 m3 m4 m5 m6 e nodes o b r v p is0 is1 is2 is3 is4 is5 is6 passed =
    let t = test_passed _ (shape e nodes o b r v) p passed in
    let whole' : d ≡ shape_data e nodes o b r v = rw (is0, is1, is2, is3, is4, is5, is6, ends-gave m6 t.0) refl in
    whole' ∙ ap (λ q. shape_data q.exploring q.nodes q.order q.preemption_bound q.reduce q.version) t.1

pub shape_of-gave : (d : Data) (p : Shape) → shape_of d ≡ Some p → d ≡ shape_data p.exploring p.nodes p.order p.preemption_bound p.reduce p.version
unfolding shape_of
shape_of-gave d p e =
    with_step (as_object d) _ p e (λ ms is e0.
    with_taken as_bool boolean as_bool-gave (codes "exploring") ms _ p e0 (λ exploring m1 is1 e1.
    with_taken as_list list_data as_list-gave (codes "nodes") m1 _ p e1 (λ nodes m2 is2 e2.
    with_taken as_str string as_str-gave (codes "order") m2 _ p e2 (λ order m3 is3 e3.
    with_taken as_whole_or_null whole_or_null as_whole_or_null-gave (codes "preemption_bound") m3 _ p e3 (λ bound m4 is4 e4.
    with_taken as_bool boolean as_bool-gave (codes "reduce") m4 _ p e4 (λ reduce m5 is5 e5.
    with_taken as_whole whole as_whole-gave (codes "version") m5 _ p e5 (λ version m6 is6 e6.
    shape_is d ms m1 m2 m3 m4 m5 m6 exploring nodes order bound reduce version p (as_object-gave d ms is) is1 is2 is3 is4 is5 is6 e6)))))))

some_same : {A : Type 0} (p q : A) → Some p ≡ Some q → p ≡ q
some_same p q e = cc

-- the parts of a value are its own
pub shape-same : (e f : Bool) (xs ys : List Data) (o u : List ℕ) (b c : Option ℕ) (r s : Bool) (v w : ℕ)
    → shape_data e xs o b r v ≡ shape_data f ys u c s w → shape e xs o b r v ≡ shape f ys u c s w
shape-same e f xs ys o u b c r s v w same = some_same _ _ (sym (shape_of-of e xs o b r v) ∙ ap shape_of same ∙ shape_of-of f ys u c s w)

two_versions : (o : Option ℕ) (v : ℕ) → o ≡ Some 2 → o ≡ Some v → v ≡ 2
two_versions o v e f = cc

no_version : (o : Option ℕ) → o ≡ Some 2 → o ≡ None → ⊥
no_version o e f = cc

-- ---- nodes

pub nodes_well : (ds : List Data) (ns : List Node) → each node_of ds ≡ Some ns → AreWellFormed ns
nodes_well [] ns e = let p : [] ≡ ns = cc in subst AreWellFormed p tt
nodes_well (d ∷ ds) ns e =
    with_step (node_of d) _ ns e (λ n is e1.
    with_map (each node_of ds) (λ l. n ∷ l) ns e1 (λ l later same.
    subst AreWellFormed same ((node_of-gave d n is).1, nodes_well ds l later)))

-- what was read notes nothing
pub nodes_bare : (ds : List Data) (ns : List Node) → each node_of ds ≡ Some ns → map bare ns ≡ ns
nodes_bare [] ns e = let p : [] ≡ ns = cc in subst (λ l. map bare l ≡ l) p refl
nodes_bare (d ∷ ds) ns e =
    with_step (node_of d) _ ns e (λ n is e1.
    with_map (each node_of ds) (λ l. n ∷ l) ns e1 (λ l later same.
    subst (λ k. map bare k ≡ k) same (ap₂ (λ (x : Node) (k : List Node). x ∷ k) (node_of-gave d n is).2 (nodes_bare ds l later))))

nodes_gave : (ds : List Data) (ns : List Node) → each node_of ds ≡ Some ns → ds ≡ map node_data ns
nodes_gave ds ns e = each-gave node_of node_data (λ d n h. (node_of-gave d n h).0) ds ns e

pub read_length : (ds : List Data) (ns : List Node) → each node_of ds ≡ Some ns → length ds ≡ length ns
read_length ds ns e = ap length (nodes_gave ds ns e) ∙ length-map ns node_data

nodes_read : (ns : List Node) → AreWellFormed ns → each node_of (map node_data ns) ≡ Some (map bare ns)
nodes_read [] all = refl
nodes_read (n ∷ ns) all = rw (node_of-of n all.0, nodes_read ns all.1) refl

nodes_none : (o : Option (List Node)) (ns : List Node) → o ≡ None → o ≡ Some ns → ⊥
nodes_none o ns e f = cc

nodes_refused : (ds : List Data) → each node_of ds ≡ None → (nodes : List Node) → AreWellFormed nodes → ds ≢ map node_data nodes
nodes_refused ds e nodes all is = nodes_none _ (map bare nodes) e (ap (each node_of) is ∙ nodes_read nodes all)

-- notes aren't written, and nothing else of a node depends on them
data_bare : (n : Node) → node_data (bare n) ≡ node_data n
data_bare (Schedule n) = refl
data_bare (Load n) = refl
data_bare (Spurious n) = refl

formed_bare : (n : Node) → IsWellFormed (bare n) → IsWellFormed n
formed_bare (Schedule n) w = w
formed_bare (Load n) w = w
formed_bare (Spurious n) w = w

bare_formed : (n : Node) → IsWellFormed n → IsWellFormed (bare n)
bare_formed (Schedule n) w = w
bare_formed (Load n) w = w
bare_formed (Spurious n) w = w

datas_bare : (ns : List Node) → map node_data (map bare ns) ≡ map node_data ns
datas_bare [] = refl
datas_bare (n ∷ ns) = ap₂ (λ (x : Data) (l : List Data). x ∷ l) (data_bare n) (datas_bare ns)

all_formed_bare : (ns : List Node) → AreWellFormed (map bare ns) → AreWellFormed ns
all_formed_bare [] w = tt
all_formed_bare (n ∷ ns) w = (formed_bare n w.0, all_formed_bare ns w.1)

all_bare_formed : (ns : List Node) → AreWellFormed ns → AreWellFormed (map bare ns)
all_bare_formed [] w = tt
all_bare_formed (n ∷ ns) w = (bare_formed n w.0, all_bare_formed ns w.1)

alike_data : (ns ms : List Node) → AreAlike ns ms → map node_data ns ≡ map node_data ms
alike_data ns ms e = sym (datas_bare ns) ∙ ap (map node_data) e ∙ datas_bare ms

alike_formed : (ns ms : List Node) → AreAlike ns ms → AreWellFormed ms → AreWellFormed ns
alike_formed ns ms e w = all_formed_bare ns (subst AreWellFormed (sym e) (all_bare_formed ms w))

alike_length : (ns ms : List Node) → AreAlike ns ms → length ns ≡ length ms
alike_length ns ms e = sym (length-map ns bare) ∙ ap length e ∙ length-map ms bare

-- ---- settings

-- settings that are the same differ in none
differs_nowhere : (s : Settings) (explores exploring : Bool) (order : List ℕ) (bound : Option ℕ) (reduce : Bool) (setting : Setting) → DiffersIn s explores exploring order bound reduce setting
    → exploring ≡ explores → order ≡ order_rule → bound ≡ s.bound → reduce ≡ s.reduce → ⊥
differs_nowhere s explores exploring order bound reduce Order differs x o b r = differs o
differs_nowhere s explores exploring order bound reduce Reduce differs x o b r = differs.1 r
differs_nowhere s explores exploring order bound reduce PreemptionBound differs x o b r = differs.2 b
differs_nowhere s explores exploring order bound reduce Exploring differs x o b r = differs.3 x

-- ---- a value and the nodes that it is of

module _ (s : Settings) (explores : Bool) where
  path_shape : (nodes : List Node) → path_data s explores nodes ≡ shape_data explores (map node_data nodes) order_rule s.bound s.reduce 2
  unfolding path_data
  path_shape nodes = refl

  module _ (d : Data) where
    has_nodes : (items : List Data) (nodes : List Node) → d ≡ path_data s explores nodes → HasNodes s explores d items → items ≡ map node_data nodes
    has_nodes items nodes is has =
        ap (λ p. p.nodes) (shape-same explores explores items (map node_data nodes) order_rule order_rule s.bound s.bound s.reduce s.reduce 2 2 (sym has ∙ is ∙ path_shape nodes))

    version_is : (nodes : List Node) → d ≡ path_data s explores nodes → version_of d ≡ Some 2
    version_is nodes is = ap version_of (is ∙ path_shape nodes) ∙ version_of-of explores (map node_data nodes) order_rule s.bound s.reduce 2

    -- ---- refusals

    pub refused-no_path : (e : PathError) → IsRefused s explores d e → ¬ IsMemory e → (nodes : List Node) → ¬ IsPathOf s explores d nodes
    refused-no_path NotJson why other nodes path = why
    refused-no_path WrongShape why other nodes path =
        elim why [
          | inl h ↦ no_version (version_of d) (version_is nodes path.value) h
          | inr h ↦ h.1 explores (map node_data nodes) order_rule s.bound s.reduce 2 (path.value ∙ path_shape nodes)
        ]
    refused-no_path (WrongVersion version) why other nodes path = why.1 (two_versions (version_of d) version (version_is nodes path.value) why.0)
    refused-no_path (OtherSettings setting) why other nodes path =
        let same = shape-same why.0 explores why.1 (map node_data nodes) why.2 order_rule why.3 s.bound why.4 s.reduce 2 2 (sym why.5 ∙ path.value ∙ path_shape nodes) in
        differs_nowhere s explores why.0 why.2 why.3 why.4 setting why.6 (ap (λ p. p.exploring) same) (ap (λ p. p.order) same) (ap (λ p. p.preemption_bound) same) (ap (λ p. p.reduce) same)
    refused-no_path (TooManyNodes count) why other nodes path =
        let n : length why.0 ≡ length nodes = ap length (has_nodes why.0 nodes path.value why.1) ∙ length-map nodes node_data in
        omega (arith, path.fits, why.2, why.3)
    refused-no_path BadNode why other nodes path = why.3 nodes path.well_formed (has_nodes why.0 nodes path.value why.1)
    refused-no_path (Memory m) why other nodes path = other tt

    pub with_settings : (p : Shape) → d ≡ shape_data p.exploring p.nodes p.order p.preemption_bound p.reduce 2
        → (p.exploring ≡ explores) × (p.order ≡ order_rule) × (p.preemption_bound ≡ s.bound) × (p.reduce ≡ s.reduce) → HasNodes s explores d p.nodes
    with_settings p is same = is ∙ rw (same.0, same.1, same.2, same.3) refl

    module _ (items : List Data) (has : HasNodes s explores d items) (fits : length items ≤ s.max_branches) where
      -- the nodes were read, and the path has them
      pub read_all : (read nodes : List Node) → each node_of items ≡ Some read → AreAlike nodes read → IsPathOf s explores d nodes
      read_all read nodes e alike =
          let gave = nodes_gave items read e in
          let n : length items ≡ length read = ap length gave ∙ length-map read node_data in
          let m = alike_length nodes read alike in
          record {
            value = has ∙ ap (λ l. shape_data explores l order_rule s.bound s.reduce 2) (gave ∙ sym (alike_data nodes read alike)) ∙ sym (path_shape nodes);
            fits = omega (arith, n, m, fits);
            well_formed = alike_formed nodes read alike (nodes_well items read e);
          }

      pub read_none : each node_of items ≡ None → IsRefused s explores d BadNode
      read_none none = (items, has, fits, nodes_refused items none)

  -- the value tells the nodes, but for their notes
  pub data_alike : (nodes others : List Node) → AreWellFormed nodes → AreWellFormed others → path_data s explores nodes ≡ path_data s explores others → AreAlike nodes others
  data_alike nodes others w v e =
      let same = has_nodes (path_data s explores nodes) (map node_data nodes) others e (path_shape nodes) in
      some_same (map bare nodes) (map bare others) (sym (nodes_read nodes w) ∙ ap (each node_of) same ∙ nodes_read others v)

  pub same_nodes : (d : Data) (nodes others : List Node) → IsPathOf s explores d nodes → IsPathOf s explores d others → AreAlike nodes others
  same_nodes d nodes others a b = data_alike nodes others a.well_formed b.well_formed (sym a.value ∙ b.value)

-- ---- the reader's cases

none_some : (p : Shape) → None ≡ Some p → ⊥
none_some p e = cc

-- a value without the six keys
pub no_shape : (d : Data) → shape_of d ≡ None → (exploring : Bool) (nodes : List Data) (order : List ℕ) (bound : Option ℕ) (reduce : Bool) (version : ℕ)
    → d ≢ shape_data exploring nodes order bound reduce version
no_shape d e exploring nodes order bound reduce version is =
    none_some (shape exploring nodes order bound reduce version) (sym e ∙ ap shape_of is ∙ shape_of-of exploring nodes order bound reduce version)

-- a value of shape p, whose version has been read as 2
pub shaped : (d : Data) (p : Shape) → shape_of d ≡ Some p → version_of d ≡ Some 2 → d ≡ shape_data p.exploring p.nodes p.order p.preemption_bound p.reduce 2
shaped d p e two =
    let is = shape_of-gave d p e in
    let v : p.version ≡ 2 = two_versions (version_of d) p.version two (ap version_of is ∙ version_of-of p.exploring p.nodes p.order p.preemption_bound p.reduce p.version) in
    is ∙ ap (shape_data p.exploring p.nodes p.order p.preemption_bound p.reduce) v

pub memory_refused : (s : Settings) (explores : Bool) (d : Data) (e : PathError) → IsMemory e → IsRefused s explores d e
memory_refused s explores d NotJson m = m
memory_refused s explores d WrongShape m = absurd m
memory_refused s explores d (WrongVersion version) m = absurd m
memory_refused s explores d (OtherSettings setting) m = absurd m
memory_refused s explores d (TooManyNodes count) m = absurd m
memory_refused s explores d BadNode m = absurd m
memory_refused s explores d (Memory a) m = tt

memory_or_not : (e : PathError) → IsMemory e ⊎ (¬ IsMemory e)
memory_or_not NotJson = inr (λ m. m)
memory_or_not WrongShape = inr (λ m. m)
memory_or_not (WrongVersion version) = inr (λ m. m)
memory_or_not (OtherSettings setting) = inr (λ m. m)
memory_or_not (TooManyNodes count) = inr (λ m. m)
memory_or_not BadNode = inr (λ m. m)
memory_or_not (Memory a) = inl tt

-- a path's value is refused for want of memory alone
pub only_memory : (s : Settings) (explores : Bool) (d : Data) (nodes : List Node) (e : PathError) → IsPathOf s explores d nodes
    → (¬ IsMemory e → (nodes : List Node) → ¬ IsPathOf s explores d nodes) → IsMemory e
only_memory s explores d nodes e path h = elim (memory_or_not e) [ inl m ↦ m | inr n ↦ absurd (h n nodes path) ]
