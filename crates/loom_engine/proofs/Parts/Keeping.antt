-- Lists of parts, and what an option that is handed out does to them.
use Rattle.std.proofs.Common.{◌≡◌, ◌⊎◌, ◌≤◌, ◌<◌, ℕ, zero, suc, Bool, true, false, List, [], ◌∷◌, ◌++◌, take, drop, remove, length, Some, Vec, refl, ap, ap₂, sym, ◌∙◌, subst, inl, inr, arith, append_assoc}
use Rattle.std.specs.Prelude.{slice_get, slice_index_or}
use Rattle.std.specs.declared.alloc.Global.{Global}
use Rattle.loom_objects.specs.declared.choice.Choice.{Choice}
use Rattle.loom_engine.specs.Walk.Machine.{Machine, is_thread}
use Rattle.loom_engine.specs.Walk.Path.{Pending, Stored, node_at, IsAtRest, choose}
use Rattle.loom_engine.specs.Walk.Lists.{Member}
use Rattle.loom_engine.proofs.Walk.Lists.{node_on}
use Rattle.loom_engine.specs.declared.rt.path.node.Node.{Node}
use Rattle.loom_engine.specs.declared.rt.path.opening.Opening.{Opening}
use Rattle.loom_engine.specs.declared.rt.parts.Part.{Part as Kept}
use Rattle.loom_engine.specs.Path.Nodes.{seen, stored}
use Rattle.loom_engine.specs.Parts.Cuts.{Part, IsIn, IsBelow, AreTaken, AreOpen, IsWithout}
use Rattle.loom_engine.specs.Parts.Floors.{branch_off, end_with}
use Rattle.loom_engine.specs.Parts.Works.{Work, turn, raise, hand_out, hand_out_value, drop_note}
use Rattle.loom_engine.specs.Covering.Spread.{Spread}
use Rattle.loom_engine.specs.Covering.Spread as spread
use Rattle.loom_engine.specs.Parts.Openings.{chosen_to, key_at, Opens, EachOpening}
use Rattle.loom_engine.specs.Parts.Keeping.{part_of, views_onto, views, keys_onto, keys, Stands}

pub views_snoc : (xs : List Kept) (x : Kept) (later : List Part) → views_onto (xs ++ x ∷ []) later ≡ part_of x ∷ views_onto xs later
views_snoc [] x later = refl
views_snoc (y ∷ xs) x later = views_snoc xs x (part_of y ∷ later)

pub views_join : (xs : List Kept) (later : List Part) → views_onto xs later ≡ views xs ++ later
views_join [] later = refl
views_join (y ∷ xs) later =
    views_join xs (part_of y ∷ later) ∙ sym (append_assoc (views xs) (part_of y ∷ []) later) ∙ ap (λ t. t ++ later) (sym (views_join xs (part_of y ∷ [])))

pub keys_snoc : (ts : List (Vec Choice Global)) (k : Vec Choice Global) (later : List (List Choice)) → keys_onto (ts ++ k ∷ []) later ≡ k.items ∷ keys_onto ts later
keys_snoc [] k later = refl
keys_snoc (t ∷ ts) k later = keys_snoc ts k (t.items ∷ later)

-- one part among the others, the last ones first
pub record Among (xs : List Kept) (i : ℕ) (x : Kept) (later : List Part) : Type 0 where
  pub front : List Part
  pub back : List Part
  pub whole : views_onto xs later ≡ front ++ part_of x ∷ back
  pub without : views_onto (remove xs i) later ≡ front ++ back

pub among : (xs : List Kept) (i : ℕ) (x : Kept) (later : List Part) → slice_get xs i ≡ Some x → Among xs i x later
among [] i x later h = absurd (cc h)
among (y ∷ xs) zero x later h =
    let e : y ≡ x = cc h in
    record {
      front = views xs;
      back = later;
      whole = views_join xs (part_of y ∷ later) ∙ ap (λ t. views xs ++ part_of t ∷ later) e;
      without = views_join xs later;
    }
among (y ∷ xs) (suc i) x later h = let z = among xs i x (part_of y ∷ later) h in record { front = z.front; back = z.back; whole = z.whole; without = z.without }

-- What the steps of a list keep by which no run is made, whoever makes the runs.
pub record AreSteps (P : List Part → List Part → List (List Choice) → List (List Choice) → Type 0) : Type 0 where
  pub turns : (front back : List Part) (q : Part) (spent : List Part) (issued notes : List (List Choice)) → P (front ++ q ∷ back) spent issued notes → P (q ∷ front ++ back) spent issued notes
  pub raises : (b : List Choice) (p : List Stored) (n : Stored) (parts spent : List Part) (issued notes taken open_ones : List (List Choice)) → P (record { base = b; path = p } ∷ parts) spent issued notes
      → node_at p b ≡ Some n → AreTaken b n taken → AreOpen b n open_ones → P (record { base = b ++ n.present ∷ []; path = p } ∷ parts) spent (taken ++ issued) (open_ones ++ notes)
  pub hands : (source : Part) (before : List Choice) (n : Stored) (o : Choice) (parts spent : List Part) (issued notes less : List (List Choice)) → P parts spent issued notes
      → IsIn source parts ⊎ IsIn source spent → IsBelow before source.base → node_at source.path before ≡ Some n → n.made.exploring ≡ true → n.status o ≡ Pending → Member (before ++ o ∷ []) notes
      → (Member (before ++ o ∷ []) issued → ⊥) → IsWithout (before ++ o ∷ []) notes less
      → P (record { base = before ++ o ∷ []; path = branch_off (length before) o source.path } ∷ parts) spent ((before ++ o ∷ []) ∷ issued) less
  pub hands_value : (source : Part) (before : List Choice) (n next : Stored) (parts spent : List Part) (issued notes less : List (List Choice)) → P parts spent issued notes
      → IsIn source parts ⊎ IsIn source spent → IsBelow before source.base → node_at source.path before ≡ Some n → is_thread n.made.default ≡ false → next.made ≡ n.made → IsAtRest next
      → Member (before ++ next.present ∷ []) notes → (Member (before ++ next.present ∷ []) issued → ⊥) → IsWithout (before ++ next.present ∷ []) notes less
      → P (record { base = before ++ next.present ∷ []; path = end_with (length before) next source.path } ∷ parts) spent ((before ++ next.present ∷ []) ∷ issued) less
  pub drops : (k : List Choice) (parts spent : List Part) (issued notes less : List (List Choice)) → P parts spent issued notes → Member k issued → IsWithout k notes less → P parts spent issued less

-- one machine makes them
pub work_steps : (m : Machine) (made : List (List Choice)) → AreSteps (Work m made)
work_steps m made = record {
  turns = λ front back q spent issued notes s. turn made front back q spent issued notes s;
  raises = λ b p n parts spent issued notes taken open_ones s at t u. raise made b p n parts spent issued notes taken open_ones s at t u;
  hands = λ source before n o parts spent issued notes less s is low at ex pe i unissued without. hand_out made source before n o parts spent issued notes less s is low at ex pe i unissued without;
  hands_value = λ source before n next parts spent issued notes less s is low at value same rest i unissued without. hand_out_value made source before n next parts spent issued notes less s is low at value same rest i unissued without;
  drops = λ k parts spent issued notes less s i without. drop_note made k parts spent issued notes less s i without;
}

-- or each is made in its own way
pub spread_steps : (m : Machine) (left : List (List Stored)) → AreSteps (Spread m left)
spread_steps m left = record {
  turns = λ front back q spent issued notes s. spread.turn left front back q spent issued notes s;
  raises = λ b p n parts spent issued notes taken open_ones s at t u. spread.raise left b p n parts spent issued notes taken open_ones s at t u;
  hands = λ source before n o parts spent issued notes less s is low at ex pe i unissued without. spread.hand_out left source before n o parts spent issued notes less s is low at ex pe i unissued without;
  hands_value = λ source before n next parts spent issued notes less s is low at value same rest i unissued without. spread.hand_out_value left source before n next parts spent issued notes less s is low at value same rest i unissued without;
  drops = λ k parts spent issued notes less s i without. spread.drop_note left k parts spent issued notes less s i without;
}

-- the first parts go behind others
pub behind : (P : List Part → List Part → List (List Choice) → List (List Choice) → Type 0) (steps : AreSteps P) (out pre rest spent : List Part) (issued notes : List (List Choice)) → P (pre ++ (out ++ rest)) spent issued notes
    → P (out ++ (pre ++ rest)) spent issued notes
behind P steps [] pre rest spent issued notes s = s
behind P steps (o ∷ out) pre rest spent issued notes s =
    let moved = behind P steps out (pre ++ o ∷ []) rest spent issued notes (subst (λ t. P t spent issued notes) (sym (append_assoc pre (o ∷ []) (out ++ rest))) s) in
    let split : out ++ ((pre ++ o ∷ []) ++ rest) ≡ (out ++ pre) ++ o ∷ rest = ap (λ t. out ++ t) (append_assoc pre (o ∷ []) rest) ∙ sym (append_assoc out pre (o ∷ rest)) in
    subst (λ t. P t spent issued notes) (ap (λ t. o ∷ t) (append_assoc out pre rest))
    (steps.turns (out ++ pre) rest o spent issued notes (subst (λ t. P t spent issued notes) split moved))

-- ---- the nodes

pub stands_at : (p : List Node) (k : ℕ) (n : Node) → slice_get p k ≡ Some n → (node_at (stored p) (chosen_to k p) ≡ Some (seen n)) × (length (chosen_to k p) ≡ k)
unfolding node_at
stands_at [] k n h = absurd (cc h)
stands_at (x ∷ p) zero n h = let e : x ≡ n = cc h in (ap (λ y. Some (seen y)) e, refl)
stands_at (x ∷ p) (suc k) n h = let z = stands_at p k n h in (node_on (seen x) (stored p) (seen x).present (chosen_to k p) refl ∙ z.0, ap suc z.1)

pub branched : (nodes : List Node) (k : ℕ) (n later : Node) → slice_get nodes k ≡ Some n → stored (take k nodes ++ later ∷ []) ≡ end_with k (seen later) (stored nodes)
branched [] k n later h = absurd (cc h)
branched (x ∷ nodes) zero n later h = refl
branched (x ∷ nodes) (suc k) n later h = ap (λ t. seen x ∷ t) (branched nodes k n later h)

-- a node that has just changed its choice is at the end
pub chosen_end : (nodes : List Node) (k : ℕ) (n : Node) (o : Choice) → slice_get nodes k ≡ Some n → branch_off k o (stored nodes) ≡ end_with k (choose (seen n) o) (stored nodes)
chosen_end [] k n o h = absurd (cc h)
chosen_end (x ∷ nodes) zero n o h = let e : x ≡ n = cc h in ap (λ (y : Node). choose (seen y) o ∷ []) e
chosen_end (x ∷ nodes) (suc k) n o h = ap (λ t. seen x ∷ t) (chosen_end nodes k n o h)

in_out : (q : Part) (out rest : List Part) → IsIn q out → IsIn q (out ++ rest)
in_out q [] rest h = absurd h
in_out q (x ∷ out) rest h = elim h [ inl e ↦ inl e | inr i ↦ inr (in_out q out rest i) ]

-- ---- an option that wasn't handed out becomes a part

module _ (ps : List Kept) (ts : List (Vec Choice Global)) (nodes : List Node) (opening : Opening) (n : Node) (at : slice_get nodes opening.place ≡ Some n) (opens : Opens n opening.node) where
  -- the part that it becomes
  abbrev new_part : Part → Part
  new_part source = record { base = key_at nodes opening; path = end_with (length (chosen_to opening.place nodes)) (seen opening.node) source.path }

  handed : (P : List Part → List Part → List (List Choice) → List (List Choice) → Type 0) (steps : AreSteps P) (out spent : List Part) (source : Part) (notes less : List (List Choice)) → P (out ++ views ps) spent (keys ts) notes
      → Stands out spent nodes source → IsBelow (chosen_to opening.place nodes) source.base → Member (key_at nodes opening) notes → (Member (key_at nodes opening) (keys ts) → ⊥)
      → IsWithout (key_at nodes opening) notes less → P (new_part source ∷ out ++ views ps) spent (key_at nodes opening ∷ keys ts) less
  handed P steps out spent source notes less s stands low member unissued without = go (is_thread (seen n).made.default) refl
    where
      z : (node_at (stored nodes) (chosen_to opening.place nodes) ≡ Some (seen n)) × (length (chosen_to opening.place nodes) ≡ opening.place)
      z = stands_at nodes opening.place n at

      known : IsIn source (out ++ views ps) ⊎ IsIn source spent
      known = elim stands.known [ inl i ↦ inl (in_out source out (views ps) i) | inr i ↦ inr i ]

      there : node_at source.path (chosen_to opening.place nodes) ≡ Some (seen n)
      there = ap (λ t. node_at t (chosen_to opening.place nodes)) stands.path ∙ z.0

      same_end : is_thread (seen n).made.default ≡ true → branch_off (length (chosen_to opening.place nodes)) (seen opening.node).present source.path
          ≡ end_with (length (chosen_to opening.place nodes)) (seen opening.node) source.path
      same_end t =
          ap₂ (λ (k : ℕ) (p : List Stored). branch_off k (seen opening.node).present p) z.1 stands.path ∙ chosen_end nodes opening.place n (seen opening.node).present at
          ∙ ap (λ (x : Stored). end_with opening.place x (stored nodes)) (sym (opens.schedule t))
          ∙ ap₂ (λ (k : ℕ) (p : List Stored). end_with k (seen opening.node) p) (sym z.1) (sym stands.path)

      go : (b : Bool) → is_thread (seen n).made.default ≡ b
          → P (record { base = key_at nodes opening; path = end_with (length (chosen_to opening.place nodes)) (seen opening.node) source.path } ∷ out ++ views ps) spent (key_at nodes opening ∷ keys ts) less
      go true t =
          subst (λ (p : List Stored). P (record { base = key_at nodes opening; path = p } ∷ out ++ views ps) spent (key_at nodes opening ∷ keys ts) less) (same_end t)
          (steps.hands source (chosen_to opening.place nodes) (seen n) (seen opening.node).present (out ++ views ps) spent (keys ts) notes less s known low there opens.gone_on.opened.0 opens.gone_on.opened.1
          member unissued without)
      go false t =
          steps.hands_value source (chosen_to opening.place nodes) (seen n) (seen opening.node) (out ++ views ps) spent (keys ts) notes less s known low there t opens.gone_on.made opens.gone_on.rests
          member unissued without

  pub hand_new : (x : Kept) (k : Vec Choice Global) → x.base.items ≡ key_at nodes opening → x.path.nodes ≡ take opening.place nodes ++ opening.node ∷ [] → k.items ≡ key_at nodes opening
      → (Member (key_at nodes opening) (keys ts) → ⊥)
      → (P : List Part → List Part → List (List Choice) → List (List Choice) → Type 0) (steps : AreSteps P) (out spent : List Part) (source : Part) (notes less : List (List Choice)) → P (out ++ views ps) spent (keys ts) notes
      → Stands out spent nodes source → IsBelow (chosen_to opening.place nodes) source.base → Member (key_at nodes opening) notes → IsWithout (key_at nodes opening) notes less
      → P (out ++ views (ps ++ x ∷ [])) spent (keys (ts ++ k ∷ [])) less
  hand_new x k base path key unissued P steps out spent source notes less s stands low member without =
      subst (λ t. P (out ++ views (ps ++ x ∷ [])) spent t less) (ap (λ t. t ∷ keys ts) (sym key) ∙ sym (keys_snoc ts k []))
      (subst (λ t. P (out ++ t) spent (key_at nodes opening ∷ keys ts) less) (sym (views_snoc ps x []))
      (behind P steps out (part_of x ∷ []) (views ps) spent (key_at nodes opening ∷ keys ts) less
      (subst (λ t. P (t ∷ out ++ views ps) spent (key_at nodes opening ∷ keys ts) less) (sym same_part)
      (handed P steps out spent source notes less s stands low member unissued without))))
    where
      long : length (chosen_to opening.place nodes) ≡ opening.place
      long = (stands_at nodes opening.place n at).1

      same_part : part_of x ≡ record { base = key_at nodes opening; path = end_with (length (chosen_to opening.place nodes)) (seen opening.node) source.path }
      same_part =
          ap₂ (λ (b : List Choice) (p : List Stored). record { base = b; path = p }) base
          (ap stored path ∙ branched nodes opening.place n opening.node at ∙ ap₂ (λ (j : ℕ) (p : List Stored). end_with j (seen opening.node) p) (sym long) (sym stands.path))

-- a note of what was handed out is done with
pub hand_old : (ps : List Kept) (ts : List (Vec Choice Global)) (nodes : List Node) (opening : Opening) (k : List Choice) → k ≡ key_at nodes opening → Member k (keys ts)
    → (P : List Part → List Part → List (List Choice) → List (List Choice) → Type 0) (steps : AreSteps P) (out spent : List Part) (source : Part) (notes less : List (List Choice)) → P (out ++ views ps) spent (keys ts) notes
    → Stands out spent nodes source → IsBelow (chosen_to opening.place nodes) source.base → Member (key_at nodes opening) notes → IsWithout (key_at nodes opening) notes less
    → P (out ++ views ps) spent (keys ts) less
hand_old ps ts nodes opening k e i P steps out spent source notes less s stands low member without =
    steps.drops (key_at nodes opening) (out ++ views ps) spent (keys ts) notes less s (subst (λ t. Member t (keys ts)) e i) without

-- ---- what was handed out

-- none of these options is the key
abbrev pub NoneIs : List Choice → List (Vec Choice Global) → Type 0
NoneIs key [] = Unit {0}
NoneIs key (v ∷ trunk) = (v.items ≡ key → ⊥) × NoneIs key trunk

pub none_more : (key : List Choice) (xs : List (Vec Choice Global)) (k : ℕ) (v : Vec Choice Global) → v ≡ slice_index_or xs k v → k < length xs → (v.items ≡ key → ⊥) → NoneIs key (take k xs)
    → NoneIs key (take (suc k) xs)
none_more key [] k v e l f h = tt
none_more key (x ∷ xs) zero v e l f h = ((λ g. f (ap (λ (y : Vec Choice Global). y.items) e ∙ g)), tt)
none_more key (x ∷ xs) (suc k) v e l f h = (h.0, none_more key xs k v e (omega arith) f h.1)

later_keys : (key : List Choice) (xs : List (Vec Choice Global)) (later : List (List Choice)) → Member key later → Member key (keys_onto xs later)
later_keys key [] later h = h
later_keys key (x ∷ xs) later h = later_keys key xs (x.items ∷ later) (inr h)

pub in_keys : (key : List Choice) (xs : List (Vec Choice Global)) (k : ℕ) (v : Vec Choice Global) (later : List (List Choice)) → v ≡ slice_index_or xs k v → k < length xs → v.items ≡ key
    → Member key (keys_onto xs later)
in_keys key [] k v later e l f = absurd (omega arith)
in_keys key (x ∷ xs) zero v later e l f = later_keys key xs (x.items ∷ later) (inl (sym f ∙ ap (λ (y : Vec Choice Global). y.items) e))
in_keys key (x ∷ xs) (suc k) v later e l f = in_keys key xs k v (x.items ∷ later) e (omega arith) f

pub not_in_keys : (key : List Choice) (xs : List (Vec Choice Global)) (k : ℕ) (later : List (List Choice)) → NoneIs key (take k xs) → length xs ≤ k → (Member key later → ⊥) → Member key (keys_onto xs later) → ⊥
not_in_keys key [] k later h l f i = f i
not_in_keys key (x ∷ xs) zero later h l f i = absurd (omega arith)
not_in_keys key (x ∷ xs) (suc k) later h l f i = not_in_keys key xs k (x.items ∷ later) h.1 (omega arith) (λ g. elim g [ inl e ↦ h.0 (sym e) | inr j ↦ f j ]) i

-- ---- the list at its beginning and at its end

pub first_views : (xs : List Kept) (x : Kept) → xs ≡ x ∷ [] → x.base.items ≡ [] → x.path.nodes ≡ [] → views xs ≡ record { base = []; path = [] } ∷ []
first_views xs x e f g = ap views e ∙ ap₂ (λ (b : List Choice) (p : List Node). record { base = b; path = stored p } ∷ []) f g

pub no_views : (xs : List Kept) → length xs ≡ 0 → views xs ≡ []
no_views [] h = refl
no_views (x ∷ xs) h = absurd (omega arith)

pub no_parts : (xs : List Kept) → length xs ≡ 0 → xs ≡ []
no_parts [] h = refl
no_parts (x ∷ xs) h = absurd (omega arith)

-- ---- lists of openings

pub each_or : (P : Opening → Type 0) (list : List Opening) (k : ℕ) (d : Opening) → k < length list → EachOpening P list → P (slice_index_or list k d)
each_or P [] k d l e = absurd (omega arith)
each_or P (x ∷ list) zero d l e = e.0
each_or P (x ∷ list) (suc k) d l e = each_or P list k d (omega arith) e.1

pub drop_or : {A : Type 0} (list : List A) (k : ℕ) (d : A) → k < length list → drop k list ≡ slice_index_or list k d ∷ drop (suc k) list
drop_or [] k d l = absurd (omega arith)
drop_or (x ∷ list) zero d l = refl
drop_or (x ∷ list) (suc k) d l = drop_or list k d (omega arith)

pub drop_all : {A : Type 0} (list : List A) (k : ℕ) → length list ≤ k → drop k list ≡ []
drop_all [] zero l = refl
drop_all [] (suc k) l = refl
drop_all (x ∷ list) zero l = absurd (omega arith)
drop_all (x ∷ list) (suc k) l = drop_all list k (omega arith)

pub stands_or : {A : Type 0} (xs : List A) (k : ℕ) (x d : A) → slice_get xs k ≡ Some x → slice_index_or xs k d ≡ x
stands_or [] k x d h = absurd (cc h)
stands_or (y ∷ xs) zero x d h = cc h
stands_or (y ∷ xs) (suc k) x d h = stands_or xs k x d h

pub got_or : {A : Type 0} (xs : List A) (k : ℕ) (d : A) → k < length xs → slice_get xs k ≡ Some (slice_index_or xs k d)
got_or [] k d l = absurd (omega arith)
got_or (x ∷ xs) zero d l = refl
got_or (x ∷ xs) (suc k) d l = got_or xs k d (omega arith)

pub within_list : {A : Type 0} (xs : List A) (k : ℕ) (x : A) → slice_get xs k ≡ Some x → k < length xs
within_list [] k x h = absurd (cc h)
within_list (y ∷ xs) zero x h = omega arith
within_list (y ∷ xs) (suc k) x h = let i = within_list xs k x h in omega (arith, i)
