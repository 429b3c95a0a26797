-- Ranks of counts: a table of them, one count after another, and what they leave of views.
use Rattle.std.proofs.Common.{zero, suc, ◌≡◌, ℕ, ◌+◌, ◌<◌, ◌≤◌, List, [], ◌∷◌, ◌++◌, length, map, replicate, set, take, take-suc, get_or, option_map, refl, ap, sym, ◌∙◌, arith, subst, ◌⊎◌, inl, inr, ⊎_elim, Option, Some, None}
use Rattle.std.specs.Prelude.{nat_le, slice_get, slice_index}
use Rattle.std.proofs.lemmas.Bool.{cases_eq, le-leb, lt-leb}
use Rattle.std.proofs.lemmas.List.{length_push, length-map, map-set}
use Rattle.std.proofs.lemmas.Option.{slice_get-map, slice_get_read}
use Rattle.loom_views.specs.Limits.{highest_version}
use Rattle.loom_views.specs.Versions.{IsCounted}
use Rattle.loom_views.specs.InOrder.{AreBelow, AreRising, IsRising, PairsAt, PairsVectors, PairsCounts, PairAll, PairsViews, IsInOrder, Ranked, rank_at, rank_of}
use Rattle.loom_views.specs.declared.rt.views.Views.{Views}
use Rattle.loom_views.specs.Lanes.{counts_in}
use Rattle.loom_views.proofs.Atomic.Table.Lists.{get-append_same, get-append_other, get-set_same, get-set_other}
use Rattle.loom_views.proofs.Sight.Shapes.{is_there}

pub none_below : (next : ℕ) → AreBelow next []
none_below next a b e = absurd (cc e)

pub none_rising : AreRising []
none_rising a b c d e f = absurd (cc e)

module _ (ranks : List (Option ℕ)) (more : Option ℕ) where
  old_at : (a : ℕ) (o : Option ℕ) → (a ≡ length ranks → ⊥) → slice_get (ranks ++ more ∷ []) a ≡ Some o → slice_get ranks a ≡ Some o
  old_at a o n e = sym (get-append_other ranks a more n) ∙ e

  new_at : (a : ℕ) (o : Option ℕ) → a ≡ length ranks → slice_get (ranks ++ more ∷ []) a ≡ Some o → more ≡ o
  new_at a o i e = let f : ◌≡◌ {A = Option (Option ℕ)} (Some more) (Some o) = sym (get-append_same ranks a more i) ∙ e in cc f

  -- one more count, which has no rank, or the next one
  pub rising_more : AreRising ranks → ((b : ℕ) → more ≡ Some b → AreBelow b ranks) → AreRising (ranks ++ more ∷ [])
  rising_more rising below a b c d e f = by (cases_eq a (length ranks)) (cases_eq c (length ranks))
    where
      by : ((a ≡ length ranks) ⊎ (a ≡ length ranks → ⊥)) → ((c ≡ length ranks) ⊎ (c ≡ length ranks → ⊥)) → nat_le a c ≡ nat_le b d
      by (inl i) (inl j) =
          let m : more ≡ Some b = new_at a (Some b) i e in
          let n : more ≡ Some d = new_at c (Some d) j f in
          let same : ◌≡◌ {A = Option ℕ} (Some b) (Some d) = sym m ∙ n in
          let equal : b ≡ d = cc same in
          le-leb a c (omega arith) ∙ sym (le-leb b d (omega arith))
      by (inl i) (inr j) =
          let old = old_at c (Some d) j f in
          let there = is_there ranks c (Some d) old in
          let less = below b (new_at a (Some b) i e) c d old in
          lt-leb a c (omega arith) ∙ sym (lt-leb b d (omega arith))
      by (inr i) (inl j) =
          let old = old_at a (Some b) i e in
          let there = is_there ranks a (Some b) old in
          let less = below d (new_at c (Some d) j f) a b old in
          le-leb a c (omega arith) ∙ sym (le-leb b d (omega arith))
      by (inr i) (inr j) = rising a b c d (old_at a (Some b) i e) (old_at c (Some d) j f)

  pub below_more : (next : ℕ) → ((b : ℕ) → more ≡ Some b → b < next) → AreBelow next ranks → AreBelow next (ranks ++ more ∷ [])
  below_more next less below a b e = ⊎_elim (λ i. less b (new_at a (Some b) i e)) (λ i. below a b (old_at a (Some b) i e)) (cases_eq a (length ranks))

-- a count without a rank
pub without_rank : (ranks : List (Option ℕ)) (next : ℕ) → AreRising ranks × AreBelow next ranks → AreRising (ranks ++ None ∷ []) × AreBelow next (ranks ++ None ∷ [])
without_rank ranks next h = (rising_more ranks None h.0 (λ b e. absurd (cc e)), below_more ranks None next (λ b e. absurd (cc e)) h.1)

-- a count with the next one
pub with_rank : (ranks : List (Option ℕ)) (next : ℕ) → AreRising ranks × AreBelow next ranks → AreRising (ranks ++ Some next ∷ []) × AreBelow (next + 1) (ranks ++ Some next ∷ [])
with_rank ranks next h = (
  rising_more ranks (Some next) h.0 (λ b e. let i : next ≡ b = cc e in subst (λ n. AreBelow n ranks) i h.1),
  below_more ranks (Some next) (next + 1) (λ b e. let i : next ≡ b = cc e in omega arith) (λ a b e. let l = h.1 a b e in omega arith),
)

-- ---- the first counts, in a table of fixed size

-- what has a rank stands before this count
abbrev pub StandBefore : ℕ → List (Option ℕ) → Type 0
StandBefore count ranks = (a b : ℕ) → slice_get ranks a ≡ Some (Some b) → a < count

no_rank : (n a b : ℕ) → slice_get (map rank_of (replicate n 65535)) a ≡ Some (Some b) → ⊥
no_rank zero a b e = cc e
no_rank (suc n) zero b e = cc e
no_rank (suc n) (suc a) b e = no_rank n a b e

pub none_first : (next count : ℕ) → AreRising (map rank_of (replicate 64 65535)) × AreBelow next (map rank_of (replicate 64 65535)) × StandBefore count (map rank_of (replicate 64 65535))
none_first next count = (
  (λ a b c d e f. absurd (no_rank 64 a b e)),
  (λ a b e. absurd (no_rank 64 a b e)),
  (λ a b e. absurd (no_rank 64 a b e)),
)

module _ (ranks : List (Option ℕ)) (count next : ℕ) (within : count < length ranks) where
  other_at : (a b : ℕ) → (a ≡ count → ⊥) → slice_get (set ranks count (Some next)) a ≡ Some (Some b) → slice_get ranks a ≡ Some (Some b)
  other_at a b n e = sym (get-set_other ranks count a (Some next) n) ∙ e

  this_at : (a b : ℕ) → a ≡ count → slice_get (set ranks count (Some next)) a ≡ Some (Some b) → next ≡ b
  this_at a b i e = let f : ◌≡◌ {A = Option (Option ℕ)} (Some (Some next)) (Some (Some b)) = sym (get-set_same ranks count (Some next) within) ∙ subst (λ k. slice_get (set ranks count (Some next)) k ≡ Some (Some b)) i e in cc f

  -- the next rank, of a count behind those that have one
  rising_set : AreRising ranks → AreBelow next ranks → StandBefore count ranks → AreRising (set ranks count (Some next))
  rising_set rising below before a b c d e f = by (cases_eq a count) (cases_eq c count)
    where
      by : ((a ≡ count) ⊎ (a ≡ count → ⊥)) → ((c ≡ count) ⊎ (c ≡ count → ⊥)) → nat_le a c ≡ nat_le b d
      by (inl i) (inl j) =
          let m = this_at a b i e in
          let n = this_at c d j f in
          le-leb a c (omega arith) ∙ sym (le-leb b d (omega arith))
      by (inl i) (inr j) =
          let old = other_at c d j f in
          let m = this_at a b i e in
          let there = before c d old in
          let less = below c d old in
          lt-leb a c (omega arith) ∙ sym (lt-leb b d (omega arith))
      by (inr i) (inl j) =
          let old = other_at a b i e in
          let m = this_at c d j f in
          let there = before a b old in
          let less = below a b old in
          le-leb a c (omega arith) ∙ sym (le-leb b d (omega arith))
      by (inr i) (inr j) = rising a b c d (other_at a b i e) (other_at c d j f)

  below_set : AreBelow next ranks → AreBelow (next + 1) (set ranks count (Some next))
  below_set below a b e = ⊎_elim (λ i. let m = this_at a b i e in omega arith) (λ i. let l = below a b (other_at a b i e) in omega arith) (cases_eq a count)

  before_set : StandBefore count ranks → StandBefore (count + 1) (set ranks count (Some next))
  before_set before a b e = ⊎_elim (λ i. omega arith) (λ i. let l = before a b (other_at a b i e) in omega arith) (cases_eq a count)

rank_small : (n : ℕ) → n ≤ highest_version → rank_of n ≡ Some n
rank_small n l = rw (le-leb n highest_version l) refl

-- a step of the loop that ranks the first counts
pub first_next : (ranks more : List ℕ) (count next further : ℕ) → count < length ranks → next ≤ highest_version → more ≡ set ranks count next → count + 1 ≤ further
    → AreRising (map rank_of ranks) → AreBelow next (map rank_of ranks) → StandBefore count (map rank_of ranks)
    → AreRising (map rank_of more) × AreBelow (next + 1) (map rank_of more) × StandBefore further (map rank_of more)
first_next ranks more count next further l small e on rising below before =
    let there : count < length (map rank_of ranks) = omega (arith, length-map {A = ℕ} {B = Option ℕ}) in
    let is : map rank_of more ≡ set (map rank_of ranks) count (Some next) = ap (map rank_of) e ∙ map-set rank_of ranks count next ∙ ap (λ o. set (map rank_of ranks) count o) (rank_small next small) in
    rw is (
      rising_set (map rank_of ranks) count next there rising below before,
      below_set (map rank_of ranks) count next there below,
      (λ a b h. let k = before_set (map rank_of ranks) count next there before a b h in omega arith),
    )

-- of the first counts and those behind them the rank of one
at_first : (xs ys : List (Option ℕ)) (i : ℕ) (o : Option ℕ) → slice_get xs i ≡ Some o → slice_get (xs ++ ys) i ≡ Some o
at_first [] ys i o e = absurd (cc e)
at_first (x ∷ xs) ys zero o e = e
at_first (x ∷ xs) ys (suc i) o e = at_first xs ys i o e

at_further : (xs ys : List (Option ℕ)) (i k : ℕ) (o : Option ℕ) → i ≡ length xs + k → slice_get ys k ≡ Some o → slice_get (xs ++ ys) i ≡ Some o
at_further [] ys i k o e h = subst (λ n. slice_get ys n ≡ Some o) (let j : k ≡ i = omega arith in j) h
at_further (x ∷ xs) ys zero k o e h = absurd (omega arith)
at_further (x ∷ xs) ys (suc i) k o e h = at_further xs ys i k o (omega arith) h

pub rank_first : (first : List ℕ) (further : List (Option ℕ)) (i rank : ℕ) → i < length first → rank ≡ get_or first i rank → rank ≤ highest_version → slice_get (map rank_of first ++ further) i ≡ Some (Some rank)
rank_first first further i rank l is small =
    let here : slice_get (map rank_of first) i ≡ Some (Some rank) = slice_get-map rank_of first i ∙ ap (option_map rank_of) (slice_get_read first (length first) i rank refl l is) ∙ ap Some (rank_small rank small) in
    at_first (map rank_of first) further i (Some rank) here

pub rank_further : (first : List ℕ) (further : List (Option ℕ)) (i k : ℕ) (o : Option ℕ) → i ≡ length first + k → slice_get further k ≡ Some o → slice_get (map rank_of first ++ further) i ≡ Some o
rank_further first further i k o e h = at_further (map rank_of first) further i k o (omega (arith, length-map {A = ℕ} {B = Option ℕ})) h

-- ---- first touches

-- one more of them is by its rank
pub touch_next : (R : ℕ → ℕ → ℕ → Type 0) (vs ws more : List (Option ℕ)) (n : ℕ) (v w : Option ℕ) → n < 5 → ((t : ℕ) → t < n → PairsCounts R t (get_or vs t None) (get_or ws t None)) → v ≡ get_or vs n None → PairsCounts R n v w
    → get_or more n None ≡ w → ((t : ℕ) → t < 5 → (t ≡ n → ⊥) → get_or more t None ≡ get_or ws t None) → (t : ℕ) → t < n + 1 → PairsCounts R t (get_or vs t None) (get_or more t None)
touch_next R vs ws more n v w l so_far at pairs put others t less = ⊎_elim
    (λ e. subst (λ k. PairsCounts R k (get_or vs k None) (get_or more k None)) (sym e) (subst (λ o. PairsCounts R n (get_or vs n None) o) (sym put) (subst (λ o. PairsCounts R n o w) at pairs)))
    (λ d. subst (λ o. PairsCounts R t (get_or vs t None) o) (sym (others t (omega arith) d)) (so_far t (omega arith)))
    (cases_eq t n)

-- one that isn't there stays so
pub touch_none : (R : ℕ → ℕ → ℕ → Type 0) (vs ws : List (Option ℕ)) (n : ℕ) → ((t : ℕ) → t < n → PairsCounts R t (get_or vs t None) (get_or ws t None)) → get_or vs n None ≡ None → get_or ws n None ≡ None
    → (t : ℕ) → t < n + 1 → PairsCounts R t (get_or vs t None) (get_or ws t None)
touch_none R vs ws n so_far none left t less = ⊎_elim
    (λ e. subst (λ k. PairsCounts R k (get_or vs k None) (get_or ws k None)) (sym e) (subst (λ o. PairsCounts R n (get_or vs n None) o) (sym left) (subst (λ o. PairsCounts R n o None) (sym none) tt)))
    (λ d. so_far t (omega arith))
    (cases_eq t n)

-- ---- lists, one beside the other

pub pair_none : {X : Type 0} (R : ℕ → ℕ → ℕ → Type 0) (Pairs : X → X → Type 0) → PairAll R Pairs [] []
pair_none R Pairs = record { count = refl; each = λ n. tt }

pub pair_more : {X : Type 0} (R : ℕ → ℕ → ℕ → Type 0) (Pairs : X → X → Type 0) (vs ws : List X) (v w : X) → PairAll R Pairs vs ws → Pairs v w → PairAll R Pairs (vs ++ v ∷ []) (ws ++ w ∷ [])
pair_more {X} R Pairs vs ws v w h p = record { count = let a = length_push vs v in let b = length_push ws w in let c = h.count in omega arith; each = λ n. at n (cases_eq n (length vs)) }
  where
    at : (n : ℕ) → ((n ≡ length vs) ⊎ (n ≡ length vs → ⊥)) → PairsAt R Pairs (slice_get (vs ++ v ∷ []) n) (slice_get (ws ++ w ∷ []) n)
    at n (inl e) = rw (get-append_same vs n v e, get-append_same ws n w (e ∙ h.count)) p
    at n (inr e) = rw (get-append_other vs n v e, get-append_other ws n w (λ f. e (f ∙ sym h.count))) (h.each n)

-- a step of the loop that ranks a thread's counts
pub rank_next : (xs ys : List (Option ℕ)) (n m : ℕ) → ys ≡ xs ++ Some n ∷ [] → m ≡ n + 1 → AreRising xs × AreBelow n xs → AreRising ys × AreBelow m ys
rank_next xs ys n m e f h = rw (e, f) (with_rank xs n h)

pub rank_none : (xs ys : List (Option ℕ)) (n m : ℕ) → ys ≡ xs ++ None ∷ [] → m ≡ n → AreRising xs × AreBelow n xs → AreRising ys × AreBelow m ys
rank_none xs ys n m e f h = rw (e, f) (without_rank xs n h)

-- one more beside one more
pub pair_next : {X : Type 0} (R : ℕ → ℕ → ℕ → Type 0) (Pairs : X → X → Type 0) (vs ws more : List X) (i : ℕ) (v w : X) → i < length vs → more ≡ ws ++ w ∷ [] → PairAll R Pairs (take i vs) ws → v ≡ get_or vs i v → Pairs v w → PairAll R Pairs (take (i + 1) vs) more
pair_next {X} R Pairs vs ws more i v w l e h at p =
    let n : suc i ≡ i + 1 = omega arith in
    subst (λ (xs : List X). PairAll R Pairs xs more) (sym (take-suc vs i v l) ∙ ap (λ k. take k vs) n) (subst (λ (ys : List X). PairAll R Pairs (take i vs ++ get_or vs i v ∷ []) ys) (sym e) (pair_more R Pairs (take i vs) ws (get_or vs i v) w h (subst (λ x. Pairs x w) at p)))

-- views by ranks are in the order of the views
pub in_order : (ranks : List (List (Option ℕ))) (v w : Views) → IsRising (Ranked ranks) → PairsViews (Ranked ranks) v w → IsInOrder v w
in_order ranks v w rising pairs = record { rank = rank_at ranks; rising = rising; views = pairs }

-- ---- nothing raised

no_count : (t : ℕ) → t < 5 → slice_index (counts_in 0) t ≡ 0
no_count zero l = refl
no_count (suc zero) l = refl
no_count (suc (suc zero)) l = refl
no_count (suc (suc (suc zero))) l = refl
no_count (suc (suc (suc (suc zero)))) l = refl
no_count (suc (suc (suc (suc (suc t))))) l = absurd (omega arith)

-- a vector of zeros is by ranks what it is
pub zeros_themselves : (R : ℕ → ℕ → ℕ → Type 0) (word : ℕ) (counts : List ℕ) → word ≡ 0 → counts ≡ counts_in word → ((t : ℕ) → t < 5 → R t 0 0) → (t : ℕ) → t < 5 → R t (slice_index counts t) (slice_index (counts_in word) t)
zeros_themselves R word counts zero_word is zeros t l =
    let here : slice_index (counts_in word) t ≡ 0 = ap (λ (w : ℕ). slice_index (counts_in w) t) zero_word ∙ no_count t l in
    let there : slice_index counts t ≡ 0 = ap (λ (cs : List ℕ). slice_index cs t) is ∙ here in
    subst (λ (n : ℕ). R t (slice_index counts t) n) (sym here) (subst (λ (n : ℕ). R t n 0) (sym there) (zeros t l))

-- ---- five counts

pub five_counted : (a b c d e : ℕ) → a ≤ highest_version → b ≤ highest_version → c ≤ highest_version → d ≤ highest_version → e ≤ highest_version → IsCounted (a ∷ b ∷ c ∷ d ∷ e ∷ [])
five_counted a b c d e j k l m n zero = j
five_counted a b c d e j k l m n (suc zero) = k
five_counted a b c d e j k l m n (suc (suc zero)) = l
five_counted a b c d e j k l m n (suc (suc (suc zero))) = m
five_counted a b c d e j k l m n (suc (suc (suc (suc zero)))) = n
five_counted a b c d e j k l m n (suc (suc (suc (suc (suc t))))) = omega arith

pub five_ranked : (R : ℕ → ℕ → ℕ → Type 0) (vs ws : List ℕ) (v w x y z a b c d e : ℕ) → ws ≡ a ∷ b ∷ c ∷ d ∷ e ∷ [] → v ≡ slice_index vs 0 → w ≡ slice_index vs 1 → x ≡ slice_index vs 2 → y ≡ slice_index vs 3 → z ≡ slice_index vs 4
    → R 0 v a → R 1 w b → R 2 x c → R 3 y d → R 4 z e → PairsVectors R vs ws
five_ranked R vs ws v w x y z a b c d e is f g h i j r s t u o = λ k l. subst (λ (l : List ℕ). R k (slice_index vs k) (slice_index l k)) (sym is) (at k l)
  where
    at : (k : ℕ) → k < 5 → R k (slice_index vs k) (slice_index (a ∷ b ∷ c ∷ d ∷ e ∷ []) k)
    at zero l = subst (λ (n : ℕ). R 0 n a) f r
    at (suc zero) l = subst (λ (n : ℕ). R 1 n b) g s
    at (suc (suc zero)) l = subst (λ (n : ℕ). R 2 n c) h t
    at (suc (suc (suc zero))) l = subst (λ (n : ℕ). R 3 n d) i u
    at (suc (suc (suc (suc zero)))) l = subst (λ (n : ℕ). R 4 n e) j o
    at (suc (suc (suc (suc (suc k))))) l = absurd (omega (arith, l))
