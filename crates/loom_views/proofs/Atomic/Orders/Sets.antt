-- What reading a store and making one does to the orders of the kept stores, each as a set of raising points. Each store has a
-- mark: the last raising point of its author when it was made, if there was one.
use Rattle.std.proofs.Common.{◌≡◌, ◌≢◌, ℕ, Bool, true, false, refl, sym, ◌∙◌, subst, inl, inr, ⊎_elim, Option, Some, None}
use Rattle.std.specs.Prelude.{◌⊎◌}
use Rattle.std.proofs.lemmas.Bool.{cases_Bool, cases_eq, true≢false}

-- a mark is in a set, or there is none
abbrev pub Holds : Option ℕ → (ℕ → Type 0) → Type 0
Holds None v = Unit {0}
Holds (Some e) v = v e

-- each raising point of the one set is in the other
abbrev pub Inside : (ℕ → Type 0) → (ℕ → Type 0) → (ℕ → Type 0) → Type 0
Inside R v w = (x : ℕ) → R x → v x → w x

-- of the stores that are kept: where a store's mark is in another's order, its order is inside that one; and of no two stores each
-- one's mark is in the other's order
pub record Ranked (R K : ℕ → Type 0) (E : ℕ → Option ℕ) (V : ℕ → ℕ → Type 0) : Type 0 where
  pub marked : (i e : ℕ) → K i → E i ≡ Some e → R e
  pub closed : (i j : ℕ) → K i → K j → Holds (E i) (V j) → Inside R (V i) (V j)
  pub apart : (i j : ℕ) → K i → K j → i ≢ j → Holds (E i) (V j) → Holds (E j) (V i) → ⊥

-- a store is read: `S` are the other stores that are seen, `up` the store itself and those above it, whose orders are raised
pub record Raises (R K : ℕ → Type 0) (V W : ℕ → ℕ → Type 0) (S : ℕ → Type 0) (up : ℕ → Bool) : Type 0 where
  pub kept : (k : ℕ) → S k → K k
  pub upward : (i j : ℕ) → K i → K j → up i ≡ true → Inside R (V i) (V j) → up j ≡ true
  pub free : (i k : ℕ) → K i → S k → up i ≡ true → Inside R (V i) (V k) → ⊥
  pub still : (j x : ℕ) → K j → R x → up j ≡ false → W j x → V j x
  pub more : (j x : ℕ) → K j → R x → V j x → W j x
  pub takes : (j k x : ℕ) → K j → R x → up j ≡ true → S k → V k x → W j x
  pub from : (j x : ℕ) → K j → R x → up j ≡ true → W j x → V j x ⊎ ((k : ℕ) × S k × V k x)

-- a store's order is raised, and a mark is in the order of a seen store
record Joins (V : ℕ → ℕ → Type 0) (S : ℕ → Type 0) (up : ℕ → Bool) (o : Option ℕ) (j : ℕ) : Type 0 where
  up_j : up j ≡ true
  store : ℕ
  seen : S store
  holds : Holds o (V store)

module _ (R K : ℕ → Type 0) (E : ℕ → Option ℕ) (V W : ℕ → ℕ → Type 0) (S : ℕ → Type 0) (up : ℕ → Bool) (r : Ranked R K E V) (a : Raises R K V W S up) where
  -- a mark that is in an order after the read was there before, or came with the order of a seen store
  was : (o : Option ℕ) (j : ℕ) → K j → ((e : ℕ) → o ≡ Some e → R e) → Holds o (W j) → Holds o (V j) ⊎ Joins V S up o j
  was None j b m h = inl tt
  was (Some e) j b m h = ⊎_elim (λ u. ⊎_elim (λ v. inl v) (λ w. inr (record { up_j = u; store = w.0; seen = w.1; holds = w.2 })) (a.from j e b (m e refl) u h)) (λ u. inl (a.still j e b (m e refl) u h)) (cases_Bool (up j))

  was_of : (i j : ℕ) → K i → K j → Holds (E i) (W j) → Holds (E i) (V j) ⊎ Joins V S up (E i) j
  was_of i j b d h = was (E i) j d (λ e q. r.marked i e b q) h

  closed_before : (i j x : ℕ) → K i → K j → Holds (E i) (V j) → R x → W i x → W j x
  closed_before i j x b d h m y =
      let inner : Inside R (V i) (V j) = r.closed i j b d h in
      ⊎_elim
      (λ u. ⊎_elim (λ v. a.more j x d m (inner x m v)) (λ w. a.takes j w.0 x d m (a.upward i j b d u inner) w.1 w.2) (a.from i x b m u y))
      (λ u. a.more j x d m (inner x m (a.still i x b m u y)))
      (cases_Bool (up i))

  closed_joined : (i j k x : ℕ) → K i → K j → up j ≡ true → S k → Holds (E i) (V k) → R x → W i x → W j x
  closed_joined i j k x b d w s h m y =
      let inner : Inside R (V i) (V k) = r.closed i k b (a.kept k s) h in
      ⊎_elim
      (λ u. absurd (a.free i k b s u inner))
      (λ u. a.takes j k x d m w s (inner x m (a.still i x b m u y)))
      (cases_Bool (up i))

  crossed : (i j k : ℕ) → K i → K j → up j ≡ true → S k → Holds (E i) (V k) → Holds (E j) (V i) ⊎ Joins V S up (E j) i → ⊥
  crossed i j k b d w s h other = ⊎_elim
      (λ u. a.free i k b s u (r.closed i k b (a.kept k s) h))
      (λ u. ⊎_elim (λ q. true≢false (sym (a.upward j i d b w (r.closed j i d b q)) ∙ u)) (λ q. true≢false (sym q.up_j ∙ u)) other)
      (cases_Bool (up i))

  pub ranked-read : Ranked R K E W
  ranked-read = record {
    marked = r.marked;
    closed = λ i j b d h x m y. ⊎_elim (λ q. closed_before i j x b d q m y) (λ q. closed_joined i j q.store x b d q.up_j q.seen q.holds m y) (was_of i j b d h);
    apart = λ i j b d n h w. ⊎_elim (λ p. ⊎_elim (λ q. r.apart i j b d n p q) (λ q. crossed j i q.store d b q.up_j q.seen q.holds (inl p)) (was_of j i d b w)) (λ p. crossed i j p.store b d p.up_j p.seen p.holds (was_of j i d b w)) (was_of i j b d h);
  }

-- a store is made in a slot, in place of what was kept there; its mark is in no other order
pub record Makes (R K L : ℕ → Type 0) (E F : ℕ → Option ℕ) (V W : ℕ → ℕ → Type 0) (c : ℕ) : Type 0 where
  pub kept : (i : ℕ) → i ≢ c → L i → K i
  pub marks : (i : ℕ) → i ≢ c → F i ≡ E i
  pub stays : (i x : ℕ) → i ≢ c → L i → W i x → V i x
  pub stood : (i x : ℕ) → i ≢ c → L i → V i x → W i x
  pub mark : ℕ
  pub is : F c ≡ Some mark
  pub raising : R mark
  pub new : (i : ℕ) → i ≢ c → L i → W i mark → ⊥
  pub held : (i : ℕ) → i ≢ c → L i → Holds (F i) (W c) → Inside R (W i) (W c)

module _ (R K L : ℕ → Type 0) (E F : ℕ → Option ℕ) (V W : ℕ → ℕ → Type 0) (c : ℕ) (r : Ranked R K E V) (a : Makes R K L E F V W c) where
  stays_of : (o : Option ℕ) (j : ℕ) → j ≢ c → L j → Holds o (W j) → Holds o (V j)
  stays_of None j n l h = tt
  stays_of (Some e) j n l h = a.stays j e n l h

  before : (i j : ℕ) → i ≢ c → j ≢ c → L j → Holds (F i) (W j) → Holds (E i) (V j)
  before i j n m l h = subst (λ o. Holds o (V j)) (a.marks i n) (stays_of (F i) j m l h)

  never : (i j : ℕ) → i ≡ c → j ≢ c → L j → Holds (F i) (W j) → ⊥
  never i j e n l h = a.new j n l (subst (λ o. Holds o (W j)) a.is (subst (λ k. Holds (F k) (W j)) e h))

  closed_old : (i j : ℕ) → i ≢ c → j ≢ c → L i → L j → Holds (F i) (W j) → Inside R (W i) (W j)
  closed_old i j n m k l h x b y = a.stood j x m l (r.closed i j (a.kept i n k) (a.kept j m l) (before i j n m l h) x b (a.stays i x n k y))

  closed_made : (i j : ℕ) → L i → L j → Holds (F i) (W j) → Inside R (W i) (W j)
  closed_made i j k l h = ⊎_elim
      (λ e. ⊎_elim (λ f. subst (λ m. Inside R (W i) (W m)) (e ∙ sym f) (λ x b y. y)) (λ m. absurd (never i j e m l h)) (cases_eq j c))
      (λ n. ⊎_elim (λ f. subst (λ m. Inside R (W i) (W m)) (sym f) (a.held i n k (subst (λ m. Holds (F i) (W m)) f h))) (λ m. closed_old i j n m k l h) (cases_eq j c))
      (cases_eq i c)

  apart_made : (i j : ℕ) → L i → L j → i ≢ j → Holds (F i) (W j) → Holds (F j) (W i) → ⊥
  apart_made i j k l d h w = ⊎_elim
      (λ e. never i j e (λ f. d (e ∙ sym f)) l h)
      (λ n. ⊎_elim (λ f. never j i f n k w) (λ m. r.apart i j (a.kept i n k) (a.kept j m l) d (before i j n m l h) (before j i m n k w)) (cases_eq j c))
      (cases_eq i c)

  marked_made : (i e : ℕ) → L i → F i ≡ Some e → R e
  marked_made i e k f = ⊎_elim (λ q. subst R (one (sym a.is ∙ subst (λ m. F m ≡ Some e) q f)) a.raising) (λ n. r.marked i e (a.kept i n k) (sym (a.marks i n) ∙ f)) (cases_eq i c)
    where
      one : Some a.mark ≡ Some e → a.mark ≡ e
      one g = cc

  pub ranked-made : Ranked R L F W
  ranked-made = record {
    marked = marked_made;
    closed = closed_made;
    apart = apart_made;
  }

-- the same orders, told by another graph or another list of stores
pub record Same (R Q K L : ℕ → Type 0) (E F : ℕ → Option ℕ) (V W : ℕ → ℕ → Type 0) : Type 0 where
  pub kept : (i : ℕ) → L i → K i
  pub marks : (i : ℕ) → L i → F i ≡ E i
  pub stays : (i x : ℕ) → L i → W i x → V i x
  pub stood : (i x : ℕ) → L i → V i x → W i x
  pub raising : (x : ℕ) → R x → Q x
  pub raised : (i x : ℕ) → L i → Q x → W i x → R x

module _ (R Q K L : ℕ → Type 0) (E F : ℕ → Option ℕ) (V W : ℕ → ℕ → Type 0) (r : Ranked R K E V) (a : Same R Q K L E F V W) where
  told : (o : Option ℕ) (j : ℕ) → L j → Holds o (W j) → Holds o (V j)
  told None j l h = tt
  told (Some e) j l h = a.stays j e l h

  told_of : (i j : ℕ) → L i → L j → Holds (F i) (W j) → Holds (E i) (V j)
  told_of i j k l h = subst (λ o. Holds o (V j)) (a.marks i k) (told (F i) j l h)

  pub ranked-same : Ranked Q L F W
  ranked-same = record {
    marked = λ i e k f. a.raising e (r.marked i e (a.kept i k) (sym (a.marks i k) ∙ f));
    closed = λ i j k l h x b y. a.stood j x l (r.closed i j (a.kept i k) (a.kept j l) (told_of i j k l h) x (a.raised i x k b y) (a.stays i x k y));
    apart = λ i j k l n h w. r.apart i j (a.kept i k) (a.kept j l) n (told_of i j k l h) (told_of j i l k w);
  }

-- a mark goes where all raising points of a set go
pub holds-inside : (R : ℕ → Type 0) (o : Option ℕ) (v w : ℕ → Type 0) → ((e : ℕ) → o ≡ Some e → R e) → Inside R v w → Holds o v → Holds o w
holds-inside R None v w m i h = tt
holds-inside R (Some e) v w m i h = i e (m e refl) h
