-- Lists that are split in two ways, and the nodes of a path by the choices before them.
use Rattle.std.proofs.Common.{◌≡◌, List, [], ◌∷◌, ◌++◌, Some, None, refl, ap, ap₂, sym, ◌∙◌, append_assoc}
use Rattle.loom_objects.specs.declared.choice.Choice.{Choice}
use Rattle.loom_engine.specs.Walk.Choices.{same, pick}
use Rattle.loom_engine.specs.Walk.Path.{Stored, choices, node_at}

-- two splits of one list: the first is at an earlier place, at the same one, or at a later one
pub data TwoSplits (xs : List Choice) (a : Choice) (ys zs : List Choice) (b : Choice) (ws : List Choice) : Type 0 where
  earlier : (e : List Choice) → zs ≡ xs ++ a ∷ e → ys ≡ e ++ b ∷ ws → TwoSplits xs a ys zs b ws
  same_place : xs ≡ zs → a ≡ b → ys ≡ ws → TwoSplits xs a ys zs b ws
  later : (e : List Choice) → xs ≡ zs ++ b ∷ e → ws ≡ e ++ a ∷ ys → TwoSplits xs a ys zs b ws

under : (x : Choice) (xs : List Choice) (a : Choice) (ys zs : List Choice) (b : Choice) (ws : List Choice) → TwoSplits xs a ys zs b ws → TwoSplits (x ∷ xs) a ys (x ∷ zs) b ws
under x xs a ys zs b ws (earlier e p q) = earlier e (ap (λ t. x ∷ t) p) q
under x xs a ys zs b ws (same_place p q r) = same_place (ap (λ t. x ∷ t) p) q r
under x xs a ys zs b ws (later e p q) = later e (ap (λ t. x ∷ t) p) q

pub two_splits : (xs : List Choice) (a : Choice) (ys zs : List Choice) (b : Choice) (ws : List Choice) → xs ++ a ∷ ys ≡ zs ++ b ∷ ws → TwoSplits xs a ys zs b ws
two_splits [] a ys [] b ws p = same_place refl (cc p) (cc p)
two_splits [] a ys (z ∷ zs) b ws p = earlier zs (cc p) (cc p)
two_splits (x ∷ xs) a ys [] b ws p = later xs (cc p) (cc p)
two_splits (x ∷ xs) a ys (z ∷ zs) b ws p =
    let h : x ≡ z = cc p in
    let t : xs ++ a ∷ ys ≡ zs ++ b ∷ ws = cc p in
    rw (← h) (under x xs a ys zs b ws (two_splits xs a ys zs b ws t))

pub cancel_front : (xs ys zs : List Choice) → xs ++ ys ≡ xs ++ zs → ys ≡ zs
cancel_front [] ys zs p = p
cancel_front (x ∷ xs) ys zs p = cancel_front xs ys zs (cc p)

pub not_longer : (xs : List Choice) (a : Choice) (ys : List Choice) → xs ≡ xs ++ a ∷ ys → ⊥
not_longer [] a ys p = cc p
not_longer (x ∷ xs) a ys p = not_longer xs a ys (cc p)

pub snoc_append : (xs : List Choice) (a : Choice) (ys : List Choice) → (xs ++ a ∷ []) ++ ys ≡ xs ++ a ∷ ys
snoc_append xs a ys = append_assoc xs (a ∷ []) ys

pub choices_append : (p q : List Stored) → choices (p ++ q) ≡ choices p ++ choices q
choices_append [] q = refl
choices_append (n ∷ p) q = ap (λ t. n.present ∷ t) (choices_append p q)

pub pick_same : {B : Type 0} (a : Choice) (x y : B) → pick (same a a) x y ≡ x
pick_same a x y = go (same a a)
  where
    go : (d : Dec (a ≡ a)) → pick d x y ≡ x
    go (yes e) = refl
    go (no f) = absurd (f refl)

pub pick_other : {B : Type 0} (a b : Choice) (x y : B) → (a ≡ b → ⊥) → pick (same a b) x y ≡ y
pick_other a b x y f = go (same a b)
  where
    go : (d : Dec (a ≡ b)) → pick d x y ≡ y
    go (yes e) = absurd (f e)
    go (no g) = refl

-- the path has a node just where it chooses
Chooses : List Stored → List Choice → Stored → Type 0
Chooses p before n = (after : List Choice) × (choices p ≡ before ++ n.present ∷ after)

one_on : (m : Stored) (p : List Stored) (c : Choice) (before : List Choice) (n : Stored) (d : Dec (c ≡ m.present)) → pick d (node_at p before) None ≡ Some n
    → (node_at p before ≡ Some n → Chooses p before n) → Chooses (m ∷ p) (c ∷ before) n
unfolding Chooses
one_on m p c before n (yes e) h ih = ((ih h).0, ap₂ (λ a t. a ∷ t) (sym e) (ih h).1)
one_on m p c before n (no f) h ih = absurd (cc h)

chooses : (p : List Stored) (before : List Choice) (n : Stored) → node_at p before ≡ Some n → Chooses p before n
unfolding node_at Chooses
chooses [] before n h = absurd (cc h)
chooses (m ∷ p) [] n h = let e : m ≡ n = cc h in (choices p, ap (λ (x : Stored). x.present ∷ choices p) e)
chooses (m ∷ p) (c ∷ before) n h = one_on m p c before n (same c m.present) h (λ g. chooses p before n g)

pub node_chooses : (p : List Stored) (before : List Choice) (n : Stored) → node_at p before ≡ Some n → (after : List Choice) × (choices p ≡ before ++ n.present ∷ after)
unfolding Chooses
node_chooses p before n h = chooses p before n h

-- past its present choice a path goes on as the rest of it does
pub node_on : (m : Stored) (p : List Stored) (c : Choice) (before : List Choice) → c ≡ m.present → node_at (m ∷ p) (c ∷ before) ≡ node_at p before
unfolding node_at
node_on m p c before e = rw e (pick_same m.present (node_at p before) None)

pub node_off : (m : Stored) (p : List Stored) (c : Choice) (before : List Choice) → (c ≡ m.present → ⊥) → node_at (m ∷ p) (c ∷ before) ≡ None
unfolding node_at
node_off m p c before f = pick_other c m.present (node_at p before) None f

pub chooses_node : (p : List Stored) (before : List Choice) (c : Choice) (after : List Choice) → choices p ≡ before ++ c ∷ after → (n : Stored) × (node_at p before ≡ Some n) × (n.present ≡ c)
unfolding node_at
chooses_node [] [] c after h = absurd (cc h)
chooses_node [] (b ∷ before) c after h = absurd (cc h)
chooses_node (m ∷ p) [] c after h = (m, refl, cc h)
chooses_node (m ∷ p) (b ∷ before) c after h = deeper (chooses_node p before c after (cc h))
  where
    deeper : ((n : Stored) × (node_at p before ≡ Some n) × (n.present ≡ c)) → (n : Stored) × (pick (same b m.present) (node_at p before) None ≡ Some n) × (n.present ≡ c)
    deeper r = (r.0, node_on m p b before (cc h) ∙ r.1, r.2)
