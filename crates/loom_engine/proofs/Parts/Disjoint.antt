-- What is left from the parts was not made, and no two parts share it.
use Rattle.std.proofs.Common.{◌≡◌, ◌≢◌, List, [], ◌∷◌, ◌++◌, Some, refl, ap, sym, ◌∙◌, subst, inl, inr, append_assoc}
use Rattle.loom_objects.specs.declared.choice.Choice.{Choice}
use Rattle.loom_objects.specs.Tree.Question.{Made, Among}
use Rattle.loom_engine.specs.Walk.Choices.{same}
use Rattle.loom_engine.specs.Walk.Machine.{Machine, run}
use Rattle.loom_engine.specs.Walk.Sound.{IsMachine}
use Rattle.loom_engine.specs.Walk.Runs.{Alternative}
use Rattle.loom_engine.specs.Walk.Path.{Status, Closed, Skip, Pending, Active, Visited, Stored, choices, node_at, IsBarred, IsLeftOut, Rest, by_path, by_pending, by_alternative}
use Rattle.loom_engine.specs.Walk.Lists.{Member, Begins}
use Rattle.loom_engine.proofs.Walk.Lists.{node_chooses, chooses_node}
use Rattle.loom_engine.proofs.Walk.Statuses.{left_out}
use Rattle.loom_engine.proofs.Walk.Left.{run_begins, run_begins_so, never_again}
use Rattle.loom_engine.proofs.Walk.Together.{TwoBeginnings, within, past, two_beginnings}
use Rattle.loom_engine.specs.Parts.Cuts.{Part, IsBelow, IsTried, DisjointLaw}
use Rattle.loom_engine.proofs.Parts.Lists.{same_next}
use Rattle.loom_engine.proofs.Parts.Holds.{Done, Keeps, Holds, one_base}
use Rattle.loom_engine.proofs.Parts.Search.{search_holds}

-- two lists: the first goes on from the second, or the second past the first, or they part
data Compared (a b : List Choice) : Type 0 where
  goes_on_from : (f : List Choice) → a ≡ b ++ f → Compared a b
  is_passed : (c : Choice) (f : List Choice) → b ≡ a ++ c ∷ f → Compared a b
  they_part : (d : List Choice) (c e : Choice) (f g : List Choice) → a ≡ d ++ c ∷ f → b ≡ d ++ e ∷ g → (c ≡ e → ⊥) → Compared a b

compared_on : (x : Choice) (a b : List Choice) → Compared a b → Compared (x ∷ a) (x ∷ b)
compared_on x a b (goes_on_from f h) = goes_on_from f (ap (λ t. x ∷ t) h)
compared_on x a b (is_passed c f h) = is_passed c f (ap (λ t. x ∷ t) h)
compared_on x a b (they_part d c e f g h i j) = they_part (x ∷ d) c e f g (ap (λ t. x ∷ t) h) (ap (λ t. x ∷ t) i) j

compared : (a b : List Choice) → Compared a b
compared a [] = goes_on_from a refl
compared [] (y ∷ b) = is_passed y b refl
compared (x ∷ a) (y ∷ b) = go (same x y) (compared a b)
  where
    go : Dec (x ≡ y) → Compared a b → Compared (x ∷ a) (y ∷ b)
    go (yes e) k = subst (λ z. Compared (x ∷ a) (z ∷ b)) e (compared_on x a b k)
    go (no f) k = they_part [] x y a b refl refl f

module _ (m : Machine) (w : IsMachine m) (made issued : List (List Choice)) (Had : List Choice → Type 0) (b : List Choice) (p : List Stored) (here : Keeps m made issued Had b p) where
  barred : (r before : List Choice) (o : Choice) → Alternative m r before o → (n : Stored) → node_at p before ≡ Some n → IsTried n o → IsLeftOut m p before o
  barred r before o alt n g t = left_out m p before o n g (elim t [ inl e ↦ subst (λ u. IsBarred m u) (sym e) tt | inr e ↦ subst (λ u. IsBarred m u) (sym e) tt ])

  -- at a node along the base each alternative is left out
  low_tried : (r before : List Choice) (o : Choice) → Alternative m r before o → IsBelow before b → (n : Stored) → node_at p before ≡ Some n → IsTried n o
  low_tried r before o alt low n g = go (n.status o) refl
    where
      same_made : alt.made ≡ n.made
      same_made = cc (alt.met, here.part.resting.meets before n g)

      z : (n.status o ≢ Pending) × (n.status o ≢ Skip)
      z = here.part.sealed before n o g low (sym (ap (λ (u : Made). u.exploring) same_made) ∙ alt.exploring)

      go : (s : Status) → n.status o ≡ s → IsTried n o
      go Closed e = absurd ((here.part.resting.rest before n g).opened o (subst (λ (u : Made). Among o u.options) same_made alt.option) e)
      go Skip e = absurd (z.1 e)
      go Pending e = absurd (z.0 e)
      go Active e = inl e
      go Visited e = inr e

  low_node : (before : List Choice) (c : Choice) (f : List Choice) → b ≡ before ++ c ∷ f → (n : Stored) × (node_at p before ≡ Some n) × (n.present ≡ c)
  low_node before c f i = let y = here.part.begins in chooses_node p before c (f ++ y.0) (y.1 ∙ ap (λ t. t ++ y.0) i ∙ append_assoc before (c ∷ f) y.0)

  pub rest_begins : (x : List Choice) → Rest m p x → Begins b x
  rest_begins x by_path =
      let y = here.part.begins in
      let z = run_begins m w (choices p) in
      (y.0 ++ z.0, z.1 ∙ ap (λ t. t ++ z.0) y.1 ∙ append_assoc b y.0 z.0)
  rest_begins x (by_pending before n o g ex s) = go (two_beginnings b y.0 before n.present z.0 (sym y.1 ∙ z.1))
    where
      y : (e : List Choice) × (choices p ≡ b ++ e)
      y = here.part.begins

      z : (after : List Choice) × (choices p ≡ before ++ n.present ∷ after)
      z = node_chooses p before n g

      go : TwoBeginnings b before n.present → Begins b (run m (before ++ o ∷ []))
      go (within f i) = let t = run_begins_so m w before o in (f ++ o ∷ t.0, t.1 ∙ ap (λ u. u ++ o ∷ t.0) i ∙ append_assoc b f (o ∷ t.0))
      go (past f i) = absurd ((here.part.sealed before n o g (n.present, f, i) ex).0 s)
  rest_begins x (by_alternative r before o d alt out) = go (rest_begins r d)
    where
      go : Begins b r → Begins b (run m (before ++ o ∷ []))
      go (e, h) = place (two_beginnings b e before alt.chosen alt.after (sym h ∙ alt.splits))
        where
          place : TwoBeginnings b before alt.chosen → Begins b (run m (before ++ o ∷ []))
          place (within f i) = let t = run_begins_so m w before o in (f ++ o ∷ t.0, t.1 ∙ ap (λ u. u ++ o ∷ t.0) i ∙ append_assoc b f (o ∷ t.0))
          place (past f i) =
              let z = low_node before alt.chosen f i in
              absurd (out (barred r before o alt z.0 z.1 (low_tried r before o alt (alt.chosen, f, i) z.0 z.1)))

  -- a node of the path is along the base or above the floor
  stands : (before : List Choice) (n : Stored) → node_at p before ≡ Some n → TwoBeginnings b before n.present
  stands before n g = let y = here.part.begins in let z = node_chooses p before n g in two_beginnings b y.0 before n.present z.0 (sym y.1 ∙ z.1)

  pub unmade : (x : List Choice) → Rest m p x → Member x made → ⊥
  unmade x by_path j = let z = run_begins m w (choices p) in here.new (run m (choices p)) j z.0 z.1
  unmade x (by_pending before n o g ex s) j = go (stands before n g)
    where
      go : TwoBeginnings b before n.present → ⊥
      go (past f i) = (here.part.sealed before n o g (n.present, f, i) ex).0 s
      go (within f i) =
          let z = run_begins_so m w before o in
          elim (here.tried before n g f i (run m (before ++ o ∷ [])) j o z.0 z.1) [ inl e ↦ cc (s, e) | inr e ↦ cc (s, e) ]
  unmade x (by_alternative r before o d alt out) j = go (compared before (choices p))
    where
      z : (e : List Choice) × (run m (before ++ o ∷ []) ≡ before ++ o ∷ e)
      z = run_begins_so m w before o

      at : (n : Stored) → node_at p before ≡ Some n → TwoBeginnings b before n.present → ⊥
      at n g (past f i) = out (barred r before o alt n g (low_tried r before o alt (n.present, f, i) n g))
      at n g (within f i) = out (barred r before o alt n g (here.tried before n g f i (run m (before ++ o ∷ [])) j o z.0 z.1))

      parted : (a : List Choice) (c e : Choice) (f : List Choice) → before ≡ a ++ c ∷ f → (c ≡ e → ⊥) → (n : Stored) → node_at p a ≡ Some n → n.present ≡ e → TwoBeginnings b a n.present → ⊥
      parted a c e f h k n g l (past y i) =
          let t = rest_begins r d in
          k (same_next a c e (f ++ alt.chosen ∷ alt.after) (y ++ t.0)
          (sym (append_assoc a (c ∷ f) (alt.chosen ∷ alt.after)) ∙ ap (λ u. u ++ alt.chosen ∷ alt.after) (sym h) ∙ sym alt.splits ∙ t.1 ∙ ap (λ u. u ++ t.0) i
          ∙ append_assoc a (n.present ∷ y) t.0 ∙ ap (λ u. a ++ u ∷ (y ++ t.0)) l))
      parted a c e f h k n g l (within y i) =
          elim (here.tried a n g y i (run m (before ++ o ∷ [])) j c (f ++ o ∷ z.0) (z.1 ∙ ap (λ u. u ++ o ∷ z.0) h ∙ append_assoc a (c ∷ f) (o ∷ z.0))) [
            | inl s ↦ k ((here.part.resting.rest a n g).one c s ∙ l)
            | inr s ↦ never_again m w p here.part.resting a n c g s r d (f ++ alt.chosen ∷ alt.after)
                (alt.splits ∙ ap (λ u. u ++ alt.chosen ∷ alt.after) h ∙ append_assoc a (c ∷ f) (alt.chosen ∷ alt.after))
          ]

      go : Compared before (choices p) → ⊥
      go (goes_on_from f h) = here.new (run m (before ++ o ∷ [])) j (f ++ o ∷ z.0) (z.1 ∙ ap (λ u. u ++ o ∷ z.0) h ∙ append_assoc (choices p) f (o ∷ z.0))
      go (is_passed c f h) = let n = chooses_node p before c f h in at n.0 n.1 (stands before n.0 n.1)
      go (they_part a c e f g h i k) = let n = chooses_node p a e g i in parted a c e f h k n.0 n.1 n.2 (stands a n.0 n.1)

pub disjoint_law : DisjointLaw
disjoint_law m made parts issued notes w s = (
  h.bases_once,
  (λ q i x d. let k = h.kept q i in (k.rest x d, rest_begins m w made issued (Done m made parts) q.base q.path k x d, unmade m w made issued (Done m made parts) q.base q.path k x d)),
  λ q p i j x d e. shared q p (h.kept q i) (h.kept p j) x d e,
)
  where
    h : Holds m made parts issued notes
    h = search_holds m made parts issued notes w s

    shared : (q p : Part) → Keeps m made issued (Done m made parts) q.base q.path → Keeps m made issued (Done m made parts) p.base p.path → (x : List Choice) → Rest m q.path x → Rest m p.path x
        → q.base ≡ p.base
    shared q p k l x d e =
        let y = rest_begins m w made issued (Done m made parts) q.base q.path k x d in
        let z = rest_begins m w made issued (Done m made parts) p.base p.path l x e in
        one_base m made issued (Done m made parts) q.base p.base q.path p.path k l y.0 z.0 (sym y.1 ∙ z.1)
