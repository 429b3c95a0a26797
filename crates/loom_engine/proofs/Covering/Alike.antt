-- Trees that go on alike: one tree and then another, and steps of the machine on the way of a run.
use Rattle.std.proofs.Common.{◌≡◌, Bool, true, List, [], ◌∷◌, ◌++◌, length, Result, Ok, Err, refl, sym, inl, inr, subst}
use Rattle.loom_objects.specs.declared.choice.Choice.{Choice}
use Rattle.loom_objects.specs.Exploring.{is_on}
use Rattle.loom_objects.specs.Tree.Question.{Question, Among, made_of}
use Rattle.loom_objects.specs.Tree.Tree.{Tree, Gives, Fails, Closes, Asks, ◌>>=◌, came}
use Rattle.loom_objects.specs.World.{World}
use Rattle.loom_views.specs.declared.rt.failure.FailureKind.{FailureKind}
use Rattle.loom_engine.specs.Runs.Course.{Course, carried, one_passed}
use Rattle.loom_engine.specs.Covering.Alike.{AreAlike}
use Rattle.loom_engine.specs.Covering.States.{BothAlike}
use Rattle.loom_engine.proofs.Runs.Answering.{Answers}

module _ (limits : FailureKind → Bool) where
  pub limit_left : {A B : Type 0} (Same : A → B → Type 0) (kind : FailureKind) (u : Tree B) → limits kind ≡ true → AreAlike limits Same (Fails kind) u
  limit_left Same kind (Gives b) h = h
  limit_left Same kind (Fails other) h = inr (inl h)
  limit_left Same kind (Closes rest) h = h
  limit_left Same kind (Asks question branches) h = h

  pub limit_right : {A B : Type 0} (Same : A → B → Type 0) (t : Tree A) (kind : FailureKind) → limits kind ≡ true → AreAlike limits Same t (Fails kind)
  limit_right Same (Gives a) kind h = h
  limit_right Same (Fails other) kind h = inr (inr h)
  limit_right Same (Closes rest) kind h = h
  limit_right Same (Asks question branches) kind h = h

  -- what is the same in one sense is so in a wider one
  pub weaker : {A B : Type 0} (Same Wider : A → B → Type 0) (t : Tree A) (u : Tree B) → ((a : A) (b : B) → Same a b → Wider a b) → AreAlike limits Same t u → AreAlike limits Wider t u
  weaker Same Wider (Gives a) (Gives b) h p = h a b p
  weaker Same Wider (Gives a) (Fails kind) h p = p
  weaker Same Wider (Gives a) (Closes rest) h p = p
  weaker Same Wider (Gives a) (Asks question branches) h p = p
  weaker Same Wider (Fails kind) (Gives b) h p = p
  weaker Same Wider (Fails kind) (Fails other) h p = p
  weaker Same Wider (Fails kind) (Closes rest) h p = p
  weaker Same Wider (Fails kind) (Asks question branches) h p = p
  weaker Same Wider (Closes rest) (Gives b) h p = p
  weaker Same Wider (Closes rest) (Fails kind) h p = p
  weaker Same Wider (Closes rest) (Closes other) h p = weaker Same Wider rest other h p
  weaker Same Wider (Closes rest) (Asks question branches) h p = p
  weaker Same Wider (Asks question branches) (Gives b) h p = p
  weaker Same Wider (Asks question branches) (Fails kind) h p = p
  weaker Same Wider (Asks question branches) (Closes rest) h p = p
  weaker Same Wider (Asks question branches) (Asks asked others) h p = (p.0, λ o a. weaker Same Wider (branches o) (others o) h (p.1 o a))

  module _ {A B C E : Type 0} (Same : A → B → Type 0) (After : C → E → Type 0) where
    pub then_alike : (t : Tree A) (u : Tree B) (f : A → Tree C) (g : B → Tree E) → AreAlike limits Same t u → ((a : A) (b : B) → Same a b → AreAlike limits After (f a) (g b))
        → AreAlike limits After (t >>= f) (u >>= g)
    then_alike (Gives a) (Gives b) f g p h = h a b p
    then_alike (Gives a) (Fails kind) f g p h = limit_right After (f a) kind p
    then_alike (Gives a) (Closes rest) f g p h = absurd p
    then_alike (Gives a) (Asks question branches) f g p h = absurd p
    then_alike (Fails kind) (Gives b) f g p h = limit_left After kind (g b) p
    then_alike (Fails kind) (Fails other) f g p h = p
    then_alike (Fails kind) (Closes rest) f g p h = p
    then_alike (Fails kind) (Asks question branches) f g p h = p
    then_alike (Closes rest) (Gives b) f g p h = absurd p
    then_alike (Closes rest) (Fails kind) f g p h = p
    then_alike (Closes rest) (Closes other) f g p h = then_alike rest other f g p h
    then_alike (Closes rest) (Asks question branches) f g p h = absurd p
    then_alike (Asks question branches) (Gives b) f g p h = absurd p
    then_alike (Asks question branches) (Fails kind) f g p h = p
    then_alike (Asks question branches) (Closes rest) f g p h = absurd p
    then_alike (Asks question branches) (Asks asked others) f g p h = (p.0, λ o a. then_alike (branches o) (others o) f g (p.1 o a) h)

  -- ---- courses

  module _ {D : Type 0} (Alike : Bool → World D → World D → Type 0) where
    -- their states are alike, both explore or don't, and there are accesses of as many threads in order
    pub record CoursesAlike (c d : Course D) : Type 0 where
      pub world : Alike (is_on c.exploring) c.world d.world
      pub exploring : c.exploring ≡ d.exploring
      pub ordered : length c.order.threads ≡ length d.order.threads

    abbrev pub WithCourses : {A : Type 0} → A × Course D → A × Course D → Type 0
    WithCourses (a, c) (b, d) = (a ≡ b) × CoursesAlike c d

    pub carried_alike : {A : Type 0} (c d : Course D) (t u : Tree (A × World D)) → c.exploring ≡ d.exploring → length c.order.threads ≡ length d.order.threads
        → AreAlike limits (BothAlike (Alike (is_on c.exploring))) t u → AreAlike limits WithCourses (carried c t) (carried d u)
    carried_alike c d (Gives (a, w)) (Gives (b, v)) e n p = (p.0, record { world = p.1; exploring = e; ordered = n })
    carried_alike c d (Gives (a, w)) (Fails kind) e n p = p
    carried_alike c d (Gives (a, w)) (Closes rest) e n p = absurd p
    carried_alike c d (Gives (a, w)) (Asks question branches) e n p = absurd p
    carried_alike c d (Fails kind) (Gives (b, v)) e n p = p
    carried_alike c d (Fails kind) (Fails other) e n p = p
    carried_alike c d (Fails kind) (Closes rest) e n p = p
    carried_alike c d (Fails kind) (Asks question branches) e n p = p
    carried_alike c d (Closes rest) (Gives (b, v)) e n p = absurd p
    carried_alike c d (Closes rest) (Fails kind) e n p = p
    carried_alike c d (Closes rest) (Closes other) e n p = carried_alike c d rest other e n p
    carried_alike c d (Closes rest) (Asks question branches) e n p = absurd p
    carried_alike c d (Asks question branches) (Gives (b, v)) e n p = absurd p
    carried_alike c d (Asks question branches) (Fails kind) e n p = p
    carried_alike c d (Asks question branches) (Closes rest) e n p = absurd p
    carried_alike c d (Asks question branches) (Asks asked others) e n p =
        (p.0, λ o a. carried_alike (one_passed c) (one_passed d) (branches o) (others o) e n (p.1 o a))

    -- what a step without a choice answers holds where it is alike to another one
    pub carried_too : {A : Type 0} (P : A → Type 0) (c : Course D) (r : Result (A × World D) FailureKind) (u : Tree (A × Course D)) → Answers (λ x. P x.0) r
        → AreAlike limits WithCourses (carried c (came r)) u → AreAlike limits (λ x y. WithCourses x y × P x.0) (carried c (came r)) u
    carried_too P c (Ok (a, w)) (Gives b) p h = (h, p)
    carried_too P c (Ok (a, w)) (Fails kind) p h = h
    carried_too P c (Ok (a, w)) (Closes rest) p h = h
    carried_too P c (Ok (a, w)) (Asks question branches) p h = h
    carried_too P c (Err kind) (Gives b) p h = h
    carried_too P c (Err kind) (Fails other) p h = h
    carried_too P c (Err kind) (Closes rest) p h = h
    carried_too P c (Err kind) (Asks question branches) p h = h

-- ---- ways through a tree

-- by these choices, each an option where it comes, the tree leads to this one
abbrev pub Leads : {A : Type 0} → Tree A → List Choice → Tree A → Type 0
Leads t [] r = t ≡ r
Leads (Gives a) (o ∷ c) r = ⊥
Leads (Fails kind) (o ∷ c) r = ⊥
Leads (Closes rest) (o ∷ c) r = ⊥
Leads (Asks question branches) (o ∷ c) r = Among o (made_of question).options × Leads (branches o) c r

pub leads_more : {A : Type 0} (t : Tree A) (c : List Choice) (question : Question) (branches : Choice → Tree A) (o : Choice) → Leads t c (Asks question branches)
    → Among o (made_of question).options → Leads t (c ++ o ∷ []) (branches o)
leads_more t [] question branches o h a = subst (λ r. Leads r (o ∷ []) (branches o)) (sym h) (a, refl)
leads_more (Gives b) (x ∷ c) question branches o h a = absurd h
leads_more (Fails kind) (x ∷ c) question branches o h a = absurd h
leads_more (Closes rest) (x ∷ c) question branches o h a = absurd h
leads_more (Asks asked others) (x ∷ c) question branches o h a = (h.0, leads_more (others x) c question branches o h.1 a)

pub leads_alike : {A B : Type 0} (limits : FailureKind → Bool) (Same : A → B → Type 0) (t : Tree A) (u : Tree B) (c : List Choice) (r : Tree A) (s : Tree B) → AreAlike limits Same t u
    → Leads t c r → Leads u c s → AreAlike limits Same r s
leads_alike limits Same t u [] r s p h g = subst (λ x. AreAlike limits Same r x) g (subst (λ x. AreAlike limits Same x u) h p)
leads_alike limits Same (Gives a) u (o ∷ c) r s p h g = absurd h
leads_alike limits Same (Fails kind) u (o ∷ c) r s p h g = absurd h
leads_alike limits Same (Closes rest) u (o ∷ c) r s p h g = absurd h
leads_alike limits Same (Asks question branches) (Gives b) (o ∷ c) r s p h g = absurd p
leads_alike limits Same (Asks question branches) (Fails kind) (o ∷ c) r s p h g = absurd g
leads_alike limits Same (Asks question branches) (Closes rest) (o ∷ c) r s p h g = absurd p
leads_alike limits Same (Asks question branches) (Asks asked others) (o ∷ c) r s p h g = leads_alike limits Same (branches o) (others o) c r s (p.1 o h.0) h.1 g.1
