-- Where a run stands after its choices, and what the runs do from there.
use Rattle.std.proofs.Common.{◌≡◌, suc, List, [], ◌∷◌, ◌++◌, length, Option, Some, None, refl, ap, sym, ◌∙◌, subst}
use Rattle.loom_objects.specs.declared.choice.Choice.{Choice}
use Rattle.loom_objects.specs.Tree.Question.{Made, Question, Among, made_of}
use Rattle.loom_objects.specs.Tree.Tree.{Tree, Gives, Fails, Closes, Asks, ◌>>=◌}
use Rattle.loom_engine.specs.Walk.Choices.{among, pick}
use Rattle.loom_engine.specs.Trees.Outcomes.{met, outcome}
use Rattle.loom_engine.specs.Runs.Body.{Meaning}
use Rattle.loom_engine.specs.Covering.World.{World, world_of, IsCalled}
use Rattle.loom_engine.specs.Covering.Moments.{Moment, Next, RunEnds, Stands, Stand, at_schedule, by_choice, settled, stand_after}
use Rattle.loom_engine.proofs.Covering.Alike.{Leads, leads_more}
use Rattle.loom_engine.proofs.Covering.Unfolding.{runs_from, asked_runs}

-- ---- one choice in a tree

module _ {A : Type 0} (question : Question) (branches : Choice → Tree A) (o : Choice) (a : Among o (made_of question).options) where
  pub node_on : (c : List Choice) → (world_of (Asks question branches)).node (o ∷ c) ≡ (world_of (branches o)).node c
  node_on c = go (among o (made_of question).options)
    where
      go : (d : Dec (Among o (made_of question).options)) → pick d (met (suc (length c)) (branches o) c) None ≡ met (suc (length c)) (branches o) c
      go (yes h) = refl
      go (no f) = absurd (f a)

  pub outcome_on : (c : List Choice) → (world_of (Asks question branches)).outcome (o ∷ c) ≡ (world_of (branches o)).outcome c
  outcome_on c = go (among o (made_of question).options)
    where
      go : (d : Dec (Among o (made_of question).options)) → pick d (outcome (suc (length c)) (branches o) c) None ≡ outcome (suc (length c)) (branches o) c
      go (yes h) = refl
      go (no f) = absurd (f a)

  pub called_on : (c : List Choice) → IsCalled (world_of (Asks question branches)) (o ∷ c) → IsCalled (world_of (branches o)) c
  called_on c h before x after e = let z = h (o ∷ before) x after (ap (λ l. o ∷ l) e) in (z.0, sym (node_on before) ∙ z.1, z.2, z.3)

-- ---- where a run stands

module _ {D S : Type 0} (next : Meaning D S) where
  -- no schedule is ahead but the last one
  abbrev pub IsSettled : Tree (Next D S) → Type 0
  IsSettled (Gives (Stands m)) = ⊥
  IsSettled (Gives (RunEnds value)) = Unit {0}
  IsSettled (Fails kind) = Unit {0}
  IsSettled (Closes rest) = Unit {0}
  IsSettled (Asks question branches) = Unit {0}

  -- what comes from the last schedule on, or from the beginning
  abbrev pub part_of : Tree (Next D S) → Option (Moment D S) → Tree (Next D S)
  part_of first None = first
  part_of first (Some m) = at_schedule next m

  module _ (first : Tree (Next D S)) where
    pub record IsStand (s : Stand D S) : Type 0 where
      pub leads : Leads (part_of first s.last) s.since s.ahead
      pub is_settled : IsSettled s.ahead

    pub settles : (last : Option (Moment D S)) (since : List Choice) (t : Tree (Next D S)) → Leads (part_of first last) since t → IsStand (settled next last since t)
    settles last since (Gives (Stands m)) h = record { leads = refl; is_settled = tt }
    settles last since (Gives (RunEnds value)) h = record { leads = h; is_settled = tt }
    settles last since (Fails kind) h = record { leads = h; is_settled = tt }
    settles last since (Closes rest) h = record { leads = h; is_settled = tt }
    settles last since (Asks question branches) h = record { leads = h; is_settled = tt }

  -- the runs that go on from what is ahead
  abbrev pub on_from : Tree (Next D S) → Tree D
  on_from t = t >>= runs_from next

  pub settled_runs : (last : Option (Moment D S)) (since : List Choice) (t : Tree (Next D S)) → on_from (settled next last since t).ahead ≡ on_from t
  settled_runs last since (Gives (Stands m)) = sym (asked_runs next m)
  settled_runs last since (Gives (RunEnds value)) = refl
  settled_runs last since (Fails kind) = refl
  settled_runs last since (Closes rest) = refl
  settled_runs last since (Asks question branches) = refl

  -- one choice more
  pub stand_then : (s : Stand D S) (c : List Choice) (o : Choice) → stand_after next s (c ++ o ∷ []) ≡ by_choice next o (stand_after next s c) (stand_after next s c).ahead
  stand_then s [] o = refl
  stand_then s (x ∷ c) o = stand_then (by_choice next x s s.ahead) c o

  -- a question is ahead where a node is met
  pub asks_ahead : {P : Type 0} (t : Tree (Next D S)) → IsSettled t → (n : Made) → (world_of (on_from t)).node [] ≡ Some n
      → ((question : Question) (branches : Choice → Tree (Next D S)) → t ≡ Asks question branches → made_of question ≡ n → P) → P
  asks_ahead (Gives (Stands m)) settled n e h = absurd settled
  asks_ahead (Gives (RunEnds value)) settled n e h = absurd (cc e)
  asks_ahead (Fails kind) settled n e h = absurd (cc e)
  asks_ahead (Closes rest) settled n e h = absurd (cc e)
  asks_ahead (Asks question branches) settled n e h = h question branches refl (cc e)

  -- After called choices the runs do what they do from where they stand.
  pub record Goes (first : Tree (Next D S)) (w : World D) (c : List Choice) (s : Stand D S) : Type 0 where
    pub is_stand : IsStand first s
    pub node : w.node c ≡ (world_of (on_from s.ahead)).node []
    pub outcome : w.outcome c ≡ (world_of (on_from s.ahead)).outcome []

  -- one choice
  module _ (first : Tree (Next D S)) (last : Option (Moment D S)) (since : List Choice) (question : Question) (branches : Choice → Tree (Next D S)) (o : Choice) (a : Among o (made_of question).options) where
    one_stands : IsStand first (record { last = last; since = since; ahead = Asks question branches }) → IsStand first (settled next last (since ++ o ∷ []) (branches o))
    one_stands z = settles first last (since ++ o ∷ []) (branches o) (leads_more (part_of first last) since question branches o z.leads a)

    one_called : (c : List Choice) → IsCalled (world_of (on_from (Asks question branches))) (o ∷ c) → IsCalled (world_of (on_from (settled next last (since ++ o ∷ []) (branches o)).ahead)) c
    one_called c called =
        subst (λ t. IsCalled (world_of t) c) (sym (settled_runs last (since ++ o ∷ []) (branches o))) (called_on question (λ x. on_from (branches x)) o a c called)

    one_goes : (c : List Choice) (s : Stand D S) → Goes first (world_of (on_from (settled next last (since ++ o ∷ []) (branches o)).ahead)) c s → Goes first (world_of (on_from (Asks question branches))) (o ∷ c) s
    one_goes c s g = record {
      is_stand = g.is_stand;
      node = node_on question (λ x. on_from (branches x)) o a c ∙ ap (λ t. (world_of t).node c) (sym (settled_runs last (since ++ o ∷ []) (branches o))) ∙ g.node;
      outcome = outcome_on question (λ x. on_from (branches x)) o a c ∙ ap (λ t. (world_of t).outcome c) (sym (settled_runs last (since ++ o ∷ []) (branches o))) ∙ g.outcome;
    }

  first_chosen : (question : Question) (branches : Choice → Tree D) (o : Choice) (c : List Choice) → IsCalled (world_of (Asks question branches)) (o ∷ c) → Among o (made_of question).options
  first_chosen question branches o c called =
      let h = called [] o c refl in
      let e : h.0 ≡ made_of question = cc h.1 in
      subst (λ (n : Made). Among o n.options) e h.2

  pub goes : (first : Tree (Next D S)) (c : List Choice) (last : Option (Moment D S)) (since : List Choice) (ahead : Tree (Next D S)) → IsStand first (record { last = last; since = since; ahead = ahead })
      → IsCalled (world_of (on_from ahead)) c → Goes first (world_of (on_from ahead)) c (stand_after next (record { last = last; since = since; ahead = ahead }) c)
  goes first [] last since ahead z called = record { is_stand = z; node = refl; outcome = refl }
  goes first (o ∷ c) last since (Gives (Stands m)) z called = absurd z.is_settled
  goes first (o ∷ c) last since (Gives (RunEnds value)) z called = let h = called [] o c refl in absurd (cc h.1)
  goes first (o ∷ c) last since (Fails kind) z called = let h = called [] o c refl in absurd (cc h.1)
  goes first (o ∷ c) last since (Closes rest) z called = let h = called [] o c refl in absurd (cc h.1)
  goes first (o ∷ c) last since (Asks question branches) z called =
      let a = first_chosen question (λ x. on_from (branches x)) o c called in
      let s = settled next last (since ++ o ∷ []) (branches o) in
      one_goes first last since question branches o a c (stand_after next s c)
      (goes first c s.last s.since s.ahead (one_stands first last since question branches o a z) (one_called first last since question branches o a c called))
