-- A path that a step leaves holds no schedule without a default, however the run before it ended.
use Rattle.std.proofs.Common.{◌≡◌, ℕ, zero, suc, List, [], ◌∷◌, ◌++◌, Option, Some, None, refl, ap, sym, ◌∙◌, subst, inl, inr}
use Rattle.loom_objects.specs.declared.choice.Choice.{Choice}
use Rattle.loom_objects.specs.declared.choice.Choice.TheVariants.{Thread}
use Rattle.loom_objects.specs.declared.rt.schedule.Ability.{Ability}
use Rattle.loom_objects.specs.Tree.Question.{Made, Among, Question, WhichThread, WhichStore, WhetherSpurious, thread_options, made_of}
use Rattle.loom_objects.specs.Tree.Tree.{Tree, Gives, Fails, Closes, Asks}
use Rattle.loom_engine.specs.Walk.Choices.{among, pick}
use Rattle.loom_engine.specs.Walk.Machine.{Machine}
use Rattle.loom_engine.specs.Walk.Path.{Stored, choices, node_at, choose, IsAtRest, IsResting}
use Rattle.loom_engine.specs.Trees.Meeting.{Settings, Marking, machine_of}
use Rattle.loom_engine.specs.Trees.Outcomes.{met}
use Rattle.loom_engine.specs.Trees.Reports.{IsSearch}
use Rattle.loom_engine.specs.Trees.Resuming.{HasDefaults}
use Rattle.loom_engine.specs.Trees.Sound.{IsQuiet, EndsUnchosen}
use Rattle.loom_engine.proofs.Walk.Lists.{node_chooses, chooses_node, TwoSplits, earlier, same_place, later as past_place, two_splits, snoc_append}
use Rattle.loom_engine.proofs.Walk.Stepping.{Steps}
use Rattle.loom_engine.proofs.Trees.Machines.{met_asked}

-- a question without a default has that as its one option
alone : (question : Question) (o : Choice) → (made_of question).default ≡ Thread None → Among o (made_of question).options → o ≡ Thread None
alone (WhichThread exploring standing) o h a = by_default standing.default standing.abilities h a
  where
    by_default : (default : Option ℕ) (abilities : List Ability) → Thread default ≡ Thread None → Among o (thread_options default abilities) → o ≡ Thread None
    by_default None abilities h (inl e) = e
    by_default None abilities h (inr e) = absurd e
    by_default (Some k) abilities h a = absurd (cc h)
alone (WhichStore exploring lowest others) o h a = absurd (cc h)
alone (WhetherSpurious exploring) o h a = absurd (cc h)

module _ {A : Type 0} where
  quiet_meets : (sub : Tree A) (room : ℕ) (c : List Choice) → IsQuiet sub → met room sub c ≡ None
  quiet_meets (Gives value) room c h = refl
  quiet_meets (Fails failure) room c h = refl
  quiet_meets (Closes rest) room c h = refl
  quiet_meets (Asks question branches) room c h = absurd h

  -- after a schedule without a default a run meets no node
  meets_no_more : (sub : Tree A) (room : ℕ) (c : List Choice) (n : Made) → EndsUnchosen sub → met room sub c ≡ Some n → n.default ≡ Thread None
      → met room sub (c ++ Thread None ∷ []) ≡ None
  meets_no_more (Gives value) room c n ends h e = refl
  meets_no_more (Fails failure) room c n ends h e = refl
  meets_no_more (Closes rest) room c n ends h e = refl
  meets_no_more (Asks question branches) zero c n ends h e = absurd (cc h)
  meets_no_more (Asks question branches) (suc room) [] n ends h e =
      go (among (Thread None) (made_of question).options) (quiet_meets (branches (Thread None)) room [] (ends.0 none))
    where
      none : (made_of question).default ≡ Thread None
      none = let same : made_of question ≡ n = cc h in ap (λ (y : Made). y.default) same ∙ e

      go : (d : Dec (Among (Thread None) (made_of question).options)) → met room (branches (Thread None)) [] ≡ None → pick d (met room (branches (Thread None)) []) None ≡ None
      go (yes a) f = f
      go (no g) f = refl
  meets_no_more (Asks question branches) (suc room) (x ∷ c) n ends h e =
      go (among x (made_of question).options) h (λ a f. meets_no_more (branches x) room c n (ends.1 x a) f e)
    where
      go : (d : Dec (Among x (made_of question).options)) → pick d (met room (branches x) c) None ≡ Some n
          → (Among x (made_of question).options → met room (branches x) c ≡ Some n → met room (branches x) (c ++ Thread None ∷ []) ≡ None)
          → pick d (met room (branches x) (c ++ Thread None ∷ [])) None ≡ None
      go (yes a) f ih = ih a f
      go (no g) f ih = refl

module _ {A : Type 0} (s : Settings) (adds : Marking) (tree : Tree A) (search : IsSearch s adds tree) (ends : EndsUnchosen tree) where
  abbrev m : Machine
  m = machine_of s adds tree

  -- an option of a node without a default
  one_option : (before : List Choice) (n : Stored) (o : Choice) → m.node before ≡ Some n.made → n.made.default ≡ Thread None → Among o n.made.options → o ≡ Thread None
  one_option before n o meets none a =
      let asked = met_asked tree s.max_branches before n.made search.sound meets in
      alone asked.question o (ap (λ (y : Made). y.default) asked.makes ∙ none) (subst (λ (y : Made). Among o y.options) (sym asked.makes) a)

  -- a node at rest chooses one of its options
  chooses_option : (n : Stored) → IsAtRest n → Among n.present n.made.options
  chooses_option n rest = rest.closed n.present (λ e. cc (e, rest.active))

  -- the path that a step leaves
  pub after_step : (q later : List Stored) → IsResting m q → IsResting m later → Steps q later → HasDefaults later
  unfolding Steps
  after_step q later rests goes (branch, k, o, st) before n at none = by_place (two_splits before n.present c.0 branch o [] (sym c.1 ∙ st.chosen))
    where
      c : (after : List Choice) × (choices later ≡ before ++ n.present ∷ after)
      c = node_chooses later before n at

      by_place : TwoSplits before n.present c.0 branch o [] → ⊥
      -- one that isn't the last has one after it
      by_place (earlier e i j) = after_one c.0 c.1 j
        where
          after_one : (after : List Choice) → choices later ≡ before ++ n.present ∷ after → after ≡ e ++ o ∷ [] → ⊥
          after_one [] f g = nothing e g
            where
              nothing : (e : List Choice) → [] ≡ e ++ o ∷ [] → ⊥
              nothing [] g = cc g
              nothing (x ∷ e) g = cc g
          after_one (x ∷ after) f g =
              let z = chooses_node later (before ++ n.present ∷ []) x after (f ∙ sym (snoc_append before n.present (x ∷ after))) in
              let chosen : n.present ≡ Thread None = one_option before n n.present (goes.meets before n at) none (chooses_option n (goes.rest before n at)) in
              let over : m.node (before ++ n.present ∷ []) ≡ None =
              ap (λ y. m.node (before ++ y ∷ [])) chosen ∙ meets_no_more tree s.max_branches before n.made ends (goes.meets before n at) none in
              cc (over, goes.meets (before ++ n.present ∷ []) z.0 z.1)
      -- the last was another choice before, and had two options
      by_place (same_place i j l) =
          let same : n ≡ choose k o = cc (at, st.here, ap (node_at later) i) in
          let none_before : k.made.default ≡ Thread None = ap (λ (y : Stored). y.made.default) (sym same) ∙ none in
          let r = rests.rest branch k st.at in
          let first : k.present ≡ Thread None = one_option branch k k.present (rests.meets branch k st.at) none_before (chooses_option k r) in
          let second : o ≡ Thread None = one_option branch k o (rests.meets branch k st.at) none_before (r.closed o (λ e. cc (e, st.pending))) in
          cc (r.active, st.pending, ap k.status (first ∙ sym second))
      by_place (past_place e i j) = nothing e j
        where
          nothing : (e : List Choice) → [] ≡ e ++ n.present ∷ c.0 → ⊥
          nothing [] g = cc g
          nothing (x ∷ e) g = cc g
