-- A check whose runs may be cut off covers each run.
use Rattle.std.proofs.Common.{◌≡◌, ◌≢◌, ◌⊎◌, ℕ, zero, suc, Bool, true, false, ◌&&◌, cond, List, [], ◌∷◌, ◌++◌, length, Option, Some, None, Result, Ok, Err, refl, ap, sym, ◌∙◌, subst, inl, inr, append-nil, append_assoc}
use Rattle.loom_objects.specs.declared.choice.Choice.{Choice}
use Rattle.loom_objects.specs.Tree.Question.{Made, Among, made_of}
use Rattle.loom_objects.specs.Tree.Tree.{Tree, Gives, Fails, Closes, Asks}
use Rattle.loom_engine.specs.Walk.Machine.{Machine, run}
use Rattle.loom_engine.specs.Walk.Sound.{IsMachine}
use Rattle.loom_engine.specs.Walk.Choices.{among, pick}
use Rattle.loom_engine.specs.Walk.Path.{Status, Closed, Skip, Pending, Active, Visited, Stored, choices, node_at, IsResting, first_status, mark_status, mark, step, after_run}
use Rattle.loom_engine.specs.Walk.Driven.{IsLeftBy, Driven, last_run, one_run, IsOneOf}
use Rattle.loom_engine.specs.Trees.Meeting.{Marking, whole_search, machine_of}
use Rattle.loom_engine.specs.Trees.Machines.{IsMarking}
use Rattle.loom_engine.specs.Trees.Outcomes.{met, outcome}
use Rattle.loom_engine.specs.Trees.Sound.{IsQuiet, IsSoundTree}
use Rattle.loom_engine.specs.Trees.Drive.{Trail, drive, at_start, at_end}
use Rattle.loom_engine.proofs.Walk.Lists.{node_chooses, chooses_node}
use Rattle.loom_engine.proofs.Walk.Statuses.{was_skip, was_visited}
use Rattle.loom_engine.proofs.Walk.After.{IsNodeAfter, was_there, is_new, IsAfter, after_run_is}
use Rattle.loom_engine.proofs.Walk.Resting.{after_resting}
use Rattle.loom_engine.proofs.Walk.Stepping.{step_some}
use Rattle.loom_engine.proofs.Trees.Machines.{machine_law}
use Rattle.loom_engine.proofs.Trees.Rounds.{AfterDrive, driven, empty_rests}
use Rattle.loom_views.specs.declared.rt.failure.FailureKind.{FailureKind}
use Rattle.loom_views.specs.declared.rt.failure.FailureKind.TheVariants.{TooManyBranches}
use Rattle.loom_engine.specs.Covering.World.{world_of}
use Rattle.loom_engine.specs.Covering.Covered.{IsGiven, SkipsNone, IsEnd, ended, met as was_met, Remembers}
use Rattle.loom_engine.specs.Covering.Cut.{cut, with_run, IsStop, Checks, last_check, one_check, CheckLaw, FailLaw}
use Rattle.loom_engine.proofs.Covering.Covered.{cover_law, driven_tries}
use Rattle.loom_engine.proofs.Covering.Left.{none_visited, none_skipped, step_rests, step_skips_none, empty_skips_none}
use Rattle.loom_engine.proofs.Covering.Worlds.{TriesAll, met_more, outcome_more, world_ends, tries_all}

-- ---- a tree that is cut

module _ {A : Type 0} (stop : List Choice → Bool) where
  cut_quiet : (tree : Tree A) (c : List Choice) → IsQuiet tree → IsQuiet (cut stop c tree)
  cut_quiet (Gives value) c h = tt
  cut_quiet (Fails failure) c h = tt
  cut_quiet (Closes rest) c h = cut_quiet rest c h
  cut_quiet (Asks question branches) c h = absurd h

  cut_sound : (tree : Tree A) (c : List Choice) → IsSoundTree tree → IsSoundTree (cut stop c tree)
  cut_sound (Gives value) c h = tt
  cut_sound (Fails failure) c h = tt
  cut_sound (Closes rest) c h = cut_quiet rest c h
  cut_sound (Asks question branches) c h = go (stop c) (λ x a. cut_sound (branches x) (c ++ x ∷ []) (h.1 x a))
    where
      go : (b : Bool) → ((x : Choice) → Among x (made_of question).options → IsSoundTree (cut stop (c ++ x ∷ []) (branches x)))
          → IsSoundTree (cond b (Gives None) (Asks question (λ x. cut stop (c ++ x ∷ []) (branches x))))
      go true ih = tt
      go false ih = (h.0, ih)

  -- it meets what the tree meets
  cut_part : (room : ℕ) (tree : Tree A) (c d : List Choice) (n : Made) → met room (cut stop c tree) d ≡ Some n → met room tree d ≡ Some n
  cut_part room (Gives value) c d n h = absurd (cc h)
  cut_part room (Fails failure) c d n h = absurd (cc h)
  cut_part room (Closes rest) c d n h = absurd (cc h)
  cut_part room (Asks question branches) c d n h = go (stop c) room d h (λ r x e g. cut_part r (branches x) (c ++ x ∷ []) e n g)
    where
      under : (r : ℕ) (x : Choice) (e : List Choice) (a : Dec (Among x (made_of question).options)) → pick a (met r (cut stop (c ++ x ∷ []) (branches x)) e) None ≡ Some n
          → (met r (cut stop (c ++ x ∷ []) (branches x)) e ≡ Some n → met r (branches x) e ≡ Some n) → pick a (met r (branches x) e) None ≡ Some n
      under r x e (yes a) g ih = ih g
      under r x e (no f) g ih = absurd (cc g)

      go : (b : Bool) (r : ℕ) (e : List Choice) → met r (cond b (Gives None) (Asks question (λ x. cut stop (c ++ x ∷ []) (branches x)))) e ≡ Some n
          → ((r : ℕ) (x : Choice) (e : List Choice) → met r (cut stop (c ++ x ∷ []) (branches x)) e ≡ Some n → met r (branches x) e ≡ Some n)
          → met r (Asks question branches) e ≡ Some n
      go true r e g ih = absurd (cc g)
      go false zero e g ih = absurd (cc g)
      go false (suc r) [] g ih = g
      go false (suc r) (x ∷ e) g ih = under r x e (among x (made_of question).options) g (λ k. ih r x e k)

  -- where it isn't cut on the way, it meets all that the tree meets
  cut_meets : (room : ℕ) (tree : Tree A) (c d : List Choice) (n : Made) → ((front e : List Choice) → d ≡ front ++ e → stop (c ++ front) ≡ false) → met room tree d ≡ Some n
      → met room (cut stop c tree) d ≡ Some n
  cut_meets room (Gives value) c d n open_ h = absurd (cc h)
  cut_meets room (Fails failure) c d n open_ h = absurd (cc h)
  cut_meets room (Closes rest) c d n open_ h = absurd (cc h)
  cut_meets zero (Asks question branches) c d n open_ h = absurd (cc h)
  cut_meets (suc r) (Asks question branches) c [] n open_ h = uncut (stop c) (ap stop (sym (append-nil c)) ∙ open_ [] [] refl)
    where
      uncut : (b : Bool) → b ≡ false → met (suc r) (cond b (Gives None) (Asks question (λ x. cut stop (c ++ x ∷ []) (branches x)))) [] ≡ Some n
      uncut true g = absurd (cc g)
      uncut false g = h
  cut_meets (suc r) (Asks question branches) c (x ∷ d) n open_ h =
      uncut (stop c) (ap stop (sym (append-nil c)) ∙ open_ [] (x ∷ d) refl) (among x (made_of question).options) h
      (λ g. cut_meets r (branches x) (c ++ x ∷ []) d n (λ front e i. ap stop (append_assoc c (x ∷ []) front) ∙ open_ (x ∷ front) e (ap (λ t. x ∷ t) i)) g)
    where
      under : (a : Dec (Among x (made_of question).options)) → pick a (met r (branches x) d) None ≡ Some n → (met r (branches x) d ≡ Some n → met r (cut stop (c ++ x ∷ []) (branches x)) d ≡ Some n)
          → pick a (met r (cut stop (c ++ x ∷ []) (branches x)) d) None ≡ Some n
      under (yes a) g ih = ih g
      under (no f) g ih = absurd (cc g)

      uncut : (b : Bool) → b ≡ false → (a : Dec (Among x (made_of question).options)) → pick a (met r (branches x) d) None ≡ Some n
          → (met r (branches x) d ≡ Some n → met r (cut stop (c ++ x ∷ []) (branches x)) d ≡ Some n)
          → met (suc r) (cond b (Gives None) (Asks question (λ x. cut stop (c ++ x ∷ []) (branches x)))) (x ∷ d) ≡ Some n
      uncut true g a k ih = absurd (cc g)
      uncut false g a k ih = under (among x (made_of question).options) h ih

  -- how a run through it ends: as one through the tree does, or cut off
  abbrev pub Comes : ℕ → Tree A → List Choice → List Choice → Result (Option A) FailureKind → Type 0
  Comes room tree c d (Ok (Some value)) = outcome room tree d ≡ Some (Ok value)
  Comes room tree c d (Ok None) = stop (c ++ d) ≡ true
  Comes room tree c d (Err failure) = outcome room tree d ≡ Some (Err failure)

  cut_comes : (room : ℕ) (tree : Tree A) (c d : List Choice) (r : Result (Option A) FailureKind) → outcome room (cut stop c tree) d ≡ Some r → Comes room tree c d r
  cut_comes room (Gives value) c [] r h = let e : Ok (Some value) ≡ r = cc h in subst (Comes room (Gives value) c []) e refl
  cut_comes room (Gives value) c (x ∷ d) r h = absurd (cc h)
  cut_comes room (Fails failure) c [] r h = let e : Err failure ≡ r = cc h in subst (Comes room (Fails failure) c []) e refl
  cut_comes room (Fails failure) c (x ∷ d) r h = absurd (cc h)
  cut_comes room (Closes rest) c d r h = closed r (cut_comes room rest c d r h)
    where
      closed : (r : Result (Option A) FailureKind) → Comes room rest c d r → Comes room (Closes rest) c d r
      closed (Ok (Some value)) g = g
      closed (Ok None) g = g
      closed (Err failure) g = g
  cut_comes room (Asks question branches) c d r h = go (stop c) refl room d r h (λ k x e g. cut_comes k (branches x) (c ++ x ∷ []) e r g)
    where
      moved : (k : ℕ) (x : Choice) (e : List Choice) → Among x (made_of question).options → (a : Dec (Among x (made_of question).options)) (r : Result (Option A) FailureKind) → Comes k (branches x) (c ++ x ∷ []) e r
          → Comes (suc k) (Asks question branches) c (x ∷ e) r
      moved k x e am a (Ok (Some value)) g = chosen (among x (made_of question).options) g
        where
          chosen : (a : Dec (Among x (made_of question).options)) → outcome k (branches x) e ≡ Some (Ok value) → pick a (outcome k (branches x) e) None ≡ Some (Ok value)
          chosen (yes a) g = g
          chosen (no f) g = absurd (f am)
      moved k x e am a (Ok None) g = ap stop (sym (append_assoc c (x ∷ []) e)) ∙ g
      moved k x e am a (Err failure) g = chosen (among x (made_of question).options) g
        where
          chosen : (a : Dec (Among x (made_of question).options)) → outcome k (branches x) e ≡ Some (Err failure) → pick a (outcome k (branches x) e) None ≡ Some (Err failure)
          chosen (yes a) g = g
          chosen (no f) g = absurd (f am)

      under : (k : ℕ) (x : Choice) (e : List Choice) (a : Dec (Among x (made_of question).options)) (r : Result (Option A) FailureKind)
          → pick a (outcome k (cut stop (c ++ x ∷ []) (branches x)) e) None ≡ Some r
          → (outcome k (cut stop (c ++ x ∷ []) (branches x)) e ≡ Some r → Comes k (branches x) (c ++ x ∷ []) e r) → Comes (suc k) (Asks question branches) c (x ∷ e) r
      under k x e (yes a) r g ih = moved k x e a (yes a) r (ih g)
      under k x e (no f) r g ih = absurd (cc g)

      go : (b : Bool) → stop c ≡ b → (k : ℕ) (e : List Choice) (r : Result (Option A) FailureKind) → outcome k (cond b (Gives None) (Asks question (λ x. cut stop (c ++ x ∷ []) (branches x)))) e ≡ Some r
          → ((k : ℕ) (x : Choice) (e : List Choice) → outcome k (cut stop (c ++ x ∷ []) (branches x)) e ≡ Some r → Comes k (branches x) (c ++ x ∷ []) e r)
          → Comes k (Asks question branches) c e r
      go true i k [] r g ih = let e : Ok None ≡ r = cc g in subst (Comes k (Asks question branches) c []) e (ap stop (append-nil c) ∙ i)
      go true i k (x ∷ e) r g ih = absurd (cc g)
      go false i zero [] r g ih = let e : Err TooManyBranches ≡ r = cc g in subst (Comes zero (Asks question branches) c []) e refl
      go false i zero (x ∷ e) r g ih = absurd (cc g)
      go false i (suc k) [] r g ih = absurd (cc g)
      go false i (suc k) (x ∷ e) r g ih = under k x e (among x (made_of question).options) r g (λ j. ih k x e j)

  never_cut : (room : ℕ) (tree : Tree A) (c d : List Choice) → IsQuiet tree → outcome room (cut stop c tree) d ≡ Some (Ok None) → ⊥
  never_cut room (Gives value) c [] q h = cc h
  never_cut room (Gives value) c (x ∷ d) q h = cc h
  never_cut room (Fails failure) c [] q h = cc h
  never_cut room (Fails failure) c (x ∷ d) q h = cc h
  never_cut room (Closes rest) c d q h = never_cut room rest c d q h
  never_cut room (Asks question branches) c d q h = absurd q

  -- it is cut off only where the tree asks something
  pub cut_asks : (room : ℕ) (tree : Tree A) (c d : List Choice) → IsSoundTree tree → outcome room (cut stop c tree) d ≡ Some (Ok None) → (n : Made) × (met (suc (length d)) tree d ≡ Some n)
  cut_asks room (Gives value) c [] s h = absurd (cc h)
  cut_asks room (Gives value) c (x ∷ d) s h = absurd (cc h)
  cut_asks room (Fails failure) c [] s h = absurd (cc h)
  cut_asks room (Fails failure) c (x ∷ d) s h = absurd (cc h)
  cut_asks room (Closes rest) c d s h = absurd (never_cut room rest c d s h)
  cut_asks room (Asks question branches) c d s h = go (stop c) room d h (λ k x e a g. cut_asks k (branches x) (c ++ x ∷ []) e (s.1 x a) g)
    where
      under : (k : ℕ) (x : Choice) (e : List Choice) (a : Dec (Among x (made_of question).options)) → pick a (outcome k (cut stop (c ++ x ∷ []) (branches x)) e) None ≡ Some (Ok None)
          → (Among x (made_of question).options → outcome k (cut stop (c ++ x ∷ []) (branches x)) e ≡ Some (Ok None) → (n : Made) × (met (suc (length e)) (branches x) e ≡ Some n))
          → (n : Made) × (pick a (met (suc (length e)) (branches x) e) None ≡ Some n)
      under k x e (yes a) g ih = ih a g
      under k x e (no f) g ih = absurd (cc g)

      go : (b : Bool) (k : ℕ) (e : List Choice) → outcome k (cond b (Gives None) (Asks question (λ x. cut stop (c ++ x ∷ []) (branches x)))) e ≡ Some (Ok None)
          → ((k : ℕ) (x : Choice) (e : List Choice) → Among x (made_of question).options → outcome k (cut stop (c ++ x ∷ []) (branches x)) e ≡ Some (Ok None)
          → (n : Made) × (met (suc (length e)) (branches x) e ≡ Some n))
          → (n : Made) × (met (suc (length e)) (Asks question branches) e ≡ Some n)
      go true k [] g ih = (made_of question, refl)
      go true k (x ∷ e) g ih = absurd (cc g)
      go false zero [] g ih = absurd (cc g)
      go false zero (x ∷ e) g ih = absurd (cc g)
      go false (suc k) [] g ih = absurd (cc g)
      go false (suc k) (x ∷ e) g ih = under k x e (among x (made_of question).options) g (λ a i. ih k x e a i)

-- ---- what a run leaves

kept_status : (b : Bool) (s : Status) → s ≢ Skip → mark_status b s ≡ s
kept_status b Closed h = refl
kept_status b Skip h = absurd (h refl)
kept_status b Pending h = refl
kept_status b Active h = refl
kept_status b Visited h = refl

module _ (m : Machine) (w : IsMachine m) (all : TriesAll m) (p : List Stored) (rests : IsResting m p) where
  after_is : IsAfter m p (after_run m p) (run m (choices p))
  after_is = after_run_is m w p

  after_rests : IsResting m (after_run m p)
  after_rests = after_resting m w p (after_run m p) (run m (choices p)) rests after_is

  after_left_by : IsLeftBy p (after_run m p)
  after_left_by = record {
    kept = λ before n h. (mark m (run m (choices p)) (length before) n, after_is.kept before n h, refl, refl, λ o f. kept_status (m.reduce && m.marks (run m (choices p)) (length before) o) (n.status o) f);
    visited = λ before k o h e. visited before k o e (after_is.each before k h);
    rest = after_rests.rest;
  }
    where
      visited : (before : List Choice) (k : Stored) (o : Choice) → k.status o ≡ Visited → IsNodeAfter m p (run m (choices p)) before k → (n : Stored) × (node_at p before ≡ Some n) × (n.status o ≡ Visited)
      visited before k o e (was_there n g f) =
          (n, g, was_visited (m.reduce && m.marks (run m (choices p)) (length before) o) (n.status o) (ap (λ (y : Stored). y.status o) (sym f) ∙ e))
      visited before k o e (is_new made g h f d) =
          absurd (none_visited (m.every before) made o
          (was_visited (m.reduce && m.marks (run m (choices p)) (length before) o) (first_status (m.every before) made o) (ap (λ (y : Stored). y.status o) (sym f) ∙ e)))

  after_skips_none : SkipsNone p → SkipsNone (after_run m p)
  after_skips_none old before x o h ex skip = go (after_is.each before x h)
    where
      go : IsNodeAfter m p (run m (choices p)) before x → ⊥
      go (was_there n g f) =
          old before n o g (ap (λ (y : Stored). y.made.exploring) (sym f) ∙ ex)
          (was_skip (m.reduce && m.marks (run m (choices p)) (length before) o) (n.status o) (ap (λ (y : Stored). y.status o) (sym f) ∙ skip)).0
      go (is_new made g h f d) =
          none_skipped (m.every before) made o (all before made h (ap (λ (y : Stored). y.made.exploring) (sym f) ∙ ex))
          (was_skip (m.reduce && m.marks (run m (choices p)) (length before) o) (first_status (m.every before) made o) (ap (λ (y : Stored). y.status o) (sym f) ∙ skip)).0

-- ---- a round

-- a node on the way to another
on_the_way : (p : List Stored) (before : List Choice) (n : Stored) → node_at p before ≡ Some n → (front e : List Choice) → before ≡ front ++ e → (k : Stored) × (node_at p front ≡ Some k)
on_the_way p before n h front [] i = (n, ap (node_at p) (sym (i ∙ append-nil front)) ∙ h)
on_the_way p before n h front (c ∷ e) i =
    let b = node_chooses p before n h in
    let z = chooses_node p front c (e ++ n.present ∷ b.0) (b.1 ∙ ap (λ u. u ++ n.present ∷ b.0) i ∙ append_assoc front (c ∷ e) (n.present ∷ b.0)) in
    (z.0, z.1)

module _ {A : Type 0} (room : ℕ) (adds : Marking) (tree : Tree A) (sound : IsSoundTree tree) (fair : IsMarking adds) where
  abbrev pub Rests : List Stored → Type 0
  Rests p = IsResting (machine_of (whole_search room) adds tree) p

  module _ (stop : List Choice → Bool) where
    cut_is : IsMachine (machine_of (whole_search room) adds (cut stop [] tree))
    cut_is = machine_law (whole_search room) adds (cut stop [] tree) (cut_sound stop tree [] sound) fair

    -- a path of the tree is one of the tree that is cut past its nodes
    cut_rests : (p : List Stored) → Rests p → ((before : List Choice) (n : Stored) → node_at p before ≡ Some n → stop before ≡ false) → IsResting (machine_of (whole_search room) adds (cut stop [] tree)) p
    cut_rests p rests past = record { meets = λ before n h. cut_meets stop room tree [] before n.made (λ front e i. let z = on_the_way p before n h front e i in past front z.0 z.1) (rests.meets before n h); rest = rests.rest }

    -- and what a run through it leaves is one of the tree
    back_rests : (q : List Stored) → IsResting (machine_of (whole_search room) adds (cut stop [] tree)) q → Rests q
    back_rests q rests = record { meets = λ before n h. cut_part stop room tree [] before n.made (rests.meets before n h); rest = rests.rest }

    -- what a run that was made along a path comes to
    pub record Round (p q : List Stored) (came : Result (Option A) FailureKind) : Type 0 where
      pub left_by : IsLeftBy p q
      pub rests : Rests q
      pub skips_none : SkipsNone p → SkipsNone q
      pub comes : Comes stop room tree [] (choices q) came
      pub asks : came ≡ Ok None → (n : Made) × ((world_of tree).node (choices q) ≡ Some n)

    pub round : (p : List Stored) (came : Result (Option A) FailureKind) (path : Trail) → Rests p → ((before : List Choice) (n : Stored) → node_at p before ≡ Some n → stop before ≡ false)
        → drive (whole_search room) adds (cut stop [] tree) (at_start p) ≡ (came, path) → Round p path.nodes came
    round p came path rests past h = go (driven (whole_search room) adds (cut stop [] tree) (cut_sound stop tree [] sound) fair p came path (cut_rests p rests past) h)
      where
        go : AfterDrive (whole_search room) adds (cut stop [] tree) p came path → Round p path.nodes came
        go z = record {
          left_by = subst (IsLeftBy p) (sym z.leaves) (after_left_by (machine_of (whole_search room) adds (cut stop [] tree)) cut_is (tries_all room adds (cut stop [] tree)) p (cut_rests p rests past));
          rests = back_rests path.nodes
              (subst (IsResting (machine_of (whole_search room) adds (cut stop [] tree))) (sym z.leaves) (after_rests (machine_of (whole_search room) adds (cut stop [] tree)) cut_is (tries_all room adds (cut stop [] tree)) p (cut_rests p rests past)));
          skips_none = λ old. subst SkipsNone (sym z.leaves) (after_skips_none (machine_of (whole_search room) adds (cut stop [] tree)) cut_is (tries_all room adds (cut stop [] tree)) p (cut_rests p rests past) old);
          comes = cut_comes stop room tree [] (choices path.nodes) came z.comes;
          asks = λ e. cut_asks stop room tree [] (choices path.nodes) sound (z.comes ∙ ap Some e);
        }

  -- the path is passed to its end
  pub passed_to_end : (stop : List Choice → Bool) (p : List Stored) (came : Result (Option A) FailureKind) (path : Trail) → Rests p
      → ((before : List Choice) (n : Stored) → node_at p before ≡ Some n → stop before ≡ false)
      → drive (whole_search room) adds (cut stop [] tree) (at_start p) ≡ (came, path) → path ≡ at_end path.nodes
  passed_to_end stop p came path rests past h = (driven (whole_search room) adds (cut stop [] tree) (cut_sound stop tree [] sound) fair p came path (cut_rests stop p rests past) h).all_passed

  -- a path that comes next is one of the tree
  pub later_rests : (q later : List Stored) → Rests q → step q ≡ Some later → Rests later
  later_rests q later rests some =
      step_rests (machine_of (whole_search room) adds tree) q later (step_some q later some) rests

  -- ---- rounds

  module _ {K : Type 0} (key : List Choice → K) (all : List (List Stored)) where
    -- how a run of the tree ended that left this path
    abbrev Ended : List (List Choice × A) → List Stored → Type 0
    Ended runs q = IsEnd (world_of tree) key all runs q

    given_more : (c : List Choice) (came : Option A) (runs : List (List Choice × A)) (d : List Choice) (value : A) → IsGiven d value runs → IsGiven d value (with_run c came runs)
    given_more c None runs d value h = h
    given_more c (Some v) runs d value h = inr h

    end_more : (c : List Choice) (came : Option A) (runs : List (List Choice × A)) (q : List Stored) → Ended runs q → Ended (with_run c came runs) q
    end_more c came runs q (ended value none ok given) = ended value none ok (given_more c came runs (choices q) value given)
    end_more c came runs q (was_met n at y b k i node same_key) = was_met n at y b k i node same_key

    pub in_world : (d : List Choice) (value : A) → outcome room tree d ≡ Some (Ok value) → (world_of tree).outcome d ≡ Some (Ok value)
    in_world d value h = go (outcome_more room tree d (Ok value) h)
      where
        go : (Ok value ≡ Err TooManyBranches) ⊎ ((world_of tree).outcome d ≡ Some (Ok value)) → (world_of tree).outcome d ≡ Some (Ok value)
        go (inl e) = absurd (cc e)
        go (inr e) = e

    pub end_of : (stop : List Choice → Bool) (p q : List Stored) (came : Option A) (runs : List (List Choice × A)) → IsStop key all p stop → Round stop p q (Ok came) → Ended (with_run (choices q) came runs) q
    end_of stop p q None runs s r = let z = s.noted (choices q) r.comes in let a = r.asks refl in was_met a.0 a.1 z.0 z.2 z.3 z.1 z.4 z.5
    end_of stop p q (Some value) runs s r =
        let came = in_world (choices q) value r.comes in ended value (world_ends tree (choices q) (Ok value) came) came (inl (refl, refl))

    record Known (p : List Stored) (left : List (List Stored)) (runs : List (List Choice × A)) : Type 0 where
      driven : Driven p left
      tries : (q : List Stored) → IsOneOf q left → SkipsNone q
      rests : (q : List Stored) → IsOneOf q left → Rests q
      ends : (q : List Stored) → IsOneOf q left → Ended runs q

    known : (p : List Stored) (left : List (List Stored)) (runs : List (List Choice × A)) → Checks room adds tree key all p left runs → Rests p → SkipsNone p → Known p left runs
    known p left runs (last_check _ stop came path s h none) rests skips = go (round stop p (Ok came) path rests s.past h)
      where
        go : Round stop p path.nodes (Ok came) → Known p (path.nodes ∷ []) (with_run (choices path.nodes) came [])
        go z = record {
          driven = last_run p path.nodes z.left_by none;
          tries = λ x i. tries x i;
          rests = λ x i. each x i;
          ends = λ x i. ends x i;
        }
          where
            tries : (x : List Stored) → IsOneOf x (path.nodes ∷ []) → SkipsNone x
            tries x (inl i) = subst SkipsNone (sym i) (z.skips_none skips)
            tries x (inr i) = absurd i

            each : (x : List Stored) → IsOneOf x (path.nodes ∷ []) → Rests x
            each x (inl i) = subst Rests (sym i) z.rests
            each x (inr i) = absurd i

            ends : (x : List Stored) → IsOneOf x (path.nodes ∷ []) → Ended (with_run (choices path.nodes) came []) x
            ends x (inl i) = subst (Ended (with_run (choices path.nodes) came [])) (sym i) (end_of stop p path.nodes came [] s z)
            ends x (inr i) = absurd i
    known p left runs (one_check _ later stop came path rest more s h some checks) rests skips =
        go (round stop p (Ok came) path rests s.past h) (λ r k. known later rest more checks r k)
      where
        go : Round stop p path.nodes (Ok came) → (Rests later → SkipsNone later → Known later rest more) → Known p (path.nodes ∷ rest) (with_run (choices path.nodes) came more)
        go z ih = record {
          driven = one_run p path.nodes later rest z.left_by some y.driven;
          tries = λ x i. tries x i;
          rests = λ x i. each x i;
          ends = λ x i. ends x i;
        }
          where
            y : Known later rest more
            y = ih (later_rests path.nodes later z.rests some) (step_skips_none path.nodes later (step_some path.nodes later some) (z.skips_none skips))

            tries : (x : List Stored) → IsOneOf x (path.nodes ∷ rest) → SkipsNone x
            tries x (inl i) = subst SkipsNone (sym i) (z.skips_none skips)
            tries x (inr i) = y.tries x i

            each : (x : List Stored) → IsOneOf x (path.nodes ∷ rest) → Rests x
            each x (inl i) = subst Rests (sym i) z.rests
            each x (inr i) = y.rests x i

            ends : (x : List Stored) → IsOneOf x (path.nodes ∷ rest) → Ended (with_run (choices path.nodes) came more) x
            ends x (inl i) = subst (Ended (with_run (choices path.nodes) came more)) (sym i) (end_of stop p path.nodes came more s z)
            ends x (inr i) = end_more (choices path.nodes) came more x (y.ends x i)

    pub remembers : (left : List (List Stored)) (runs : List (List Choice × A)) → Checks room adds tree key all [] left runs → all ≡ left → Remembers (world_of tree) key left runs
    remembers left runs checks same =
        let k = known [] left runs checks (empty_rests (machine_of (whole_search room) adds tree)) empty_skips_none in
        record {
          driven = driven_tries left k.driven;
          tries = k.tries;
          meets = λ q i before n h. met_more room tree before n.made ((k.rests q i).meets before n h);
          ends = λ q i. subst (λ a. IsEnd (world_of tree) key a runs q) same (k.ends q i);
        }

pub check_law : {A K : Type 0} → CheckLaw A K
check_law limits v room adds tree key other left runs sound_tree fair ends sound checks =
    cover_law limits (world_of tree) v key other left runs (world_ends tree) ends sound (remembers room adds tree sound_tree fair key left left runs checks refl)

pub fail_law : {A : Type 0} → FailLaw A
fail_law room adds tree p stop failure path sound fair rests past h = (round room adds tree sound fair stop p (Err failure) path rests past h).comes
