-- Equal states have equal futures.
use Rattle.std.proofs.Common.{◌≡◌, ◌⊎◌, ℕ, suc, Bool, false, List, [], ◌∷◌, ◌++◌, Option, Some, None, Ok, Err, refl, ap, ap₂, sym, ◌∙◌, subst, inl, inr, append_assoc}
use Rattle.std.specs.Option.{option_map}
use Rattle.loom_objects.specs.declared.choice.Choice.{Choice}
use Rattle.loom_objects.specs.declared.operation.Reply.TheVariants as reply
use Rattle.loom_objects.specs.Exploring.{initially, is_on}
use Rattle.loom_objects.specs.Tree.Question.{Made, Question, Among, made_of}
use Rattle.loom_objects.specs.Tree.Tree.{Tree, Gives, Fails, Closes, Asks}
use Rattle.loom_objects.specs.World.{World as State_of_machine}
use Rattle.loom_views.specs.declared.rt.failure.FailureKind.{FailureKind}
use Rattle.loom_engine.specs.Runs.Body.{Meaning, runs}
use Rattle.loom_engine.specs.Runs.Course.{opening}
use Rattle.loom_engine.specs.Covering.World.{World, IsCalled, IsStopped, world_of}
use Rattle.loom_engine.specs.Covering.Sound.{MeetsSame, Unless, IsSound}
use Rattle.loom_engine.specs.Covering.Alike.{AreAlike}
use Rattle.loom_engine.specs.Covering.Moments.{Moment, Next, RunEnds, Stands, Stand, at_schedule, by_choice, first_part, first_stand, settled, stand_after}
use Rattle.loom_engine.specs.Covering.States.{State, state_of, seen_in, state_after, TellsFuture, AreLimits, KeepsAlike, LooksSame, StatesLaw, CoveredBodyLaw}
use Rattle.loom_engine.proofs.Covering.Alike.{Leads, leads_alike}
use Rattle.loom_engine.proofs.Covering.Cut.{check_law}
use Rattle.loom_engine.proofs.Covering.Schedules.{NextAlike, at_schedule_alike, to_schedule_alike}
use Rattle.loom_engine.proofs.Covering.Standing.{part_of, IsStand, settles, on_from, settled_runs, stand_then, asks_ahead, Goes, goes}
use Rattle.loom_engine.proofs.Covering.Unfolding.{asked_runs, play_runs}
use Rattle.loom_engine.proofs.Covering.Worlds.{world_ends}
use Rattle.loom_engine.proofs.Runs.Bodies.{run_tree_law}

-- a run through the tree fails by a limit at once
abbrev pub StopsAtOnce : {A : Type 0} → (FailureKind → Bool) → Tree A → Type 0
StopsAtOnce limits t = IsStopped (world_of t) limits []

module _ {D S K : Type 0} (limits : FailureKind → Bool) (are : AreLimits limits) (look : Bool → State_of_machine D → K) (Alike : Bool → State_of_machine D → State_of_machine D → Type 0) (tells : TellsFuture limits look Alike) (next : Meaning D S) (keeps : KeepsAlike next Alike) where
  abbrev Segments : Tree (Next D S) → Tree (Next D S) → Type 0
  Segments t u = AreAlike limits (NextAlike limits are look Alike tells) t u

  abbrev From : Tree (Next D S) → Tree D
  From t = on_from next t

  -- what comes at once, unless one of them fails by a limit
  abbrev AtOnce : Tree D → Tree D → Type 0 → Type 0
  AtOnce t u so = StopsAtOnce limits t ⊎ StopsAtOnce limits u ⊎ so

  abbrev SameAtOnce : Tree D → Tree D → Type 0
  SameAtOnce t u = AtOnce t u (MeetsSame ((world_of t).node []) ((world_of u).node []) × ((world_of t).outcome [] ≡ (world_of u).outcome []))

  asked_at_once : (m n : Moment D S) → state_of look m ≡ state_of look n → SameAtOnce (From (at_schedule next m)) (From (at_schedule next n))
  asked_at_once m n e = inr (inr ((at_schedule_alike limits are look Alike tells next keeps m n e).0, refl))

  closed_at_once : (t u : Tree D) → SameAtOnce t u → SameAtOnce (Closes t) (Closes u)
  closed_at_once t u (inl s) = inl s
  closed_at_once t u (inr (inl s)) = inr (inl s)
  closed_at_once t u (inr (inr h)) = inr (inr (tt, h.1))

  at_once : (t u : Tree (Next D S)) → Segments t u → SameAtOnce (From t) (From u)
  at_once (Gives (RunEnds value)) (Gives (RunEnds other)) h = inr (inr (tt, ap (λ v. Some (Ok v)) h))
  at_once (Gives (RunEnds value)) (Gives (Stands n)) h = absurd h
  at_once (Gives (Stands m)) (Gives (RunEnds other)) h = absurd h
  at_once (Gives (Stands m)) (Gives (Stands n)) h =
      subst (λ t. SameAtOnce t (From (Gives (Stands n)))) (sym (asked_runs next m)) (subst (λ u. SameAtOnce (From (at_schedule next m)) u) (sym (asked_runs next n)) (asked_at_once m n h))
  at_once (Gives value) (Fails kind) h = inr (inl (kind, refl, h))
  at_once (Gives value) (Closes rest) h = absurd h
  at_once (Gives value) (Asks question branches) h = absurd h
  at_once (Fails kind) (Gives value) h = inl (kind, refl, h)
  at_once (Fails kind) (Fails other) (inl e) = inr (inr (tt, ap (λ k. Some (Err k)) e))
  at_once (Fails kind) (Fails other) (inr (inl h)) = inl (kind, refl, h)
  at_once (Fails kind) (Fails other) (inr (inr h)) = inr (inl (other, refl, h))
  at_once (Fails kind) (Closes rest) h = inl (kind, refl, h)
  at_once (Fails kind) (Asks question branches) h = inl (kind, refl, h)
  at_once (Closes rest) (Gives value) h = absurd h
  at_once (Closes rest) (Fails kind) h = inr (inl (kind, refl, h))
  at_once (Closes rest) (Closes other) h = closed_at_once (From rest) (From other) (at_once rest other h)
  at_once (Closes rest) (Asks question branches) h = absurd h
  at_once (Asks question branches) (Gives value) h = absurd h
  at_once (Asks question branches) (Fails kind) h = inr (inl (kind, refl, h))
  at_once (Asks question branches) (Closes rest) h = absurd h
  at_once (Asks question branches) (Asks asked others) h = inr (inr (h.0, refl))

  -- ---- where two runs stand

  abbrev Seen : Option (Moment D S) → Option (State S K)
  Seen last = option_map (state_of look) last

  -- what is ahead may be a schedule: then both stand there in the same state
  settled_alike : (last other : Option (Moment D S)) (since too : List Choice) (t u : Tree (Next D S)) → Seen last ≡ Seen other → since ≡ too → Segments t u
      → AtOnce (From t) (From u) (seen_in look (settled next last since t) ≡ seen_in look (settled next other too u))
  settled_alike last other since too (Gives (Stands m)) (Gives (Stands n)) e i h = inr (inr (ap (λ s. (Some s, [])) h))
  settled_alike last other since too (Gives (Stands m)) (Gives (RunEnds value)) e i h = absurd h
  settled_alike last other since too (Gives (RunEnds value)) (Gives (Stands n)) e i h = absurd h
  settled_alike last other since too (Gives (RunEnds value)) (Gives (RunEnds result)) e i h = inr (inr (ap₂ (λ x y. (x, y)) e i))
  settled_alike last other since too (Gives value) (Fails kind) e i h = inr (inl (kind, refl, h))
  settled_alike last other since too (Gives value) (Closes rest) e i h = absurd h
  settled_alike last other since too (Gives value) (Asks question branches) e i h = absurd h
  settled_alike last other since too (Fails kind) u e i h = fails u h
    where
      fails : (u : Tree (Next D S)) → Segments (Fails kind) u → AtOnce (From (Fails kind)) (From u) (seen_in look (settled next last since (Fails kind)) ≡ seen_in look (settled next other too u))
      fails (Gives value) h = inl (kind, refl, h)
      fails (Fails second) h = inr (inr (ap₂ (λ x y. (x, y)) e i))
      fails (Closes rest) h = inl (kind, refl, h)
      fails (Asks question branches) h = inl (kind, refl, h)
  settled_alike last other since too (Closes rest) (Gives value) e i h = absurd h
  settled_alike last other since too (Closes rest) (Fails kind) e i h = inr (inl (kind, refl, h))
  settled_alike last other since too (Closes rest) (Closes more) e i h = inr (inr (ap₂ (λ x y. (x, y)) e i))
  settled_alike last other since too (Closes rest) (Asks question branches) e i h = absurd h
  settled_alike last other since too (Asks question branches) (Gives value) e i h = absurd h
  settled_alike last other since too (Asks question branches) (Fails kind) e i h = inr (inl (kind, refl, h))
  settled_alike last other since too (Asks question branches) (Closes rest) e i h = absurd h
  settled_alike last other since too (Asks question branches) (Asks asked others) e i h = inr (inr (ap₂ (λ x y. (x, y)) e i))

  one_state : (x y : State S K) → Some x ≡ Some y → x ≡ y
  one_state x y e = cc e

  parts_alike : (first second : Tree (Next D S)) → Segments first second → (last other : Option (Moment D S)) → Seen last ≡ Seen other → Segments (part_of next first last) (part_of next second other)
  parts_alike first second h None None e = h
  parts_alike first second h None (Some n) e = absurd (cc e)
  parts_alike first second h (Some m) None e = absurd (cc e)
  parts_alike first second h (Some m) (Some n) e = at_schedule_alike limits are look Alike tells next keeps m n (one_state (state_of look m) (state_of look n) e)

  -- where two runs stand in the same state, what is ahead is alike
  ahead_alike : (first second : Tree (Next D S)) → Segments first second → (s r : Stand D S) → IsStand next first s → IsStand next second r → seen_in look s ≡ seen_in look r → Segments s.ahead r.ahead
  ahead_alike first second h s r z y e =
      leads_alike limits (NextAlike limits are look Alike tells) (part_of next first s.last) (part_of next second r.last) s.since s.ahead r.ahead
      (parts_alike first second h s.last r.last (ap (λ (x : Option (State S K) × List Choice). x.0) e)) z.leads
      (subst (λ c. Leads (part_of next second r.last) c r.ahead) (sym (ap (λ (x : Option (State S K) × List Choice). x.1) e)) y.leads)

  -- ---- the law

  module _ (first second : Tree (Next D S)) (begin : Segments first second) where
    abbrev Start : Tree (Next D S) → Stand D S
    Start t = settled next None [] t

    abbrev From_start : Tree (Next D S) → World D
    From_start t = world_of (From (Start t).ahead)

    goes_so : (t : Tree (Next D S)) (c : List Choice) → IsCalled (From_start t) c → Goes next t (From_start t) c (stand_after next (Start t) c)
    goes_so t c called = goes next t c (Start t).last (Start t).since (Start t).ahead (settles next t None [] t refl) called

    stopped_after : (t : Tree (Next D S)) (c : List Choice) (s : Stand D S) → Goes next t (From_start t) c s → StopsAtOnce limits (From s.ahead) → IsStopped (From_start t) limits c
    stopped_after t c s g h = (h.0, g.outcome ∙ h.1, h.2)

    starts : Unless limits (From_start first) (From_start second) [] [] (seen_in look (Start first) ≡ seen_in look (Start second))
    starts = go (settled_alike None None [] [] first second refl refl begin)
      where
        go : AtOnce (From first) (From second) (seen_in look (Start first) ≡ seen_in look (Start second)) → Unless limits (From_start first) (From_start second) [] [] (seen_in look (Start first) ≡ seen_in look (Start second))
        go (inl s) = inl (subst (StopsAtOnce limits) (sym (settled_runs next None [] first)) s)
        go (inr (inl s)) = inr (inl (subst (StopsAtOnce limits) (sym (settled_runs next None [] second)) s))
        go (inr (inr h)) = inr (inr h)

    comes_same : (b c : List Choice) → IsCalled (From_start first) b → IsCalled (From_start second) c → seen_in look (stand_after next (Start first) b) ≡ seen_in look (stand_after next (Start second) c)
        → Unless limits (From_start first) (From_start second) b c (MeetsSame ((From_start first).node b) ((From_start second).node c) × ((From_start first).outcome b ≡ (From_start second).outcome c))
    comes_same b c called called_too e = by (goes_so first b called) (goes_so second c called_too)
      where
        by : Goes next first (From_start first) b (stand_after next (Start first) b) → Goes next second (From_start second) c (stand_after next (Start second) c)
            → Unless limits (From_start first) (From_start second) b c (MeetsSame ((From_start first).node b) ((From_start second).node c) × ((From_start first).outcome b ≡ (From_start second).outcome c))
        by g h = go (at_once (stand_after next (Start first) b).ahead (stand_after next (Start second) c).ahead (ahead_alike first second begin (stand_after next (Start first) b) (stand_after next (Start second) c) g.is_stand h.is_stand e))
          where
            go : SameAtOnce (From (stand_after next (Start first) b).ahead) (From (stand_after next (Start second) c).ahead)
                → Unless limits (From_start first) (From_start second) b c (MeetsSame ((From_start first).node b) ((From_start second).node c) × ((From_start first).outcome b ≡ (From_start second).outcome c))
            go (inl s) = inl (stopped_after first b (stand_after next (Start first) b) g s)
            go (inr (inl s)) = inr (inl (stopped_after second c (stand_after next (Start second) c) h s))
            go (inr (inr p)) = inr (inr (subst (λ x. MeetsSame x ((From_start second).node c)) (sym g.node) (subst (λ y. MeetsSame ((world_of (From (stand_after next (Start first) b).ahead)).node []) y) (sym h.node) p.0), g.outcome ∙ p.1 ∙ sym h.outcome))

    -- one choice more
    record Step (t : Tree (Next D S)) (b : List Choice) (o : Choice) : Type 0 where
      question : Question
      branches : Choice → Tree (Next D S)
      is : (stand_after next (Start t) b).ahead ≡ Asks question branches
      among : Among o (made_of question).options
      comes : stand_after next (Start t) (b ++ o ∷ []) ≡ settled next (stand_after next (Start t) b).last ((stand_after next (Start t) b).since ++ o ∷ []) (branches o)
      stops : StopsAtOnce limits (From (branches o)) → IsStopped (From_start t) limits (b ++ o ∷ [])

    called_front : (t : Tree (Next D S)) (b : List Choice) (o : Choice) → IsCalled (From_start t) (b ++ o ∷ []) → IsCalled (From_start t) b
    called_front t b o called before x after e = called before x (after ++ o ∷ []) (ap (λ l. l ++ o ∷ []) e ∙ append_assoc before (x ∷ after) (o ∷ []))

    steps : (t : Tree (Next D S)) (b : List Choice) (o : Choice) → IsCalled (From_start t) (b ++ o ∷ []) → Step t b o
    steps t b o called = by (called b o [] refl) (goes_so t b (called_front t b o called)) (goes_so t (b ++ o ∷ []) called)
      where
        by : (n : Made) × ((From_start t).node b ≡ Some n) × Among o n.options × (n.exploring ≡ false → o ≡ n.default) → Goes next t (From_start t) b (stand_after next (Start t) b)
            → Goes next t (From_start t) (b ++ o ∷ []) (stand_after next (Start t) (b ++ o ∷ [])) → Step t b o
        by (n, met, among, only) g h = asks_ahead next (stand_after next (Start t) b).ahead g.is_stand.is_settled n (sym g.node ∙ met) (λ question branches i j. go question branches i j)
          where
            go : (question : Question) (branches : Choice → Tree (Next D S)) → (stand_after next (Start t) b).ahead ≡ Asks question branches → made_of question ≡ n → Step t b o
            go question branches i j = record {
              question = question;
              branches = branches;
              is = i;
              among = subst (λ (k : Made). Among o k.options) (sym j) among;
              comes = one;
              stops = λ s. (s.0, h.outcome ∙ ap (λ r. (world_of r).outcome []) (ap (λ (z : Stand D S). From z.ahead) one ∙ settled_runs next (stand_after next (Start t) b).last ((stand_after next (Start t) b).since ++ o ∷ []) (branches o)) ∙ s.1, s.2);
            }
              where
                one : stand_after next (Start t) (b ++ o ∷ []) ≡ settled next (stand_after next (Start t) b).last ((stand_after next (Start t) b).since ++ o ∷ []) (branches o)
                one = stand_then next (Start t) b o ∙ ap (λ a. by_choice next o (stand_after next (Start t) b) a) i

    next_same : (b c : List Choice) (o : Choice) → IsCalled (From_start first) (b ++ o ∷ []) → IsCalled (From_start second) (c ++ o ∷ []) → seen_in look (stand_after next (Start first) b) ≡ seen_in look (stand_after next (Start second) c)
        → Unless limits (From_start first) (From_start second) (b ++ o ∷ []) (c ++ o ∷ []) (seen_in look (stand_after next (Start first) (b ++ o ∷ [])) ≡ seen_in look (stand_after next (Start second) (c ++ o ∷ [])))
    next_same b c o called called_too e = by (steps first b o called) (steps second c o called_too)
      where
        alike : Segments (stand_after next (Start first) b).ahead (stand_after next (Start second) c).ahead
        alike = ahead_alike first second begin (stand_after next (Start first) b) (stand_after next (Start second) c)
            (goes_so first b (called_front first b o called)).is_stand (goes_so second c (called_front second c o called_too)).is_stand e

        by : Step first b o → Step second c o
            → Unless limits (From_start first) (From_start second) (b ++ o ∷ []) (c ++ o ∷ []) (seen_in look (stand_after next (Start first) (b ++ o ∷ [])) ≡ seen_in look (stand_after next (Start second) (c ++ o ∷ [])))
        by x y = go (settled_alike (stand_after next (Start first) b).last (stand_after next (Start second) c).last ((stand_after next (Start first) b).since ++ o ∷ []) ((stand_after next (Start second) c).since ++ o ∷ []) (x.branches o) (y.branches o) (ap (λ (z : Option (State S K) × List Choice). z.0) e) (ap (λ (z : Option (State S K) × List Choice). z.1 ++ o ∷ []) e) (both.1 o x.among))
          where
            both : Segments (Asks x.question x.branches) (Asks y.question y.branches)
            both = subst (λ u. Segments (Asks x.question x.branches) u) y.is (subst (λ t. Segments t (stand_after next (Start second) c).ahead) x.is alike)

            go : AtOnce (From (x.branches o)) (From (y.branches o)) (seen_in look (settled next (stand_after next (Start first) b).last ((stand_after next (Start first) b).since ++ o ∷ []) (x.branches o)) ≡ seen_in look (settled next (stand_after next (Start second) c).last ((stand_after next (Start second) c).since ++ o ∷ []) (y.branches o)))
                → Unless limits (From_start first) (From_start second) (b ++ o ∷ []) (c ++ o ∷ []) (seen_in look (stand_after next (Start first) (b ++ o ∷ [])) ≡ seen_in look (stand_after next (Start second) (c ++ o ∷ [])))
            go (inl s) = inl (x.stops s)
            go (inr (inl s)) = inr (inl (y.stops s))
            go (inr (inr h)) = inr (inr (ap (seen_in look) x.comes ∙ h ∙ sym (ap (seen_in look) y.comes)))

    pub sound_so : IsSound limits (From_start first) (From_start second) (λ c. seen_in look (stand_after next (Start first) c)) (λ c. seen_in look (stand_after next (Start second) c))
    sound_so = record { start = starts; same = comes_same; next = next_same }

-- ---- the runs of a body

module _ {D S : Type 0} (next : Meaning D S) (explores : Bool) (max_threads max_steps : ℕ) (body : S) where
  from_start : runs next explores max_threads max_steps body ≡ on_from next (first_stand next explores max_threads max_steps body).ahead
  from_start =
      play_runs next (suc max_steps) (body ∷ []) (opening explores max_threads max_steps) 0 reply.Start
      ∙ sym (settled_runs next None [] (first_part next explores max_threads max_steps body))

pub states_law : {D S K F : Type 0} → StatesLaw D S K F
states_law limits look between next explores max_threads max_steps steps_too body are tells keeps alike =
    subst (λ t. IsSound limits (world_of t) (world_of (runs next explores max_threads steps_too body)) (state_after look next explores max_threads max_steps body) (state_after look next explores max_threads steps_too body))
    (sym (from_start next explores max_threads max_steps body))
    (subst (λ t. IsSound limits (world_of (on_from next (first_stand next explores max_threads max_steps body).ahead)) (world_of t) (state_after look next explores max_threads max_steps body) (state_after look next explores max_threads steps_too body))
    (sym (from_start next explores max_threads steps_too body))
    (sound_so limits are look (LooksSame between) tells next keeps (first_part next explores max_threads max_steps body) (first_part next explores max_threads steps_too body) begin))
  where
    begin : AreAlike limits (NextAlike limits are look (LooksSame between) tells) (first_part next explores max_threads max_steps body) (first_part next explores max_threads steps_too body)
    begin = to_schedule_alike limits are look (LooksSame between) tells next keeps (suc max_steps) (suc steps_too) (body ∷ []) (opening explores max_threads max_steps) (opening explores max_threads steps_too) 0 reply.Start
        (record { world = alike (is_on (initially explores)); exploring = refl; ordered = refl })

pub covered_body_law : {D S K F : Type 0} → CoveredBodyLaw D S K F
covered_body_law limits look between next explores max_threads max_steps steps_too room adds body left given are tells keeps alike fair checks =
    check_law limits (world_of (runs next explores max_threads steps_too body)) room adds (runs next explores max_threads max_steps body) (state_after look next explores max_threads max_steps body)
    (state_after look next explores max_threads steps_too body) left given (run_tree_law next explores max_threads max_steps body).sound fair (world_ends (runs next explores max_threads steps_too body))
    (states_law limits look between next explores max_threads max_steps steps_too body are tells keeps alike) checks
