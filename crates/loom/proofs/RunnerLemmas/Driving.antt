-- The tree of a history: its path drives through it to the history's outcome.
use Rattle.std.proofs.Common.{◌≡◌, ◌-◌, suc, List, [], ◌∷◌, length, map, Option, Some, None, refl, ap, sym, ◌∙◌, subst, arith}
use Rattle.std.specs.Prelude.{slice_get, Result, Ok, Err, ⊤}
use Rattle.loom_views.specs.declared.rt.failure.FailureKind.{FailureKind}
use Rattle.loom_views.specs.declared.rt.failure.FailureKind.TheVariants.{TooManySteps}
use Rattle.loom_objects.specs.declared.failure.Failure.{Failure}
use Rattle.loom_objects.specs.declared.operation.Request.{Request}
use Rattle.loom_objects.specs.declared.operation.Turn.{Turn}
use Rattle.loom_objects.specs.declared.operation.Turn.TheVariants as turn
use Rattle.loom_objects.specs.Tree.Tree.{Tree, Gives}
use Rattle.loom_engine.specs.Trees.Drive.{drive}
use Rattle.loom_engine.specs.Trees.Marks.{marking}
use Rattle.loom_engine.specs.Trees.Meeting.{Settings}
use Rattle.loom_engine.specs.Trees.Sound.{EndsUnchosen, IsFair, IsQuiet}
use Rattle.loom_engine.proofs.Trees.Binding.{drive_then, drive_fails}
use Rattle.loom_engine.specs.Runs.Course.{Course, opening}
use Rattle.loom_engine.specs.Runs.Machine.{submit}
use Rattle.loom_engine.specs.Runs.Body.{at_turn}
use Rattle.loom_engine.specs.Runs.Sound.{IsRunTree}
use Rattle.loom_engine.proofs.Runs.Events.{IsGoing, IsOver, failing_run, event_then, event_unchosen}
use Rattle.loom_engine.proofs.Runs.Steps.{submit_event}
use Rattle.loom_engine.specs.Path.Route.{Route, IsSameSearch, trail}
use Rattle.loom_engine.specs.declared.rt.execution.Limits.{Limits}
use Rattle.loom_engine.specs.Execution.{ShowsCourse}
use Rattle.loom.specs.declared.runner.history.event.Event.{Event}
use Rattle.loom.specs.Runner.Histories.{Moment, Happens, Leads, IsHistory, last_event, ended, failing, ended_by, failed_by, first}
use Rattle.loom.specs.Runner.Chains.{handing}

-- ---- it is such a tree as a body's runs are

module _ {D : Type 0} where
  turn_run : (turned : Turn D) (c : Course D) (go : Tree D) → IsRunTree go → IsGoing (turned, c) → IsRunTree (at_turn (λ thread answer. go) (λ value. Gives value) turned)
  turn_run (turn.Reply thread answer) c go h going = h
  turn_run (turn.Start thread) c go h going = h
  turn_run (turn.Ended value) c go h going = absurd going

  turn_rests : (turned : Turn D) (c : Course D) (go : Tree D) → IsOver (turned, c)
      → IsQuiet (at_turn (λ thread answer. go) (λ value. Gives value) turned) × IsFair (at_turn (λ thread answer. go) (λ value. Gives value) turned)
  turn_rests (turn.Reply thread answer) c go over = absurd over
  turn_rests (turn.Start thread) c go over = absurd over
  turn_rests (turn.Ended value) c go over = (tt, tt)

  pub handing_run : (ops : List (Request D ⊤)) (c : Course D) → IsRunTree (handing ops c)
  unfolding handing
  handing_run [] c = failing_run TooManySteps (λ e. cc e)
  handing_run (op ∷ ops) c =
      event_then _ (submit op c) (submit_event op c)
      (λ turned going. turn_run turned.0 turned.1 (handing ops turned.1) (handing_run ops turned.1) going)
      (λ turned over. turn_rests turned.0 turned.1 (handing ops turned.1) over)

  turn_unchosen : (turned : Turn D) (c : Course D) (go : Tree D) → EndsUnchosen go → IsGoing (turned, c) → EndsUnchosen (at_turn (λ thread answer. go) (λ value. Gives value) turned)
  turn_unchosen (turn.Reply thread answer) c go h going = h
  turn_unchosen (turn.Start thread) c go h going = h
  turn_unchosen (turn.Ended value) c go h going = absurd going

  -- after a schedule without a default thread it asks nothing
  pub handing_unchosen : (ops : List (Request D ⊤)) (c : Course D) → EndsUnchosen (handing ops c)
  unfolding handing
  handing_unchosen [] c = tt
  handing_unchosen (op ∷ ops) c =
      event_unchosen _ (submit op c) (submit_event op c)
      (λ turned going. turn_unchosen turned.0 turned.1 (handing ops turned.1) (handing_unchosen ops turned.1) going)
      (λ turned over. turn_rests turned.0 turned.1 (handing ops turned.1) over)

  -- ---- how a history ends

  abbrev pub comes_of : Result (Turn D) Failure → Option (Result D FailureKind)
  comes_of (Ok (turn.Reply k answer)) = None
  comes_of (Ok (turn.Start k)) = None
  comes_of (Ok (turn.Ended value)) = Some (Ok value)
  comes_of (Err failure) = Some (Err failure.kind)

  -- its last event ends it so
  abbrev pub EndsBy : List (Event D) → Result D FailureKind → Type 0
  EndsBy [] r = ⊥
  EndsBy (e ∷ []) r = comes_of e.outcome ≡ Some r
  EndsBy (e ∷ x ∷ es) r = EndsBy (x ∷ es) r

  last_more : (e x : Event D) (es : List (Event D)) → last_event (e ∷ x ∷ es) ≡ last_event (x ∷ es)
  last_more e x es =
      let k : length (e ∷ x ∷ es) - 1 ≡ suc (length (x ∷ es) - 1) = omega arith in
      ap (slice_get (e ∷ x ∷ es)) k

  ends_by : (es : List (Event D)) (e : Event D) (r : Result D FailureKind) → last_event es ≡ Some e → comes_of e.outcome ≡ Some r → EndsBy es r
  ends_by [] e r last comes = absurd (cc last)
  ends_by (x ∷ []) e r last comes = let same : x ≡ e = cc last in ap (λ (y : Event D). comes_of y.outcome) same ∙ comes
  ends_by (x ∷ y ∷ es) e r last comes = ends_by (y ∷ es) e r (sym (last_more x y es) ∙ last) comes

  out_ended : (out : Result (Turn D) Failure) (value : D) → ended out ≡ Some value → comes_of out ≡ Some (Ok value)
  out_ended (Ok (turn.Reply k answer)) value h = absurd (cc h)
  out_ended (Ok (turn.Start k)) value h = absurd (cc h)
  out_ended (Ok (turn.Ended v)) value h = cc h
  out_ended (Err failure) value h = absurd (cc h)

  out_failed : (out : Result (Turn D) Failure) (failure : Failure) → failing out ≡ Some failure → comes_of out ≡ Some (Err failure.kind)
  out_failed (Ok t) failure h = absurd (cc h)
  out_failed (Err f) failure h = let same : f ≡ failure = cc h in ap (λ (g : Failure). Some (Err g.kind)) same

  pub ends_ended : (es : List (Event D)) (value : D) → ended_by (last_event es) ≡ Some value → EndsBy es (Ok value)
  ends_ended es value h = go (last_event es) refl h
    where
      go : (o : Option (Event D)) → last_event es ≡ o → ended_by o ≡ Some value → EndsBy es (Ok value)
      go None last g = absurd (cc g)
      go (Some e) last g = ends_by es e (Ok value) last (out_ended e.outcome value g)

  pub ends_failed : (es : List (Event D)) (failure : Failure) → failed_by (last_event es) ≡ Some failure → EndsBy es (Err failure.kind)
  ends_failed es failure h = go (last_event es) refl h
    where
      go : (o : Option (Event D)) → last_event es ≡ o → failed_by o ≡ Some failure → EndsBy es (Err failure.kind)
      go None last g = absurd (cc g)
      go (Some e) last g = ends_by es e (Err failure.kind) last (out_failed e.outcome failure g)

  -- ---- its path drives through the tree

  -- the search stays the same
  pub leads_same : (m n : Moment D) (es : List (Event D)) → Leads m es n → IsSameSearch m.route n.route
  leads_same m n [] same = (ap (λ (k : Moment D). k.route.search) same, ap (λ (k : Moment D). k.route.explores) same, ap (λ (k : Moment D). k.route.given) same)
  leads_same m n (e ∷ es) (mid, by, h, rest) = let later = leads_same mid n es rest in (later.0 ∙ h.search.0, later.1 ∙ h.search.1, later.2 ∙ h.search.2)

  module _ (s : Settings) where
    last_drives : (op : Request D ⊤) (c : Course D) (m n : Moment D) (out : Result (Turn D) Failure) (r : Result D FailureKind) → m.route.search ≡ s → ShowsCourse c m.state.run m.route
        → Happens m op out n → comes_of out ≡ Some r → drive s (marking s.bound) (handing (op ∷ []) c) (trail m.route) ≡ (r, trail n.route)
    unfolding handing
    last_drives op c m n (Ok (turn.Reply k answer)) r same shown h comes = absurd (cc comes)
    last_drives op c m n (Ok (turn.Start k)) r same shown h comes = absurd (cc comes)
    last_drives op c m n (Ok (turn.Ended value)) r same shown h comes =
        let z = h.along c shown in
        let is : Ok value ≡ r = cc comes in
        drive_then s (marking s.bound) (submit op c) _ (trail m.route) (trail n.route) (turn.Ended value, z.0)
        (subst (λ (t : Settings). drive t (marking t.bound) (submit op c) (trail m.route) ≡ (Ok (turn.Ended value, z.0), trail n.route)) same z.2)
        ∙ ap (λ (o : Result D FailureKind). (o, trail n.route)) is
    last_drives op c m n (Err failure) r same shown h comes =
        let is : Err failure.kind ≡ r = cc comes in
        drive_fails s (marking s.bound) (submit op c) _ (trail m.route) (trail n.route) failure.kind
        (subst (λ (t : Settings). drive t (marking t.bound) (submit op c) (trail m.route) ≡ (Err failure.kind, trail n.route)) same (h.along c shown))
        ∙ ap (λ (o : Result D FailureKind). (o, trail n.route)) is

    more_drives : (op : Request D ⊤) (ops : List (Request D ⊤)) (c : Course D) (m mid n : Moment D) (out : Result (Turn D) Failure) (r : Result D FailureKind) → m.route.search ≡ s
        → ShowsCourse c m.state.run m.route → Happens m op out mid → mid.state.over ≡ None
        → ((v : Course D) → ShowsCourse v mid.state.run mid.route → drive s (marking s.bound) (handing ops v) (trail mid.route) ≡ (r, trail n.route))
        → drive s (marking s.bound) (handing (op ∷ ops) c) (trail m.route) ≡ (r, trail n.route)
    unfolding handing
    more_drives op ops c m mid n (Ok (turn.Reply k answer)) r same shown h live onward =
        let z = h.along c shown in
        drive_then s (marking s.bound) (submit op c) _ (trail m.route) (trail mid.route) (turn.Reply k answer, z.0)
        (subst (λ (t : Settings). drive t (marking t.bound) (submit op c) (trail m.route) ≡ (Ok (turn.Reply k answer, z.0), trail mid.route)) same z.2)
        ∙ onward z.0 z.1
    more_drives op ops c m mid n (Ok (turn.Start k)) r same shown h live onward =
        let z = h.along c shown in
        drive_then s (marking s.bound) (submit op c) _ (trail m.route) (trail mid.route) (turn.Start k, z.0)
        (subst (λ (t : Settings). drive t (marking t.bound) (submit op c) (trail m.route) ≡ (Ok (turn.Start k, z.0), trail mid.route)) same z.2)
        ∙ onward z.0 z.1
    more_drives op ops c m mid n (Ok (turn.Ended value)) r same shown h live onward = absurd (cc (h.over, live))
    more_drives op ops c m mid n (Err failure) r same shown h live onward = absurd (cc (h.over, live))

    leads_drives : (es : List (Event D)) (c : Course D) (m n : Moment D) (r : Result D FailureKind) → m.route.search ≡ s → ShowsCourse c m.state.run m.route → Leads m es n → EndsBy es r
        → drive s (marking s.bound) (handing (map (λ (e : Event D). e.op) es) c) (trail m.route) ≡ (r, trail n.route)
    leads_drives [] c m n r same shown leads ends = absurd ends
    leads_drives (e ∷ []) c m n r same shown (mid, by, h, is) ends =
        last_drives e.op c m mid e.outcome r same shown h ends ∙ ap (λ (k : Moment D). (r, trail k.route)) (sym is)
    leads_drives (e ∷ x ∷ es) c m n r same shown (mid, by, h, rest) ends =
        more_drives e.op (map (λ (e : Event D). e.op) (x ∷ es)) c m mid n e.outcome r same shown h rest.2.live
        (λ v sees. leads_drives (x ∷ es) v mid n r (h.search.0 ∙ same) sees rest ends)

    pub history_drives : (limits : Limits) (began : Route) (es : List (Event D)) (now : Moment D) (r : Result D FailureKind) → began.search ≡ s → IsHistory limits began es now → EndsBy es r
        → drive s (marking s.bound) (handing (map (λ (e : Event D). e.op) es) (opening began.explores limits.max_threads limits.max_steps)) (trail began) ≡ (r, trail now.route)
    history_drives limits began es now r same h ends =
        leads_drives es (opening began.explores limits.max_threads limits.max_steps) (first h.start began) now r same h.opens h.leads ends
