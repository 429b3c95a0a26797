use Rattle.std.proofs.Common.{◌≡◌, ◌-◌, inl, inr, Bool, true, false, List, [], ◌∷◌, ◌++◌, ap, sym, ◌∙◌, refl, subst, length, arith, Option, None, Some, IfSome, IfNone, OnSome, MatchOption, is_some, length-append}
use Rattle.std.specs.Prelude.{slice_get, option_map, ⊤, Result, Ok, Err}
use Rattle.loom_objects.specs.declared.choice.Choice.{Choice}
use Rattle.loom_objects.specs.declared.failure.Stop.{Stop as Halt}
use Rattle.loom_objects.specs.declared.failure.Stop.TheVariants as halt
use Rattle.loom_objects.specs.declared.failure.Failure.{Failure}
use Rattle.loom_objects.specs.declared.label.Label.{Label}
use Rattle.loom_objects.specs.declared.operation.Request.{Request}
use Rattle.loom_objects.specs.declared.operation.Turn.{Turn}
use Rattle.loom_objects.specs.declared.operation.Turn.TheVariants as turn
use Rattle.loom_engine.specs.Drawing.{Leads as MachineLeads, SubmitsDrawnAt}
use Rattle.loom_engine.specs.Path.Drawn.{IsDrawn, led_by}
use Rattle.loom_engine.specs.Path.Route.{IsAtStart, Route, chosen}
use Rattle.loom_engine.specs.Runs.Course.{opening}
use Rattle.loom_engine.specs.Walk.Lists.{Begins}
use Rattle.loom_engine.proofs.Path.Drawing.{begins_all, begins_so}
use Rattle.loom_engine.specs.declared.rt.execution.Limits.{Limits}
use Rattle.loom_engine.specs.Execution.{ExecutionState, ShowsCourse, SubmitsAt, over_after}
use Rattle.loom.specs.declared.runner.stop.Stop.{Stop}
use Rattle.loom.specs.declared.runner.history.event.Event.{Event}
use Rattle.loom.specs.Runner.Events.{HasStayed, IsAdded, last_event, end_after, end_in, outcome_by}
use Rattle.loom.specs.Runner.Drawn.{AddsBy, GoesOn, HandedAt, HandedBy, KeptBy, KeptDrawn, LeadsBy, MayLead, Spot, led, passed_of, turn_of}
use Rattle.loom.specs.Runner.Histories.{Moment, moment, first, answered, Handed, Happens, IsOf, Leads, Kept, Goes, Log}

-- a history goes on by one event
pub leads_snoc : {D : Type 0} (m k n : Moment D) (es : List (Event D)) (e : Event D) → Leads m es k → IsOf k e → Happens k e.op e.outcome n → Leads m (es ++ e ∷ []) n
leads_snoc m k n [] e same by h =
    let P : Moment _ → Type 0 = λ s. (mid : Moment _) × IsOf s e × Happens s e.op e.outcome mid × (n ≡ mid) in
    subst P same (n, by, h, refl)
leads_snoc m k n (x ∷ xs) e (mid, b, f, rest) by h = (mid, b, f, leads_snoc mid k n xs e rest by h)

get_end : {A : Type 0} (front : List A) (x : A) → slice_get (front ++ x ∷ []) (length front) ≡ Some x
get_end [] x = refl
get_end (y ∷ front) x = get_end front x

pub last_snoc : {D : Type 0} (es : List (Event D)) (e : Event D) → last_event (es ++ e ∷ []) ≡ Some e
last_snoc es e =
    let k : length (es ++ e ∷ []) - 1 ≡ length es = omega (arith, length-append es (e ∷ [])) in
    ap (slice_get (es ++ e ∷ [])) k ∙ get_end es e

-- what each further operation is answered, as the machine says it
over_is : {D : Type 0} (out : Result (Turn D) Failure) → over_after (answered out) ≡ option_map halt.Failure (end_after out)
over_is (Ok (turn.Reply k reply)) = refl
over_is (Ok (turn.Start k)) = refl
over_is (Ok (turn.Ended value)) = refl
over_is (Err failure) = refl

over_snoc : {D : Type 0} (es : List (Event D)) (e : Event D) → over_after (answered e.outcome) ≡ option_map halt.Failure (end_in (es ++ e ∷ []))
over_snoc es e = over_is e.outcome ∙ ap (λ event. option_map halt.Failure (outcome_by end_after event)) (sym (last_snoc es e))

-- a state that kept its facts keeps them over one event
kept_snoc : {D : Type 0} (limits : Limits) (began : Route) (es : List (Event D)) (e : Event D) (op : Request D ⊤) (label : Option Label) (m n : Moment D)
    → Kept limits began es None m → Goes m op label e n → Kept limits began (es ++ e ∷ []) None n
kept_snoc limits began es e op label m n k g =
    let h : Happens m e.op e.outcome n = (let P : Request _ ⊤ → Type 0 = λ o. Happens m o e.outcome n in subst P (sym g.asked) g.happens) in
    record {
      leads = λ none. (let before = k.leads none in record { start = before.start; opens = before.opens; leads = leads_snoc _ m n es e before.leads g.of h });
      over = λ none. h.over ∙ over_snoc es e;
    }

-- before a run
pub kept_opening : {D : Type 0} (limits : Limits) (began path : Route) (es : List (Event D)) (e : ExecutionState D) → es ≡ [] → path ≡ began → e.over ≡ None
    → ShowsCourse (opening began.explores limits.max_threads limits.max_steps) e.run began → Kept limits began es None (moment e path)
kept_opening {D} limits began path es e none same over shows =
    let at : moment e path ≡ first e.run began = ap (moment e) same ∙ ap (λ o. moment (record { run = e.run; over = o }) began) over in
    record {
      leads = λ _. record { start = e.run; opens = shows; leads = (let P : List (Event D) → Type 0 = λ xs. Leads (first e.run began) xs (moment e path) in subst P (sym none) at) };
      over = λ _. over ∙ ap (λ xs. option_map halt.Failure (end_in xs)) (sym none);
    }

pub none_holds : {A : Type 0} (o : Option A) (P : A → Type 0) → o ≡ None → IfSome o P
none_holds None P h = tt
none_holds (Some x) P h = cc h

pub none_is : {A : Type 0} (o : Option A) → is_some o ≡ false → o ≡ None
none_is None h = refl
none_is (Some x) h = cc h

none_is_not : {A : Type 0} (o : Option A) → is_some o ≡ true → o ≡ None → ⊥
none_is_not None h n = cc h
none_is_not (Some x) h n = cc n

-- the last event ends no run, as a test of it says
pub goes_on_by : {D : Type 0} (es : List (Event D)) (end : Option Failure) (test : Bool) → end ≡ end_in es → test ≡ is_some end → test ≡ false → end_in es ≡ None
goes_on_by es end test is by off = sym is ∙ none_is end (sym by ∙ off)

-- or it ends the run
pub ends_by : {D : Type 0} (es : List (Event D)) (end : Option Failure) (test : Bool) → end ≡ end_in es → test ≡ is_some end → test ≡ true → end_in es ≡ None → ⊥
ends_by es end test is by on none = none_is_not end (sym by ∙ on) (is ∙ none)

-- an event of the machine, as a call of it says it
happens_by : {D : Type 0} (m n : Moment D) (op : Request D ⊤) (out : Result (Turn D) Failure) → m.state.over ≡ None → Handed m op (answered out) n → Happens m op out n
happens_by m n op out live (s, same) =
    let P : Option Halt → Type 0 = λ o. SubmitsAt o m.state op m.route (answered out) n.state n.route in
    let t = subst P live s in
    record { live = live; along = t.0; over = t.1; search = same }

-- ---- choices that might have been given

-- the run's own might
pub own_lead : (end : Option Failure) (route : Route) → MayLead end route (chosen route)
own_lead None route = begins_all (chosen route) (chosen route) refl
own_lead (Some failure) route = refl

-- they begin with those that it has made
lead_begins : (end : Option Failure) (route : Route) (given : List Choice) → MayLead end route given → Begins (chosen route) given
lead_begins None route given h = h
lead_begins (Some failure) route given h = begins_all (chosen route) given h

-- those that lead on from an event lead the machine through it
leads_machine : {D : Type 0} (out : Result (Turn D) Failure) (route : Route) (given : List Choice) → MayLead (end_after out) route given → MachineLeads (answered out) route given
leads_machine (Ok (turn.Reply k reply)) route given h = h
leads_machine (Ok (turn.Start k)) route given h = h
leads_machine (Ok (turn.Ended value)) route given h = h
leads_machine (Err failure) route given h = h

-- an event of the machine whose choices are drawn, where the path was given any that might have been given
drawn_by : {D : Type 0} (m n : Moment D) (op : Request D ⊤) (out : Result (Turn D) Failure) → m.state.over ≡ None → HandedBy true m op (answered out) n → (given : List Choice) → MayLead (end_after out) n.route given
    → Happens (led given m) op out (led given n)
drawn_by m n op out live (s, same, more, drawn) given may =
    let P : Option Halt → Type 0 = λ o. SubmitsDrawnAt o m.state op m.route (answered out) n.state n.route in
    let t = subst P live s in
    record { live = live; along = t.0 given (leads_machine out n.route given may); over = t.1; search = (same.0, same.1, refl) }

-- ---- what was added

module _ {D : Type 0} where
  -- the event, as the state tells it
  pub record GoesDrawn (m : Moment D) (op : Request D ⊤) (label : Option Label) (e : Event D) (n : Moment D) : Type 0 where
    pub drawn : IsDrawn n.route
    pub before : (given : List Choice) → MayLead (end_after e.outcome) n.route given → Begins (chosen m.route) given
    pub goes : (given : List Choice) → MayLead (end_after e.outcome) n.route given → Goes (led given m) op label e (led given n)

  abbrev pub GoesBy : Bool → Moment D → Request D ⊤ → Option Label → Event D → Moment D → Type 0
  GoesBy false m op label e n = Goes m op label e n
  GoesBy true m op label e n = GoesDrawn m op label e n

  -- an event more, where there is one
  abbrev pub IsMore : Spot D → Request D ⊤ → Option Label → Spot D → List (Event D) → List (Event D) → Option Stop → Type 0
  IsMore s op label t es es' after = IfNone after ((e : Event D) × GoesBy s.drawn s.moment op label e t.moment × (t.drawn ≡ s.drawn) × (es' ≡ es ++ e ∷ []))

  goes_one : (drawn : Bool) (m n : Moment D) (op : Request D ⊤) (label : Option Label) (e : Event D) → m.state.over ≡ None → e.op ≡ op → e.label ≡ label → IsOf m e → HandedBy drawn m op (answered e.outcome) n
      → GoesBy drawn m op label e n
  goes_one false m n op label e live asked labelled of h = record { asked = asked; labelled = labelled; of = of; happens = happens_by m n op e.outcome live h }
  goes_one true m n op label e live asked labelled of h = record {
    drawn = h.3;
    before = λ given may. begins_so (chosen m.route) (chosen n.route) given h.2 (lead_begins (end_after e.outcome) n.route given may);
    goes = λ given may. record { asked = asked; labelled = labelled; of = of; happens = drawn_by m n op e.outcome live h given may };
  }

  -- what was added, where the run goes on
  goes_by : (s t : Spot D) (op : Request D ⊤) (label : Option Label) (es es' : List (Event D)) (after : Option Stop) → s.moment.state.over ≡ None
      → IfNone after (IsAdded turn_of passed_of HandedAt s op label t es es') → IsMore s op label t es es' after
  goes_by s t op label es es' None live added =
      (added.event, goes_one s.drawn s.moment t.moment op label added.event live added.asked added.labelled (added.active, added.choices) added.happens_so.0, added.happens_so.1, added.history)
  goes_by s t op label es es' (Some stop) live added = tt

  -- choices are drawn afterwards as before
  pub drawn_after : (s t : Spot D) (op : Request D ⊤) (label : Option Label) (es es' : List (Event D)) (after : Option Stop) → IsMore s op label t es es' after → OnSome after (HasStayed HandedAt s op t) → t.drawn ≡ s.drawn
  drawn_after s t op label es es' None (e, goes, same, more) stays = same
  drawn_after s t op label es es' (Some stop) added (inl is) = ap (λ (x : Spot _). x.drawn) is
  drawn_after s t op label es es' (Some stop) added (inr handed) = handed.1

  -- ---- what is kept

  -- of a spoiled state nothing is kept
  pub kept_spoiled : (drawn : Bool) (limits : Limits) (began : Route) (es : List (Event D)) (stop : Stop) (now : Moment D) → KeptBy drawn limits began es (Some stop) now
  kept_spoiled false limits began es stop now = record { leads = λ none. cc none; over = λ none. cc none }
  kept_spoiled true limits began es stop now = record { drawn = λ none. cc none; leads = λ given may. record { leads = λ none. cc none; over = λ none. cc none } }

  -- a run along any path that might have been given its choices is kept over one event
  drawn_snoc : (limits : Limits) (began : Route) (es : List (Event D)) (e : Event D) (op : Request D ⊤) (label : Option Label) (m n : Moment D) → end_in es ≡ None
      → KeptDrawn limits began es None m → GoesDrawn m op label e n → KeptDrawn limits began (es ++ e ∷ []) None n
  drawn_snoc limits began es e op label m n live k g = record {
    drawn = λ none. g.drawn;
    leads = λ given may.
        let at : MayLead (end_after e.outcome) n.route given = subst (λ (event : Option (Event D)). MayLead (outcome_by end_after event) n.route given) (last_snoc es e) may in
        let before : MayLead (end_in es) m.route given = subst (λ (end : Option Failure). MayLead end m.route given) (sym live) (g.before given at) in
        kept_snoc limits (led_by given began) es e op label (led given m) (led given n) (k.leads given before) (g.goes given at);
  }

  kept_one : (drawn : Bool) (limits : Limits) (began : Route) (es : List (Event D)) (e : Event D) (op : Request D ⊤) (label : Option Label) (m n : Moment D) → end_in es ≡ None
      → KeptBy drawn limits began es None m → GoesBy drawn m op label e n → KeptBy drawn limits began (es ++ e ∷ []) None n
  kept_one false limits began es e op label m n live k g = kept_snoc limits began es e op label m n k g
  kept_one true limits began es e op label m n live k g = drawn_snoc limits began es e op label m n live k g

  -- what an event was added to, or where none could be
  pub kept_after : (limits : Limits) (began : Route) (es es' : List (Event D)) (op : Request D ⊤) (label : Option Label) (s t : Spot D) (before after : Option Stop)
      → before ≡ None → end_in es ≡ None → KeptBy s.drawn limits began es before s.moment → IsMore s op label t es es' after → KeptBy t.drawn limits began es' after t.moment
  kept_after limits began es es' op label s t before None b live k (e, goes, same, more) =
      let k' : KeptBy s.drawn limits began es None s.moment = subst (λ (o : Option Stop). KeptBy s.drawn limits began es o s.moment) b k in
      let at : KeptBy s.drawn limits began (es ++ e ∷ []) None t.moment = kept_one s.drawn limits began es e op label s.moment t.moment live k' goes in
      subst (λ (d : Bool). KeptBy d limits began es' None t.moment) (sym same) (subst (λ (xs : List (Event D)). KeptBy s.drawn limits began xs None t.moment) (sym more) at)
  kept_after limits began es es' op label s t before (Some stop) b live k added = kept_spoiled t.drawn limits began es' stop t.moment

  -- before a run
  pub kept_beginning : (drawn : Bool) (limits : Limits) (began path : Route) (es : List (Event D)) (e : ExecutionState D) → (drawn ≡ true → IsDrawn path) → es ≡ [] → path ≡ began → e.over ≡ None → IsAtStart began.explores began
      → ((explores : Bool) (path : Route) → IsAtStart explores path → ShowsCourse (opening explores limits.max_threads limits.max_steps) e.run path) → KeptBy drawn limits began es None (moment e path)
  kept_beginning false limits began path es e empty none same over starts shows = kept_opening limits began path es e none same over (shows began.explores began starts)
  kept_beginning true limits began path es e empty none same over starts shows = record {
    drawn = λ fresh. empty refl;
    leads = λ given may. kept_opening limits (led_by given began) (led_by given path) es e none (ap (led_by given) same) over (shows began.explores (led_by given began) starts);
  }

  -- ---- where the run goes on

  over_of : (drawn : Bool) (limits : Limits) (began : Route) (es : List (Event D)) (now : Moment D) → KeptBy drawn limits began es None now → now.state.over ≡ option_map halt.Failure (end_in es)
  over_of false limits began es now k = k.over refl
  over_of true limits began es now k = (k.leads (chosen now.route) (own_lead (end_in es) now.route)).over refl

  drawn_of : (drawn : Bool) (limits : Limits) (began : Route) (es : List (Event D)) (now : Moment D) → KeptBy drawn limits began es None now → drawn ≡ true → IsDrawn now.route
  drawn_of false limits began es now k is = cc is
  drawn_of true limits began es now k is = k.drawn refl

  -- the run goes on where the last event doesn't end it
  pub live_if : (limits : Limits) (began : Route) (es : List (Event D)) (spoiled : Option Stop) (s : Spot D) → KeptBy s.drawn limits began es spoiled s.moment → spoiled ≡ None → end_in es ≡ None → GoesOn s
  live_if limits began es spoiled s k fresh goes_on =
      let k' : KeptBy s.drawn limits began es None s.moment = subst (λ (o : Option Stop). KeptBy s.drawn limits began es o s.moment) fresh k in
      (over_of s.drawn limits began es s.moment k' ∙ ap (option_map halt.Failure) goes_on, drawn_of s.drawn limits began es s.moment k')

  -- what was added, as the tests before it tell that the run goes on
  pub goes_after : (limits : Limits) (began : Route) (es es' : List (Event D)) (spoiled after : Option Stop) (s t : Spot D) (op : Request D ⊤) (label : Option Label) (end : Option Failure) (is_spoiled is_over : Bool)
      → KeptBy s.drawn limits began es spoiled s.moment → is_spoiled ≡ is_some spoiled → is_spoiled ≡ false → end ≡ end_in es → is_over ≡ is_some end → is_over ≡ false
      → IfNone after (IsAdded turn_of passed_of HandedAt s op label t es es') → IsMore s op label t es es' after
  goes_after limits began es es' spoiled after s t op label end is_spoiled is_over k a off b c on added =
      goes_by s t op label es es' after (live_if limits began es spoiled s k (none_is spoiled (sym a ∙ off)) (goes_on_by es end is_over b c on)).0 added

  -- ---- as the contract says it

  pub kept_leads : (log : Log D) (drawn : Bool) → KeptBy drawn log.limits log.began log.history log.spoiled log.now → log.spoiled ≡ None → LeadsBy drawn log
  kept_leads log false k fresh = k.leads fresh
  kept_leads log true k fresh = λ given may. (k.leads given may).leads fresh

  adds_one : (drawn : Bool) (log log' : Log D) (op : Request D ⊤) (label : Option Label) (e : Event D) → GoesBy drawn log.now op label e log'.now → log'.history ≡ log.history ++ e ∷ [] → AddsBy drawn log op label log'
  adds_one false log log' op label e goes more = record { event = e; goes = goes; history = more }
  adds_one true log log' op label e goes more = λ given may.
      let at : MayLead (end_after e.outcome) log'.now.route given =
      subst (λ (event : Option (Event D)). MayLead (outcome_by end_after event) log'.now.route given) (ap last_event more ∙ last_snoc log.history e) may in
      record { event = e; goes = goes.goes given at; history = more }

  pub adds_after : (log log' : Log D) (op : Request D ⊤) (label : Option Label) (after : Option Stop) → IfNone after ((e : Event D) × GoesBy log.drawn log.now op label e log'.now × (log'.drawn ≡ log.drawn) × (log'.history ≡ log.history ++ e ∷ []))
      → OnSome after (log'.history ≡ log.history) → MatchOption after (AddsBy log.drawn log op label log') (λ stop. log'.history ≡ log.history)
  adds_after log log' op label None (e, goes, drawn, more) same = adds_one log.drawn log log' op label e goes more
  adds_after log log' op label (Some stop) added same = same
