-- A run under way whose choices are drawn: along each path that was given them it is under way to the same story.
use Rattle.std.proofs.Common.{◌≡◌, ◌+◌, ℕ, List, [], ◌∷◌, refl}
use Rattle.std.specs.Prelude.{Result, Ok, Err, IfOk, OnOk, slice_set, Bool, ⊤}
use Rattle.loom_objects.specs.declared.choice.Choice.{Choice}
use Rattle.loom_objects.specs.declared.failure.Stop.{Stop}
use Rattle.loom_objects.specs.declared.operation.Reply.{Reply}
use Rattle.loom_objects.specs.declared.operation.Turn.{Turn}
use Rattle.loom_objects.specs.declared.operation.Turn.TheVariants as turn
use Rattle.loom_objects.specs.Operation.Labelled.{Op}
use Rattle.loom_objects.specs.Operation.Plain.{plain, started}
use Rattle.loom_engine.specs.declared.rt.execution.Progress.{Progress}
use Rattle.loom_engine.specs.Drawing.{AlongDrawn, Leads}
use Rattle.loom_engine.specs.Path.Drawn.{led_by}
use Rattle.loom_engine.specs.Path.Route.{IsSameSearch, Route, chosen, trail}
use Rattle.loom_engine.specs.Runs.Body.{Meaning, runs, with_child}
use Rattle.loom_engine.specs.Runs.Machine.{submit}
use Rattle.loom_engine.specs.Trees.Meeting.{Settings}
use Rattle.loom_engine.proofs.Path.Drawing.{begins_all}
use Rattle.loom_explain.specs.declared.event.Event.{Event}
use Rattle.loom.specs.declared.model.run.Ending.{Ending}
use Rattle.loom.specs.Explain.Story.{Story, story_of}
use Rattle.loom.specs.Model.Listening.{HasHeard}
use Rattle.loom.specs.Model.Run.{IsEndBy, IsEndOf}
use Rattle.loom.specs.Model.Turns.{IsHeardAs, IsUnderWay}
use Rattle.loom.specs.Model.Walking.{EndsSo, RunsDrawn}
use Rattle.loom.proofs.ExplainLemmas.Turning.{ComesToTurn, ended_so, heard_along, hears_one, stopped_so}
use Rattle.loom.proofs.ModelLemmas.Handing.{IsHanded}

-- nobody hears the run
abbrev hears_reply : ⊤ → Reply ⊤ → ⊤ → Type 0
hears_reply old answer new = Unit {0}

abbrev hears_op : ⊤ → ℕ → Op ⊤ ⊤ → ℕ → ⊤ → Type 0
hears_op old thread op choices new = Unit {0}

unheard : (events : List Event) → HasHeard hears_reply hears_op tt events tt
unheard [] = refl
unheard (event ∷ events) = (tt, (tt, tt, tt), unheard events)

pub leads_itself : {D : Type 0} (result : Result (Turn D) Stop) (new : Route) → Leads result new (chosen new)
leads_itself (Ok (turn.Reply thread answer)) new = begins_all (chosen new) (chosen new) refl
leads_itself (Ok (turn.Start thread)) new = begins_all (chosen new) (chosen new) refl
leads_itself (Ok (turn.Ended value)) new = refl
leads_itself (Err stop) new = refl

module _ {D S : Type 0} (next : Meaning D S) (whole : Story D) where
  -- after some events it is under way so
  abbrev pub HasCome : List S → Progress D → Route → ℕ → Reply D → Type 0
  HasCome bodies run path thread answer = (events : List Event) × IsUnderWay next whole events bodies run path thread answer

  -- after some events it reaches this turn
  abbrev pub Turns : Result (Turn D) Stop → List S → Progress D → Route → Type 0
  Turns result bodies run path = (events : List Event) × ComesToTurn next whole result events bodies run path

  module _ (bodies : List S) (run : Progress D) (path : Route) (thread : ℕ) (answer : Reply D) where
    pub one_drawn : (run' : Progress D) (path' : Route) (body after : S) (op : Op D S) (result : Result (Turn D) Stop) → IsHanded next bodies thread answer body after op
        → AlongDrawn Leads (submit (plain op)) run path result run' path' → OnOk result (run.state.steps_left ≡ run'.state.steps_left + 1) → IsSameSearch path path'
        → (given : List Choice) → Leads result path' given → HasCome bodies run (led_by given path) thread answer
        → (bodies' : List S) → OnOk result (bodies' ≡ with_child (slice_set bodies thread after) (started op)) → Turns result bodies' run' (led_by given path')
    one_drawn run' path' body after op result h along steps same given leads come bodies' more =
        let turned = hears_one hears_reply hears_op next whole tt tt tt come.0 bodies run run' (led_by given path) (led_by given path') thread answer body after op result h (tt, tt, tt)
        (along given leads) steps same.0 (unheard come.0) come.1 bodies' more in
        (turned.0, turned.2)

    -- a thread that has no body stops it
    pub no_body_drawn : {E : Type 0} (given : List Choice) (stop : Stop) (ending : Result (Ending D) E) → IfOk ending (IsEndOf stop) → HasCome bodies run (led_by given path) thread answer
        → ((events : List Event) → IsUnderWay next whole events bodies run (led_by given path) thread answer → ComesToTurn next whole (Err stop) events bodies run (led_by given path))
        → IfOk ending (λ ending. EndsSo whole ending (led_by given path))
    no_body_drawn given stop ending is come stops =
        let ends = stopped_so hears_reply hears_op next whole tt tt come.0 bodies run (led_by given path) stop ending is (unheard come.0) (stops come.0 come.1) in
        quietly ending ends
      where
        quietly : {E : Type 0} (ending : Result (Ending D) E) → IfOk ending (λ ending. IsHeardAs hears_reply hears_op whole tt tt ending (led_by given path)) → IfOk ending (λ ending. EndsSo whole ending (led_by given path))
        quietly (Ok ending) h = (h.0, h.2)
        quietly (Err none) h = tt

  pub ended_drawn : {E : Type 0} (bodies : List S) (run : Progress D) (path : Route) (answer : Result (Turn D) Stop) (ending : Result (Ending D) E) → IfOk ending (IsEndBy answer) → Turns answer bodies run path
      → IfOk ending (λ ending. EndsSo whole ending path)
  ended_drawn bodies run path answer ending is turned =
      quietly ending (ended_so hears_reply hears_op next whole tt tt bodies run path answer ending is (turned.0, unheard turned.0, turned.1))
    where
      quietly : {E : Type 0} (ending : Result (Ending D) E) → IfOk ending (λ ending. IsHeardAs hears_reply hears_op whole tt tt ending path) → IfOk ending (λ ending. EndsSo whole ending path)
      quietly (Ok ending) h = (h.0, h.2)
      quietly (Err none) h = tt

-- the story of a run ends as its tree does
pub runs_drawn : {D S E : Type 0} (s : Settings) (next : Meaning D S) (explores : Bool) (max_threads max_steps : ℕ) (body : S) (old new : Route) (ending : Result (Ending D) E) → s ≡ old.search
    → IfOk ending (λ ending. EndsSo (story_of s next explores max_threads max_steps body (trail (led_by (chosen new) old))) ending (led_by (chosen new) new))
    → IfOk ending (λ ending. RunsDrawn (runs next explores max_threads max_steps body) old ending new)
runs_drawn {D} {S} {E} s next explores max_threads max_steps body old new ending same ends =
    heard_along hears_reply hears_op s next explores max_threads max_steps body (led_by (chosen new) old) tt tt ending (led_by (chosen new) new) same (aloud ending ends)
  where
    aloud : (ending : Result (Ending D) E) → IfOk ending (λ ending. EndsSo (story_of s next explores max_threads max_steps body (trail (led_by (chosen new) old))) ending (led_by (chosen new) new))
        → IfOk ending (λ ending. IsHeardAs hears_reply hears_op (story_of s next explores max_threads max_steps body (trail (led_by (chosen new) old))) tt tt ending (led_by (chosen new) new))
    aloud (Ok ending) h = (h.0, unheard h.0, h.1)
    aloud (Err none) h = tt
