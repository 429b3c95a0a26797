-- What a teller keeps of a run that it hears.
use Rattle.std.proofs.Common.{◌≡◌, ℕ, List, [], ◌∷◌, ◌++◌, sym, ◌∙◌, ap, subst, append_assoc, append-nil}
use Rattle.std.specs.Prelude.{Some, ⊤}
use Rattle.loom_objects.specs.Operation.Labelled.{Op}
use Rattle.loom_objects.specs.declared.operation.Reply.{Reply}
use Rattle.loom_explain.specs.declared.event.Event.{Event}
use Rattle.loom.specs.declared.explain.events.telling.Teller.{Teller}
use Rattle.loom.specs.Explain.Story.{Story}
use Rattle.loom.specs.Model.Listening.{HasHeard}
use Rattle.loom.specs.Model.Turns.{EndsWith, IsHeardAs}
use Rattle.loom.specs.declared.model.run.Ending.{Ending}
use Rattle.loom_engine.specs.Path.Route.{Route}

module _ {W : Type 0} where
  -- a teller hears a reply
  abbrev pub takes_reply : Teller W → Reply ⊤ → Teller W → Type 0
  takes_reply old reply new = (new.reply ≡ Some reply) × (new.events ≡ old.events)

  -- and an operation
  abbrev pub takes_op : Teller W → ℕ → Op ⊤ ⊤ → ℕ → Teller W → Type 0
  takes_op old thread op choices new = (told : Reply ⊤) → old.reply ≡ Some told
      → new.events.items ≡ old.events.items ++ record { thread = thread; told = told; op = op; choices_before = choices } ∷ []

  -- it keeps each event that it hears
  pub keeps : (old : Teller W) (events : List Event) (new : Teller W) → HasHeard takes_reply takes_op old events new → new.events.items ≡ old.events.items ++ events
  keeps old [] new same = ap (λ (t : Teller W). t.events.items) same ∙ sym (append-nil old.events.items)
  keeps old (event ∷ events) new heard =
      let one = heard.1 in
      keeps heard.0 events new heard.2
      ∙ ap (λ (l : List Event). l ++ events) (one.2 event.told one.1.0 ∙ ap (λ (es : _). es.items ++ event ∷ []) one.1.1)
      ∙ append_assoc old.events.items (event ∷ []) events

  -- at the end it has the events of the story
  pub told : {D : Type 0} (whole : Story D) (old new : Teller W) (ending : Ending D) (after : Route) → old.events.items ≡ [] → IsHeardAs takes_reply takes_op whole old new ending after
      → EndsWith whole new.events.items ending after
  told whole old new ending after none heard =
      subst (λ (l : List Event). EndsWith whole l ending after) (sym (keeps old heard.0 new heard.1 ∙ ap (λ (l : List Event). l ++ heard.0) none)) heard.2
