-- What the last event says of a thread.
use Rattle.std.proofs.Common.{◌≡◌, ◌↔◌, ℕ, Bool, List, subst, Option, IsTrue, Some, None, MatchOption}
use Rattle.loom_objects.specs.declared.operation.Reply.{Reply}
use Rattle.loom.specs.declared.runner.history.event.Event.{Event}
use Rattle.loom.specs.Runner.Events.{last_event, next_turn, outcome_by, replied, reply_in, start_in, starting, turn_in}

pub next_by : {D : Type 0} (es : List (Event D)) (e : Event D) (r : Option ℕ) → Some e ≡ last_event es → r ≡ next_turn e.outcome → r ≡ turn_in es
next_by {D} es e r last h = subst (λ (o : Option (Event D)). r ≡ outcome_by next_turn o) last h

pub turn_of : {D : Type 0} (es : List (Event D)) (e : Event D) (n : ℕ) (b : Bool) → Some e ≡ last_event es → (IsTrue b ↔ (next_turn e.outcome ≡ Some n)) → IsTrue b ↔ (turn_in es ≡ Some n)
turn_of {D} es e n b last h = subst (λ (o : Option (Event D)). IsTrue b ↔ (outcome_by next_turn o ≡ Some n)) last h

pub start_of : {D : Type 0} (es : List (Event D)) (e : Event D) (n : ℕ) (b : Bool) → Some e ≡ last_event es → (IsTrue b ↔ (starting e.outcome ≡ Some n)) → IsTrue b ↔ (start_in es ≡ Some n)
start_of {D} es e n b last h = subst (λ (o : Option (Event D)). IsTrue b ↔ (outcome_by starting o ≡ Some n)) last h

pub reply_of : {D R : Type 0} (shown : R → Reply D) (es : List (Event D)) (e : Event D) (n : ℕ) (r : Option R) → Some e ≡ last_event es
    → MatchOption r (replied n e.outcome ≡ None) (λ x. replied n e.outcome ≡ Some (shown x)) → MatchOption r (reply_in n es ≡ None) (λ x. reply_in n es ≡ Some (shown x))
reply_of {D} {R} shown es e n r last h =
    subst (λ (o : Option (Event D)). MatchOption r (outcome_by (replied n) o ≡ None) (λ x. outcome_by (replied n) o ≡ Some (shown x))) last h
