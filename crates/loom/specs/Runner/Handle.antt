-- What the calls of a handle add to its thread's told list.
use Rattle.std.specs.Prelude.{ℕ, ◌≡◌, ◌⊎◌, ◌&&◌, ⊤, Bool, true, false, cond, MatchBool, List, [], ◌∷◌, ◌++◌, Option, Some, None, is_some, IfSome, Result, Ok, Err, slice_get}
use Rattle.loom_objects.specs.declared.operation.Name.{Name}
use Rattle.loom_objects.specs.declared.operation.Request.{Request}
use Rattle.loom_objects.specs.declared.operation.Request.TheVariants.{Thread}
use Rattle.loom_objects.specs.declared.operation.Reply.{Reply}
use Rattle.loom_objects.specs.declared.operation.ThreadOp.TheVariants.{Spawn, Exit}
use Rattle.loom.specs.declared.runner.stop.Stop.{Stop}
use Rattle.loom.specs.declared.runner.stop.Stop.TheVariants.{Failure, Memory, Refused}
use Rattle.loom.specs.declared.runner.history.event.Entry.{Entry}
use Rattle.loom.specs.Runner.Histories.{entry, Share, share}
pub use Rattle.loom.specs.Runner.Calls.{failing, finishing, is_reserved, handed}

module _ {D : Type 0} where
  -- each operation of the list has its reply
  abbrev pub all_answered : List (Entry D) → Bool
  all_answered [] = true
  all_answered (e ∷ es) = is_some e.reply && all_answered es

  -- the list with the operation that is first answered by a stop
  abbrev pub with_open : List (Entry D) → Request D ⊤ → List (Entry D)
  with_open es op = cond (all_answered es) (es ++ entry op None ∷ []) es

  -- a thread begins, of this name if it has one
  abbrev pub spawning : Option Name → Request D ⊤
  spawning name = Thread (Spawn tt name)

  -- it gives its own values back
  abbrev pub exiting : Request D ⊤
  exiting = Thread Exit

-- one fact for each stop but memory, and another for memory
abbrev pub ByStop : Stop → Type 0 → Type 0 → Type 0
ByStop (Failure f) p q = p
ByStop Refused p q = p
ByStop Memory p q = q

abbrev pub is_memory : Option Stop → Bool
is_memory None = false
is_memory (Some (Failure f)) = false
is_memory (Some Refused) = false
is_memory (Some Memory) = true

-- what contracts see of a handle: its thread, its told list, whether a call of it was refused memory, and the name of the thread that
-- it spawns next
pub record Teller (D : Type 0) : Type 0 where
  pub thread : ℕ
  pub told : List (Entry D)
  pub starved : Bool
  pub name : Option Name

module _ {D : Type 0} where
  -- a handle before its first operation
  abbrev pub newcomer : ℕ → Teller D
  newcomer n = record { thread = n; told = []; starved = false; name = None }

  -- a handle remembers why its run stopped, if one of its calls was answered so
  pub record Remembers (told : List (Entry D)) (stop : Option Stop) : Type 0 where
    pub goes_on : stop ≡ None → all_answered told ≡ true
    pub stopped : IfSome stop (λ s. ByStop s (all_answered told ≡ false) (Unit {0}))

  -- the answer of a closure adds `finish` and `exit` up to the first that was answered by a stop, or `fail`
  abbrev pub Ends : List (Entry D) → Result D Stop → List (Entry D) → Type 0
  Ends told (Ok d) all =
      (all ≡ told ++ entry (finishing d) None ∷ [])
      ⊎ ((x : Reply D) × (y : Option (Reply D)) × (all ≡ (told ++ entry (finishing d) (Some x) ∷ []) ++ entry exiting y ∷ []))
  Ends told (Err stop) all = all ≡ told ++ entry failing None ∷ []

  -- what a handle's list is once it was closed with its closure's answer
  abbrev pub Closes : List (Entry D) → Result D Stop → List (Entry D) → Type 0
  Closes told answer all = MatchBool (all_answered told) (Ends told answer all) (all ≡ told)

  -- the first list is that of the thread
  abbrev pub Leading : ℕ → List (Share D) → (List (Entry D) → Type 0) → Type 0
  Leading n all p = (es : List (Entry D)) × (slice_get all 0 ≡ Some (share n es)) × p es
