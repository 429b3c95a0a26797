-- A script without a step that switches whether the search explores never does, nor does what it starts.
use Rattle.std.proofs.Common.{◌≡◌, ℕ, zero, suc, Bool, true, false, List, [], ◌∷◌, map, not, refl, ap, sym, ◌∙◌, subst}
use Rattle.std.specs.List.{list_all}
use Rattle.std.specs.Prelude.{◌&&◌, Option, Some, None, slice_get}
use Rattle.std.proofs.lemmas.Bool.{and_parts}
use Rattle.loom_objects.specs.declared.operation.Reply.{Reply}
use Rattle.loom_objects.specs.declared.operation.Request.{Request}
use Rattle.loom_objects.specs.declared.operation.Request.TheVariants as op
use Rattle.loom_objects.specs.declared.operation.ThreadOp.{ThreadOp}
use Rattle.loom_objects.specs.declared.operation.ThreadOp.TheVariants as threads
use Rattle.loom_objects.specs.Operation.Plain.{started_request}
use Rattle.loom_objects.specs.Operation.Switching.{ComesOf, NeverSwitches, becomes, itself, starts}
use Rattle.loom_objects.specs.Exploring.{is_switch}
use Rattle.loom_examples.specs.declared.scripts.step.Step.{Step}
use Rattle.loom_examples.specs.declared.scripts.step.Value.{Value}
use Rattle.loom_examples.specs.Scripts.Operations.{atomic_op, cell_op, arc_op, track_op, mutex_op, rwlock_op, condvar_op, notify_op, channel_op, on, place_op, thread_op, waker_op}
use Rattle.loom_examples.specs.Scripts.Running.{Running, landing, place_of, spawned}
use Rattle.loom_examples.specs.Scripts.Script.{fetched_after, next_of, or_fails, request, step_request}
use Rattle.loom_examples.specs.Scripts.Slots.{kept, notifier, object, thread}
use Rattle.loom_examples.specs.Scripts.Switching.{switches}
use Rattle.loom_examples.specs.Scripts.Written.{Written, Do, Labelled, Store, Label, JumpTo, IfTo, UnlessTo, SpawnAt, written}

alls : {A B : Type 0} (p : B → Bool) (f : A → B) (xs : List A) → list_all p (map f xs) ≡ list_all (λ x. p (f x)) xs
alls p f [] = refl
alls p f (x ∷ xs) = ap (λ b. p (f x) && b) (alls p f xs)

-- all of the steps that are read, and all that were written
pub none_switch : (steps : List Step) (b : Bool) → b ≡ list_all (λ step. not (switches (written step))) steps → b ≡ list_all (λ step. not (switches step)) (map written steps)
none_switch steps b e = e ∙ sym (alls (λ step. not (switches step)) written steps)

not_so : (b : Bool) → not b ≡ true → b ≡ false
not_so false e = refl
not_so true e = absurd (cc e)

-- no step switches
pub none_at : (steps : List Written) (place : ℕ) (step : Written) → list_all (λ s. not (switches s)) steps ≡ true → slice_get steps place ≡ Some step → switches step ≡ false
none_at [] place step h e = absurd (cc e)
none_at (x ∷ steps) zero step h e = subst (λ s. switches s ≡ false) (cc e) (not_so (switches x) (and_parts (not (switches x)) (list_all (λ s. not (switches s)) steps) h).0)
none_at (x ∷ steps) (suc place) step h e = none_at steps place step (and_parts (not (switches x)) (list_all (λ s. not (switches s)) steps) h).1 e

-- ---- what a step asks for

-- it is no switch, and starts nothing
record Quiet (asked : Request ℕ Running) : Type 0 where
  no : is_switch asked ≡ false
  none : started_request asked ≡ None

quiet_or : {A : Type 0} (o : Option A) (makes : A → Request ℕ Running) → ((a : A) → Quiet (makes a)) → Quiet (or_fails o makes)
quiet_or None makes h = record { no = refl; none = refl }
quiet_or (Some a) makes h = h a

-- it is no switch, and starts a thread of the same script, if any
record Stays (s : Running) (asked : Request ℕ Running) : Type 0 where
  no : is_switch asked ≡ false
  same : (child : Running) → started_request asked ≡ Some child → child.steps ≡ s.steps

quiet_stays : (s : Running) (asked : Request ℕ Running) → Quiet asked → Stays s asked
quiet_stays s asked h = record { no = h.no; same = λ child e. absurd (cc (h.none, e)) }

quiet_on : {A B : Type 0} (o : Option A) (makes : A → Option B) (so : B → Request ℕ Running) → ((a : A) → Quiet (or_fails (makes a) so)) → Quiet (or_fails (on o makes) so)
quiet_on None makes so h = record { no = refl; none = refl }
quiet_on (Some a) makes so h = h a

thread_stays : (s : Running) (made : ThreadOp Value ℕ) → Stays s (or_fails (thread_op s made) (λ t. op.Thread t))
thread_stays s (threads.Spawn at name) = record { no = refl; same = λ child e. let is : spawned s at ≡ child = cc e in sym (ap (λ (r : Running). r.steps) is) }
thread_stays s (threads.Join slot again) = quiet_stays s _ (quiet_on (thread s.state slot) _ _ (λ t. quiet_on (notifier s.state again) _ _ (λ n. record { no = refl; none = refl })))
thread_stays s threads.Current = quiet_stays s _ (record { no = refl; none = refl })
thread_stays s threads.Park = quiet_stays s _ (record { no = refl; none = refl })
thread_stays s (threads.Unpark slot) = quiet_stays s _ (quiet_on (thread s.state slot) _ _ (λ t. record { no = refl; none = refl }))
thread_stays s threads.Yield = quiet_stays s _ (record { no = refl; none = refl })
thread_stays s (threads.Finish value) = quiet_stays s _ (record { no = refl; none = refl })
thread_stays s threads.Exit = quiet_stays s _ (record { no = refl; none = refl })
thread_stays s threads.End = quiet_stays s _ (record { no = refl; none = refl })

made_stays : (s : Running) (made : Request Value ℕ) → is_switch made ≡ false → Stays s (request s made)
made_stays s (op.Atomic made) h = quiet_stays s _ (quiet_or (atomic_op s.state made) _ (λ o. record { no = refl; none = refl }))
made_stays s (op.Fence order) h = quiet_stays s _ (record { no = refl; none = refl })
made_stays s (op.Cell made) h = quiet_stays s _ (quiet_or (cell_op s.state made) _ (λ o. record { no = refl; none = refl }))
made_stays s (op.Arc made) h = quiet_stays s _ (quiet_or (arc_op s.state made) _ (λ o. record { no = refl; none = refl }))
made_stays s (op.Track made) h = quiet_stays s _ (quiet_or (track_op s.state made) _ (λ o. record { no = refl; none = refl }))
made_stays s (op.Mutex made) h = quiet_stays s _ (quiet_or (mutex_op s.state made) _ (λ o. record { no = refl; none = refl }))
made_stays s (op.RwLock made) h = quiet_stays s _ (quiet_or (rwlock_op s.state made) _ (λ o. record { no = refl; none = refl }))
made_stays s (op.Condvar made) h = quiet_stays s _ (quiet_or (condvar_op s.state made) _ (λ o. record { no = refl; none = refl }))
made_stays s (op.Notify made) h = quiet_stays s _ (quiet_or (notify_op s.state made) _ (λ o. record { no = refl; none = refl }))
made_stays s (op.Channel made) h = quiet_stays s _ (quiet_or (channel_op s.state made) _ (λ o. record { no = refl; none = refl }))
made_stays s (op.Waker made) h = quiet_stays s _ (quiet_or (waker_op s.state made) _ (λ o. record { no = refl; none = refl }))
made_stays s (op.AtomicWaker made) h = quiet_stays s _ (quiet_or (place_op s.state made) _ (λ o. record { no = refl; none = refl }))
made_stays s (op.Local made) h = quiet_stays s _ (record { no = refl; none = refl })
made_stays s (op.Lazy made) h = quiet_stays s _ (record { no = refl; none = refl })
made_stays s (op.Explore made) h = absurd (cc h)
made_stays s (op.Thread made) h = thread_stays s made
made_stays s op.Unreachable h = quiet_stays s _ (record { no = refl; none = refl })
made_stays s _ h = quiet_stays s _ (record { no = refl; none = refl })

step_stays : (s : Running) (step : Option Written) → ((w : Written) → step ≡ Some w → switches w ≡ false) → Stays s (step_request s step)
step_stays s None h = quiet_stays s _ (record { no = refl; none = refl })
step_stays s (Some (Do keep made)) h = made_stays s made (h (Do keep made) refl)
step_stays s (Some (Labelled keep made called)) h = made_stays s made (h (Labelled keep made called) refl)
step_stays s (Some (Store slot value order)) h = quiet_stays s _ (quiet_or (object s.state slot) _ (λ n. record { no = refl; none = refl }))
step_stays s (Some (Label label)) h = quiet_stays s _ (record { no = refl; none = refl })
step_stays s (Some (JumpTo name)) h = quiet_stays s _ (record { no = refl; none = refl })
step_stays s (Some (IfTo register n name)) h = quiet_stays s _ (record { no = refl; none = refl })
step_stays s (Some (UnlessTo register n name)) h = quiet_stays s _ (record { no = refl; none = refl })
step_stays s (Some (SpawnAt slot name)) h = record { no = refl; same = λ child e. let is : spawned s (place_of s.steps name) ≡ child = cc e in sym (ap (λ (r : Running). r.steps) is) }

-- ---- what comes of a script

module _ (first : Running) (none : list_all (λ step. not (switches step)) first.steps ≡ true) where
  next_stays : (body : Running) (answer : Reply ℕ) → body.steps ≡ first.steps → Stays (fetched_after body answer) (next_of body answer).1.request
  next_stays body answer same =
      step_stays (fetched_after body answer) (slice_get body.steps (landing body.steps (kept body.state answer)))
      (λ w e. none_at body.steps (landing body.steps (kept body.state answer)) w (subst (λ (l : List Written). list_all (λ step. not (switches step)) l ≡ true) (sym same) none) e)

  same_steps : (body : Running) → ComesOf next_of first body → body.steps ≡ first.steps
  same_steps body itself = refl
  same_steps body (becomes earlier answer comes) = same_steps earlier comes
  same_steps body (starts earlier answer child comes e) = (next_stays earlier answer (same_steps earlier comes)).same child e ∙ same_steps earlier comes

  pub script_never : NeverSwitches next_of first
  script_never body answer comes = (next_stays body answer (same_steps body comes)).no
