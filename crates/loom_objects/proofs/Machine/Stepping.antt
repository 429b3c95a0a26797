-- From what an effect does to the scene to what a step does to the run.
use Rattle.std.proofs.Common.{◌≡◌, ℕ, zero, suc, ◌-◌, arith, refl, ap, sym, ◌∙◌, subst}
use Rattle.std.specs.Prelude.{Bool, true, false, List, [], ◌∷◌, nat_lt, Result, Ok, Err, IfOk, ⊤}
use Rattle.std.specs.List.{Contains}
use Rattle.std.specs.Result.{MatchResult, IsErrAnd}
use Rattle.loom_views.specs.Views.{Points, ShowsViews}
use Rattle.loom_views.specs.declared.rt.failure.FailureKind.{FailureKind}
use Rattle.loom_views.specs.declared.rt.failure.FailureKind.TheVariants.{TooManySteps}
use Rattle.loom_objects.specs.declared.choice.Choice.{Choice}
use Rattle.loom_objects.specs.declared.choice.Choice.TheVariants as choice
use Rattle.loom_objects.specs.declared.failure.Stop.{Stop}
use Rattle.loom_objects.specs.declared.failure.Stop.TheVariants.{Memory}
use Rattle.loom_objects.specs.declared.operation.Request.{Request}
use Rattle.loom_objects.specs.declared.operation.Reply.{Reply}
use Rattle.loom_objects.specs.declared.operation.Reply.TheVariants as reply
use Rattle.loom_objects.specs.declared.operation.Turn.TheVariants as turn
use Rattle.loom_objects.specs.declared.rt.run.Entry.{Entry}
use Rattle.loom_objects.specs.declared.rt.run.Loading.{Loading}
use Rattle.loom_objects.specs.declared.rt.run.Passed.TheVariants as passed
use Rattle.loom_objects.specs.declared.rt.run.Resumed.{Resumed}
use Rattle.loom_objects.specs.declared.rt.run.Resumed.TheVariants.{Passed as ThatPassed, Load}
use Rattle.loom_objects.specs.declared.rt.run.RunState.{RunState}
use Rattle.loom_objects.specs.Rules.Atomic.{reads}
use Rattle.loom_objects.specs.Rules.Tables.{chosen, counted, op_begins}
use Rattle.loom_objects.specs.Failure.{failure_of}
use Rattle.loom_objects.specs.Operation.Accessed.{accessed}
use Rattle.loom_objects.specs.Tree.Stores.{asked_store, slots, slots_from}
use Rattle.loom_objects.specs.Rules.Rule.{check}
use Rattle.loom_objects.specs.Rules.Rule as rule
use Rattle.loom_objects.specs.Scene.Stage.{world_of, DoesAt, HasSlot, KeepsAt, KeepsSlots}
use Rattle.loom_objects.specs.Scene.Stage as scene
use Rattle.loom_objects.specs.Scene.Shown.{Shows, Comes, Does, Resumes}
use Rattle.loom_objects.specs.Rules.Steps.{asked, asks_slot, begins, read_by, read_slot, resumes, slot_of, told, turned}
use Rattle.loom_objects.specs.Tree.Tree.{Gives, Fails, Asks, ◌>>=◌, came}
use Rattle.loom_objects.specs.World.{World}
use Rattle.loom_objects.specs.Stages.LockCopy.{answer_of}
use Rattle.loom_objects.specs.Stages.ChosenCopy.{TellsCopy, GivesCopy}

-- a failure stops the run
abbrev pub failing : {T : Type 0} → Result T FailureKind → Result T Stop
failing (Ok value) = Ok value
failing (Err kind) = Err (failure_of kind)

-- where each error is mapped so
pub mapped : {T : Type 0} (answer : Result T FailureKind) (r : Result T Stop) → MatchResult answer (λ value. r ≡ Ok value) (λ kind. IsErrAnd r (λ stop. stop ≡ failure_of kind)) → r ≡ failing answer
mapped (Ok value) r h = h
mapped (Err kind) (Ok value) h = absurd h
mapped (Err kind) (Err stop) h = ap Err h

-- and then memory is not what stops it
pub not_memory : {T : Type 0} (answer : Result T FailureKind) → failing answer ≡ Err Memory → ⊥
not_memory (Ok value) e = cc
not_memory (Err kind) e = cc

module _ {D : Type 0} where
  -- the run shows what the rule came to
  comes_by : {A : Type 0} (p : Points) (left : ℕ) (answer : Result (A × World D) FailureKind) (r : Result A FailureKind) (new : RunState D) → new.steps_left ≡ left
      → scene.Comes p left answer r new.scene → Comes (came answer) (failing r) new
  comes_by {A} p left (Ok x) (Ok a) new same h =
      let e = h.0 in
      let is : x ≡ (a, world_of x.1.points left new.scene) = cc in (
        world_of x.1.points new.steps_left new.scene,
        record { views = h.1; rest = refl },
        ap (λ (y : A × World D). Gives y) is ∙ ap (λ (n : ℕ). Gives (a, world_of x.1.points n new.scene)) (sym same),
      )
  comes_by p left (Ok x) (Err kind) new same h = absurd (cc)
  comes_by p left (Err kind) (Ok a) new same h = let e = h.0 in absurd (cc)
  comes_by p left (Err kind) (Err other) new same h = let is : kind ≡ other = cc in ap Fails is

  -- a step that is a rule's
  pub steps_by : {A : Type 0} (effect : World D → Result (A × World D) FailureKind) (old new : RunState D) (r : Result A FailureKind) → new.steps_left ≡ old.steps_left
      → scene.Does effect old.scene r new.scene → Does (λ w. came (effect w)) old (failing r) new
  steps_by effect old new r same does = λ w shown.
      subst (λ (v : World D). Comes (came (effect v)) (failing r) new) (sym shown.rest)
      (comes_by w.points old.steps_left (effect (world_of w.points old.steps_left old.scene)) r new same (does w.points old.steps_left shown.views))

  -- an operation is counted, and begins
  pub begins_by : (op : Request D ⊤) (old new : RunState D) (r : Result (Entry D) FailureKind) → nat_lt 0 old.steps_left ≡ true → new.steps_left ≡ old.steps_left - 1
      → scene.Does (op_begins op) old.scene r new.scene → Does (begins op) old (failing r) new
  begins_by op old new r some fewer does = λ w shown.
      let q : World D = world_of w.points (old.steps_left - 1) old.scene in
      let counts : counted op w ≡ op_begins op q = ap (counted op) shown.rest ∙ ap (λ (b : Bool). rule.◌>>=◌ (check b TooManySteps) (λ _. op_begins op q)) some in
      subst (λ (answer : Result (Entry D × World D) FailureKind). Comes (came answer) (failing r) new) (sym counts)
      (comes_by w.points (old.steps_left - 1) (op_begins op q) r new fewer (does w.points (old.steps_left - 1) shown.views))

-- ---- a thread is chosen

-- a set with a slot has a lowest one
lowest_from : (readable : List Bool) (k : ℕ) → Contains readable true → (lowest : ℕ) × (others : List ℕ) × (slots_from k readable ≡ lowest ∷ others)
lowest_from [] k h = let within = h.1 in absurd (omega arith)
lowest_from (true ∷ readable) k h = (k, slots_from (suc k) readable, refl)
lowest_from (false ∷ readable) k (zero, within, e) = absurd (cc)
lowest_from (false ∷ readable) k (suc i, within, e) = lowest_from readable (suc k) (i, omega arith, e)

module _ {D : Type 0} where
  -- by the slot that is chosen
  by_choice : (load : Loading) (w : World D) (c : Choice) → (slot_of c >>= (λ slot. read_slot load w slot >>= turned)) ≡ (read_by load w c >>= turned)
  by_choice load w (choice.Load slot) = refl
  by_choice load w (choice.Thread t) = refl
  by_choice load w (choice.Spurious answer) = refl

  -- an access that reads asks which store
  asks : (exploring : Bool) (load : Loading) (w : World D) (numbers : List ℕ) (lowest : ℕ) (others : List ℕ) → numbers ≡ lowest ∷ others
      → (asks_slot exploring numbers >>= (λ slot. read_slot load w slot >>= turned)) ≡ Asks (asked_store exploring numbers) (λ c. read_by load w c >>= turned)
  asks exploring load w numbers lowest others e =
      ap (λ (s : List ℕ). asks_slot exploring s >>= (λ slot. read_slot load w slot >>= turned)) e
      ∙ (λ i. Asks (asked_store exploring (lowest ∷ others)) (λ c. by_choice load w c i))
      ∙ ap (λ (s : List ℕ). Asks (asked_store exploring s) (λ c. read_by load w c >>= turned)) (sym e)

  resumes_at : (exploring : Bool) (p : Points) (left : ℕ) (answer : Result (Resumed D × World D) FailureKind) (r : Result (Resumed D) FailureKind) (new : RunState D) → new.steps_left ≡ left
      → scene.Comes p left answer r new.scene → IfOk r HasSlot → ((q : Points) → ShowsViews q new.scene.views → IfOk r (KeepsSlots q))
      → Resumes exploring (came answer >>= asked exploring) (failing r) new
  resumes_at exploring p left (Ok x) (Ok (ThatPassed passed)) new same h slot kept =
      let e = h.0 in
      let is : x ≡ (ThatPassed passed, world_of x.1.points left new.scene) = cc in (
        world_of x.1.points new.steps_left new.scene,
        record { views = h.1; rest = refl },
        ap (asked exploring) is ∙ ap (λ (n : ℕ). Gives (passed, world_of x.1.points n new.scene)) (sym same),
      )
  resumes_at exploring p left (Ok x) (Ok (Load load)) new same h slot kept =
      let e = h.0 in
      let is : x ≡ (Load load, world_of x.1.points left new.scene) = cc in
      let w : World D = world_of x.1.points new.steps_left new.scene in
      let l = lowest_from load.readable 0 slot in (
        w,
        record { views = h.1; rest = refl },
        kept x.1.points h.1,
        ap (asked exploring) is ∙ ap (λ (n : ℕ). asked exploring (Load load, world_of x.1.points n new.scene)) (sym same) ∙ asks exploring load w (slots load.readable) l.0 l.1 l.2,
      )
  resumes_at exploring p left (Ok x) (Err kind) new same h slot kept = absurd (cc)
  resumes_at exploring p left (Err kind) (Ok a) new same h slot kept = let e = h.0 in absurd (cc)
  resumes_at exploring p left (Err kind) (Err other) new same h slot kept = let is : kind ≡ other = cc in ap Fails is

  pub resumes_by : (t : ℕ) (old new : RunState D) (r : Result (Resumed D) FailureKind) → new.steps_left ≡ old.steps_left → scene.Does (chosen t) old.scene r new.scene
      → IfOk r HasSlot → ((q : Points) → ShowsViews q new.scene.views → IfOk r (KeepsSlots q)) → (exploring : Bool) → (w : World D) → Shows w old
      → Resumes exploring (resumes exploring t w) (failing r) new
  resumes_by t old new r same does slot kept = λ exploring w shown.
      subst (λ (v : World D). Resumes exploring (resumes exploring t v) (failing r) new) (sym shown.rest)
      (resumes_at exploring w.points old.steps_left (chosen t (world_of w.points old.steps_left old.scene)) r new same (does w.points old.steps_left shown.views) slot kept)

  -- ---- an access goes on by its slot

  reads_at : (p : Points) (left : ℕ) (answer : Result (Reply D × World D) FailureKind) (reply : Reply D) (new : RunState D) → new.steps_left ≡ left
      → scene.Comes p left answer (Ok reply) new.scene → Comes (came answer >>= told) (Ok (turn.Reply new.scene.active reply)) new
  reads_at p left (Ok x) reply new same h =
      let e = h.0 in
      let is : x ≡ (reply, world_of x.1.points left new.scene) = cc in (
        world_of x.1.points new.steps_left new.scene,
        record { views = h.1; rest = refl },
        ap told is ∙ ap (λ (n : ℕ). Gives (turn.Reply new.scene.active reply, world_of x.1.points n new.scene)) (sym same),
      )
  reads_at p left (Err kind) reply new same h = let e = h.0 in absurd (cc)

  pub reads_by : (load : Loading) (slot : ℕ) (old new : RunState D) (reply : Reply D) → new.steps_left ≡ old.steps_left
      → DoesAt load.access slot (λ w. reads load.access w slot) old.scene (Ok reply) new.scene
      → (w : World D) → Shows w old → KeepsAt w.points (accessed load.access) slot → Comes (read_by load w (choice.Load slot)) (Ok (turn.Reply new.scene.active reply)) new
  reads_by load slot old new reply same does = λ w shown kept.
      subst (λ (v : World D). Comes (read_by load v (choice.Load slot)) (Ok (turn.Reply new.scene.active reply)) new) (sym shown.rest)
      (reads_at w.points old.steps_left (reads load.access (world_of w.points old.steps_left old.scene) slot) reply new same (does w.points old.steps_left shown.views kept))

  -- it fails
  pub reads_fail : (load : Loading) (slot : ℕ) (old new : RunState D) (kind : FailureKind)
      → DoesAt load.access slot (λ w. reads load.access w slot) old.scene (Err kind) new.scene
      → (w : World D) → Shows w old → KeepsAt w.points (accessed load.access) slot → read_by load w (choice.Load slot) ≡ Fails kind
  reads_fail load slot old new kind does = λ w shown kept.
      ap (λ (v : World D). read_by load v (choice.Load slot)) shown.rest
      ∙ ap (λ (answer : Result (Reply D × World D) FailureKind). came answer >>= told) (does w.points old.steps_left shown.views kept)

  -- ---- a copy

  copy_at : (exploring : Bool) (answer : Result (Resumed D × World D) FailureKind) (reader n : ℕ) (copy : D) → answer_of answer ≡ Ok (ThatPassed (passed.Turn (turn.Reply reader (reply.ReadLocked n copy))))
      → GivesCopy (came answer >>= asked exploring)
  copy_at exploring (Ok x) reader n copy e =
      let is : x.0 ≡ ThatPassed (passed.Turn (turn.Reply reader (reply.ReadLocked n copy))) = cc in
      (reader, n, copy, x.1, ap (λ (r : Resumed D). asked exploring (r, x.1)) is)
  copy_at exploring (Err kind) reader n copy e = absurd (cc)

  -- the chosen thread is a reader who gets a copy
  pub gives_copy : (t : ℕ) (old : RunState D) → TellsCopy (chosen t) old.scene → (exploring : Bool) → (w : World D) → Shows w old → GivesCopy (resumes exploring t w)
  gives_copy t old tells = λ exploring w shown.
      let said = tells w.points old.steps_left shown.views in
      copy_at exploring (chosen t w) said.0 said.1 said.2 (ap (λ (v : World D). answer_of (chosen t v)) shown.rest ∙ said.3)
