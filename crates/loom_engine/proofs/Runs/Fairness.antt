-- No rule of views fails because a path doesn't meet a tree, and none but a choice of a store because two orders are equal.
use Rattle.std.proofs.Common.{◌≡◌, ◌≢◌, ◌⊎◌, ℕ, Bool, true, false, List, [], ◌∷◌, length, Option, Some, None, refl, ap, inl, inr}
use Rattle.std.specs.Prelude.{◌||◌, if◌then◌else◌, nat_le, nat_lt, slice_get, Result, Ok, Err}
use Rattle.std.specs.List.{list_any}
use Rattle.std.specs.declared.sync.atomic.Ordering.{Ordering}
use Rattle.loom_views.specs.AccessRecords.{races}
use Rattle.loom_views.specs.Atomic.History.{Scene, Answer, conflicts, load_step, store_step, update_read_step, update_write_step, unsync_load_step, mutate_step, mutate_end_step, scene_recorded_mutation, with_newest, fails_by_orders, in_slot, scene_read, scene_loaded, scene_made, scene_recorded_load, scene_recorded_store}
use Rattle.loom_views.specs.Graph.{raised, Graph}
use Rattle.loom_views.specs.Views.{Place, Meets, Keeps, Records, Points, accessed, access, access_by, scene_of, raise_by, spawn_by, readable_by, points_after_raise, points_after_spawn, points_after_load, points_after_store, points_after_update_read, points_after_update_write, points_after_unsync_load, points_after_with_mut, points_after_with_mut_end, readable_slots_of, recorded, record_by, points_after_read, points_after_write}
use Rattle.loom_views.specs.CellAccesses.{Accesses, read_step, write_step}
use Rattle.loom_views.specs.ThreadViews.{ThreadPoints}
use Rattle.loom_views.specs.declared.rt.atomic.reader.Reader.{Reader}
use Rattle.loom_views.specs.declared.rt.failure.FailureKind.{FailureKind}
use Rattle.loom_views.specs.declared.rt.failure.FailureKind.TheVariants.{NotDeterministic, Race, OpenAccess, OrdersEqual, TooManyStores, TooManyThreads, TooManyVersions}
use Rattle.loom_objects.specs.Rules.Rule.{◌>>=◌}

-- the failure comes of choices: a path doesn't meet a tree, or two orders are equal where a store is chosen
abbrev pub is_of_choices : FailureKind → Bool
is_of_choices NotDeterministic = true
is_of_choices OrdersEqual = true
is_of_choices _ = false

-- it doesn't
abbrev pub IsOwn : FailureKind → Type 0
IsOwn kind = is_of_choices kind ≡ true → ⊥

-- by itself it isn't that a path doesn't meet a tree
abbrev pub IsMet : FailureKind → Type 0
IsMet kind = kind ≢ NotDeterministic

pub own_met : (kind : FailureKind) → IsOwn kind → IsMet kind
own_met kind own e = own (ap is_of_choices e)

pub own_unequal : (kind : FailureKind) → IsOwn kind → kind ≢ OrdersEqual
own_unequal kind own e = own (ap is_of_choices e)

-- this holds of what it gives, and that of its failure
abbrev pub AnswersBy : {A : Type 0} → (FailureKind → Type 0) → (A → Type 0) → Result A FailureKind → Type 0
AnswersBy F P (Ok answered) = P answered
AnswersBy F P (Err kind) = F kind

pub then_by : {A B : Type 0} (F : FailureKind → Type 0) (Q : B → Type 0) (P : A → Type 0) (r : Result B FailureKind) (next : B → Result A FailureKind) → AnswersBy F Q r
    → ((b : B) → Q b → AnswersBy F P (next b)) → AnswersBy F P (r >>= next)
then_by F Q P (Ok b) next q h = h b q
then_by F Q P (Err kind) next q h = q

pub failing_so : {A : Type 0} (F G : FailureKind → Type 0) (P : A → Type 0) (r : Result A FailureKind) → ((kind : FailureKind) → F kind → G kind) → AnswersBy F P r → AnswersBy G P r
failing_so F G P (Ok a) h q = q
failing_so F G P (Err kind) h q = h kind q

abbrev pub IsFairResult : {A : Type 0} → Result A FailureKind → Type 0
IsFairResult r = AnswersBy IsOwn (λ a. Unit {0}) r

pub either : {A : Type 0} (b : Bool) (one other : Result A FailureKind) → IsFairResult one → IsFairResult other → IsFairResult (if b then one else other)
either true one other h i = h
either false one other h i = i

pub raise_fair : (p : Points) (t : ℕ) → IsFairResult (points_after_raise p t)
raise_fair p t = by_thread (slice_get p.threads t)
  where
    by_thread : (o : Option ThreadPoints) → IsFairResult (raise_by p t o)
    by_thread None = λ e. cc
    by_thread (Some own) = either (nat_lt (length (raised p.graph t)) 65534) _ (Err TooManyVersions) tt (λ e. cc)

pub spawn_fair : (p : Points) (t : ℕ) → IsFairResult (points_after_spawn p t)
spawn_fair p t = by_thread (slice_get p.threads t)
  where
    by_thread : (o : Option ThreadPoints) → IsFairResult (spawn_by p t o)
    by_thread None = λ e. cc
    by_thread (Some own) = either (nat_le 5 (length p.threads)) (Err TooManyThreads) _ (λ e. cc) (either (nat_lt (length (raised p.graph t)) 65534) _ (Err TooManyVersions) tt (λ e. cc))

-- a choice of a store fails by itself, or because two orders are equal
abbrev pub IsOfChoice : FailureKind → Type 0
IsOfChoice kind = IsOwn kind ⊎ (kind ≡ OrdersEqual)

pub of_choice_met : (kind : FailureKind) → IsOfChoice kind → IsMet kind
of_choice_met kind (inl own) = own_met kind own
of_choice_met kind (inr e) = λ f. absurd (cc (e, f))

pub readable_fair : (p : Points) (t n : ℕ) (reader : Reader) → AnswersBy IsOfChoice (λ slots. Unit {0}) (readable_slots_of p t n reader)
readable_fair p t n reader = by_thread (slice_get p.threads t) (slice_get p.places n)
  where
    tested : (fails : Bool) (slots : List ℕ) → AnswersBy IsOfChoice (λ slots. Unit {0}) (if fails then Err OrdersEqual else Ok slots)
    tested true slots = inr refl
    tested false slots = tt

    by_thread : (o : Option ThreadPoints) (place : Option Place) → AnswersBy IsOfChoice (λ slots. Unit {0}) (readable_by p t reader o place)
    by_thread None place = inl (λ e. cc)
    by_thread (Some own) None = inl (λ e. cc)
    by_thread (Some own) (Some (Meets k)) = inl (λ e. cc)
    by_thread (Some own) (Some (Records accesses)) = inl (λ e. cc)
    by_thread (Some own) (Some (Keeps history)) = tested (fails_by_orders p.graph t own reader history.stores) _

conflicts_fair : (s : Scene) (kinds : List (List ℕ)) (passed : Result Answer FailureKind) → IsFairResult passed → IsFairResult (conflicts s kinds passed)
conflicts_fair s kinds passed h =
    either s.history.mutating (Err OpenAccess) _ (λ e. cc) (either (list_any (λ points. races s.graph points s.thread.present) kinds) (Err Race) passed (λ e. cc) h)

accessed_fair : (p : Points) (t n : ℕ) (answer : Result Answer FailureKind) → IsFairResult answer → IsFairResult (accessed p t n answer)
accessed_fair p t n (Ok answer) h = tt
accessed_fair p t n (Err kind) h = h

access_fair : (p : Points) (t n : ℕ) (step : Scene → Result Answer FailureKind) → ((s : Scene) → IsFairResult (step s)) → IsFairResult (access p t n step)
access_fair p t n step h = by_thread (slice_get p.threads t) (slice_get p.places n)
  where
    by_thread : (o : Option ThreadPoints) (place : Option Place) → IsFairResult (access_by p t n step o place)
    by_thread None place = λ e. cc
    by_thread (Some own) None = λ e. cc
    by_thread (Some own) (Some (Meets k)) = λ e. cc
    by_thread (Some own) (Some (Records accesses)) = λ e. cc
    by_thread (Some own) (Some (Keeps history)) = accessed_fair p t n (step (scene_of p own history)) (h (scene_of p own history))

pub load_fair : (p : Points) (t n slot : ℕ) (order : Ordering) → IsFairResult (points_after_load p t n slot order)
load_fair p t n slot order = access_fair p t n (λ s. load_step t s slot order) (λ s.
    conflicts_fair s (s.history.mutations ∷ []) (Ok (record { scene = scene_loaded (scene_read t (scene_recorded_load s) slot) (in_slot s.history.stores slot).sync order; value = (in_slot s.history.stores slot).value })) tt)

pub store_fair : (p : Points) (t n value : ℕ) (order : Ordering) → IsFairResult (points_after_store p t n value order)
store_fair p t n value order = access_fair p t n (λ s. store_step t s value order) (λ s.
    conflicts_fair s (s.history.mutations ∷ s.history.unsync_loads ∷ []) _
    (either (nat_lt (length s.history.stores) 65535) (Ok (record { scene = scene_made t (scene_recorded_store s) value None order; value = value })) (Err TooManyStores) tt (λ e. cc)))

pub update_read_fair : (p : Points) (t n slot : ℕ) → IsFairResult (points_after_update_read p t n slot)
update_read_fair p t n slot = access_fair p t n (λ s. update_read_step t s slot) (λ s. conflicts_fair s (s.history.mutations ∷ []) (Ok _) tt)

pub update_write_fair : (p : Points) (t n slot value : ℕ) (success : Ordering) → IsFairResult (points_after_update_write p t n slot value success)
update_write_fair p t n slot value success = access_fair p t n (λ s. update_write_step t s slot value success) (λ s.
    conflicts_fair s (s.history.mutations ∷ s.history.unsync_loads ∷ []) _
    (either (nat_lt (length s.history.stores) 65535) (Ok _) (Err TooManyStores) tt (λ e. cc)))

pub unsync_load_fair : (p : Points) (t n : ℕ) → IsFairResult (points_after_unsync_load p t n)
unsync_load_fair p t n = access_fair p t n unsync_load_step (λ s. conflicts_fair s (s.history.mutations ∷ s.history.stored ∷ []) (Ok _) tt)

pub with_mut_fair : (p : Points) (t n : ℕ) → IsFairResult (points_after_with_mut p t n)
with_mut_fair p t n = access_fair p t n mutate_step (λ s. conflicts_fair s (s.history.loads ∷ s.history.unsync_loads ∷ s.history.stored ∷ s.history.mutations ∷ []) (Ok _) tt)

pub with_mut_end_fair : (p : Points) (t n value : ℕ) → IsFairResult (points_after_with_mut_end p t n value)
with_mut_end_fair p t n value = access_fair p t n (λ s. mutate_end_step s value) (λ s.
    let closed : Scene = record s { history = record s.history { mutating = false; stores = with_newest s.history.stores value } } in
    conflicts_fair closed (s.history.loads ∷ s.history.unsync_loads ∷ s.history.stored ∷ s.history.mutations ∷ []) (Ok (record { scene = scene_recorded_mutation closed; value = value })) tt)

recorded_fair : (p : Points) (n : ℕ) (r : Result Accesses FailureKind) → IsFairResult r → IsFairResult (recorded p n r)
recorded_fair p n (Ok cell) h = tt
recorded_fair p n (Err kind) h = h

record_fair : (p : Points) (t n : ℕ) (step : Graph → ℕ → Accesses → Result Accesses FailureKind) → ((g : Graph) (present : ℕ) (cell : Accesses) → IsFairResult (step g present cell))
    → IsFairResult (record_by p n step (slice_get p.threads t) (slice_get p.places n))
record_fair p t n step h = by_thread (slice_get p.threads t) (slice_get p.places n)
  where
    by_thread : (o : Option ThreadPoints) (place : Option Place) → IsFairResult (record_by p n step o place)
    by_thread None place = λ e. cc
    by_thread (Some own) None = λ e. cc
    by_thread (Some own) (Some (Meets k)) = λ e. cc
    by_thread (Some own) (Some (Keeps history)) = λ e. cc
    by_thread (Some own) (Some (Records cell)) = recorded_fair p n (step p.graph own.present cell) (h p.graph own.present cell)

pub cell_read_fair : (p : Points) (t n : ℕ) → IsFairResult (points_after_read p t n)
cell_read_fair p t n = record_fair p t n read_step (λ g present cell. either (races g cell.writes present) (Err Race) _ (λ e. cc) tt)

pub cell_write_fair : (p : Points) (t n : ℕ) → IsFairResult (points_after_write p t n)
cell_write_fair p t n = record_fair p t n write_step (λ g present cell. either (races g cell.writes present || races g cell.reads present) (Err Race) _ (λ e. cc) tt)
