-- Sequentially consistent accesses move points as acquiring and releasing ones do.
use Rattle.std.proofs.Common.{zero, suc, ◌≡◌, ℕ, ◌-◌, ◌<◌, Bool, true, false, List, [], ◌∷◌, ◌++◌, length, get_or, set, refl, ap, sym, ◌∙◌, arith, length-append, Option, Some, None, Result, Ok, Err}
use Rattle.std.specs.Prelude.{nat_lt, if◌then◌else◌}
use Rattle.std.specs.List.{slice_get, list_any}
use Rattle.std.specs.declared.sync.atomic.Ordering.TheVariants.{AcqRel, SeqCst}
use Rattle.std.proofs.lemmas.Option.{slice_get_within}
use Rattle.loom_views.specs.declared.rt.failure.FailureKind.{FailureKind}
use Rattle.loom_views.specs.declared.rt.failure.FailureKind.TheVariants.{Race, OpenAccess, TooManyStores}
use Rattle.loom_views.specs.ThreadViews.{ThreadPoints}
use Rattle.loom_views.specs.AccessRecords.{races}
use Rattle.loom_views.specs.Atomic.History.{Scene, Answer, StorePoints, blank, in_slot, scene_loaded, scene_made, scene_recorded_store, store_step, update_write_step}
use Rattle.loom_views.specs.Views.{Place, Meets, Keeps, Records, Points, Accessed, scene_of, accessed, access, access_by}
use Rattle.loom_views.specs.Laws.Views.{newest_marked, marked, MovesAsAcqRel}
use Rattle.loom_views.proofs.Atomic.Table.Lists.{get-set_same}

-- the last element, read and written
last-read : (xs : List StorePoints) (x d : StorePoints) → get_or (xs ++ x ∷ []) (length xs) d ≡ x
last-read [] x d = refl
last-read (y ∷ xs) x d = last-read xs x d

last-written : (xs : List StorePoints) (x y : StorePoints) → set (xs ++ x ∷ []) (length xs) y ≡ xs ++ y ∷ []
last-written [] x y = refl
last-written (z ∷ xs) x y = ap (λ zs. z ∷ zs) (last-written xs x y)

newest-marked : (stores : List StorePoints) (store : StorePoints) → newest_marked (stores ++ store ∷ []) ≡ stores ++ record store { seq_cst = true } ∷ []
newest-marked stores store =
    let place : length (stores ++ store ∷ []) - 1 ≡ length stores = omega (arith, length-append stores (store ∷ [])) in
    ap (λ i. set (stores ++ store ∷ []) i (record (get_or (stores ++ store ∷ []) i blank) { seq_cst = true })) place
    ∙ ap (λ (newest : StorePoints). set (stores ++ store ∷ []) (length stores) (record newest { seq_cst = true })) (last-read stores store blank)
    ∙ last-written stores store (record store { seq_cst = true })

-- an element that is written twice
set-twice : {X : Type 0} (xs : List X) (i : ℕ) (x y : X) → set (set xs i x) i y ≡ set xs i y
set-twice [] i x y = refl
set-twice (z ∷ xs) zero x y = refl
set-twice (z ∷ xs) (suc i) x y = ap (λ zs. z ∷ zs) (set-twice xs i x y)

-- the answer of an access that marks its store
abbrev marked-answer : Answer → List StorePoints → Answer
marked-answer made stores = record made { scene = record made.scene { history = record made.scene.history { stores = stores } } }

module _ (p : Points) (t n : ℕ) (l : n < length p.places) where
  marked-made : (made : Answer) (stores : List StorePoints) → newest_marked made.scene.history.stores ≡ stores → accessed p t n (Ok (marked-answer made stores)) ≡ marked n (accessed p t n (Ok made))
  marked-made made stores e =
      let history = made.scene.history in
      let with_places : List Place → Result Accessed FailureKind = λ places. Ok (record { points = record p { graph = made.scene.graph; threads = set p.threads t made.scene.thread; places = places }; value = made.value }) in
      let there : slice_get (set p.places n (Keeps history)) n ≡ Some (Keeps history) = get-set_same p.places n (Keeps history) l in
      let twice = set-twice p.places n (Keeps history) (Keeps (record history { stores = newest_marked history.stores })) in
      rw there (sym (ap with_places (twice ∙ ap (λ (ss : List StorePoints). set p.places n (Keeps (record history { stores = ss }))) e)))

  -- through the tests of an access, and that of room
  marked-passed : (a b c : Bool) (strong weak : Result Answer FailureKind) → accessed p t n strong ≡ marked n (accessed p t n weak) → accessed p t n (if a then Err OpenAccess else (if b then Err Race else (if c then strong else Err TooManyStores))) ≡ marked n (accessed p t n (if a then Err OpenAccess else (if b then Err Race else (if c then weak else Err TooManyStores))))
  marked-passed true b c strong weak h = refl
  marked-passed false true c strong weak h = refl
  marked-passed false false true strong weak h = h
  marked-passed false false false strong weak h = refl

  marked-stored : (s : Scene) (copied : Option ℕ) (value : ℕ) → accessed p t n (Ok (record { scene = scene_made t s value copied SeqCst; value = value })) ≡ marked n (accessed p t n (Ok (record { scene = scene_made t s value copied AcqRel; value = value })))
  marked-stored s copied value = marked-made (record { scene = scene_made t s value copied AcqRel; value = value }) (scene_made t s value copied SeqCst).history.stores (newest-marked s.history.stores _)

-- an access of atomic n, by two steps that differ in the mark
marked-access : (p : Points) (t n : ℕ) (strong weak : Scene → Result Answer FailureKind) → (n < length p.places → (s : Scene) → accessed p t n (strong s) ≡ marked n (accessed p t n (weak s))) → access p t n strong ≡ marked n (access p t n weak)
marked-access p t n strong weak h = go (slice_get p.threads t) (slice_get p.places n) refl
  where
    go : (o : Option ThreadPoints) (q : Option Place) → slice_get p.places n ≡ q → access_by p t n strong o q ≡ marked n (access_by p t n weak o q)
    go None q a = refl
    go (Some own) None a = refl
    go (Some own) (Some (Meets k)) a = refl
    go (Some own) (Some (Records cell)) a = refl
    go (Some own) (Some (Keeps history)) a = h (slice_get_within p.places n (Keeps history) a) (scene_of p own history)

pub moves_as_acq_rel_law : MovesAsAcqRel
moves_as_acq_rel_law = record {
  load = λ p t n slot. refl;
  store = λ p t n value. marked-access p t n (λ s. store_step t s value SeqCst) (λ s. store_step t s value AcqRel) (λ l s.
      marked-passed p t n l s.history.mutating (list_any (λ points. races s.graph points s.thread.present) (s.history.mutations ∷ s.history.unsync_loads ∷ [])) (nat_lt (length s.history.stores) 65535) _ _ (marked-stored p t n l (scene_recorded_store s) None value));
  update_write = λ p t n slot value. marked-access p t n (λ s. update_write_step t s slot value SeqCst) (λ s. update_write_step t s slot value AcqRel) (λ l s.
      let sync = (in_slot s.history.stores slot).sync in
      marked-passed p t n l s.history.mutating (list_any (λ points. races s.graph points s.thread.present) (s.history.mutations ∷ s.history.unsync_loads ∷ [])) (nat_lt (length s.history.stores) 65535) _ _ (marked-stored p t n l (scene_loaded (scene_recorded_store s) sync AcqRel) (Some sync) value));
  update_fail = λ p t n slot. refl;
}
