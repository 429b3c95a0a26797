-- Over every history a point that raises, as that of a cell access's begin, is known by reaching from then on.
use Rattle.std.proofs.Common.{◌≡◌, ◌≢◌, ◌⊎◌, ℕ, ◌≤◌, Bool, true, false, List, [], ◌∷◌, ◌++◌, length, refl, ap, subst, ◌∙◌, append_assoc, arith, ⊎_elim, inl, inr, Option, Some, None}
use Rattle.std.proofs.lemmas.Bool.{eq-eqb, eqb-true, false≢true, or_cases}
use Rattle.std.specs.Prelude.{◌==◌, ◌-◌, cond, IfOk, IsTrue, is_none, nat_lt, slice_get, Result, Ok, Err, ⊤}
use Rattle.loom_views.specs.CellAccesses.{Accesses, write_step}
use Rattle.loom_views.specs.Graph.{Graph, is_among}
use Rattle.loom_views.specs.Limits.{highest_count}
use Rattle.loom_views.specs.ThreadViews.{ThreadPoints}
use Rattle.loom_views.specs.Views.{Place, Meets, Keeps, Records, Points, opening as first_points, points_after_raise, points_after_read, points_after_write, record_by, recorded}
use Rattle.loom_views.specs.Laws.Moves.{Leads, none, later, StaysRecorded, begin_read, end_read, begin_write, end_write}
use Rattle.loom_views.specs.Laws.Reaching.{Extends, RecordsRaising, is_raising, reads_of, writes_of}
use Rattle.loom_views.specs.declared.rt.failure.FailureKind.{FailureKind}
use Rattle.loom_views.specs.declared.rt.failure.FailureKind.TheVariants.{Misuse, OpenAccess, TooManySteps}
use Rattle.loom_views.proofs.Atomic.Reaching.Beginning.{beginning_law}
use Rattle.loom_views.proofs.Atomic.Reaching.Moving.{from-ok, leads-add}
use Rattle.loom_views.proofs.Atomic.Reaching.Order.{adding_law, recorded_law}
use Rattle.loom_views.proofs.Atomic.Reaching.Raising.{raise-leads, raising-extends, staying_law}
use Rattle.loom_views.proofs.Atomic.Table.Lists.{get-set_other}
use Rattle.loom_objects.specs.declared.operation.CellOp.{CellOp}
use Rattle.loom_objects.specs.declared.operation.CellOp.TheVariants as cell_op
use Rattle.loom_objects.specs.declared.operation.Request.TheVariants as op
use Rattle.loom_objects.specs.declared.operation.Turn.{Turn}
use Rattle.loom_objects.specs.declared.rt.run.Entry.{Entry}
use Rattle.loom_objects.specs.Lent.{value_in}
use Rattle.loom_objects.specs.Rules.Cell.{cell_begins, data_left, exchanges_cells, is_free, is_unread, opens_write, reads_open, swap_if}
use Rattle.loom_objects.specs.Rules.Moves.{a_cell, is_number, with_points}
use Rattle.loom_objects.specs.Rules.Rule.{◌>>=◌, check, found}
use Rattle.loom_objects.specs.World.{World}
use Rattle.loom_engine.specs.Runs.Course.{Course}
use Rattle.loom_engine.specs.Runs.Histories.{ComesBy}
use Rattle.loom_engine.specs.Runs.Machine.{submit}
use Rattle.loom_engine.specs.Runs.Views.{AtomicReachingLaw, BeginsKnown, CellReachingLaw, GoesTo, IsKnownFrom, at_once, on, reads_begun, writes_begun}
use Rattle.loom_engine.proofs.Runs.Answering.{Answers, answers_then}
use Rattle.loom_engine.proofs.Runs.Carrying.{InWorld}
use Rattle.loom_engine.proofs.Runs.Keeping.{Keeps as KeepsAll, kept_value}
use Rattle.loom_engine.proofs.Runs.Lifting.{EnteredTo, event_kept}
use Rattle.loom_engine.proofs.Runs.Pointing.{by_points}
use Rattle.loom_engine.proofs.Runs.Viewing.{event_leads, reached_leads}

-- ---- points

-- there are five threads at most
five_of : (p : Points) → Leads first_points p → length p.threads ≤ 5
five_of p leads = (leads-add first_points p (omega arith) leads).five

-- the first point that is recorded of object n anew raises
pub record BeginsAt (of : Option Place → List ℕ) (n : ℕ) (p q : Points) : Type 0 where
  pub point : ℕ
  pub more : List ℕ
  pub recorded : of (slice_get q.places n) ≡ of (slice_get p.places n) ++ point ∷ more
  pub raises : IsTrue (is_raising q.graph point)

-- so it does when more is recorded, and points are added
stays_begun : (of : Option Place → List ℕ) (n : ℕ) (p q r : Points) → StaysRecorded of q r → Extends q.graph r.graph → BeginsAt of n p q → BeginsAt of n p r
stays_begun of n p q r stays grown b = record {
  point = b.point;
  more = b.more ++ (stays n).0;
  recorded = (stays n).1 ∙ (ap (λ list. list ++ (stays n).0) b.recorded ∙ append_assoc (of (slice_get p.places n)) (b.point ∷ b.more) (stays n).0);
  raises = raising-extends q.graph r.graph b.point grown b.raises;
}

-- and from where nothing else was recorded of it
begun_before : (of : Option Place → List ℕ) (n : ℕ) (o p q : Points) → slice_get p.places n ≡ slice_get o.places n → BeginsAt of n p q → BeginsAt of n o q
begun_before of n o p q same b =
    record { point = b.point; more = b.more; recorded = b.recorded ∙ ap (λ place. of place ++ b.point ∷ b.more) same; raises = b.raises }

-- a raise records nothing
raise_stays : (p raised : Points) (t n : ℕ) → points_after_raise p t ≡ Ok raised → slice_get raised.places n ≡ slice_get p.places n
raise_stays p raised t n e = ap (λ (q : Points). slice_get q.places n) (raise-leads p raised t e).to

begun_read : (p raised q : Points) (t n : ℕ) → length p.threads ≤ 5 → points_after_raise p t ≡ Ok raised → points_after_read raised t n ≡ Ok q → BeginsAt reads_of n p q
begun_read p raised q t n five e f =
    let r : RecordsRaising reads_of n (length p.graph) raised q = from-ok (λ (z : Points). RecordsRaising reads_of n (length p.graph) raised z) (points_after_read raised t n) q f ((beginning_law p raised t n five e).read) in
    begun_before reads_of n p raised q (raise_stays p raised t n e) (record { point = length p.graph; more = []; recorded = r.recorded; raises = r.raises })

begun_write : (p raised q : Points) (t n : ℕ) → length p.threads ≤ 5 → points_after_raise p t ≡ Ok raised → points_after_write raised t n ≡ Ok q → BeginsAt writes_of n p q
begun_write p raised q t n five e f =
    let r : RecordsRaising writes_of n (length p.graph) raised q = from-ok (λ (z : Points). RecordsRaising writes_of n (length p.graph) raised z) (points_after_write raised t n) q f ((beginning_law p raised t n five e).write) in
    begun_before writes_of n p raised q (raise_stays p raised t n e) (record { point = length p.graph; more = []; recorded = r.recorded; raises = r.raises })

-- an access of a cell records nothing of another object
others_stay : (p : Points) (n i : ℕ) → i ≢ n → (step : Graph → ℕ → Accesses → Result Accesses FailureKind) (o : Option ThreadPoints) (place : Option Place)
    → IfOk (record_by p n step o place) (λ after. slice_get after.places i ≡ slice_get p.places i)
others_stay p n i h step None place = tt
others_stay p n i h step (Some own) None = tt
others_stay p n i h step (Some own) (Some (Meets k)) = tt
others_stay p n i h step (Some own) (Some (Keeps history)) = tt
others_stay p n i h step (Some own) (Some (Records cell)) = led (step p.graph own.present cell)
  where
    led : (r : Result Accesses FailureKind) → IfOk (recorded p n r) (λ after. slice_get after.places i ≡ slice_get p.places i)
    led (Ok after) = get-set_other p.places n i (Records after) h
    led (Err kind) = tt

write_others : (p q : Points) (t n i : ℕ) → points_after_write p t n ≡ Ok q → i ≢ n → slice_get q.places i ≡ slice_get p.places i
write_others p q t n i e h =
    from-ok (λ (z : Points). slice_get z.places i ≡ slice_get p.places i) (points_after_write p t n) q e (others_stay p n i h write_step (slice_get p.threads t) (slice_get p.places n))

-- the one number of a list, and the two
one_of : (m n : ℕ) → IsTrue (is_among n (m ∷ [])) → m ≡ n
one_of m n h = ⊎_elim (λ e. eqb-true m n e) (λ e. absurd (false≢true e)) (or_cases (m == n) false h)

one_of_two : (l m n : ℕ) → IsTrue (is_among n (l ∷ m ∷ [])) → (l ≡ n) ⊎ (m ≡ n)
one_of_two l m n h = ⊎_elim (λ e. inl (eqb-true l n e)) (λ e. inr (one_of m n e)) (or_cases (l == n) (is_among n (m ∷ [])) h)

-- what is answered has this property
pub from_where : {A B : Type 0} (R : B → Type 0) (Q : A → Type 0) (r : Result B FailureKind) (next : B → Result A FailureKind) → Answers R r → ((b : B) → R b → Answers Q (next b)) → Answers Q (r >>= next)
from_where R Q (Ok b) next s h = h b s
from_where R Q (Err kind) next s h = tt

module _ {D : Type 0} where
  -- ---- what is known from some state on

  goes_leads : (p : Points) (c u : Course D) → Leads p c.world.points → GoesTo c u → Leads p u.world.points
  goes_leads p c u leads at_once = leads
  goes_leads p c u leads (on before event after path happens) = event_leads p before after event (goes_leads p c before leads path) happens

  known_from : (c : Course D) (k : ℕ) → Leads first_points c.world.points → IsTrue (is_raising c.world.points.graph k) → IsKnownFrom c k
  known_from c k leads raises u path =
      staying_law c.world.points.graph u.world.points.graph k (adding_law c.world.points u.world.points (five_of c.world.points leads) (goes_leads c.world.points c u none path)).graph raises

  -- ---- what a cell's operation begins

  abbrev pub Begun : CellOp D → Points → Points → Type 0
  Begun todo p q = ((n : ℕ) → IsTrue (is_among n (reads_begun todo)) → BeginsAt reads_of n p q) × ((n : ℕ) → IsTrue (is_among n (writes_begun todo)) → BeginsAt writes_of n p q)

  abbrev pub Nowhere : World D → Type 0
  Nowhere w = ⊥

  abbrev pub Said : CellOp D → Points → Turn D × World D → Type 0
  Said todo p answered = Begun todo p answered.1.points

  abbrev pub Tells : CellOp D → Points → Entry D × World D → Type 0
  Tells todo p = EnteredTo Nowhere (Said todo p)

  -- a write begins: what is there then
  pub record OpensAt (n : ℕ) (w v : World D) : Type 0 where
    pub leads : Leads first_points v.points
    pub on : Leads w.points v.points
    pub begins : BeginsAt writes_of n w.points v.points
    pub others : (i : ℕ) → i ≢ n → slice_get v.points.places i ≡ slice_get w.points.places i

  opens_begun : (n : ℕ) (w : World D) → Leads first_points w.points → Answers (λ opened. OpensAt n w opened.1) (opens_write n w)
  opens_begun n w leads =
      let Q : ⊤ × World D → Type 0 = λ opened. OpensAt n w opened.1 in
      answers_then Q (a_cell n w) _ (λ cell. by_points Q w (points_after_raise w.points w.active) _ (λ raised e. answers_then Q (check (is_free cell) OpenAccess) _ (λ u.
      by_points Q (with_points raised w) (points_after_write raised w.active n) _ (λ written f. record {
        leads = later w.points written leads (begin_write w.active n raised written e f);
        on = later w.points written none (begin_write w.active n raised written e f);
        begins = begun_write w.points raised written w.active n (five_of w.points leads) e f;
        others = λ i h. write_others raised written w.active n i f h ∙ raise_stays w.points raised w.active i e;
      }))))

  -- what a swap begins, of one cell or of two
  abbrev pub Swapped : Bool → ℕ → ℕ → Points → Turn D × World D → Type 0
  Swapped is_same n m p answered =
      ((i : ℕ) → IsTrue (is_among i []) → BeginsAt reads_of i p answered.1.points) × ((i : ℕ) → IsTrue (is_among i (cond is_same [] (n ∷ m ∷ []))) → BeginsAt writes_of i p answered.1.points)

  abbrev pub Swaps : Bool → ℕ → ℕ → Points → Entry D × World D → Type 0
  Swaps is_same n m p = EnteredTo Nowhere (Swapped is_same n m p)

  -- the writes of both cells end
  exchanges_begun : (n m : ℕ) (p : Points) (v : World D) → Leads first_points v.points → BeginsAt writes_of n p v.points → BeginsAt writes_of m p v.points → Answers (Swaps false n m p) (exchanges_cells n m v)
  exchanges_begun n m p v leads one other =
      let Q : Entry D × World D → Type 0 = Swaps false n m p in
      answers_then Q (a_cell n v) _ (λ a. answers_then Q (a_cell m v) _ (λ b. answers_then Q (found (value_in a.content) Misuse) _ (λ of_a. answers_then Q (found (value_in b.content) Misuse) _ (λ of_b.
      by_points Q v (points_after_write v.points v.active m) _ (λ written e. by_points Q (with_points written v) (points_after_write written v.active n) _ (λ ended f.
      let adds = adding_law v.points ended (five_of v.points leads) (later written ended (later v.points written none (end_write v.active m written e)) (end_write v.active n ended f)) in
      let at_one : BeginsAt writes_of n p ended = stays_begun writes_of n p v.points ended adds.writes adds.graph one in
      let at_other : BeginsAt writes_of m p ended = stays_begun writes_of m p v.points ended adds.writes adds.graph other in (
        λ i h. absurd (false≢true h),
        λ i h. ⊎_elim (λ same. subst (λ k. BeginsAt writes_of k p ended) same at_one) (λ same. subst (λ k. BeginsAt writes_of k p ended) same at_other) (one_of_two n m i h),
      )))))))

  swap_begun : (is_same : Bool) (n m : ℕ) (w : World D) → (n == m) ≡ is_same → Leads first_points w.points → Answers (Swaps is_same n m w.points) (swap_if is_same n m w)
  swap_begun true n m w e leads = (λ i h. absurd (false≢true h), λ i h. absurd (false≢true h))
  swap_begun false n m w e leads =
      let Q : Entry D × World D → Type 0 = Swaps false n m w.points in
      let different : m ≢ n = λ same. let own : (n == n) ≡ true = eq-eqb n n refl in absurd (cc (same, own, e)) in
      from_where (λ opened. OpensAt n w opened.1) Q (opens_write n w) _ (opens_begun n w leads) (λ opened h.
      from_where (λ both. OpensAt m opened.1 both.1) Q (opens_write m opened.1) _ (opens_begun m opened.1 h.leads) (λ both z.
      let adds = adding_law opened.1.points both.1.points (five_of opened.1.points h.leads) z.on in
      exchanges_begun n m w.points both.1 z.leads (stays_begun writes_of n w.points opened.1.points both.1.points adds.writes adds.graph h.begins)
      (begun_before writes_of m w.points opened.1.points both.1.points (h.others m different) z.begins)))

  cell_begun : (todo : CellOp D) (w : World D) → Leads first_points w.points → Answers (Tells todo w.points) (cell_begins todo w)
  cell_begun (cell_op.New value) w leads = (λ i h. absurd (false≢true h), λ i h. absurd (false≢true h))
  cell_begun (cell_op.Read n) w leads =
      let Q : Entry D × World D → Type 0 = Tells (cell_op.Read n) w.points in
      answers_then Q (a_cell n w) _ (λ cell. by_points Q w (points_after_raise w.points w.active) _ (λ raised e. answers_then Q (check (is_none cell.content.lent) OpenAccess) _ (λ u.
      by_points Q (with_points raised w) (points_after_read raised w.active n) _ (λ read f. answers_then Q (found (value_in cell.content) Misuse) _ (λ value.
      answers_then Q (check (nat_lt (reads_open w.active cell) highest_count) TooManySteps) _ (λ v. (
        λ i h. subst (λ k. BeginsAt reads_of k w.points read) (one_of n i h) (begun_read w.points raised read w.active n (five_of w.points leads) e f),
        λ i h. absurd (false≢true h),
      )))))))
  cell_begun (cell_op.Get n) w leads =
      let Q : Entry D × World D → Type 0 = Tells (cell_op.Get n) w.points in
      answers_then Q (a_cell n w) _ (λ cell. by_points Q w (points_after_raise w.points w.active) _ (λ raised e. answers_then Q (check (is_none cell.content.lent) OpenAccess) _ (λ u.
      by_points Q (with_points raised w) (points_after_read raised w.active n) _ (λ read f. answers_then Q (found (value_in cell.content) Misuse) _ (λ value.
      by_points Q (with_points read w) (points_after_read read w.active n) _ (λ ended g.
      let adds = adding_law read ended (five_of read (later w.points read leads (begin_read w.active n raised read e f))) (later read ended none (end_read w.active n ended g)) in (
        λ i h. subst (λ k. BeginsAt reads_of k w.points ended) (one_of n i h)
            (stays_begun reads_of n w.points read ended adds.reads adds.graph (begun_read w.points raised read w.active n (five_of w.points leads) e f)),
        λ i h. absurd (false≢true h),
      )))))))
  cell_begun (cell_op.Write n) w leads =
      let Q : Entry D × World D → Type 0 = Tells (cell_op.Write n) w.points in
      answers_then Q (a_cell n w) _ (λ cell. by_points Q w (points_after_raise w.points w.active) _ (λ raised e. answers_then Q (check (is_free cell) OpenAccess) _ (λ u.
      by_points Q (with_points raised w) (points_after_write raised w.active n) _ (λ written f. answers_then Q (found (value_in cell.content) Misuse) _ (λ value. (
        λ i h. absurd (false≢true h),
        λ i h. subst (λ k. BeginsAt writes_of k w.points written) (one_of n i h) (begun_write w.points raised written w.active n (five_of w.points leads) e f),
      ))))))
  cell_begun (cell_op.Replace n new) w leads =
      let Q : Entry D × World D → Type 0 = Tells (cell_op.Replace n new) w.points in
      answers_then Q (a_cell n w) _ (λ cell. by_points Q w (points_after_raise w.points w.active) _ (λ raised e. answers_then Q (check (is_free cell) OpenAccess) _ (λ u.
      by_points Q (with_points raised w) (points_after_write raised w.active n) _ (λ written f. answers_then Q (found (value_in cell.content) Misuse) _ (λ value.
      by_points Q (with_points written w) (points_after_write written w.active n) _ (λ ended g.
      let adds = adding_law written ended (five_of written (later w.points written leads (begin_write w.active n raised written e f))) (later written ended none (end_write w.active n ended g)) in (
        λ i h. absurd (false≢true h),
        λ i h. subst (λ k. BeginsAt writes_of k w.points ended) (one_of n i h)
            (stays_begun writes_of n w.points written ended adds.writes adds.graph (begun_write w.points raised written w.active n (five_of w.points leads) e f)),
      )))))))
  cell_begun (cell_op.Swap n m) w leads =
      let Q : Entry D × World D → Type 0 = Tells (cell_op.Swap n m) w.points in
      answers_then Q (a_cell n w) _ (λ one. answers_then Q (a_cell m w) _ (λ other. swap_begun (n == m) n m w refl leads))
  cell_begun (cell_op.ReadEnd n) w leads =
      let Q : Entry D × World D → Type 0 = Tells (cell_op.ReadEnd n) w.points in
      answers_then Q (a_cell n w) _ (λ cell. answers_then Q (check (nat_lt 0 (reads_open w.active cell)) Misuse) _ (λ u. answers_then Q (check (is_none cell.content.lent) OpenAccess) _ (λ v.
      by_points Q w (points_after_read w.points w.active n) _ (λ read e. (λ i h. absurd (false≢true h), λ i h. absurd (false≢true h))))))
  cell_begun (cell_op.Deref n) w leads =
      let Q : Entry D × World D → Type 0 = Tells (cell_op.Deref n) w.points in
      answers_then Q (a_cell n w) _ (λ cell. answers_then Q (check (nat_lt 0 (reads_open w.active cell)) Misuse) _ (λ u. answers_then Q (found (value_in cell.content) Misuse) _ (λ value.
      (λ i h. absurd (false≢true h), λ i h. absurd (false≢true h)))))
  cell_begun (cell_op.WriteEnd n value) w leads =
      let Q : Entry D × World D → Type 0 = Tells (cell_op.WriteEnd n value) w.points in
      answers_then Q (a_cell n w) _ (λ cell. answers_then Q (check (is_number cell.content.lent w.active) Misuse) _ (λ u. answers_then Q (check (is_unread cell) OpenAccess) _ (λ v.
      by_points Q w (points_after_write w.points w.active n) _ (λ written e. (λ i h. absurd (false≢true h), λ i h. absurd (false≢true h))))))
  cell_begun (cell_op.IntoInner n) w leads =
      let Q : Entry D × World D → Type 0 = Tells (cell_op.IntoInner n) w.points in
      answers_then Q (a_cell n w) _ (λ cell. answers_then Q (data_left cell) _ (λ value. (λ i h. absurd (false≢true h), λ i h. absurd (false≢true h))))

  event_begun : (todo : CellOp D) (c : Course D) → Leads first_points c.world.points → KeepsAll (InWorld (Said todo c.world.points)) (submit (op.Cell todo) c)
  event_begun todo c leads =
      event_kept Nowhere (Said todo c.world.points) (λ t w k. absurd k) (λ w k. absurd k) (op.Cell todo) c
      (answers_then (Tells todo c.world.points) (check (nat_lt 0 c.world.steps_left) TooManySteps) _ (λ u. cell_begun todo (record c.world { steps_left = c.world.steps_left - 1 }) leads))

  known_begun : (of : Option Place → List ℕ) (n : ℕ) (c v : Course D) → Leads first_points v.world.points → BeginsAt of n c.world.points v.world.points → BeginsKnown of n c v
  known_begun of n c v leads b = record { point = b.point; more = b.more; recorded = b.recorded; known = known_from v b.point leads b.raises }

pub atomic_reaching_law : {D : Type 0} → AtomicReachingLaw D
atomic_reaching_law max_threads max_steps n k c reached is_recorded =
    let leads = reached_leads max_threads max_steps c reached in known_from c k leads (recorded_law c.world.points n k leads is_recorded).raises

pub cell_reaching_law : {D : Type 0} → CellReachingLaw D
cell_reaching_law max_threads max_steps todo c v event reached happens is_op =
    let leads : Leads first_points c.world.points = reached_leads max_threads max_steps c reached in
    let after : Leads first_points v.world.points = event_leads first_points c v event leads happens in
    let begun : Begun todo c.world.points v.world.points =
    kept_value (submit (op.Cell todo) c) event.choices (event.turn, v) (event_begun todo c leads) (subst (λ o. ComesBy (submit o c) event.choices (event.turn, v)) is_op happens) in
    record { reads = λ n h. known_begun reads_of n c v after (begun.0 n h); writes = λ n h. known_begun writes_of n c v after (begun.1 n h) }
