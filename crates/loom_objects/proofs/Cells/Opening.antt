-- A read or a write that opens a cell, by the rule of its opening and what comes then.
use Rattle.std.proofs.Common.{◌≡◌, ℕ, refl, ap, sym, ◌∙◌}
use Rattle.std.specs.Prelude.{◌+◌, ◌-◌, ◌^◌, Bool, true, false, is_none, nat_lt, Some, None, Result, Ok, Err, ⊤}
use Rattle.loom_views.specs.Views.{Points, ShowsViews, points_after_raise, points_after_read, points_after_write}
use Rattle.loom_views.specs.declared.rt.failure.FailureKind.{FailureKind}
use Rattle.loom_views.specs.declared.rt.failure.FailureKind.TheVariants.{Misuse, OpenAccess, TooManySteps}
use Rattle.loom_objects.specs.declared.operation.Reply.TheVariants as reply
use Rattle.loom_objects.specs.declared.rt.run.Entry.{Entry}
use Rattle.loom_objects.specs.declared.rt.run.Entry.TheVariants.{Answered}
use Rattle.loom_objects.specs.declared.rt.cell.Cell.{Cell}
use Rattle.loom_objects.specs.Rules.Cell.{holding, is_free, opens_read, opens_write, reads_open, records_read, records_write, with_cell, with_reads}
use Rattle.loom_objects.specs.Lent.{value_in}
use Rattle.loom_objects.specs.Scene.Lookup.{cell_at}
use Rattle.loom_objects.specs.Rules.Moves.{a_cell, raises, with_points}
use Rattle.loom_objects.specs.Rules.Rule.{◌>>=◌, check, found}
use Rattle.loom_objects.specs.Scene.Stage.{Stage, world_of, points_of, Does}
use Rattle.loom_objects.specs.World.{World}

module _ {B D : Type 0} (n : ℕ) (next : Cell D → World D → Result (B × World D) FailureKind) where
  -- what comes once the cell is open
  abbrev pub goes_on : World D → Result (B × World D) FailureKind
  goes_on w = do
    cell ← a_cell n w
    next cell w

  -- a read, and what comes then
  abbrev pub reads_so : World D → Result (B × World D) FailureKind
  reads_so w = do
    cell ← a_cell n w
    raised ← raises w
    _ ← check (is_none cell.content.lent) OpenAccess
    read ← records_read n raised
    next cell read

  -- a write, and what comes then
  abbrev pub writes_so : World D → Result (B × World D) FailureKind
  writes_so w = do
    cell ← a_cell n w
    raised ← raises w
    _ ← check (is_free cell) OpenAccess
    written ← records_write n raised
    next cell written

  -- it is open
  abbrev done : World D → Result (⊤ × World D) FailureKind
  done w = Ok (tt, w)

  module _ (w : World D) (test : Cell D → Bool) (move : World D → Result Points FailureKind) where
    by_test : (cell : Cell D) (p : Points) (passes : Bool) (moved : Result Points FailureKind)
        → (check passes OpenAccess >>= λ _. (moved >>= λ q. Ok (with_points q (with_points p w))) >>= λ read. next cell read)
        ≡ ((check passes OpenAccess >>= λ _. (moved >>= λ q. Ok (with_points q (with_points p w))) >>= λ read. done read) >>= λ opened. next cell opened.1)
    by_test cell p false moved = refl
    by_test cell p true (Err kind) = refl
    by_test cell p true (Ok q) = refl

    opens : (cell : Result (Cell D) FailureKind) (raised : Result Points FailureKind)
        → (cell >>= λ c. (raised >>= λ p. Ok (with_points p w)) >>= λ r. check (test c) OpenAccess >>= λ _. (move r >>= λ q. Ok (with_points q r)) >>= λ read. next c read)
        ≡ ((cell >>= λ c. (raised >>= λ p. Ok (with_points p w)) >>= λ r. check (test c) OpenAccess >>= λ _. (move r >>= λ q. Ok (with_points q r)) >>= λ read. done read)
        >>= λ opened. cell >>= λ c. next c opened.1)
    opens (Err kind) raised = refl
    opens (Ok c) (Err kind) = refl
    opens (Ok c) (Ok p) = by_test c p (test c) (move (with_points p w))

  module _ (old mid : Stage D) where
    abbrev then_on : ⊤ × World D → Result (B × World D) FailureKind
    then_on (opened, w) = cell_at n old.objects >>= λ cell. next cell w

    module _ (rule : World D → Result (B × World D) FailureKind) (first : World D → Result (⊤ × World D) FailureKind)
        (opening : (p : Points) (left : ℕ) → rule (world_of p left old) ≡ (first (world_of p left old) >>= then_on)) where
      -- the rule goes on from points that the first one led to
      goes : Does first old (Ok tt) mid → mid ≡ record old { views = mid.views } → (p : Points) (left : ℕ) → ShowsViews p old.views
          → (q : Points) × (rule (world_of p left old) ≡ goes_on (world_of q left mid)) × ShowsViews q mid.views
      goes does rest p left shown =
          let o = does p left shown in
          let q = points_of p (first (world_of p left old)) in (
            q,
            opening p left
                ∙ ap (λ (answer : Result (⊤ × World D) FailureKind). answer >>= then_on) o.0
                ∙ ap (λ (found : Result (Cell D) FailureKind). found >>= λ cell. next cell (world_of q left mid)) (sym (ap (λ (s : Stage D). cell_at n s.objects) rest)),
            o.1,
          )

    reading : (p : Points) (left : ℕ) → reads_so (world_of p left old) ≡ (opens_read n (world_of p left old) >>= then_on)
    reading p left = opens (world_of p left old) (λ cell. is_none cell.content.lent) (λ w. points_after_read w.points w.active n) (cell_at n old.objects) (points_after_raise p old.active)

    writing : (p : Points) (left : ℕ) → writes_so (world_of p left old) ≡ (opens_write n (world_of p left old) >>= then_on)
    writing p left = opens (world_of p left old) is_free (λ w. points_after_write w.points w.active n) (cell_at n old.objects) (points_after_raise p old.active)

    pub read_opened : Does (opens_read n) old (Ok tt) mid → mid ≡ record old { views = mid.views } → (p : Points) (left : ℕ) → ShowsViews p old.views
        → (q : Points) × (reads_so (world_of p left old) ≡ goes_on (world_of q left mid)) × ShowsViews q mid.views
    read_opened = goes reads_so (opens_read n) reading

    pub read_refused : (kind : FailureKind) → Does {A = ⊤} (opens_read n) old (Err kind) mid → Does {A = B} reads_so old (Err kind) mid
    read_refused kind fails p left shown = reading p left ∙ ap (λ (answer : Result (⊤ × World D) FailureKind). answer >>= then_on) (fails p left shown)

    pub write_opened : Does (opens_write n) old (Ok tt) mid → mid ≡ record old { views = mid.views } → (p : Points) (left : ℕ) → ShowsViews p old.views
        → (q : Points) × (writes_so (world_of p left old) ≡ goes_on (world_of q left mid)) × ShowsViews q mid.views
    write_opened = goes writes_so (opens_write n) writing

    pub write_refused : (kind : FailureKind) → Does {A = ⊤} (opens_write n) old (Err kind) mid → Does {A = B} writes_so old (Err kind) mid
    write_refused kind fails p left shown = writing p left ∙ ap (λ (answer : Result (⊤ × World D) FailureKind). answer >>= then_on) (fails p left shown)

-- ---- what comes once a cell is open

module _ {D : Type 0} where
  -- the thread has one read more open
  abbrev pub reads_on : ℕ → ℕ → Cell D → World D → Result (Entry D × World D) FailureKind
  reads_on n t cell w = do
    value ← found (value_in cell.content) Misuse
    _ ← check (nat_lt (reads_open t cell) (2 ^ 64 - 1)) TooManySteps
    Ok (Answered (reply.Reading n value), with_cell n (with_reads t (reads_open t cell + 1) cell) w)

  -- the read ends
  abbrev pub gets_out : ℕ → Cell D → World D → Result (Entry D × World D) FailureKind
  gets_out n cell w = do
    value ← found (value_in cell.content) Misuse
    ended ← records_read n w
    Ok (Answered (reply.Data value), ended)

  -- the data goes out to the thread
  abbrev pub writes_out : ℕ → ℕ → Cell D → World D → Result (Entry D × World D) FailureKind
  writes_out n t cell w = do
    value ← found (value_in cell.content) Misuse
    Ok (Answered (reply.Writing n value), with_cell n (holding None (Some t) cell) w)

  -- the write ends, with this in place of what was there
  abbrev pub replaces_by : D → ℕ → Cell D → World D → Result (Entry D × World D) FailureKind
  replaces_by new n cell w = do
    value ← found (value_in cell.content) Misuse
    ended ← records_write n w
    Ok (Answered (reply.Data value), with_cell n (holding (Some new) None cell) ended)
