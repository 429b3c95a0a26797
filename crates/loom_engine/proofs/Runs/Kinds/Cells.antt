-- What is done to cells keeps locks sound.
use Rattle.std.proofs.Common.{ℕ, Bool, Option, Some, None}
use Rattle.std.specs.Prelude.{◌==◌, ◌-◌, ◌^◌, true, false, nat_lt, is_none, Result, Ok, Err}
use Rattle.loom_views.specs.declared.rt.failure.FailureKind.{FailureKind}
use Rattle.loom_views.specs.declared.rt.failure.FailureKind.TheVariants.{Misuse, OpenAccess, TooManySteps}
use Rattle.loom_views.specs.Views.{Points, points_after_read, points_after_write}
use Rattle.loom_objects.specs.declared.operation.CellOp.{CellOp}
use Rattle.loom_objects.specs.declared.operation.CellOp.TheVariants as cell_op
use Rattle.loom_objects.specs.declared.rt.object.Object.TheVariants as object
use Rattle.loom_objects.specs.declared.rt.cell.Cell.{Cell}
use Rattle.loom_objects.specs.Rules.Cell.{cell_begins, cell_deref, cell_get, cell_into_inner, cell_read, cell_read_end, cell_replace, cell_write, cell_write_end, data_left, exchanges_cells, holding, is_free as is_free_cell, is_unread, opens_write, reads_open, records_read, records_write, swap_if}
use Rattle.loom_objects.specs.Lent.{value_in}
use Rattle.loom_objects.specs.Rules.Moves.{a_cell, is_number, with_points}
use Rattle.loom_objects.specs.Rules.Rule.{◌>>=◌, found}
use Rattle.loom_objects.specs.World.{World}
use Rattle.loom_engine.proofs.Runs.Fairness.{IsFairResult, IsOwn, either, cell_read_fair, cell_write_fair}
use Rattle.loom_engine.proofs.Runs.Raising.{raises_keeping}
use Rattle.loom_engine.proofs.Runs.States.{set_ready}
use Rattle.loom_engine.proofs.Runs.Ruling.{Keeping, cell_fair, check_keeping, fair_keeping, found_keeping, misuse, new_keeping, set_keeping, then_keeping}

open_access : IsOwn OpenAccess
open_access e = cc

module _ {D : Type 0} where
  reads_keeping : {A : Type 0} (n : ℕ) (w : World D) (next : World D → Result (A × World D) FailureKind) → ((p : Points) → Keeping w (next (with_points p w))) → Keeping w (records_read n w >>= next)
  reads_keeping n w next h = by_points (points_after_read w.points w.active n) (cell_read_fair w.points w.active n)
    where
      by_points : (r : Result Points FailureKind) → IsFairResult r → Keeping w ((r >>= (λ p. Ok (with_points p w))) >>= next)
      by_points (Ok p) fair = h p
      by_points (Err kind) fair = fair

  writes_keeping : {A : Type 0} (n : ℕ) (w : World D) (next : World D → Result (A × World D) FailureKind) → ((p : Points) → Keeping w (next (with_points p w))) → Keeping w (records_write n w >>= next)
  writes_keeping n w next h = by_points (points_after_write w.points w.active n) (cell_write_fair w.points w.active n)
    where
      by_points : (r : Result Points FailureKind) → IsFairResult r → Keeping w ((r >>= (λ p. Ok (with_points p w))) >>= next)
      by_points (Ok p) fair = h p
      by_points (Err kind) fair = fair

  data_left_fair : (cell : Cell D) → IsFairResult (data_left cell)
  data_left_fair cell = either (is_free_cell cell) (found (value_in cell.content) Misuse) (Err OpenAccess) (by_value (value_in cell.content)) (λ e. cc)
    where
      by_value : (o : Option D) → IsFairResult (found o Misuse)
      by_value None = misuse
      by_value (Some value) = tt

  cell_read_keeping : (n : ℕ) (w : World D) → Keeping w (cell_read n w)
  cell_read_keeping n w =
      fair_keeping (a_cell n w) _ w (cell_fair n w) (λ cell. raises_keeping w _ (λ p. check_keeping (is_none cell.content.lent) OpenAccess _ w open_access (λ e.
      reads_keeping n (with_points p w) _ (λ q. found_keeping (value_in cell.content) Misuse _ w misuse (λ value f.
      check_keeping (nat_lt (reads_open w.active cell) (2 ^ 64 - 1)) TooManySteps _ w (λ g. cc) (λ g out k. set_keeping w n _ tt out k))))))

  cell_read_end_keeping : (n : ℕ) (w : World D) → Keeping w (cell_read_end n w)
  cell_read_end_keeping n w =
      fair_keeping (a_cell n w) _ w (cell_fair n w) (λ cell. check_keeping (nat_lt 0 (reads_open w.active cell)) Misuse _ w misuse (λ e.
      check_keeping (is_none cell.content.lent) OpenAccess _ w open_access (λ f. reads_keeping n w _ (λ p out k. set_keeping w n _ tt out k))))

  cell_deref_keeping : (n : ℕ) (w : World D) → Keeping w (cell_deref n w)
  cell_deref_keeping n w =
      fair_keeping (a_cell n w) _ w (cell_fair n w) (λ cell. check_keeping (nat_lt 0 (reads_open w.active cell)) Misuse _ w misuse (λ e.
      found_keeping (value_in cell.content) Misuse _ w misuse (λ value f out k. k)))

  cell_write_keeping : (n : ℕ) (w : World D) → Keeping w (cell_write n w)
  cell_write_keeping n w =
      fair_keeping (a_cell n w) _ w (cell_fair n w) (λ cell. raises_keeping w _ (λ p. check_keeping (is_free_cell cell) OpenAccess _ w open_access (λ e.
      writes_keeping n (with_points p w) _ (λ q. found_keeping (value_in cell.content) Misuse _ w misuse (λ value f out k. set_keeping w n _ tt out k)))))

  cell_write_end_keeping : (n : ℕ) (value : D) (w : World D) → Keeping w (cell_write_end n value w)
  cell_write_end_keeping n value w =
      fair_keeping (a_cell n w) _ w (cell_fair n w) (λ cell. check_keeping (is_number cell.content.lent w.active) Misuse _ w misuse (λ e.
      check_keeping (is_unread cell) OpenAccess _ w open_access (λ f. writes_keeping n w _ (λ p out k. set_keeping w n _ tt out k))))

  cell_into_inner_keeping : (n : ℕ) (w : World D) → Keeping w (cell_into_inner n w)
  cell_into_inner_keeping n w = fair_keeping (a_cell n w) _ w (cell_fair n w) (λ cell. fair_keeping (data_left cell) _ w (data_left_fair cell) (λ value out k. set_keeping w n _ tt out k))

  cell_get_keeping : (n : ℕ) (w : World D) → Keeping w (cell_get n w)
  cell_get_keeping n w =
      fair_keeping (a_cell n w) _ w (cell_fair n w) (λ cell. raises_keeping w _ (λ p. check_keeping (is_none cell.content.lent) OpenAccess _ w open_access (λ e.
      reads_keeping n (with_points p w) _ (λ q. found_keeping (value_in cell.content) Misuse _ w misuse (λ value f. reads_keeping n (with_points q w) _ (λ r out k. k))))))

  cell_replace_keeping : (n : ℕ) (new : D) (w : World D) → Keeping w (cell_replace n new w)
  cell_replace_keeping n new w =
      fair_keeping (a_cell n w) _ w (cell_fair n w) (λ cell. raises_keeping w _ (λ p. check_keeping (is_free_cell cell) OpenAccess _ w open_access (λ e.
      writes_keeping n (with_points p w) _ (λ q. found_keeping (value_in cell.content) Misuse _ w misuse (λ value f.
      writes_keeping n (with_points q w) _ (λ r out k. set_keeping w n _ tt out k))))))

  opens_write_keeping : (n : ℕ) (w : World D) → Keeping w (opens_write n w)
  opens_write_keeping n w =
      fair_keeping (a_cell n w) _ w (cell_fair n w) (λ cell. raises_keeping w _ (λ p. check_keeping (is_free_cell cell) OpenAccess _ w open_access (λ e.
      writes_keeping n (with_points p w) _ (λ q out k. k))))

  exchanges_keeping : (n m : ℕ) (w : World D) → Keeping w (exchanges_cells n m w)
  exchanges_keeping n m w =
      fair_keeping (a_cell n w) _ w (cell_fair n w) (λ one. fair_keeping (a_cell m w) _ w (cell_fair m w) (λ other.
      found_keeping (value_in one.content) Misuse _ w misuse (λ of_one e. found_keeping (value_in other.content) Misuse _ w misuse (λ of_other f.
      writes_keeping m w _ (λ p. writes_keeping n (with_points p w) _ (λ q out k.
      set_ready n _ tt (set_keeping w m (object.Cell (holding (Some of_one) None other)) tt out k)))))))

  swap_if_keeping : (is_same : Bool) (n m : ℕ) (w : World D) → Keeping w (swap_if is_same n m w)
  swap_if_keeping true n m w = λ out k. k
  swap_if_keeping false n m w =
      then_keeping (opens_write n w) _ w (opens_write_keeping n w) (λ opened. then_keeping (opens_write m opened.1) _ opened.1 (opens_write_keeping m opened.1)
      (λ both. exchanges_keeping n m both.1))

  pub cell_begins_keeping : (todo : CellOp D) (w : World D) → Keeping w (cell_begins todo w)
  cell_begins_keeping (cell_op.New value) w = λ out k. new_keeping w _ tt out k
  cell_begins_keeping (cell_op.Read n) w = cell_read_keeping n w
  cell_begins_keeping (cell_op.ReadEnd n) w = cell_read_end_keeping n w
  cell_begins_keeping (cell_op.Deref n) w = cell_deref_keeping n w
  cell_begins_keeping (cell_op.Write n) w = cell_write_keeping n w
  cell_begins_keeping (cell_op.WriteEnd n value) w = cell_write_end_keeping n value w
  cell_begins_keeping (cell_op.IntoInner n) w = cell_into_inner_keeping n w
  cell_begins_keeping (cell_op.Get n) w = cell_get_keeping n w
  cell_begins_keeping (cell_op.Replace n new) w = cell_replace_keeping n new w
  cell_begins_keeping (cell_op.Swap n m) w =
      fair_keeping (a_cell n w) _ w (cell_fair n w) (λ one. fair_keeping (a_cell m w) _ w (cell_fair m w) (λ other. swap_if_keeping (n == m) n m w))
