-- Two cells exchange their data: the one's is taken out and put into the other, whose own goes into the one.
use Rattle.std.proofs.Common.{◌≡◌, ◌≢◌, ◌<◌, ℕ, length, refl, ap, sym, ◌∙◌}
use Rattle.std.proofs.lemmas.List.{set_comm, set-set}
use Rattle.std.proofs.lemmas.Option.{slice_get_within}
use Rattle.std.specs.Prelude.{Bool, false, List, cond, is_none, slice_get, slice_set, Option, Some, None, Ok, Err, Result, ⊤}
use Rattle.loom_views.proofs.Atomic.Table.Lists.{get-set_other, get-set_same}
use Rattle.loom_views.specs.Views.{Points, points_after_write}
use Rattle.loom_views.specs.declared.rt.failure.FailureKind.{FailureKind}
use Rattle.loom_views.specs.declared.rt.failure.FailureKind.TheVariants.{Misuse}
use Rattle.loom_objects.specs.declared.operation.Reply.TheVariants as reply
use Rattle.loom_objects.specs.declared.rt.run.Entry.{Entry}
use Rattle.loom_objects.specs.declared.rt.run.Entry.TheVariants.{Answered}
use Rattle.loom_objects.specs.declared.rt.object.Object.{Object}
use Rattle.loom_objects.specs.declared.rt.object.Object.TheVariants as object
use Rattle.loom_objects.specs.declared.rt.cell.Cell.{Cell}
use Rattle.loom_objects.specs.Rules.Cell.{exchanges_cells, holding, records_write, with_cell}
use Rattle.loom_objects.specs.Lent.{value_in}
use Rattle.loom_objects.specs.Scene.Lookup.{cell_at, cell_in, looked_up}
use Rattle.loom_objects.specs.Rules.Moves.{with_points}
use Rattle.loom_objects.specs.Rules.Rule.{◌>>=◌}
use Rattle.loom_objects.specs.World.{World}
use Rattle.loom_objects.specs.Stages.CellSwap.{exchanges_data, writes_both}
use Rattle.loom_objects.proofs.Scene.Finding.{cell_stands}

module _ {D : Type 0} where
  module _ (objects : List (Object D)) (n m : ℕ) (apart : n ≢ m) (one : Cell D) (at : cell_at n objects ≡ Ok one) where
    abbrev emptied : Object D
    emptied = object.Cell (holding None None one)

    -- the other object is as it was
    pub other_found : cell_at m (slice_set objects n emptied) ≡ cell_at m objects
    other_found = ap (looked_up cell_in) (get-set_other objects n m emptied (λ e. apart (sym e)))

    within : n < length objects
    within = slice_get_within objects n (object.Cell one) (cell_stands (slice_get objects n) one at).0

    -- the one stands there without its data
    pub one_found : (other : Object D) → cell_at n (slice_set (slice_set objects n emptied) m other) ≡ Ok (holding None None one)
    one_found other =
        ap (looked_up cell_in) (get-set_other (slice_set objects n emptied) m n other apart ∙ get-set_same objects n emptied within)
        ∙ ap (λ (taken : Bool). cond taken (Err Misuse) (Ok (holding None None one))) (cell_stands (slice_get objects n) one at).1

  pub value_there : (objects : List (Object D)) (n : ℕ) (c : Cell D) → cell_at n objects ≡ Ok c → c.content.is_taken ≡ false
  value_there objects n c at = (cell_stands (slice_get objects n) c at).1

  -- the objects after each change are those after two
  pub exchanged : (objects : List (Object D)) (n m : ℕ) → n ≢ m → (one two again : Cell D) (of_one of_two : Option D)
      → Ok one ≡ cell_at n objects → Ok two ≡ cell_at m (slice_set objects n (object.Cell (holding None None one)))
      → Ok again ≡ cell_at n (slice_set (slice_set objects n (object.Cell (holding None None one))) m (object.Cell (holding of_one None two)))
      → slice_set (slice_set (slice_set objects n (object.Cell (holding None None one))) m (object.Cell (holding of_one None two))) n (object.Cell (holding of_two None again))
      ≡ slice_set (slice_set objects m (object.Cell (holding of_one None two))) n (object.Cell (holding of_two None one))
  exchanged objects n m apart one two again of_one of_two at at_too at_again =
      let found = one_found objects n m apart one (sym at) (object.Cell (holding of_one None two)) in
      let same : again ≡ holding None None one = cc in
      ap (λ (os : List (Object D)). slice_set os n (object.Cell (holding of_two None again))) (set_comm objects n m (object.Cell (holding None None one)) (object.Cell (holding of_one None two)) apart)
      ∙ set-set (slice_set objects m (object.Cell (holding of_one None two))) n (object.Cell (holding None None one)) (object.Cell (holding of_two None again))
      ∙ ap (λ (c : Cell D). slice_set (slice_set objects m (object.Cell (holding of_one None two))) n (object.Cell (holding of_two None c))) same

  -- the one's data is put in place of the other's, whose own is put into the one
  pub ends_exchange : (objects : List (Object D)) (n m : ℕ) → n ≢ m → (one two again out other in_again : Cell D) → Ok one ≡ cell_at n objects → out ≡ holding None None one
      → Ok two ≡ cell_at m (slice_set objects n (object.Cell out)) → other ≡ holding one.content.value None two
      → Ok again ≡ cell_at n (slice_set (slice_set objects n (object.Cell out)) m (object.Cell other)) → in_again ≡ holding two.content.value None again
      → (cell_at m objects ≡ Ok two)
      × (slice_set (slice_set (slice_set objects n (object.Cell out)) m (object.Cell other)) n (object.Cell in_again)
      ≡ slice_set (slice_set objects m (object.Cell (holding one.content.value None two))) n (object.Cell (holding two.content.value None one)))
  ends_exchange objects n m apart one two again out other in_again at is_out at_too is_other at_again is_again =
      let found = rw is_out at at_too in
      let found_again = rw (is_out, is_other) at at_again in
      (sym (other_found objects n m apart one (sym at)) ∙ sym found, rw (is_out, is_other, is_again) (exchanged objects n m apart one two again one.content.value two.content.value at found found_again))

-- a value that isn't missing
pub is_there : {A : Type 0} (o : Option A) → is_none o ≡ false → (a : A) × (o ≡ Some a)
is_there (Some a) e = (a, refl)
is_there None e = absurd (cc)

-- ---- cells that are there are written, and then exchange their data

value_is : {D : Type 0} (c : Cell D) (a : D) → c.content.is_taken ≡ false → value_in c.content ≡ Some a → c.content.value ≡ Some a
value_is c a whole e = rw whole at e

module _ {D : Type 0} (n m : ℕ) (w : World D) (one two : Cell D) (at : cell_at n w.objects ≡ Ok one) (at_too : cell_at m w.objects ≡ Ok two) (of_one of_two : D)
    (is_one : one.content.value ≡ Some of_one) (is_two : two.content.value ≡ Some of_two) where
  abbrev ends_so : World D → Result (Entry D × World D) FailureKind
  ends_so ended = Ok (Answered reply.Done, with_cell n (holding (Some of_two) None one) (with_cell m (holding (Some of_one) None two) ended))

  abbrev are_written : World D → Result (⊤ × World D) FailureKind
  are_written ended = Ok (tt, ended)

  abbrev then_on : ⊤ × World D → Result (Entry D × World D) FailureKind
  then_on (written, ended) = exchanges_data n m ended

  by_last : (q : Points) (last : Result Points FailureKind)
      → ((last >>= λ r. Ok (with_points r (with_points q w))) >>= λ ended. ends_so ended) ≡ (((last >>= λ r. Ok (with_points r (with_points q w))) >>= λ ended. are_written ended) >>= then_on)
  by_last q (Err kind) = refl
  by_last q (Ok r) = rw (at, at_too, is_one, is_two) refl

  by_first : (first : Result Points FailureKind)
      → ((first >>= λ q. Ok (with_points q w)) >>= λ written. records_write n written >>= λ ended. ends_so ended)
      ≡ (((first >>= λ q. Ok (with_points q w)) >>= λ written. records_write n written >>= λ ended. are_written ended) >>= then_on)
  by_first (Err kind) = refl
  by_first (Ok q) = by_last q (points_after_write q w.active n)

pub writes_first : {D : Type 0} (n m : ℕ) (w : World D) (one two : Cell D) → cell_at n w.objects ≡ Ok one → cell_at m w.objects ≡ Ok two
    → is_none (value_in one.content) ≡ false → is_none (value_in two.content) ≡ false
    → exchanges_cells n m w ≡ (writes_both n m w >>= λ x. exchanges_data n m x.1)
writes_first n m w one two at at_too some some_too =
    let a = is_there (value_in one.content) some in
    let b = is_there (value_in two.content) some_too in
    rw (at, at_too, a.1, b.1)
    (by_first n m w one two at at_too a.0 b.0 (value_is one a.0 (value_there w.objects n one at) a.1) (value_is two b.0 (value_there w.objects m two at_too) b.1) (points_after_write w.points w.active m))
