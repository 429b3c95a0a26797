-- Where an event closes the run, the run has ended.
use Rattle.std.proofs.Common.{ℕ, zero, suc}
use Rattle.loom_views.specs.declared.rt.failure.FailureKind.TheVariants.{Misuse}
use Rattle.loom_objects.specs.declared.operation.Turn.{Turn}
use Rattle.loom_objects.specs.declared.rt.run.Passed.{Passed}
use Rattle.loom_objects.specs.declared.rt.run.Passed.TheVariants as passed
use Rattle.loom_objects.specs.Tree.Tree.{Tree, Gives, Fails, Closes, Asks, ◌>>=◌}
use Rattle.loom_engine.specs.Runs.Course.{Course}
use Rattle.loom_engine.specs.Runs.Machine.{further, passes, schedule}
use Rattle.loom_engine.specs.Covering.Parts.{IsEnded}
use Rattle.loom_engine.proofs.Covering.Parts.{AllGive, ClosesGive}
use Rattle.loom_engine.proofs.Covering.Turns.{Over, chooses_open}

-- one tree, and then another
module _ {A B : Type 0} (P : A → Type 0) (Q : B → Type 0) (next : A → Tree B) (later : (a : A) → P a → AllGive Q (next a)) where
  all_then : (t : Tree A) → AllGive P t → AllGive Q (t >>= next)
  all_then (Gives a) h = later a h
  all_then (Fails kind) h = tt
  all_then (Closes rest) h = all_then rest h
  all_then (Asks question branches) h = λ o. all_then (branches o) (h o)

  pub closes_then : (t : Tree A) → ClosesGive P t → ((a : A) → ClosesGive Q (next a)) → ClosesGive Q (t >>= next)
  closes_then (Gives a) h closes = closes a
  closes_then (Fails kind) h closes = tt
  closes_then (Closes rest) h closes = all_then rest h
  closes_then (Asks question branches) h closes = λ o. closes_then (branches o) (h o) closes

module _ {D : Type 0} where
  -- main has ended
  abbrev pub HasEnded : Turn D × Course D → Type 0
  HasEnded (turn, c) = IsEnded turn

  ended_further : (again : Course D → Tree (Turn D × Course D)) (came : Passed D × Course D) → Over came → AllGive {A = Turn D × Course D} HasEnded (further again came)
  ended_further again (passed.Turn turn, c) h = h
  ended_further again (passed.AtBranch, c) h = absurd h

  open_further : (again : Course D → Tree (Turn D × Course D)) → ((c : Course D) → ClosesGive {A = Turn D × Course D} HasEnded (again c)) → (came : Passed D × Course D) → ClosesGive {A = Turn D × Course D} HasEnded (further again came)
  open_further again h (passed.Turn turn, c) = tt
  open_further again h (passed.AtBranch, c) = h c

  pub schedule_open : (more : ℕ) (c : Course D) → ClosesGive {A = Turn D × Course D} HasEnded (schedule more c)
  unfolding schedule
  schedule_open zero c = closes_then Over HasEnded (further (λ v. Fails Misuse)) (ended_further (λ v. Fails Misuse)) (passes c) (λ o. chooses_open c o) (open_further (λ v. Fails Misuse) (λ v. tt))
  schedule_open (suc more) c = closes_then Over HasEnded (further (schedule more)) (ended_further (schedule more)) (passes c) (λ o. chooses_open c o) (open_further (schedule more) (λ v. schedule_open more v))
