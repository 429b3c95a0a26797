-- What a thread is told of an effect, once it was chosen.
use Rattle.std.proofs.Common.{◌≡◌, ◌∙◌, ℕ, ap}
use Rattle.std.specs.Prelude.{Result, Ok, Err, IfOk, OnErr}
use Rattle.loom_views.specs.Views.{Points}
use Rattle.loom_views.specs.declared.rt.failure.FailureKind.{FailureKind}
use Rattle.loom_objects.specs.declared.operation.Reply.{Reply}
use Rattle.loom_objects.specs.declared.operation.Reply.TheVariants as reply
use Rattle.loom_objects.specs.declared.operation.Turn.TheVariants as turn
use Rattle.loom_objects.specs.declared.rt.run.Passed.{Passed}
use Rattle.loom_objects.specs.declared.rt.run.Passed.TheVariants as passed
use Rattle.loom_objects.specs.declared.rt.run.Resumed.TheVariants as resumed
use Rattle.loom_objects.specs.declared.rt.thread.Task.{Task}
use Rattle.loom_objects.specs.Rules.Tables.{chosen, takes_effect}
use Rattle.loom_objects.specs.Rules.Rule.{◌>>=◌}
use Rattle.loom_objects.specs.Scene.Stage.{Stage, world_of, points_of, Comes, Does, HasSlot, KeepsSlots}
use Rattle.loom_objects.specs.Schedule.Offers.{chooses}
use Rattle.loom_objects.specs.Rules.Replied.{replied, gone}
use Rattle.loom_objects.specs.World.{World}
use Rattle.loom_objects.specs.Stages.LockCopy.{answer_of, Copies}
use Rattle.loom_objects.specs.Stages.ChosenCopy.{TellsCopy}
use Rattle.loom_objects.specs.Rules.Replied.{replied_by, passed_by}

module _ {D : Type 0} where
  comes_told : (p : Points) (left : ℕ) (answer : Result (Reply D × World D) FailureKind) (r : Result (Reply D) FailureKind) (new : Stage D)
      → Comes p left answer r new → Comes p left (answer >>= replied) (replied_by new.active r) new
  comes_told p left (Ok x) (Ok reply) new h =
      let e = h.0 in
      let is : x ≡ (reply, world_of x.1.points left new) = cc in
      (ap replied is, h.1)
  comes_told p left (Ok x) (Err kind) new h = absurd (cc)
  comes_told p left (Err kind) (Ok reply) new h = let e = h.0 in absurd (cc)
  comes_told p left (Err kind) (Err other) new h = let is : kind ≡ other = cc in ap Err is

  -- it gets the reply
  pub tells : (effect : World D → Result (Reply D × World D) FailureKind) (old new : Stage D) (r : Result (Reply D) FailureKind)
      → Does effect old r new → Does (λ w. effect w >>= replied) old (replied_by new.active r) new
  tells effect old new r does = λ p left shown. comes_told p left (effect (world_of p left old)) r new (does p left shown)

  pub told_slot : (t : ℕ) (r : Result (Reply D) FailureKind) → IfOk (replied_by t r) HasSlot
  told_slot t (Ok reply) = tt
  told_slot t (Err kind) = tt

  pub told_kept : (p : Points) (t : ℕ) (r : Result (Reply D) FailureKind) → IfOk (replied_by t r) (KeepsSlots p)
  told_kept p t (Ok reply) = tt
  told_kept p t (Err kind) = tt

  comes_gone : (p : Points) (left : ℕ) (answer : Result (Passed D × World D) FailureKind) (r : Result (Passed D) FailureKind) (new : Stage D)
      → Comes p left answer r new → Comes p left (answer >>= gone) (passed_by r) new
  comes_gone p left (Ok x) (Ok passed) new h =
      let e = h.0 in
      let is : x ≡ (passed, world_of x.1.points left new) = cc in
      (ap gone is, h.1)
  comes_gone p left (Ok x) (Err kind) new h = absurd (cc)
  comes_gone p left (Err kind) (Ok passed) new h = let e = h.0 in absurd (cc)
  comes_gone p left (Err kind) (Err other) new h = let is : kind ≡ other = cc in ap Err is

  -- it has passed so
  pub passes : (effect : World D → Result (Passed D × World D) FailureKind) (old new : Stage D) (r : Result (Passed D) FailureKind)
      → Does effect old r new → Does (λ w. effect w >>= gone) old (passed_by r) new
  passes effect old new r does = λ p left shown. comes_gone p left (effect (world_of p left old)) r new (does p left shown)

  pub gone_slot : (r : Result (Passed D) FailureKind) → IfOk (passed_by r) HasSlot
  gone_slot (Ok passed) = tt
  gone_slot (Err kind) = tt

  pub gone_kept : (p : Points) (r : Result (Passed D) FailureKind) → IfOk (passed_by r) (KeepsSlots p)
  gone_kept p (Ok passed) = tt
  gone_kept p (Err kind) = tt

-- ---- memory

pub on_err : {T E : Type 0} {P : Type 0} (r : Result T E) → P → OnErr r P
on_err (Ok value) p = tt
on_err (Err refused) p = p

module _ {D : Type 0} where
  -- the reader gets the copy
  told_copy : (n : ℕ) (copy : D) (answer : Result (Reply D × World D) FailureKind) → answer_of answer ≡ Ok (reply.ReadLocked n copy)
      → (reader m : ℕ) × (value : D) × (answer_of (answer >>= replied) ≡ Ok (resumed.Passed (passed.Turn (turn.Reply reader (reply.ReadLocked m value)))))
  told_copy n copy (Ok x) e =
      let is : x.0 ≡ reply.ReadLocked n copy = cc in
      (x.1.active, n, copy, ap (λ (r : Reply D). Ok (resumed.Passed (passed.Turn (turn.Reply x.1.active r)))) is)
  told_copy n copy (Err kind) e = absurd (cc)

  pub tells_copy : (n : ℕ) (effect : World D → Result (Reply D × World D) FailureKind) (old : Stage D) → Copies n effect old → TellsCopy (λ w. effect w >>= replied) old
  tells_copy n effect old h = λ p left shown. told_copy n h.0 (effect (world_of p left old)) (h.1 p left)

  -- what the chosen thread had pending is told of the copy
  copy_after : (p : Points) (left : ℕ) (todo : Task D) (mid : Stage D) (answer : Result (Task D × World D) FailureKind) → Comes p left answer (Ok todo) mid → TellsCopy (takes_effect todo) mid
      → (reader n : ℕ) × (copy : D) × (answer_of (answer >>= (λ x. takes_effect x.0 x.1)) ≡ Ok (resumed.Passed (passed.Turn (turn.Reply reader (reply.ReadLocked n copy)))))
  copy_after p left todo mid answer comes h =
      let told = h (points_of p answer) left comes.1 in
      (told.0, told.1, told.2, ap (λ (a : Result (Task D × World D) FailureKind). answer_of (a >>= (λ x. takes_effect x.0 x.1))) comes.0 ∙ told.3)

  pub chosen_copy : {T E : Type 0} (t : ℕ) (todo : Task D) (old mid : Stage D) (r : Result T E) → Does (chooses t) old (Ok todo) mid
      → OnErr r (TellsCopy (takes_effect todo) mid) → OnErr r (TellsCopy (chosen t) old)
  chosen_copy t todo old mid (Ok value) does h = tt
  chosen_copy t todo old mid (Err refused) does h = λ p left shown. copy_after p left todo mid (chooses t (world_of p left old)) (does p left shown) h
