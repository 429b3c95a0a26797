-- From an operation that is handed over to the next schedule.
use Rattle.std.proofs.Common.{◌≡◌, ℕ, List, refl, ap, sym, ◌∙◌}
use Rattle.std.specs.Prelude.{slice_set}
use mathlib.Core.Path.{fun_ext}
use Rattle.loom_objects.specs.declared.choice.Choice.{Choice}
use Rattle.loom_objects.specs.declared.operation.Reply.{Reply}
use Rattle.loom_objects.specs.declared.rt.run.Entry.{Entry}
use Rattle.loom_objects.specs.declared.rt.run.Entry.TheVariants.{Answered, AtBranch, Explores, Spurious as AtSpurious}
use Rattle.loom_objects.specs.Exploring.{is_on, switched}
use Rattle.loom_objects.specs.Operation.Plain.{plain, started}
use Rattle.loom_objects.specs.Rules.Steps.{begins, enters_wait}
use Rattle.loom_objects.specs.Tree.Asked.{whether_spurious}
use Rattle.loom_objects.specs.Tree.Tree.{Tree, Asks, ◌>>=◌, came}
use Rattle.loom_engine.specs.Begun.{answered, comes_to, woken_at}
use Rattle.loom_engine.specs.Runs.Body.{with_child}
use Rattle.loom_engine.specs.Runs.Course.{Course, carried, grown_from, one_passed}
use Rattle.loom_engine.specs.Runs.Machine.{flag_of, switches}
use Rattle.loom_engine.specs.Covering.Moments.{Next, entered, woken}
use Rattle.loom_engine.specs.Covering.Parts.{HandingLaw, on_begun}
use Rattle.loom_engine.proofs.Covering.Unfolding.{bound, then_same}

module _ {D S : Type 0} (rest : Course D → ℕ → Reply D → Tree (Next D S)) (left : ℕ) (bodies : List S) where
  woken_part : (n : ℕ) (c : Course D) (o : Choice) → woken left bodies n c o ≡ woken_at n c o >>= on_begun rest left bodies
  woken_part n c o =
      then_same (flag_of o) _ _ (λ b. then_same (carried (one_passed c) (enters_wait b n c.world)) _ _ (λ (u, v). refl) ∙ sym (bound (carried (one_passed c) (enters_wait b n c.world)) _ _))
      ∙ sym (bound (flag_of o) _ _)

  entered_part : (entry : Entry D) (c : Course D) → entered rest left bodies (entry, c) ≡ comes_to (entry, c) >>= on_begun rest left bodies
  entered_part (Answered reply) c = refl
  entered_part AtBranch c = refl
  entered_part (AtSpurious n) c = ap (Asks (whether_spurious (is_on c.exploring))) (fun_ext (λ o. woken_part n c o))
  entered_part (Explores todo) c = sym (bound (switches todo c) answered (on_begun rest left bodies) ∙ bound (came (switched todo c.exploring)) _ _)

pub handing_law : {D S : Type 0} → HandingLaw D S
handing_law rest left bodies c thread after op =
    then_same (carried c (begins (plain op) c.world)) _ _
    (λ (entry, v). entered_part (rest (with_child (slice_set bodies thread after) (started op))) left (with_child (slice_set bodies thread after) (started op)) entry (grown_from c.world v))
    ∙ sym (bound (carried c (begins (plain op) c.world)) _ _)
