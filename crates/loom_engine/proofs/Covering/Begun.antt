-- An operation that is begun goes on from its branch point.
use Rattle.std.proofs.Common.{◌≡◌, ℕ, ap, refl, sym, ◌∙◌}
use mathlib.Core.Path.{fun_ext}
use Rattle.loom_objects.specs.declared.choice.Choice.{Choice}
use Rattle.loom_objects.specs.declared.rt.run.Entry.{Entry}
use Rattle.loom_objects.specs.declared.rt.run.Entry.TheVariants.{Answered, AtBranch, Explores, Spurious as AtSpurious}
use Rattle.loom_objects.specs.Exploring.{is_on}
use Rattle.loom_objects.specs.Rules.Steps.{begins, enters_wait}
use Rattle.loom_objects.specs.Tree.Asked.{whether_spurious}
use Rattle.loom_objects.specs.Tree.Tree.{Tree, Gives, Fails, Closes, Asks, ◌>>=◌}
use Rattle.loom_engine.specs.Begun.{BeginningLaw, answered, comes_to, goes_further, woken_at}
use Rattle.loom_engine.specs.Runs.Course.{Course, carried, grown_from, one_passed}
use Rattle.loom_engine.specs.Runs.Machine.{flag_of, goes_on, switches, waits}
use Rattle.loom_engine.proofs.Covering.Unfolding.{bound, then_same}

given_back : {A : Type 0} (t : Tree A) → t >>= (λ a. Gives a) ≡ t
given_back (Gives a) = refl
given_back (Fails kind) = refl
given_back (Closes rest) = ap Closes (given_back rest)
given_back (Asks question branches) = ap (Asks question) (fun_ext (λ o. given_back (branches o)))

module _ {D : Type 0} where
  woken_on : (n : ℕ) (c : Course D) (o : Choice) → waits n c o ≡ woken_at n c o >>= goes_further
  woken_on n c o =
      then_same (flag_of o) _ _ (λ b. then_same (carried (one_passed c) (enters_wait b n c.world)) _ _ (λ (u, v). refl) ∙ sym (bound (carried (one_passed c) (enters_wait b n c.world)) _ _))
      ∙ sym (bound (flag_of o) _ _)

  entered_on : (entry : Entry D) (c : Course D) → goes_on (entry, c) ≡ comes_to (entry, c) >>= goes_further
  entered_on (Answered reply) c = refl
  entered_on AtBranch c = refl
  entered_on (AtSpurious n) c = ap (Asks (whether_spurious (is_on c.exploring))) (fun_ext (λ o. woken_on n c o))
  entered_on (Explores todo) c = sym (given_back (switches todo c)) ∙ then_same (switches todo c) _ _ (λ (turn, v). refl) ∙ sym (bound (switches todo c) answered goes_further)

pub beginning_law : {D : Type 0} → BeginningLaw D
beginning_law op c = then_same (carried c (begins op c.world)) _ _ (λ (entry, after). entered_on entry (grown_from c.world after)) ∙ sym (bound (carried c (begins op c.world)) _ _)
