use Rattle.std.proofs.Common.{◌≡◌, ◌↔◌, ℕ, Bool, IsTrue, nat_eq, ◌∙◌, sym}
use Rattle.std.specs.Prelude.{◌≢◌, ⊤}
use Rattle.loom_objects.specs.declared.operation.ThreadOp.{ThreadOp}
use Rattle.loom_objects.specs.declared.operation.ThreadOp.TheVariants as op
use Rattle.loom.proofs.Same.{same_kind, same_number, same_value, other_number, other_kind}
use Rattle.loom.proofs.runner.same.is_same_thread.Goals as goal

-- ---- two of one kind, without what the function knows beside

of_join : {D : Type 0} (one other : ThreadOp D ⊤) (a x b y : ℕ) → one ≡ op.Join a b → other ≡ op.Join x y → a ≡ x → IsTrue (nat_eq b y) ↔ (one ≡ other)
of_join one other a x b y is was k = same_number _ _ _ _ (λ e. cc) (λ e. cc)

other_join : {D : Type 0} (one other : ThreadOp D ⊤) (a x : ℕ) (b y : ℕ) → one ≡ op.Join a b → other ≡ op.Join x y → a ≢ x → IsTrue (nat_eq a x) ↔ (one ≡ other)
other_join one other a x b y is was wrong = other_number _ _ _ _ wrong (λ e. cc)

of_unpark : {D : Type 0} (one other : ThreadOp D ⊤) (a x : ℕ) → one ≡ op.Unpark a → other ≡ op.Unpark x → IsTrue (nat_eq a x) ↔ (one ≡ other)
of_unpark one other a x is was = same_number _ _ _ _ (λ e. cc) (λ e. cc)

of_finish : {D : Type 0} (one other : ThreadOp D ⊤) (a x : D) (b : Bool) → one ≡ op.Finish a → other ≡ op.Finish x → IsTrue b ↔ (a ≡ x) → IsTrue b ↔ (one ≡ other)
of_finish one other a x b is was same = same_value _ _ _ _ _ same (λ e. cc) (λ e. cc)

-- ---- the goals

pub returns-then-a-x : goal.returns-then-a-x
returns-then-a-x g c = of_join _ _ _ _ _ _ c.in-Join-is_kind.is c.in-Join.is c.if-a-x.true

pub returns-else-a-x : goal.returns-else-a-x
returns-else-a-x g c = other_join _ _ _ _ _ _ c.in-Join-is_kind.is c.in-Join.is c.if-a-x.false

pub returns-in_default-is_kind : goal.returns-in_default-is_kind
returns-in_default-is_kind g c = other_kind _ _ (λ e. c.in_default-is_kind.not-Join _ _ (e ∙ c.in-Join.is))

pub returns-in-Current-matches : goal.returns-in-Current-matches
returns-in-Current-matches g c = same_kind _ _ (c.in-Current-matches.is ∙ sym c.in-Current.is)

pub returns-in_default-matches : goal.returns-in_default-matches
returns-in_default-matches g c = other_kind _ _ (λ e. c.in_default-matches.not-Current (e ∙ c.in-Current.is))

pub returns-in-Park-matches : goal.returns-in-Park-matches
returns-in-Park-matches g c = same_kind _ _ (c.in-Park-matches.is ∙ sym c.in-Park.is)

pub returns-in_default-matches-2 : goal.returns-in_default-matches-2
returns-in_default-matches-2 g c = other_kind _ _ (λ e. c.in_default-matches-2.not-Park (e ∙ c.in-Park.is))

pub returns-in-Unpark-is_kind : goal.returns-in-Unpark-is_kind
returns-in-Unpark-is_kind g c = of_unpark _ _ _ _ c.in-Unpark-is_kind.is c.in-Unpark.is

pub returns-in_default-is_kind-2 : goal.returns-in_default-is_kind-2
returns-in_default-is_kind-2 g c = other_kind _ _ (λ e. c.in_default-is_kind-2.not-Unpark _ (e ∙ c.in-Unpark.is))

pub returns-in-Yield-matches : goal.returns-in-Yield-matches
returns-in-Yield-matches g c = same_kind _ _ (c.in-Yield-matches.is ∙ sym c.in-Yield.is)

pub returns-in_default-matches-3 : goal.returns-in_default-matches-3
returns-in_default-matches-3 g c = other_kind _ _ (λ e. c.in_default-matches-3.not-Yield (e ∙ c.in-Yield.is))

pub returns-in-Finish-is_kind : goal.returns-in-Finish-is_kind
returns-in-Finish-is_kind g c = of_finish _ _ _ _ _ c.in-Finish-is_kind.is c.in-Finish.is c.is_same_value.ensures

pub returns-in_default-is_kind-3 : goal.returns-in_default-is_kind-3
returns-in_default-is_kind-3 g c = other_kind _ _ (λ e. c.in_default-is_kind-3.not-Finish _ (e ∙ c.in-Finish.is))

pub returns-in-Exit-matches : goal.returns-in-Exit-matches
returns-in-Exit-matches g c = same_kind _ _ (c.in-Exit-matches.is ∙ sym c.in-Exit.is)

pub returns-in_default-matches-4 : goal.returns-in_default-matches-4
returns-in_default-matches-4 g c = other_kind _ _ (λ e. c.in_default-matches-4.not-Exit (e ∙ c.in-Exit.is))

pub returns-in-End-matches : goal.returns-in-End-matches
returns-in-End-matches g c = same_kind _ _ (c.in-End-matches.is ∙ sym c.in-End.is)

pub returns-in_default-matches-5 : goal.returns-in_default-matches-5
returns-in_default-matches-5 g c = other_kind _ _ (λ e. c.in_default-matches-5.not-End (e ∙ c.in-End.is))
