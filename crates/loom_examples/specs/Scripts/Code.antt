-- What bytes tell of steps. A step's kind comes first, then where it keeps its reply, three numbers, and how long its text is;
-- its text comes last.
use Rattle.std.specs.Prelude.{ℕ, ◌==◌, ◌≡◌, ◌++◌, List, [], ◌∷◌, Option, Some, None, cond, take, drop}
use Rattle.std.specs.declared.sync.atomic.Ordering.{Ordering}
use Rattle.std.specs.declared.sync.atomic.Ordering.TheVariants.{Relaxed, Release, Acquire, AcqRel, SeqCst}
use Rattle.loom_views.specs.declared.rt.num.Numbers.TheVariants.{U64}
use Rattle.loom_objects.specs.declared.operation.AtomicOp.TheVariants.{New, Load, Store}
use Rattle.loom_objects.specs.declared.operation.Request.TheVariants.{Atomic, Thread}
use Rattle.loom_objects.specs.declared.operation.ThreadOp.TheVariants.{Join, Finish, Exit, End}
use Rattle.loom_examples.specs.Scripts.Written.{Written, Do, Label, JumpTo, IfTo, UnlessTo, SpawnAt}
use Rattle.loom_examples.specs.declared.scripts.step.Value.TheVariants.{Plain}

abbrev pub order_of : ℕ → Ordering
order_of n = cond (n == 0) Relaxed (cond (n == 1) Release (cond (n == 2) Acquire (cond (n == 3) AcqRel SeqCst)))

-- the step of this kind, which keeps its reply here, with three numbers and a text
abbrev pub step_of : ℕ → ℕ → ℕ → ℕ → ℕ → List ℕ → Option Written
step_of kind keep a b c text =
    cond (kind == 1) (Some (Do keep (Atomic (New U64 a))))
    (cond (kind == 2) (Some (Do keep (Atomic (Load a (order_of b)))))
    (cond (kind == 3) (Some (Do keep (Atomic (Store a c (order_of b)))))
    (cond (kind == 4) (Some (Do keep (Thread (Join a b))))
    (cond (kind == 5) (Some (Do keep (Thread (Finish (Plain a)))))
    (cond (kind == 6) (Some (Do keep (Thread Exit)))
    (cond (kind == 7) (Some (Do keep (Thread End)))
    (cond (kind == 8) (Some (Label text))
    (cond (kind == 9) (Some (JumpTo text))
    (cond (kind == 10) (Some (IfTo keep a text))
    (cond (kind == 11) (Some (UnlessTo keep a text))
    (cond (kind == 12) (Some (SpawnAt keep text))
    None)))))))))))

-- the step that is told first
abbrev pub first : List ℕ → Option Written
first (kind ∷ keep ∷ a ∷ b ∷ c ∷ size ∷ text) = step_of kind keep a b c (take size text)
first bytes = None

-- the bytes behind those that tell it
abbrev pub behind_first : List ℕ → List ℕ
behind_first (kind ∷ keep ∷ a ∷ b ∷ c ∷ size ∷ text) = drop size text
behind_first bytes = []

-- bytes that begin so tell this step first, and are left so behind it
abbrev pub Begins : List ℕ → List ℕ → Option Written → Type 0
Begins head text step = (left : List ℕ) → (first (head ++ (text ++ left)) ≡ step) × (behind_first (head ++ (text ++ left)) ≡ left)

-- the bytes tell these steps, and nothing else
abbrev pub Tell : List ℕ → List Written → Type 0
Tell bytes [] = bytes ≡ []
Tell bytes (step ∷ steps) = (first bytes ≡ Some step) × Tell (behind_first bytes) steps
