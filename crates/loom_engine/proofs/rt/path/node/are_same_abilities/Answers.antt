use Rattle.std.proofs.Common.{◌≡◌, ◌<◌, ℕ, zero, suc, List, [], ◌∷◌, length, refl, arith, rules}
use Rattle.std.specs.Prelude.{slice_get}
use Rattle.loom_engine.proofs.rt.path.node.are_same_abilities.Goals as goal

-- lists of one length that agree at each place are the same
same_at_each : {A : Type 0} (xs ys : List A) (n : ℕ) → length xs ≡ n → length ys ≡ n → ((k : ℕ) → k < n → slice_get xs k ≡ slice_get ys k) → xs ≡ ys
same_at_each [] [] n p q h = refl
same_at_each [] (y ∷ ys) n p q h = absurd (omega arith)
same_at_each (x ∷ xs) [] n p q h = absurd (omega arith)
same_at_each (x ∷ xs) (y ∷ ys) zero p q h = absurd (omega arith)
same_at_each (x ∷ xs) (y ∷ ys) (suc n) p q h =
    let e : x ≡ y = cc (h 0 (omega arith)) in
    let f : xs ≡ ys = same_at_each xs ys n (omega arith) (omega arith) (λ k l. h (suc k) (omega arith)) in
    cc (e, f)

pub returns : goal.returns
returns c = (λ _. same_at_each c.args.one.now c.args.other.now 5 c.told-one c.told-other (λ k l. c.loop-place.invariant k (omega arith)), search rules)
