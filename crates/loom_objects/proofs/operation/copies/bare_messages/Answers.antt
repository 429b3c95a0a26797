use Rattle.std.proofs.Common.{◌≡◌, ◌<◌, ◌++◌, ◌∷◌, [], List, ℕ, zero, suc, length, map, take, refl, ap, arith, add-one}
use Rattle.std.proofs.Math.Seq.{take-length}
use Rattle.loom_objects.specs.Operation.Bare.{nothing}
use Rattle.loom_objects.proofs.operation.copies.bare_messages.Goals as goal

one_more : {D : Type 0} (xs : List D) (i : ℕ) → i < length xs → map nothing (take (suc i) xs) ≡ map nothing (take i xs) ++ tt ∷ []
one_more [] i l = absurd (omega (arith, l))
one_more (x ∷ xs) zero l = refl
one_more (x ∷ xs) (suc i) l = ap (λ rest. tt ∷ rest) (one_more xs i (omega arith))

pub loop-place-preserved : goal.loop-place-preserved
loop-place-preserved g c =
    let more = one_more c.args.messages.now c.loop-place._place (omega arith) in
    grind (arith, add-one)

pub returns : goal.returns
returns g c = let all = take-length c.args.messages.now in grind arith
