-- Threads that are woken by their numbers, one after the other.
use Rattle.std.proofs.Common.{◌≡◌, ◌<◌, ℕ, zero, suc, List, [], ◌∷◌, length, take, arith, refl}
use Rattle.std.specs.Prelude.{slice_index_or}
use Rattle.loom_objects.specs.Rules.Moves.{rouses, rouses_all}
use Rattle.loom_objects.specs.World.{World}

module _ {D : Type 0} where
  -- one thread more
  pub one_more : (threads : List ℕ) (i : ℕ) (w : World D) → i < length threads → rouses_all (take (suc i) threads) w ≡ rouses (slice_index_or threads i 0) (rouses_all (take i threads) w)
  one_more [] i w h = absurd (omega arith)
  one_more (t ∷ threads) zero w h = refl
  one_more (t ∷ threads) (suc i) w h = one_more threads i (rouses t w) (omega arith)
