use Rattle.std.proofs.Common.{◌≡◌, ◌+◌, ◌-◌, ◌^◌, ℕ, Bool, true, false, inl, inr, min, refl, arith}
use Rattle.std.proofs.lemmas.Bool.{ltb-true, ltb-false}
use Rattle.std.specs.Prelude.{nat_lt}
use Rattle.loom.specs.Model.Stores.{HasRisen}
use Rattle.loom.proofs.checkpoint.files.HostFiles.refused.Goals as goal

-- a count that isn't as high as it can be rises
risen : (old new : ℕ) → new ≡ min (old + 1) (2 ^ 64 - 1) → HasRisen old new
risen old new e = go (nat_lt old (2 ^ 64 - 1)) refl
  where
    go : (below : Bool) → nat_lt old (2 ^ 64 - 1) ≡ below → HasRisen old new
    go true is = inl (omega (arith, e, ltb-true old (2 ^ 64 - 1) is))
    go false is = inr (omega (arith, e, ltb-false old (2 ^ 64 - 1) is))

pub returns : goal.returns
returns g c = risen c.args.self.now.faults c.saturating_add-self.result c.saturating_add-self.ensures
