-- Checks of closures with rising bounds on preemptions.
use Rattle.std.proofs.Common.{◌≡◌, ◌<◌, ◌+◌, ℕ, Bool, true, false, refl, subst, arith}
use Rattle.std.specs.Prelude.{Result, nat_lt}
use Rattle.loom.specs.declared.model.builder.Builder.{Builder}
use Rattle.loom.specs.declared.model.report.Report.{Report}
use Rattle.loom.specs.declared.model.report.Report.TheVariants.{Complete, Stopped, Failed}
use Rattle.loom.specs.Model.Rising.{is_complete}
use Rattle.loom.specs.declared.runner.stop.Stop.{Stop}
use Rattle.loom.specs.Runner.Handle.{Teller}
use Rattle.loom.specs.Runner.Rising.{CompletesAt, ReportsAt}

module _ {D F : Type 0} (called : F → Teller D → Result D Stop → F → Teller D → Type 0) (b : Builder) where
  completes_if : (bound : ℕ) (report : Report) → is_complete report ≡ true → ReportsAt called b bound report → CompletesAt called b bound
  completes_if bound (Complete count) e z = (count, z)
  completes_if bound (Stopped count limit checkpoint) e z = absurd (cc e)
  completes_if bound (Failed count failure choices) e z = absurd (cc e)

  -- the checks with all lower bounds were complete
  abbrev pub AreComplete : ℕ → Type 0
  AreComplete bound = (low : ℕ) → low < bound → CompletesAt called b low

  pub none_lower : AreComplete 0
  none_lower low h = absurd (omega (arith, h))

  -- one more
  pub one_higher : (bound : ℕ) (report : Report) → AreComplete bound → is_complete report ≡ true → ReportsAt called b bound report → AreComplete (bound + 1)
  one_higher bound report lower e z low h = go (nat_lt low bound) refl
    where
      go : (c : Bool) → nat_lt low bound ≡ c → CompletesAt called b low
      go true f = lower low (grind arith)
      go false f = (let same : bound ≡ low = (grind arith) in subst (CompletesAt called b) same (completes_if bound report e z))
