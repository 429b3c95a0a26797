-- What of the machine's state has to be seen, and what may be left out.
use Rattle.std.specs.Prelude.{Bool, true, false}
use Rattle.loom_views.specs.declared.rt.failure.FailureKind.{FailureKind}
use Rattle.loom_objects.specs.World.{World}
use Rattle.loom_engine.specs.Covering.States.{LooksSame, TellsFuture}

-- The whole state tells the future.
abbrev pub WholeLaw : Type 0 → Type 0
WholeLaw D = (limits : FailureKind → Bool) → TellsFuture limits (λ explores (w : World D). w) (LooksSame (λ explores (w : World D). w))

module _ {D : Type 0} where
  -- nobody's turn
  abbrev pub without_active : World D → World D
  without_active w = record w { active = 0 }

  -- The state without whose turn it is, where the search explores: whom the schedule chooses has the next turn, and its options don't
  -- depend on the last one. Where it doesn't explore, the default does.
  abbrev pub without_turn : Bool → World D → World D
  without_turn true w = without_active w
  without_turn false w = w

-- Whose turn it is may be left out where the search explores.
abbrev pub TurnLaw : Type 0 → Type 0 → Type 0 → Type 0
TurnLaw D K F = (limits : FailureKind → Bool) (look : Bool → World D → K) (between : Bool → World D → F) → TellsFuture limits look (LooksSame between)
    → ((explores : Bool) (w v : World D) → LooksSame between explores w v → LooksSame between explores (without_active w) (without_active v))
    → TellsFuture limits (λ explores w. look explores (without_turn explores w)) (LooksSame between)
