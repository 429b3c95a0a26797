-- The thread that goes on by itself. Threads stand here by what their states let them do, and how often they have yielded.
use Rattle.std.specs.Prelude.{ℕ, suc, Bool, true, false, nat_lt, List, [], ◌∷◌, cond, Option, Some, None, slice_get}
use Rattle.std.specs.List.{position_from}
use Rattle.std.specs.Option.{option_map}
use Rattle.loom_objects.specs.declared.rt.schedule.Ability.{Ability}
use Rattle.loom_objects.specs.declared.rt.schedule.Ability.TheVariants.{Able, Yielding, Unable}

abbrev pub is_able : Option (Ability × ℕ) → Bool
is_able (Some (Able, yields)) = true
is_able (Some (Yielding, yields)) = false
is_able (Some (Unable, yields)) = false
is_able None = false

abbrev pub is_yielding : Ability × ℕ → Bool
is_yielding (Yielding, yields) = true
is_yielding (Able, yields) = false
is_yielding (Unable, yields) = false

-- of the best thread so far, with its yields, and one with so many, the one that has yielded less, the first on a tie
abbrev pub fewer : Option (ℕ × ℕ) → ℕ → ℕ → ℕ × ℕ
fewer None t yields = (t, yields)
fewer (Some (best, least)) t yields = cond (nat_lt yields least) (t, yields) (best, least)

abbrev pub better : Option (ℕ × ℕ) → ℕ → Ability × ℕ → Option (ℕ × ℕ)
better best t (Able, yields) = Some (fewer best t yields)
better best t (Yielding, yields) = best
better best t (Unable, yields) = best

-- of those that can go on, from thread t on, the one with the fewest yields, the first on ties
abbrev pub fewest : Option (ℕ × ℕ) → ℕ → List (Ability × ℕ) → Option ℕ
fewest best t [] = option_map (λ found. found.0) best
fewest best t (standing ∷ rest) = fewest (better best t standing) (suc t) rest

abbrev pub or_else : Option ℕ → Option ℕ → Option ℕ
or_else None other = other
or_else (Some t) other = Some t

-- the active thread if it can go on, or else the one with the fewest yields that can, or else the first that has yielded
abbrev pub default_thread : ℕ → List (Ability × ℕ) → Option ℕ
default_thread active standings = cond (is_able (slice_get standings active)) (Some active) (or_else (fewest None 0 standings) (position_from is_yielding 0 standings))
