-- Lists of choices that are kept as a tree: each step is one choice, behind those up to an earlier step.
use Rattle.std.specs.Prelude.{ℕ, zero, suc, ◌≡◌, ◌≤◌, ◌+◌, ◌⊎◌, List, [], ◌∷◌, ◌++◌, length, map, slice_get, unwrap_or, Some}
use Rattle.loom_objects.specs.declared.choice.Choice.{Choice}
use Rattle.loom_engine.specs.declared.rt.states.trails.Last.{Last}
use Rattle.loom_engine.specs.declared.rt.states.trails.Lead.{Lead}
use Rattle.loom_engine.specs.declared.rt.states.trails.Step.{Step}

-- the list of this number, or none of its choices
abbrev pub list_at : List (List Choice) → ℕ → List Choice
list_at lists number = unwrap_or (slice_get lists number) []

-- the choices up to each of these steps, behind the lists that are there
abbrev pub walked : List (List Choice) → List Step → List (List Choice)
walked lists [] = lists
walked lists (step ∷ steps) = walked (lists ++ (list_at lists step.before ++ step.choice ∷ []) ∷ []) steps

-- the choices up to the step of this number, counted from 1; up to 0 there are none
unfoldable pub choices_to : List Step → ℕ → List Choice
choices_to steps number = list_at (walked ([] ∷ []) steps) number

-- each step is behind an earlier one, or behind none
pub record AreSteps (steps : List Step) : Type 0 where
  pub each : (n : ℕ) (step : Step) → slice_get steps n ≡ Some step → (step.before ≤ n) × (choices_to steps (suc n) ≡ choices_to steps step.before ++ step.choice ∷ [])

-- what the steps lead to stays, whatever comes behind them
pub record KeepsLists (old new : List Step) : Type 0 where
  pub longer : length old ≤ length new
  pub same : (n : ℕ) → n ≤ length old → choices_to new n ≡ choices_to old n

-- so many choices lead to this step
pub record IsLead (steps : List Step) (lead : Lead) : Type 0 where
  pub within : lead.last ≤ length steps
  pub counted : length (choices_to steps lead.last) ≡ lead.len

-- such steps, and for each list where it leads
pub record AreTrails (steps : List Step) (leads : List Lead) : Type 0 where
  pub well : AreSteps steps
  pub each : (n : ℕ) (lead : Lead) → slice_get leads n ≡ Some lead → IsLead steps lead

-- the lists
abbrev pub lists_of : List Step → List Lead → List (List Choice)
lists_of steps leads = map (λ (lead : Lead). choices_to steps lead.last) leads

-- it is one of them, or that of no choices
abbrev pub IsOneOrNone : List Lead → Lead → Type 0
IsOneOrNone leads lead = ((n : ℕ) × (slice_get leads n ≡ Some lead)) ⊎ (lead ≡ record { last = 0; len = 0 })

-- who makes these choices begins with those up to the step of this number
abbrev pub BeginsWith : List Step → ℕ → List Choice → Type 0
BeginsWith steps last made = (rest : List Choice) × (made ≡ choices_to steps last ++ rest)

-- the last one of the choices, and those before it
pub record IsLast (steps : List Step) (lead : Lead) (last : Last) : Type 0 where
  pub before : IsLead steps last.before
  pub shorter : suc last.before.len ≡ lead.len
  pub whole : choices_to steps lead.last ≡ choices_to steps last.before.last ++ last.choice ∷ []

-- the first so many of the choices
pub record IsCut (steps : List Step) (lead : Lead) (len : ℕ) (cut : Lead) : Type 0 where
  pub is_lead : IsLead steps cut
  pub counted : cut.len ≡ len
  pub rest : List Choice
  pub whole : choices_to steps lead.last ≡ choices_to steps cut.last ++ rest

-- ---- steps behind others

-- the number of a step behind so many others
abbrev pub moved : ℕ → ℕ → ℕ
moved offset zero = 0
moved offset (suc n) = suc n + offset

-- these steps are there behind the others, and lead to the same
pub record AreGrafted (old other new : List Step) : Type 0 where
  pub size : length new ≡ length old + length other
  pub same : (n : ℕ) → n ≤ length other → choices_to new (moved (length old) n) ≡ choices_to other n

abbrev pub moved_lead : ℕ → Lead → Lead
moved_lead offset lead = record { last = moved offset lead.last; len = lead.len }

abbrev pub moved_leads : ℕ → List Lead → List Lead
moved_leads offset leads = map (moved_lead offset) leads

-- each of them leads there too, behind so many others
abbrev pub AreMoved : List Step → ℕ → List Lead → Type 0
AreMoved steps offset leads = (n : ℕ) (lead : Lead) → slice_get leads n ≡ Some lead → IsLead steps (moved_lead offset lead)
