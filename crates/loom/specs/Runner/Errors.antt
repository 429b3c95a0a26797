-- The errors of checks of closures: their numbers, those that the host gives cause for, and the error of a run that was spoiled.
use Rattle.std.specs.Prelude.{ℕ, ◌≡◌, ◌⊎◌}
use Rattle.loom.specs.declared.model.error.CheckError.{CheckError}
use Rattle.loom.specs.declared.model.error.CheckError.TheVariants.{Memory}
use Rattle.loom.specs.declared.runner.error.RunnerError.{RunnerError}
use Rattle.loom.specs.declared.runner.error.RunnerError.TheVariants as error
use Rattle.loom.specs.declared.runner.stop.Stop.{Stop}
use Rattle.loom.specs.declared.runner.stop.Stop.TheVariants as stop

-- the error of a run that stopped so, where its history didn't
abbrev pub error_by : Stop → RunnerError
error_by (stop.Failure failure) = error.NotSettled
error_by stop.Memory = error.Memory
error_by stop.Refused = error.Refused

-- the error of a check of closures where that of a check is this: want of memory is an error of its own
abbrev pub of_check : CheckError → RunnerError
of_check why = elim why [ Memory ↦ error.Memory | other ↦ error.Settings other ]

-- the host refused memory, or a thread
abbrev pub IsRefusedByHost : RunnerError → Type 0
IsRefusedByHost e = (e ≡ error.Memory) ⊎ (e ≡ error.Refused)

-- the number by which the program names an error
abbrev pub number_of : RunnerError → ℕ
number_of error.Refused = 1
number_of error.NotSettled = 2
number_of error.Memory = 3
number_of (error.Settings why) = 4
number_of (error.Changed change) = 5
