-- The numbers by which the program names why a check gives no report.
use Rattle.std.specs.Prelude.{ℕ}
use Rattle.loom.specs.declared.model.error.CheckError.{CheckError}
use Rattle.loom.specs.declared.model.error.CheckError.TheVariants.{MaxThreads, MaxBranches, PreemptionBound, CheckpointInterval, MaxSteps, NotANumber, NotJson, WrongShape, WrongVersion, OtherSettings, TooManyNodes, BadNode, Store, Memory}

abbrev pub number_of : CheckError → ℕ
number_of (MaxThreads given) = 1
number_of (MaxBranches given) = 2
number_of (PreemptionBound given) = 3
number_of CheckpointInterval = 4
number_of MaxSteps = 5
number_of (NotANumber variable) = 6
number_of NotJson = 7
number_of WrongShape = 8
number_of (WrongVersion version) = 9
number_of (OtherSettings setting) = 10
number_of (TooManyNodes count) = 11
number_of BadNode = 12
number_of Store = 13
number_of Memory = 14
