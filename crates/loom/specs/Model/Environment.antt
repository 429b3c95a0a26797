-- What the variables of an environment say of a check.
use Rattle.std.specs.Prelude.{ℕ, ◌^◌, ◌&&◌, Bool, true, cond, nat_lt, List, [], ◌∷◌, length, Option, Some, None, is_some, Result, Ok, Err, String, string_bytes}
use Rattle.std.specs.Char.{is_digit}
use Rattle.std.specs.Str.Parse.{digits_value, without_leading_plus}
use Rattle.std.specs.declared.time.Duration.{Duration}
use Rattle.std.specs.declared.alloc.Global.{Global}
use Rattle.loom.specs.declared.model.builder.Builder.{Builder}
use Rattle.loom.specs.declared.model.env.Env.{Env}
use Rattle.loom.specs.declared.model.error.CheckError.{CheckError}
use Rattle.loom.specs.declared.model.error.CheckError.TheVariants.{NotANumber}
use Rattle.loom.specs.declared.model.error.Variable.{Variable}
use Rattle.loom.specs.declared.model.error.Variable.TheVariants.{MaxBranches, MaxPermutations, MaxDuration, MaxPreemptions, CheckpointInterval}
use Rattle.loom.specs.Model.Settings.{defaults}

abbrev pub Text : Type 0
Text = Option (String Global)

abbrev pub are_digits : List ℕ → Bool
are_digits [] = true
are_digits (c ∷ cs) = is_digit c 10 && are_digits cs

-- one digit or more, of a number of 64 bits
abbrev pub is_number : List ℕ → Bool
is_number digits = nat_lt 0 (length digits) && are_digits digits && nat_lt (digits_value 10 digits) (2 ^ 64)

abbrev pub number_of_digits : Variable → List ℕ → Result ℕ CheckError
number_of_digits variable digits = cond (is_number digits) (Ok (digits_value 10 digits)) (Err (NotANumber variable))

-- a plus may stand before the digits
abbrev pub number_in : Variable → List ℕ → Result ℕ CheckError
number_in variable text = number_of_digits variable (without_leading_plus text)

abbrev pub then : {A B : Type 0} → Result A CheckError → (A → Result B CheckError) → Result B CheckError
then (Ok a) next = next a
then (Err e) next = Err e

abbrev pub number_or : Variable → Text → ℕ → Result ℕ CheckError
number_or variable None without = Ok without
number_or variable (Some text) without = number_in variable (string_bytes text)

abbrev pub option_in : Variable → Text → Result (Option ℕ) CheckError
option_in variable None = Ok None
option_in variable (Some text) = then (number_in variable (string_bytes text)) (λ n. Ok (Some n))

abbrev pub as_seconds : Option ℕ → Option Duration
as_seconds None = None
as_seconds (Some n) = Some (record { secs = n; nanos = 0 })

abbrev pub duration_in : Text → Result (Option Duration) CheckError
duration_in text = then (option_in MaxDuration text) (λ n. Ok (as_seconds n))

-- the defaults with the numbers that the variables say, or the error of the first one that says none
abbrev pub numbers_of : Env → Result Builder CheckError
numbers_of env =
    then (number_or MaxBranches env.max_branches 1000) (λ max_branches.
    then (option_in MaxPermutations env.max_permutations) (λ max_permutations.
    then (duration_in env.max_duration) (λ max_duration.
    then (option_in MaxPreemptions env.max_preemptions) (λ preemption_bound.
    then (number_or CheckpointInterval env.checkpoint_interval 20000) (λ checkpoint_interval.
    Ok (record defaults {
      max_branches = max_branches;
      max_permutations = max_permutations;
      max_duration = max_duration;
      preemption_bound = preemption_bound;
      checkpoint_interval = checkpoint_interval;
    }))))))

-- the defaults, with what the variables say in their place; the first that should be a number and isn't is refused
abbrev pub of_environment : Env → Result Builder CheckError
of_environment env = then (numbers_of env) (λ b. Ok (record b {
  checkpoint_file = env.checkpoint_file;
  location = is_some env.location;
  log = is_some env.log;
}))
