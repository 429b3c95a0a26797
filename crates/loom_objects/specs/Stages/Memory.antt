-- Memory that is refused inside of an effect.
use Rattle.std.specs.Prelude.{Result, Ok, Err}
use Rattle.loom_views.specs.declared.rt.failure.FailureKind.{FailureKind}

-- an answer that lacks the memory for a copy is none, and a failure is one
abbrev pub memory_outside : {A E : Type 0} → Result (Result A E) FailureKind → Result (Result A FailureKind) E
memory_outside (Ok (Ok a)) = Ok (Ok a)
memory_outside (Ok (Err e)) = Err e
memory_outside (Err kind) = Ok (Err kind)
