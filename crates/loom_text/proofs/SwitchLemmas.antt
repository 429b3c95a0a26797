-- A test's threads never switch whether the search explores.
use Rattle.std.proofs.Common.{◌≡◌, ℕ, false, List, Option, Some, None, refl}
use Rattle.loom_objects.specs.declared.operation.Reply.{Reply}
use Rattle.loom_objects.specs.Exploring.{is_switch}
use Rattle.loom_text.specs.declared.run.code.Instruction.{Instruction}
use Rattle.loom_text.specs.declared.run.code.Instruction.TheVariants.{Compute, Jump, JumpIfZero, Ask}
use Rattle.loom_text.specs.declared.run.code.Operation.{Operation}
use Rattle.loom_text.specs.declared.run.code.Operation.TheVariants.{Atomic, Fence, NewCell, Read, Write, NewMutex, Lock, TryLock, Unlock, NewCondvar, Wait, Signal, Broadcast, Yield, Fail, Spawn, Join, Finish, Exit, End}
use Rattle.loom_text.specs.Run.Running.{Running}
use Rattle.loom_text.specs.Run.Thread.{gone_on, instruction_at, next_of, operation, request}

no_switch : (r : Running) (asked : Operation) → is_switch (request r asked) ≡ false
no_switch r (Atomic made) = refl
no_switch r (Fence order) = refl
no_switch r (NewCell n) = refl
no_switch r (Read x) = refl
no_switch r (Write x number) = refl
no_switch r NewMutex = refl
no_switch r (Lock m) = refl
no_switch r (TryLock m) = refl
no_switch r (Unlock m) = refl
no_switch r NewCondvar = refl
no_switch r (Wait c m) = refl
no_switch r (Signal c) = refl
no_switch r (Broadcast c) = refl
no_switch r Yield = refl
no_switch r Fail = refl
no_switch r (Spawn place name) = refl
no_switch r (Join t n) = refl
no_switch r (Finish count) = refl
no_switch r Exit = refl
no_switch r End = refl

no_switch_at : (r : Running) (at : Option Instruction) → is_switch (operation r at).request ≡ false
no_switch_at r None = refl
no_switch_at r (Some (Compute to operator one other)) = refl
no_switch_at r (Some (Jump place)) = refl
no_switch_at r (Some (JumpIfZero number place)) = refl
no_switch_at r (Some (Ask asked)) = no_switch r asked.operation

pub never_switches : (r : Running) (reply : Reply (List ℕ)) → is_switch (next_of r reply).1.request ≡ false
never_switches r reply = no_switch_at (gone_on r reply) (instruction_at (gone_on r reply))
