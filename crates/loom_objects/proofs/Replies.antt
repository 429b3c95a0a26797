use Rattle.std.proofs.Common.{◌≡◌, List, false, refl}
use Rattle.std.specs.Prelude.{◌≢◌}
use Rattle.loom_objects.specs.declared.operation.Keyed.{Keyed}
use Rattle.loom_objects.specs.declared.operation.Lazy.{Lazy}
use Rattle.loom_objects.specs.declared.operation.Reply.{Reply}
use Rattle.loom_objects.specs.declared.operation.Reply.TheVariants as reply
use Rattle.loom_objects.specs.Operation.Bare.{holds_list}

-- a reply of none of the three kinds holds no list
pub no_list : {D : Type 0} (r : Reply D) → ((all : List D) → r ≢ reply.Messages all) → ((all : List (Keyed D)) → r ≢ reply.Locals all) → ((all : List (Lazy D)) → r ≢ reply.Lazies all) → holds_list r ≡ false
no_list (reply.Messages all) messages locals lazies = absurd (messages all refl)
no_list (reply.Locals all) messages locals lazies = absurd (locals all refl)
no_list (reply.Lazies all) messages locals lazies = absurd (lazies all refl)
no_list _ messages locals lazies = refl
