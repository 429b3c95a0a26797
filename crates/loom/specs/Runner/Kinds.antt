-- What replies hold.
use Rattle.std.specs.Prelude.{Bool, true, false}
use Rattle.loom_objects.specs.declared.operation.Reply.{Reply}
use Rattle.loom_objects.specs.declared.operation.Reply.TheVariants as reply

-- it holds something else than the number of a new object or of a waker
abbrev pub holds_result : {D : Type 0} → Reply D → Bool
holds_result (reply.Value x) = true
holds_result (reply.Exchanged x) = true
holds_result (reply.Data x) = true
holds_result (reply.Reading x y) = true
holds_result (reply.Writing x y) = true
holds_result (reply.Locked x y) = true
holds_result (reply.Waited x y z) = true
holds_result (reply.ReadLocked x y) = true
holds_result (reply.WriteLocked x y) = true
holds_result (reply.SendError x) = true
holds_result (reply.Messages x) = true
holds_result (reply.Stood x y) = true
holds_result (reply.Locals x) = true
holds_result (reply.Lazies x) = true
holds_result (reply.Thread x y) = true
holds_result (reply.Spawned x y z) = true
holds_result _ = false
