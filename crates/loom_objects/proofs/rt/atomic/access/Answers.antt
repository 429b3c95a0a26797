use Rattle.std.proofs.Common.{subst}
use Rattle.loom_views.specs.declared.rt.atomic.reader.Reader.{Reader}
use Rattle.loom_objects.specs.declared.operation.AtomicOp.{AtomicOp}
use Rattle.loom_objects.specs.Rules.Atomic.{accesses, opens}
use Rattle.loom_objects.specs.Scene.Stage.{Does, world_of}
use Rattle.loom_objects.proofs.Scene.Showing.{does_as}
use Rattle.loom_objects.specs.Stages.Reader.{reader_of}
use Rattle.loom_objects.proofs.Sync.Accessing.{opens_by_reader}
use Rattle.loom_objects.proofs.rt.atomic.access.Goals as goal

pub returns-in-Load-clause-does : goal.returns-in-Load-clause-does
returns-in-Load-clause-does g c =
    let opened = subst (λ (reader : Reader). Does (opens c.in-Load.number reader c.in-Load.access) c.args.scene.now c.open.result c.open.new.scene) c.reader_of.ensures c.open.ensures.does in
    does_as (accesses c.args.access) (opens c.in-Load.number (reader_of c.args.access) c.args.access) _ _ _
    (λ p left. opens_by_reader c.args.access c.in-Load.number (world_of p left c.args.scene.now) c.in-Load.is)
    (subst (λ (access : AtomicOp). Does (opens c.in-Load.number (reader_of access) access) c.args.scene.now c.open.result c.open.new.scene) c.in-Load.access-is opened)
