use Rattle.std.proofs.Common.{◌≡◌, rules}
use Rattle.std.specs.Prelude.{true, false, Ok}
use Rattle.loom_objects.specs.Rules.RwLock.{claims, is_reading, reads_at, refused_at, writes_at}
use Rattle.loom_objects.specs.Scene.Stage.{world_of}
use Rattle.loom_objects.proofs.Scene.Showing.{does_as}
use Rattle.loom_objects.proofs.Sync.Claiming.{copies_by, if_ok, read_by, written_by}
use Rattle.loom_objects.proofs.rt.rwlock.claim.Goals as goal

pub returns-then-is_reading-clause-does : goal.returns-then-is_reading-clause-does
returns-then-is_reading-clause-does g c =
    let free : refused_at c.args.claim c.args.number c.args.scene.now.objects ≡ Ok false = search rules in
    let reads : is_reading c.args.claim ≡ true = search rules in
    if_ok c.read_lock.result (λ answer does. does_as (claims c.args.claim c.args.number) (reads_at c.args.number) c.args.scene.now c.read_lock.new.scene answer (λ p left. read_by c.args.claim c.args.number (world_of p left c.args.scene.now) reads free) does) c.read_lock.ensures.does

pub returns-else-is_reading-clause-does : goal.returns-else-is_reading-clause-does
returns-else-is_reading-clause-does g c =
    let free : refused_at c.args.claim c.args.number c.args.scene.now.objects ≡ Ok false = search rules in
    let writes : is_reading c.args.claim ≡ false = search rules in
    does_as (claims c.args.claim c.args.number) (writes_at c.args.number) c.args.scene.now c.write_lock.new.scene c.write_lock.result (λ p left. written_by c.args.claim c.args.number (world_of p left c.args.scene.now) writes free) c.write_lock.ensures

pub returns-then-is_reading-clause-growth : goal.returns-then-is_reading-clause-growth
returns-then-is_reading-clause-growth g c =
    let free : refused_at c.args.claim c.args.number c.args.scene.now.objects ≡ Ok false = search rules in
    let reads : is_reading c.args.claim ≡ true = search rules in
    copies_by c.args.claim c.args.number c.args.scene.now c.read_lock.result reads free c.read_lock.ensures.growth
