use Rattle.std.proofs.Common.{length}
use Rattle.serde_json.specs.View.{view}
use Rattle.loom_engine.specs.Path.Route.{settings}
use Rattle.loom_engine.proofs.Parts.Texts.Shapes.{item, item_of-gave, no_item}
use Rattle.loom_engine.proofs.Parts.Texts.Items.{item_read, floor_at, no_floor_at}
use Rattle.loom_engine.proofs.rt.parts.read.read_item.Goals as goal

pub returns-in-None-clause-err : goal.returns-in-None-clause-err
returns-in-None-clause-err c = no_item (view c.args.value.now) c.in-None.ensures

pub returns-in-Err-clause-err : goal.returns-in-Err-clause-err
returns-in-Err-clause-err c =
    let p = c.in-Some.item in
    (p.done, p.floor, view p.path.now, p.runs, item_of-gave (view c.args.value.now) (item p.done p.floor (view p.path.now) p.runs) c.in-Some.ensures, c.in-Err.ensures.err)

pub returns-then-not-is_floor-clause-err : goal.returns-then-not-is_floor-clause-err
returns-then-not-is_floor-clause-err c =
    let p = c.in-Some.item in (
      p.done,
      view p.path.now,
      p.runs,
      c.in-Ok.path.nodes,
      item_of-gave (view c.args.value.now) (item p.done p.floor (view p.path.now) p.runs) c.in-Some.ensures,
      c.in-Ok.ensures.ok.1,
      no_floor_at p.done p.floor c.len.result (length c.in-Ok.path.nodes) c.len.ensures (c.is_floor.ensures.is_none c.if-not-is_floor.true),
    )

pub beginning-requires : goal.beginning-requires
beginning-requires c =
    let p = c.in-Some.item in
    (floor_at p.done p.floor c.len.result (length c.in-Ok.path.nodes) c.len.ensures (c.is_floor.ensures.is_floor c.if-not-is_floor.false)).0

pub returns-in-Ok-beginning-clause-ok : goal.returns-in-Ok-beginning-clause-ok
returns-in-Ok-beginning-clause-ok c =
    let p = c.in-Some.item in
    let at = floor_at p.done p.floor c.len.result (length c.in-Ok.path.nodes) c.len.ensures (c.is_floor.ensures.is_floor c.if-not-is_floor.false) in
    item_read (settings c.args.search) c.args.search.explores (view c.args.value.now) (item p.done p.floor (view p.path.now) p.runs) c.in-Some.ensures c.in-Ok.path c.in-Ok.ensures.ok.0 c.in-Ok.ensures.ok.1
    c.in-Ok-beginning.base c.in-Ok-beginning.ensures at.0 at.1
