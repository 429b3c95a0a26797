use Rattle.std.proofs.Common.{◌≡◌, subst, arith}
use Rattle.loom_engine.specs.Parts.Openings.{AreLow}
use Rattle.loom_engine.proofs.Parts.Gathering.{low_none, low_more}
use Rattle.loom_engine.proofs.rt.path.Path.notes.Goals as goal

pub loop-place-init : goal.loop-place-init
loop-place-init c = low_none c.args.self.now.nodes c.new-list.result.items c.new-list.ensures.items

pub loop-place-preserved : goal.loop-place-preserved
loop-place-preserved c =
    low_more c.loop-place.place c.args.self.now.nodes c.loop-place.list.items c.add_notes.new.list.items c.loop-place.invariant c.in_ok-add_notes.ensures

pub returns : goal.returns
returns c =
    let all : c.loop-place.place ≡ c.args.floor = omega (arith, c.loop-place-test.false, c.loop-place.auto.place-end) in
    subst (λ k. AreLow k c.args.self.now.nodes c.loop-place.list.items) all c.loop-place.invariant
