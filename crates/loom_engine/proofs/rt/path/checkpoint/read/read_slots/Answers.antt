use Rattle.std.proofs.Common.{◌≡◌, arith, sym, ◌∙◌, length-set}
use Rattle.loom_engine.proofs.Checkpoint.Marks.{marks_more, marks_all, marks_left, begins_within, after}
use Rattle.loom_engine.proofs.rt.path.checkpoint.read.read_slots.Goals as goal
use Rattle.loom_engine.proofs.rt.path.checkpoint.read.read_slots.Goals.{then-found, else-found}

pub loop-slot-preserved : goal.loop-slot-preserved
loop-slot-preserved c =
    let slot = c.loop-slot.slot in
    let more = marks_more c.has_slot-found.result c.loop-slot.readable slot c.loop-slot.place c.args.items.now.items _ (omega arith) (omega arith) (sym c.has_slot-found.ensures) c.loop-slot.invariant.same in
    let moved : c.if-found.place ≡ after c.has_slot-found.result c.loop-slot.place =
    elim c.if-found.branch [ then-found w ↦ rw w.if-found.true w.place-is | else-found w ↦ rw w.if-found.false w.place-is ] in
    record {
      seven = simp length-set c.loop-slot.invariant.seven;
      within = elim c.if-found.branch [ then-found w ↦ omega (arith, begins_within c.args.items.now.items c.loop-slot.place slot (sym c.has_slot-found.ensures ∙ w.if-found.true)) | else-found w ↦ omega arith ];
      same = rw moved more;
    }

pub returns-then-place-len : goal.returns-then-place-len
returns-then-place-len c =
    let at : c.loop-slot.slot ≡ 7 = omega arith in
    marks_left c.loop-slot.readable c.loop-slot.place c.args.items.now.items _ (omega (arith, c.args.items.now.ok.0)) (rw at at c.loop-slot.invariant.same)

pub returns-else-place-len : goal.returns-else-place-len
returns-else-place-len c =
    let at : c.loop-slot.slot ≡ 7 = omega arith in
    marks_all c.loop-slot.readable c.loop-slot.place c.args.items.now.items _ c.loop-slot.invariant.seven (omega (arith, c.args.items.now.ok.0)) (rw at at c.loop-slot.invariant.same)
