use Rattle.std.proofs.Common.{Some, arith, sym, ◌∙◌}
use Rattle.loom_views.specs.InOrder.{Ranked}
use Rattle.loom_views.proofs.Ranks.{touch_next, touch_none}
use Rattle.loom_views.proofs.rt.atomic.touches.Touches.ranked.Goals.{in-Some+in_ok-rank, in_default}
use Rattle.loom_views.proofs.rt.atomic.touches.Touches.ranked.Goals as goal

pub loop-thread-preserved : goal.loop-thread-preserved
loop-thread-preserved c =
    let so_far = c.loop-thread.invariant in
    let here = c.loop-thread.thread in
    elim c.match-at.branch [
      | in-Some+in_ok-rank w ↦ rw w.ranked-is (record {
        ranked = touch_next (Ranked c.args.ranks.now) c.args.self.now c.loop-thread.ranked w.put.new.self here (Some w.in-Some.version) (Some w.in_ok-rank.rank) (omega arith) so_far.ranked (sym w.in-Some.is ∙ c.at.ensures) w.in_ok-rank.ensures.ranked w.put.ensures.put w.put.ensures.others;
        left = λ t more l. w.put.ensures.others t l (λ e. absurd (omega (arith, e, more))) ∙ so_far.left t (omega (arith, more)) l;
      })
      | in_default w ↦ rw w.ranked-is (record {
        ranked = touch_none (Ranked c.args.ranks.now) c.args.self.now c.loop-thread.ranked here so_far.ranked (sym c.at.ensures ∙ w.in_default.is) (so_far.left here (omega arith) (omega arith) ∙ sym c.at.ensures ∙ w.in_default.is);
        left = λ t more l. so_far.left t (omega (arith, more)) l;
      })
    ]
