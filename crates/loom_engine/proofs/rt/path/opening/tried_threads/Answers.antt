use Rattle.std.proofs.Common.{◌≡◌, ◌<◌, ◌≤◌, ◌+◌, Vec, ap, sym, ◌∙◌, subst, length, arith}
use Rattle.std.specs.declared.alloc.Global.{Global}
use Rattle.loom_objects.specs.declared.choice.Choice.{Choice}
use Rattle.loom_engine.specs.Path.WellFormed.{is_tried}
use Rattle.loom_engine.proofs.Parts.Keeping.{stands_or}
use Rattle.loom_engine.proofs.Parts.Tried.{AreUpto, upto_step, upto_pass, upto_all}
use Rattle.loom_engine.proofs.rt.path.opening.tried_threads.Goals as goal
use Rattle.loom_engine.proofs.rt.path.opening.tried_threads.Goals.{then-is_tried+in_ok-push-2, else-is_tried}

pub loop-thread-preserved : goal.loop-thread-preserved
loop-thread-preserved c =
    let n = c.args.schedule.now in
    let five : length c.args.schedule.now.statuses ≡ 5 = omega arith in
    let low : c.loop-thread.thread < length c.args.schedule.now.statuses = omega (arith, five, c.loop-thread-test.true) in
    elim c.if-is_tried.branch [
      | then-is_tried+in_ok-push-2 w ↦
          subst (λ (l : Vec Choice Global). AreUpto c.args.schedule.now.first c.args.schedule.now.statuses (c.loop-thread.thread + 1) l.items) (sym w.list-is)
          (upto_step n.first n.statuses c.loop-thread.thread c.loop-thread.list.items w.push-then-is_tried.new.self.items c.loop-thread.invariant
          (λ s h. ap is_tried (sym (stands_or n.statuses c.loop-thread.thread s _ h)) ∙ sym c.is_tried.ensures ∙ w.if-is_tried.true) low w.in_ok-push-2.ensures.items)
      | else-is_tried w ↦
          subst (λ (l : Vec Choice Global). AreUpto c.args.schedule.now.first c.args.schedule.now.statuses (c.loop-thread.thread + 1) l.items) (sym w.list-is)
          (upto_pass n.first n.statuses c.loop-thread.thread c.loop-thread.list.items c.loop-thread.invariant
          (λ s h. ap is_tried (sym (stands_or n.statuses c.loop-thread.thread s _ h)) ∙ sym c.is_tried.ensures ∙ w.if-is_tried.false) low)
    ]

pub returns : goal.returns
returns c = λ o.
    let five : length c.args.schedule.now.statuses ≡ 5 = omega arith in
    let all : length c.args.schedule.now.statuses ≤ c.loop-thread.thread = omega (arith, five, c.loop-thread-test.false) in
    upto_all c.args.schedule.now c.loop-thread.thread c.loop-thread.list.items all c.loop-thread.invariant o
