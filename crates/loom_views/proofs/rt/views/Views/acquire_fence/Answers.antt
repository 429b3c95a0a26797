use Rattle.std.proofs.Common.{◌≡◌, ap, ◌∙◌, length, get_or, subst, Some, arith}
use Rattle.loom_views.proofs.Atomic.Table.Fences.{IsFenced, fenced-atomic, fenced-other, acquire_fence-moved}
use Rattle.loom_views.proofs.rt.views.Views.acquire_fence.Goals as goal
use Rattle.loom_views.proofs.rt.views.Views.acquire_fence.Goals.{in-Atomic, in_default}

pub loop-place-preserved : goal.loop-place-preserved
loop-place-preserved c =
    let v = c.args.self.now in
    let t = c.args.thread in
    let before = get_or v.threads t c.index-self-thread.result in
    elim c.match-at.branch [
      | in-Atomic w ↦ rw w.views-is (fenced-atomic v t before c.loop-place.views w.acquire_fence.new.views c.loop-place.place w.in-Atomic.state (c.at.ensures ∙ ap Some w.in-Atomic.is) w.acquire_fence.ensures c.loop-place.invariant)
      | in_default w ↦ rw w.views-is (fenced-other v t before c.loop-place.views c.loop-place.place c.at.result.now c.at.ensures w.in_default.not-Atomic c.loop-place.invariant)
    ]

pub returns : goal.returns
returns c = λ p z.
    let count = c.len-place-end.ensures in
    let all : c.loop-place.place ≡ length c.args.self.now.places = omega arith in
    acquire_fence-moved p c.args.self.now c.args.thread c.index-self-thread.result c.if-thread-self.false c.if-thread-ge-MAX_THREADS.false z c.loop-place.views (subst (IsFenced c.args.self.now c.args.thread (get_or c.args.self.now.threads c.args.thread c.index-self-thread.result) c.loop-place.views) all c.loop-place.invariant)
