use Rattle.std.proofs.Common.{◌≡◌, ◌<◌, ◌+◌, length, None, true, ap, subst, sym, ◌∙◌, rules}
use Rattle.loom_engine.specs.Path.Route.{Route}
use Rattle.loom_engine.proofs.Path.Marking.Schedules.{Left, left_start, left_none, left_some, left_over}
use Rattle.loom_engine.proofs.rt.path.Path.backtrack.Goals as goal
use Rattle.loom_engine.proofs.rt.path.Path.backtrack.Goals.{in-Some, in_default}

pub loop-thread-init : goal.loop-thread-init
loop-thread-init c = left_start c.args.self.now c.args.places.now

pub loop-thread-preserved : goal.loop-thread-preserved
loop-thread-preserved c =
    let old : Route = c.args.self.now in
    let places = c.args.places.now in
    let l = c.loop-thread in
    let within : l.thread < length places = search rules in
    elim c.match-places-thread.branch [
      | in-Some w ↦ subst (Left old places (l.thread + 1)) (sym w.self-is) (left_some old places l.thread w.in-Some.place l.self w.mark.new.self None within w.in-Some.is l.invariant w.mark.ensures)
      | in_default w ↦ subst (Left old places (l.thread + 1)) (sym w.self-is) (left_none old places l.thread l.self None within w.in_default.is l.invariant)
    ]

pub returns : goal.returns
returns c =
    let old : Route = c.args.self.now in
    let places = c.args.places.now in
    let reduced : old.search.reduce ≡ true = sym (ap (λ (r : Route). r.search.reduce) c.self.view_is) ∙ c.if-not-self.false in
    left_over old places c.loop-thread.thread c.loop-thread.self reduced (search rules) c.loop-thread.invariant
