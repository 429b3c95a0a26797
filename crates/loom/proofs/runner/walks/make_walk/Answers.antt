use Rattle.std.proofs.Common.{◌≡◌, ◌∙◌, ◌+◌, Bool, [], ap, ap₂, refl, sym, subst, arith}
use Rattle.std.specs.Fn.{CalledAtMut}
use Rattle.loom_engine.specs.Path.Route.{at_rest}
use Rattle.loom_engine.specs.Trees.Meeting.{Settings}
use Rattle.loom.specs.Model.Different.{Counted, Notes}
use Rattle.loom.specs.Runner.Replay.{following}
use Rattle.loom.specs.Runner.Walking.{BreaksOff}
use Rattle.loom.proofs.Closures.Refusing.{handed_on}
use Rattle.loom.proofs.Closures.Walking.{IsWalking, drawn_cut, drawn_failed, drawn_nothing, drawn_on, walked_all, walked_up, walking_start}
use Rattle.loom.proofs.runner.walks.make_walk.Goals.{in-Ended, in-Cut}
use Rattle.loom.proofs.runner.walks.make_walk.Goals as goal

pub walking-init : goal.walking-init
walking-init g c = record {
  callable = c.requires.callable;
  walking = walking_start (CalledAtMut g.F.FnMut) g.V.Visitor.takes c.args.builder.now c.args.closure.now c.args.visitor.now c.args.different.now c.requires.new;
}

pub draw_run-requires-clause-starts : goal.draw_run-requires-clause-starts
draw_run-requires-clause-starts g c κs lives = rw c.new-path.ensures (refl, refl, refl)

pub draw_run-requires-clause-empty : goal.draw_run-requires-clause-empty
draw_run-requires-clause-empty g c κs lives = rw c.new-path.ensures (refl, refl, ap (λ (s : Settings). s.reduce) c.drawn_search.ensures.settings)

pub walking-preserved : goal.walking-preserved
walking-preserved g c =
    let start : c.new-path.result ≡ following c.args.builder.now [] = c.new-path.ensures ∙ ap₂ (λ (s : Settings) (e : Bool). at_rest s e []) c.drawn_search.ensures.settings c.drawn_search.ensures.explores in
    let walking : IsWalking (CalledAtMut g.F.FnMut) g.V.Visitor.takes c.args.builder.now c.args.closure.now c.args.visitor.now c.draw_run.new.closure c.draw_run.new.visitor c.match-end.different (c.walking.number + 1) c.match-end.cut =
    elim c.match-end.branch [
      | in-Ended w ↦
          drawn_on (CalledAtMut g.F.FnMut) g.V.Visitor.takes c.args.builder.now c.args.closure.now c.args.visitor.now c.walking.closure c.walking.visitor c.walking.different c.walking.number c.walking.cut c.walking.invariant.walking
          c.new-path.result start c.draw_run.new.closure c.draw_run.new.visitor c.in_ok-end.end w.in-Ended.hash c.in_ok-end.ensures.made w.in-Ended.is c.match-end.cut w.cut-is
          c.match-end.different (subst (λ (d : Counted). Notes w.in-Ended.hash c.walking.different d) (sym w.different-is) w.note.ensures)
      | in-Cut w ↦
          drawn_cut (CalledAtMut g.F.FnMut) g.V.Visitor.takes c.args.builder.now c.args.closure.now c.args.visitor.now c.walking.closure c.walking.visitor c.walking.different c.walking.number c.walking.cut c.walking.invariant.walking
          c.new-path.result start c.draw_run.new.closure c.draw_run.new.visitor c.in_ok-end.end c.in_ok-end.ensures.made w.in-Cut.is c.match-end.cut w.cut-is c.match-end.different w.different-is
    ] in
    record { callable = c.draw_run.ensures.again; walking = walking }

pub returns-then-is_up-clause-walks : goal.returns-then-is_up-clause-walks
returns-then-is_up-clause-walks g c =
    walked_up (CalledAtMut g.F.FnMut) g.V.Visitor.takes c.args.builder.now c.args.closure.now c.args.visitor.now c.walking.closure c.walking.visitor c.walking.different c.walking.number c.walking.cut c.walking.invariant.walking
    c.args.walk (g.C.Clock.answered c.is_up.new.clock) _ c.count-told.result refl (omega (arith, c.runs-asked.ensures)) c.count-told.ensures (c.if-is_up.ensures refl)

pub returns-in-Failed-clause-walks : goal.returns-in-Failed-clause-walks
returns-in-Failed-clause-walks g c =
    let start : c.new-path.result ≡ following c.args.builder.now [] = c.new-path.ensures ∙ ap₂ (λ (s : Settings) (e : Bool). at_rest s e []) c.drawn_search.ensures.settings c.drawn_search.ensures.explores in
    drawn_failed (CalledAtMut g.F.FnMut) g.V.Visitor.takes c.args.builder.now c.args.closure.now c.args.visitor.now c.walking.closure c.walking.visitor c.walking.different c.walking.number c.walking.cut c.walking.invariant.walking
    c.new-path.result start c.draw_run.new.closure c.draw_run.new.visitor c.in_ok-end.end c.in-Failed.failure c.in-Failed.choices c.in_ok-end.ensures.made c.in-Failed.is c.args.walk (g.C.Clock.answered c.is_up.new.clock) _ refl
    (omega (arith, c.runs-asked.ensures))

pub returns-clause-walks : goal.returns-clause-walks
returns-clause-walks g c =
    walked_all (CalledAtMut g.F.FnMut) g.V.Visitor.takes c.args.builder.now c.args.closure.now c.args.visitor.now c.walking.closure c.walking.visitor c.walking.different c.walking.number c.walking.cut c.walking.invariant.walking
    c.args.walk (g.C.Clock.answered c.walking.clock) _ c.count.result (omega (arith, c.runs-asked.ensures)) (omega (arith, c.runs-asked.ensures)) c.count.ensures

pub returns-in_err-end-clause-errors : goal.returns-in_err-end-clause-errors
returns-in_err-end-clause-errors g c =
    let start : c.new-path.result ≡ following c.args.builder.now [] = c.new-path.ensures ∙ ap₂ (λ (s : Settings) (e : Bool). at_rest s e []) c.drawn_search.ensures.settings c.drawn_search.ensures.explores in
    handed_on c.from_residual.result c.in_err-end.field-0.0 (BreaksOff (CalledAtMut g.F.FnMut) g.V.Visitor.takes c.args.builder.now c.args.walk c.args.closure.now c.args.visitor.now c.draw_run.new.visitor)
    c.from_residual.ensures.1
    (drawn_nothing (CalledAtMut g.F.FnMut) g.V.Visitor.takes c.args.builder.now c.args.closure.now c.args.visitor.now c.walking.closure c.walking.visitor c.walking.different c.walking.number c.walking.cut c.walking.invariant.walking
    c.new-path.result start c.draw_run.new.visitor c.in_err-end.field-0.0 c.args.walk (omega (arith, c.runs-asked.ensures)) c.in_err-end.ensures.errors)
