use Rattle.std.proofs.Common.{◌≡◌, ◌∙◌, ◌++◌, ◌∷◌, [], ap, None, Some}
use Rattle.loom.specs.Runner.Histories.{entry}
use Rattle.loom.proofs.RunnerLemmas.Remembering.{still_stopped, stops_new, pushed, remembers_reply, remembers_stop}
use Rattle.loom.proofs.runner.handle.Handle.hand_over.Goals as goal

pub returns-in-Some-clause-stopped : goal.returns-in-Some-clause-stopped
returns-in-Some-clause-stopped g c = rw (← c.self.view_is) (still_stopped c.self.inside.told.items c.args.op c.self.inside.stop c.in-Some.stop c.self.invariant c.in-Some.is)

pub invariant_of-self-in-Ok : goal.invariant_of-self-in-Ok
invariant_of-self-in-Ok g c =
    let none : c.self.inside.stop ≡ None = c.in_default.is in
    remembers_reply c.self.inside.told.items c.note.new.told.items c.in-Some-prepare.kept c.in-Ok.reply c.self.inside.stop c.self.invariant none
    (pushed c.self.inside.told.items c.prepare.new.told.items c.note.new.told.items (entry c.in-Some-prepare.kept (Some c.in-Ok.reply)) c.in-Ok.ensures.answered c.prepare.ensures.same)

pub returns-in-Ok-clause-live : goal.returns-in-Ok-clause-live
returns-in-Ok-clause-live g c =
    let none : c.self.inside.stop ≡ None = c.in_default.is in
    rw (← c.self.view_is) (c.self.invariant.goes_on none)

pub returns-in-Ok-clause-answered : goal.returns-in-Ok-clause-answered
returns-in-Ok-clause-answered g c =
    rw (← c.self.view_is)
    (pushed c.self.inside.told.items c.prepare.new.told.items c.note.new.told.items (entry c.in-Some-prepare.kept (Some c.in-Ok.reply)) c.in-Ok.ensures.answered c.prepare.ensures.same
    ∙ ap (λ op. c.self.inside.told.items ++ entry op (Some c.in-Ok.reply) ∷ []) c.in-Some-prepare.ensures.kept)

pub invariant_of-self-in-Err : goal.invariant_of-self-in-Err
invariant_of-self-in-Err g c =
    remembers_stop c.self.inside.told.items c.note.new.told.items c.in-Some-prepare.kept c.in-Err.stop
    (pushed c.self.inside.told.items c.prepare.new.told.items c.note.new.told.items (entry c.in-Some-prepare.kept None) c.in-Err.ensures.stopped c.prepare.ensures.same)

pub returns-in-Err-clause-stopped : goal.returns-in-Err-clause-stopped
returns-in-Err-clause-stopped g c =
    let none : c.self.inside.stop ≡ None = c.in_default.is in
    rw (← c.self.view_is)
    (stops_new c.self.inside.told.items c.note.new.told.items c.args.op c.in-Err.stop (c.self.invariant.goes_on none)
    (pushed c.self.inside.told.items c.prepare.new.told.items c.note.new.told.items (entry c.in-Some-prepare.kept None) c.in-Err.ensures.stopped c.prepare.ensures.same
    ∙ ap (λ op. c.self.inside.told.items ++ entry op None ∷ []) c.in-Some-prepare.ensures.kept))
