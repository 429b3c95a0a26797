use Rattle.std.proofs.Common.{refl}
use Rattle.loom_objects.proofs.Machine.Stepping.{gives_copy, mapped, resumes_by}
use Rattle.loom_objects.proofs.rt.machine.resume.Goals as goal

pub returns-in-Ok-clause-does : goal.returns-in-Ok-clause-does
returns-in-Ok-clause-does g c =
    rw (mapped c.in-Ok.answer c.map_err.result c.map_err.ensures.cases) (resumes_by c.args.thread c.args.run.now _ c.in-Ok.answer refl c.in-Ok.ensures.does c.in-Ok.ensures.slot c.in-Ok.ensures.kept)

pub returns-in-Err-clause-growth : goal.returns-in-Err-clause-growth
returns-in-Err-clause-growth g c = λ e. gives_copy c.args.thread c.args.run.now c.in-Err.ensures.growth
