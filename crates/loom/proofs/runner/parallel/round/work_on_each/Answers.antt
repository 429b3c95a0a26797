use Rattle.std.proofs.Common.{max, arith, rules}
use Rattle.loom_engine.specs.Runs.Body.{runs}
use Rattle.loom.specs.Model.Settings.{explores}
use Rattle.loom.proofs.RunnerLemmas.Workers.{worked_each, at_most_each, if_ok_both}
use Rattle.loom.proofs.runner.parallel.round.work_on_each.Goals as goal

pub returns-clause-worked : goal.returns-clause-worked
returns-clause-worked g c =
    let b = c.args.builder.now in
    let tree = runs g.B.Body.next (explores b) b.max_threads b.max_steps c.args.body.now in
    if_ok_both c.map_vec.result
    (λ v l e. worked_each g.V.Visitor.takes b tree c.args.jobs.items v.items (let a = v.ok.0 in let b = c.args.jobs.ok.0 in omega (arith, l, a, b)) (λ i d less. let k = (e i d less).1 in (k.job, k.job_is, let said = k.call.met in search rules))) c.map_vec.ensures.len
    c.map_vec.ensures.each

pub returns-clause-within : goal.returns-clause-within
returns-clause-within g c =
    if_ok_both c.map_vec.result (λ v l e. at_most_each (max 1 c.args.slice.runs) v.items (λ i d less. let a = v.ok.0 in let b = c.args.jobs.ok.0 in let k = (e i d (omega (arith, less, l, a, b))).1 in let said = k.call.met in search rules)) c.map_vec.ensures.len c.map_vec.ensures.each

pub returns-clause-len : goal.returns-clause-len
returns-clause-len g c = if_ok_both c.map_vec.result (λ v l e. let a = v.ok.0 in let b = c.args.jobs.ok.0 in omega (arith, l, a, b)) c.map_vec.ensures.len c.map_vec.ensures.each
