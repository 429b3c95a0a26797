use Rattle.std.proofs.Common.{arith, rules}
use Rattle.loom_engine.specs.Runs.Body.{runs}
use Rattle.loom.specs.Model.Settings.{explores}
use Rattle.loom.proofs.RunnerLemmas.Legs.{made_each}
use Rattle.loom.proofs.RunnerLemmas.Workers.{if_ok_both}
use Rattle.loom.proofs.runner.parallel.walking.make_each.Goals as goal

pub returns : goal.returns
returns g c =
    let b = c.args.builder.now in
    let tree = runs g.B.Body.next (explores b) b.max_threads b.max_steps c.args.body.now in
    if_ok_both c.map_vec.result
    (λ v l e. made_each g.V.Visitor.takes b tree c.args.legs.items v.items (let a = v.ok.0 in let b = c.args.legs.ok.0 in omega (arith, l, a, b)) (λ i d less. let k = (e i d less).1 in (k.job, k.job_is, let said = k.call.met in search rules))) c.map_vec.ensures.len
    c.map_vec.ensures.each
