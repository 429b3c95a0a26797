use Rattle.std.proofs.Common.{◌≤◌, length, arith}
use Rattle.loom_engine.specs.Path.Route.{chosen}
use Rattle.loom.specs.Model.Different.{hash_of}
use Rattle.loom.proofs.ModelLemmas.Noting.{along_all, along_more, no_more_chosen}
use Rattle.loom.proofs.model.different.hash_along.Goals as goal

pub choices-preserved : goal.choices-preserved
choices-preserved c =
    let made = chosen c.args.path.now in
    along_more made c.choices.place c.choice.result c.choices.hash c.step-hash.result (hash_of made) c.choice.ensures c.step-hash.ensures c.choices.invariant

pub returns : goal.returns
returns c =
    let made = chosen c.args.path.now in
    let past : length made ≤ c.choices.place = omega (arith, no_more_chosen c.args.path.now) in
    along_all made c.choices.place c.choices.hash (hash_of made) past c.choices.invariant
