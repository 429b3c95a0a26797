use Rattle.std.proofs.Common.{◌≡◌, drop}
use Rattle.loom_engine.specs.Path.Route.{chosen}
use Rattle.loom.specs.Model.Different.{hash_from, hash_of}
use Rattle.loom.proofs.model.different.hash_along.Given as goal

abbrev pub invariant-choices : goal.invariant-choices
invariant-choices l = hash_from l.hash (drop l.place (chosen l.path)) ≡ hash_of (chosen l.path)
