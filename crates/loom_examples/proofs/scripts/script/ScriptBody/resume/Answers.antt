use Rattle.std.proofs.Common.{rules}
use Rattle.loom_examples.proofs.ScriptLemmas.Going.{spawns}
use Rattle.loom_examples.proofs.scripts.script.ScriptBody.resume.Goals as goal
use Rattle.loom_examples.proofs.scripts.script.ScriptBody.resume.Goals.{in-Some+in-Label-1, in-Some+in-JumpTo-1, in-Some+in-IfTo-1, in-Some+in-UnlessTo-1, in-None-1}

pub returns-in-Some-Label : goal.returns-in-Some-Label
returns-in-Some-Label c = elim c.in-Some-Label-1.branch [
  | in-Some+in-Label-1 w ↦ search rules
  | in-Some+in-JumpTo-1 w ↦ search rules
  | in-Some+in-IfTo-1 w ↦ search rules
  | in-Some+in-UnlessTo-1 w ↦ search rules
  | in-None-1 w ↦ search rules
]

pub returns-in-Ok : goal.returns-in-Ok
returns-in-Ok c = spawns c.args.self.now _ c.args.reply c.in-Some-SpawnAt.field-0.now c.in-Some-SpawnAt.field-0-0 c.in-Some-SpawnAt.field-0-1
    c.fetch-place.result.0 c.named_at.result c.in-Ok.request c.bare-in-Ok.result (search rules) (search rules) (search rules) (search rules) (search rules) c.in-Ok.ensures c.bare-in-Ok.ensures
