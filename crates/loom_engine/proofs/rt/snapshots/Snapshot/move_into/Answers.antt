use Rattle.std.proofs.Common.{ap, ◌∙◌}
use Rattle.std.specs.Prelude.{Vec}
use Rattle.loom_engine.specs.Path.Route.{Route}
use Rattle.loom_engine.proofs.rt.snapshots.Snapshot.move_into.Goals as goal

pub stand-requires-clause-within : goal.stand-requires-clause-within
stand-requires-clause-within g c = c.requires.0

pub stand-requires-clause-tally : goal.stand-requires-clause-tally
stand-requires-clause-tally g c = c.requires.1

pub returns-clause-goes : goal.returns-clause-goes
returns-clause-goes g c = record {
  same_execution = c.replace.ensures.after;
  same_bodies = ap (λ (v : Vec _ _). v.items) c.replace-2.ensures.after ∙ c.into_vec.ensures;
  path = c.stand.ensures;
}

pub returns-clause-same : goal.returns-clause-same
returns-clause-same g c = (ap (λ (r : Route). r.search) c.stand.ensures, ap (λ (r : Route). r.explores) c.stand.ensures, ap (λ (r : Route). r.given) c.stand.ensures)
