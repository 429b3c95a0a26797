use Rattle.loom_engine.specs.Covering.Spread.{SpreadsOn}
use Rattle.loom_engine.specs.Parts.Keeping.{Cuts}
use Rattle.loom.proofs.runner.parallel.round.cut_up.Given as goal

abbrev pub invariant-loop : goal.invariant-loop
invariant-loop l = record { cuts : Cuts l.fn.parts l.parts; spreads : SpreadsOn l.fn.parts l.parts }
