use Rattle.loom_engine.proofs.Covering.Trails.{Putting}
use Rattle.loom_engine.proofs.rt.states.trails.put_leads.Given as goal

abbrev pub invariant-loop-number : goal.invariant-loop-number
invariant-loop-number l = Putting l.steps l.fn.leads l.other l.offset l.number l.leads
