use Rattle.std.proofs.Common.{◌-◌, length, sym, inl, inr, refl}
use Rattle.loom_engine.proofs.rt.states.trails.last_lead.Goals as goal

pub returns-in-Some : goal.returns-in-Some
returns-in-Some c = inl (length c.args.leads.now - 1, sym c.in-Some.ensures.value)

pub returns-in-None : goal.returns-in-None
returns-in-None c = inr refl
