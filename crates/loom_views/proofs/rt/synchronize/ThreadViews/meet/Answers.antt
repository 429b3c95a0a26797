use Rattle.loom_views.proofs.rt.synchronize.ThreadViews.meet.Goals as goal

pub returns-clause-joined : goal.returns-clause-joined
returns-clause-joined c = c.acquire.ensures.joined

pub returns-clause-met : goal.returns-clause-met
returns-clause-met c = c.join.ensures.joined

pub returns-clause-shown : goal.returns-clause-shown
returns-clause-shown c = c.acquire.ensures.shown
