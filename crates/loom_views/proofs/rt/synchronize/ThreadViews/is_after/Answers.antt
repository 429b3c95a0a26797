use Rattle.loom_views.proofs.rt.synchronize.ThreadViews.is_after.Goals as goal

pub returns : goal.returns
returns c = c.is_within.ensures.test
