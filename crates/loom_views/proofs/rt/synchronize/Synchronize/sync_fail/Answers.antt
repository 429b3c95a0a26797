use Rattle.loom_views.proofs.rt.synchronize.Synchronize.sync_fail.Goals as goal

pub returns : goal.returns
returns c = c.sync_load.ensures.joined
