use Rattle.loom.proofs.model.saving.save_and_run.Goals as goal

pub keep-requires-clause-rests : goal.keep-requires-clause-rests
keep-requires-clause-rests g c = c.requires.rests

pub keep-requires-clause-defaults : goal.keep-requires-clause-defaults
keep-requires-clause-defaults g c = c.requires.defaults

pub returns-in-Ok-clause-kept : goal.returns-in-Ok-clause-kept
returns-in-Ok-clause-kept g c = c.in_ok-pace.ensures.kept
