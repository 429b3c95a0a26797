use Rattle.loom.proofs.checkpoint.memory.MemoryStoreCheckpointStore.save.Goals as goal

pub returns-in-Err-clause-kept : goal.returns-in-Err-clause-kept
returns-in-Err-clause-kept c = λ text held. held
