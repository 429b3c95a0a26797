use Rattle.loom.proofs.model.different.Different.count.Goals as goal

pub returns : goal.returns
returns c = rw (← c.self.view_is) (record { counted = c.len.ensures.len; once = c.len.ensures.unique; all = c.if-self.false })
