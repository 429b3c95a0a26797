use Rattle.std.proofs.Common.{◌≡◌, drop}
use Rattle.loom_engine.specs.Parts.Keeping.{keys, issued_onto, CountsNone}
use Rattle.loom_engine.proofs.rt.parts.Parts.issue_each.Given as goal

abbrev pub invariant-loop-option : goal.invariant-loop-option
invariant-loop-option l = record {
  same : l.self.list ≡ l.fn.self.list;
  told : issued_onto l.base (drop l.option-index l.taken) (keys l.self.trunk.items) ≡ issued_onto l.base l.taken (keys l.fn.self.trunk.items);
  counts : CountsNone l.fn.self l.self;
}
