use Rattle.std.proofs.Common.{take}
use Rattle.std.specs.Fmt.{HasWritten, IsPlainFormatter}
use Rattle.loom.specs.Model.ChoicesText.{others_text}
use Rattle.loom_examples.proofs.rows.line.SpacedChoicesDisplay.fmt.Given as goal

abbrev pub invariant-loop-choice : goal.invariant-loop-choice
invariant-loop-choice g l =
    IsPlainFormatter l.initial.f → HasWritten g.W.Write.write_str_gives l.initial.f (others_text (take l.choice-index l.choice-items)) l.f
