use Rattle.std.proofs.Common.{◌∙◌, ◌++◌, ◌∷◌, [], ap, Some}
use Rattle.loom.specs.Runner.Histories.{entry}
use Rattle.loom.proofs.RunnerLemmas.Remembering.{closes_first, closes_second, closes_both}
use Rattle.loom.proofs.runner.handle.Handle.finish.Goals as goal

pub returns-in_default-clause-told : goal.returns-in_default-clause-told
returns-in_default-clause-told g c value is =
    closes_first c.args.self.now.told c.hand_over.new.self.told c.args.last value c.in_default.field-0 c.hand_over.new.self.starved is c.in_default.ensures.stopped

pub returns-in_default-hand_over-clause-told : goal.returns-in_default-hand_over-clause-told
returns-in_default-hand_over-clause-told g c value is =
    closes_second c.args.self.now.told c.hand_over.new.self.told c.hand_over-2.new.self.told value c.in-Ok.reply c.in_default-hand_over.field-0 c.hand_over-2.new.self.starved c.in-Ok.ensures.live
    (c.in-Ok.ensures.answered ∙ ap (λ op. c.args.self.now.told ++ entry op (Some c.in-Ok.reply) ∷ []) is) c.in_default-hand_over.ensures.stopped

pub returns-clause-told : goal.returns-clause-told
returns-clause-told g c value is fed =
    closes_both c.args.self.now.told c.hand_over.new.self.told c.hand_over-2.new.self.told value c.in-Ok.reply c.in-Ok-hand_over.reply c.in-Ok.ensures.live
    (c.in-Ok.ensures.answered ∙ ap (λ op. c.args.self.now.told ++ entry op (Some c.in-Ok.reply) ∷ []) is) c.in-Ok-hand_over.ensures.answered
