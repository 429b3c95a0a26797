use Rattle.std.proofs.Common.{◌≡◌, ◌∙◌, ap, sym, false}
use Rattle.loom.specs.Runner.Handle.{Closes, Teller}
use Rattle.loom.proofs.RunnerLemmas.Remembering.{closes_value, closes_stop, same_thread, leads_on}
use Rattle.loom.proofs.runner.handle.Handle.close.Goals.{in-Some, in-None}
use Rattle.loom.proofs.runner.handle.Handle.close.Goals as goal

pub returns : goal.returns
returns g c =
    let same : c.match-last_of.self.thread ≡ c.args.self.thread = elim c.match-last_of.branch [
      | in-Some w ↦ same_thread c.args.self c.match-last_of.self w.finish.new.self w.self-is w.finish.ensures.thread
      | in-None w ↦ same_thread c.args.self c.match-last_of.self w.fail.new.self w.self-is w.fail.ensures.thread
    ] in
    let closes : c.match-last_of.self.starved ≡ false → Closes c.args.self.told c.args.answer c.match-last_of.self.told = elim c.match-last_of.branch [
      | in-Some w ↦ closes_value c.args.self.told c.args.answer w.in-Some.last c.match-last_of.self w.finish.new.self (sym c.last_of.ensures ∙ w.in-Some.is) w.self-is w.finish.ensures.told
      | in-None w ↦ closes_stop c.args.self.told c.args.answer w.fail.result c.match-last_of.self w.fail.new.self (sym c.last_of.ensures ∙ w.in-None.is) w.self-is w.fail.ensures.stopped
    ] in
    record {
      told = leads_on (λ all. all.items) c.leave-2.result c.match-last_of.self c.args.self c.args.answer c.leave-2.ensures.told c.leave-2.ensures.fed same closes;
      starved = λ s. absurd (cc (c.if-is_starved.false, c.is_starved.ensures.kept (ap (λ (t : Teller _). t.starved) c.self.view_is ∙ s)));
      memory = λ e. absurd (cc (c.if-is_starved.false, c.is_starved.ensures.said e));
      errors = c.leave-2.ensures.errors;
    }
