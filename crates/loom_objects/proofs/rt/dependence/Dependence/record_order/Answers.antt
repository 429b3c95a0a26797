use Rattle.std.proofs.Common.{◌≢◌, ◌≤◌, get_or, ap, sym, ◌∙◌, arith}
use Rattle.std.proofs.lemmas.Bool.{OnTrue_at, true≢false}
use Rattle.loom_objects.specs.Dependence.Shown.{joined_last}
use Rattle.loom_objects.proofs.Dependence.Steps.{use-moved, use-full}
use Rattle.loom_objects.proofs.rt.dependence.Dependence.record_order.Goals as goal

pub returns-then-not-inc : goal.returns-then-not-inc
returns-then-not-inc c = λ o z. use-full o c.args.self.now c.args.thread c.args.used c.args.place c.at.result.now c.joined-view.result c.requires c.at.ensures (c.joined-view.ensures ∙ ap (joined_last c.at.result.now) c.last_before.ensures) z _ (c.inc.ensures.full.0 c.if-not-inc.true)

pub returns : goal.returns
returns c = λ o z.
    let counted : get_or c.joined-view.result c.args.thread 0 ≤ 65534 = c.inc.ensures.counted in
    let room : get_or c.joined-view.result c.args.thread 0 ≢ 65534 = λ f. true≢false (sym c.if-not-inc.false ∙ c.inc.ensures.full.1 f) in
    use-moved o c.args.self.now c.args.thread c.args.used c.args.place c.at.result.now c.joined-view.result c.requires c.at.ensures (c.joined-view.ensures ∙ ap (joined_last c.at.result.now) c.last_before.ensures) z c.note.new.self c.inc.new.self (OnTrue_at c.if-not-inc.false c.inc.ensures.raised) (omega arith)
    (record { threads = c.note.ensures.threads; made = c.note.ensures.objects; others = c.note.ensures.others; noted = c.note.ensures.noted })
