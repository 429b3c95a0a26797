use Rattle.std.proofs.Common.{◌≤◌, sym, ◌∙◌, arith}
use Rattle.loom_objects.proofs.Values.Cutting.{shown_whole, shown_broken}
use Rattle.loom_objects.proofs.text.Text.as_str.Goals as goal

pub returns-in-Ok : goal.returns-in-Ok
returns-in-Ok c =
    let t = c.args.self.now in
    let read = c.in-Ok.ensures.cases in
    let fits : t.len ≤ 24 = omega arith in
    read.0 ∙ sym (shown_whole t fits read.1)

pub returns-in-Err : goal.returns-in-Err
returns-in-Err c = sym (shown_broken c.args.self.now c.in-Err.ensures.cases.0)
