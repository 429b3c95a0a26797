use Rattle.std.proofs.Common.{◌≡◌, ◌-◌, ◌≤◌, length, ap, ◌∙◌, arith}
use Rattle.loom_objects.specs.Text.{text_of}
use Rattle.loom_objects.proofs.Values.Cutting.{last_is}
use Rattle.loom_objects.proofs.text.Text.last.Goals as goal

pub returns : goal.returns
returns c =
    let cut = c.ceil_char_boundary in
    let start : c.saturating_sub.result ≡ length c.args.text.now - 24 = c.saturating_sub.ensures in
    let low : length c.args.text.now - 24 ≤ cut.result = rw start at (cut.ensures.bound (omega (arith, start))) in
    c.of.ensures ∙ ap text_of (c.range_from.ensures.value ∙ last_is c.args.text.now cut.result c.utf8.text low cut.ensures.boundary
    (λ i l h. cut.ensures.nearest i (omega (arith, start, l)) h))
