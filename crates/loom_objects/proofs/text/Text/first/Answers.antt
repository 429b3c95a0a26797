use Rattle.std.proofs.Common.{◌≡◌, ◌-◌, take, ap, ◌∙◌, arith}
use Rattle.loom_objects.specs.Text.{text_of}
use Rattle.loom_objects.proofs.Values.Cutting.{first_is}
use Rattle.loom_objects.proofs.text.Text.first.Goals as goal

pub returns : goal.returns
returns c =
    let text = c.args.text.now in
    let cut = c.floor_char_boundary.result in
    let limits = c.floor_char_boundary.ensures in
    let whole : cut - 0 ≡ cut = omega arith in
    let front : c.range.result.now ≡ take cut text = c.range.ensures.value ∙ ap (λ n. take n text) whole in
    c.of.ensures ∙ ap text_of (front ∙ first_is text cut limits.bound limits.boundary limits.nearest)
