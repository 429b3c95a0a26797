use Rattle.std.proofs.Common.{◌≡◌, ℕ, ◌++◌, List, length, drop, replicate, ap, ◌∙◌}
use Rattle.std.proofs.lemmas.List.{drop-replicate}
use Rattle.loom_objects.proofs.text.Text.of.Goals as goal

pub returns : goal.returns
returns c =
    let text = c.args.text.now in
    let room : List ℕ = drop (length text) (replicate 24 0) in
    let copied : c.copy_from_slice.new.self ≡ text = c.copy_from_slice.ensures.after ∙ c.as_bytes.ensures.value in
    let whole = ap (λ (l : List ℕ). l ++ room) copied ∙ ap (λ (l : List ℕ). text ++ l) (drop-replicate (length text) 24 0) in
    λ i. record { bytes = whole i; len = length text }
