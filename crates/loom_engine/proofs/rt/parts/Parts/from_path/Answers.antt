use Rattle.std.proofs.Common.{false, [], ◌∷◌, ◌++◌, ap, ◌∙◌}
use Rattle.loom_engine.specs.declared.rt.parts.Part.{Part as Kept}
use Rattle.loom_engine.proofs.Parts.Plain.{comes_to}
use Rattle.loom_engine.proofs.rt.parts.Parts.from_path.Goals as goal

pub returns : goal.returns
returns c = λ m runs w come.
    let first : Kept = record { base = c.new.result; path = c.args.path; is_done = false; runs = 0 } in
    comes_to c.push.new.self.items first c.new-2.result.items (c.in_ok-push.ensures.items ∙ ap (λ l. l ++ first ∷ []) c.new-list.ensures.items) c.new.ensures.items c.new-2.ensures.items m runs w come
