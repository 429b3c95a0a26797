use Rattle.std.proofs.Common.{◌≡◌, [], refl, sym, ◌∙◌, length}
use Rattle.std.proofs.lemmas.Bool.{eqb-true}
use Rattle.loom_engine.specs.Parts.Keeping.{views, keys}
use Rattle.loom_engine.proofs.Parts.Works.{work_law}
use Rattle.loom_engine.proofs.Parts.Keeping.{no_parts, no_views}
use Rattle.loom_engine.proofs.rt.parts.Parts.is_over.Goals as goal

pub returns-clause-all : goal.returns-clause-all
returns-clause-all c = λ e m made w at.
    let list = c.args.self.now.list in
    let law = work_law m made (views c.args.self.now.list.items) at.0 (keys c.args.self.now.trunk.items) [] w at.1 in
    let none : length list.items ≡ 0 = sym list.ok.0 ∙ eqb-true _ 0 (sym c.is_empty.ensures ∙ e) in
    (law.1, law.3 (no_views list.items none) refl)

pub returns-clause-none : goal.returns-clause-none
returns-clause-none c = λ e.
    let list = c.args.self.now.list in
    no_parts list.items (sym list.ok.0 ∙ eqb-true _ 0 (sym c.is_empty.ensures ∙ e))
