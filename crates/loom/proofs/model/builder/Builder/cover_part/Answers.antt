use Rattle.std.proofs.Common.{◌≡◌, List, ap, ap₂, sym, ◌∙◌, length, refl, arith}
use Rattle.loom_engine.specs.Path.Route.{Route, at_rest}
use Rattle.loom_engine.specs.Trees.Meeting.{whole_search}
use Rattle.loom_engine.specs.declared.rt.path.node.Node.{Node}
use Rattle.loom.specs.Model.Settings.{explores}
use Rattle.loom.proofs.ModelLemmas.CoverParts.{part_fails, part_made}
use Rattle.loom.proofs.model.builder.Builder.cover_part.Goals as goal

pub cover_above-above-requires-clause-starts : goal.cover_above-above-requires-clause-starts
cover_above-above-requires-clause-starts g c =
    let rests = c.in_ok-path.ensures.ok ∙ ap₂ (λ s e. at_rest s e c.args.part.now.path.nodes) c.cover_search.ensures.settings c.cover_search.ensures.explores in
    rests ∙ ap (λ (nodes : List Node). at_rest (whole_search c.args.self.now.max_branches) (explores c.args.self.now) nodes) (sym (ap (λ (r : Route). r.nodes) rests))

pub returns-in-Made-clause-covers : goal.returns-in-Made-clause-covers
returns-in-Made-clause-covers g c =
    let rests = c.in_ok-path.ensures.ok ∙ ap₂ (λ s e. at_rest s e c.args.part.now.path.nodes) c.cover_search.ensures.settings c.cover_search.ensures.explores in
    let size : c.len-floor.result ≡ length c.args.part.now.base.items = omega (arith, c.len-floor.ensures, c.args.part.now.base.ok.0) in
    part_made c.args.self.now g.B.Body.next c.args.body.now g.V.Visitor.takes c.args.visitor.now c.cover_above-above.new.visitor c.args.known.now c.args.states.now c.cover_above-above.new.states c.args.part.now c.in_ok-path.path
    c.cover_above-above.new.path c.len-floor.result rests size c.if-part.false c.in-Made.runs c.in-Made.met c.in-Made.is_done c.leave-in-Made.new.part (rw c.in-Made.is at c.in_ok-runs.ensures.covers) c.leave-in-Made.ensures.base
    c.leave-in-Made.ensures.path c.leave-in-Made.ensures.is_done

pub returns-in-Failed-clause-covers : goal.returns-in-Failed-clause-covers
returns-in-Failed-clause-covers g c =
    let rests = c.in_ok-path.ensures.ok ∙ ap₂ (λ s e. at_rest s e c.args.part.now.path.nodes) c.cover_search.ensures.settings c.cover_search.ensures.explores in
    let size : c.len-floor.result ≡ length c.args.part.now.base.items = omega (arith, c.len-floor.ensures, c.args.part.now.base.ok.0) in
    part_fails c.args.self.now g.B.Body.next c.args.body.now g.V.Visitor.takes c.args.visitor.now c.cover_above-above.new.visitor c.args.known.now c.args.states.now c.cover_above-above.new.states c.args.part.now c.in_ok-path.path
    c.cover_above-above.new.path c.len-floor.result rests size c.if-part.false c.in-Failed.runs c.in-Failed.met c.in-Failed.failure c.in-Failed.choices c.args.part.now (rw c.in-Failed.is at c.in_ok-runs.ensures.covers) refl
