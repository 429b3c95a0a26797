use Rattle.std.proofs.Common.{List, false, [], ◌∷◌, ◌++◌, ap, sym, ◌∙◌, subst}
use Rattle.loom_engine.specs.Covering.Spread.{Spread, begin as spread_begin}
use Rattle.loom_engine.specs.Parts.Cuts.{Part}
use Rattle.loom_engine.specs.Parts.Works.{Work, begin}
use Rattle.loom_engine.specs.Parts.Keeping.{keys}
use Rattle.loom_engine.specs.Path.Route.{Route}
use Rattle.loom_engine.specs.declared.rt.parts.Part.{Part as Kept}
use Rattle.loom_engine.proofs.Parts.Keeping.{first_views}
use Rattle.loom_engine.proofs.rt.parts.Parts.new.Goals as goal

pub returns-clause-begins : goal.returns-clause-begins
returns-clause-begins c = λ m.
    let first : Kept = record { base = c.new.result; path = c.new-2.result; is_done = false; runs = 0 } in
    let parts = first_views c.push.new.self.items first (c.in_ok-push.ensures.items ∙ ap (λ l. l ++ first ∷ []) c.new-list.ensures.items) c.new.ensures.items
    (ap (λ (r : Route). r.nodes) c.new-2.ensures) in
    ([], subst (λ t. Work m [] t [] (keys c.new-3.result.items) []) (sym parts) (subst (λ t. Work m [] (record { base = []; path = [] } ∷ []) [] (keys t) []) (sym c.new-3.ensures.items) begin))

pub returns-clause-spreads : goal.returns-clause-spreads
returns-clause-spreads c = λ m.
    let first : Kept = record { base = c.new.result; path = c.new-2.result; is_done = false; runs = 0 } in
    let parts = first_views c.push.new.self.items first (c.in_ok-push.ensures.items ∙ ap (λ l. l ++ first ∷ []) c.new-list.ensures.items) c.new.ensures.items
    (ap (λ (r : Route). r.nodes) c.new-2.ensures) in
    ([], subst (λ (t : List Part). Spread m [] t [] (keys c.new-3.result.items) []) (sym parts) (subst (λ t. Spread m [] (record { base = []; path = [] } ∷ []) [] (keys t) []) (sym c.new-3.ensures.items) spread_begin))
