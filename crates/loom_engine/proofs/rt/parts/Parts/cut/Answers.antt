use Rattle.std.proofs.Common.{◌≡◌, ◌<◌, List, [], ◌∷◌, ◌++◌, map, remove, Some, Vec, refl, ap, sym, ◌∙◌, subst, length, arith}
use Rattle.std.specs.Prelude.{slice_get}
use Rattle.std.specs.declared.alloc.Global.{Global}
use Rattle.loom_objects.specs.declared.choice.Choice.{Choice}
use Rattle.loom_engine.specs.declared.rt.path.opening.Opening.{Opening}
use Rattle.loom_engine.specs.declared.rt.parts.Part.{Part as Kept}
use Rattle.loom_engine.specs.Parts.Openings.{OpensAt, EachOpening, at_place}
use Rattle.loom_engine.specs.Covering.Spread.{Spread}
use Rattle.loom_engine.specs.Parts.Keeping.{keys, issued_onto, views}
use Rattle.loom_engine.proofs.Parts.Keeping.{stands_or, got_or}
use Rattle.loom_engine.proofs.Parts.Cutting.{placed_open, cut_goes, cut_spreads}
use Rattle.loom_engine.proofs.Parts.Giving.{Each, HandsEach, Now}
use Rattle.loom_engine.proofs.rt.parts.Parts.cut.Goals as goal

pub hand_out_each-requires : goal.hand_out_each-requires
hand_out_each-requires c =
    let list = c.args.self.now.list in
    let low : c.args.number < length list.items = omega (arith, c.len.ensures, list.ok.0, c.if-number-len.false) in
    let at : slice_get list.items c.args.number ≡ Some c.remove-part.result = got_or list.items c.args.number c.remove-part.result low ∙ ap Some (sym c.remove-part.ensures.value) in
    let here : c.index-2.result.now ≡ c.remove-part.result = c.index-2.ensures ∙ stands_or list.items c.args.number c.remove-part.result c.index-2.result.now at in
    let past : slice_get c.remove-part.result.path.nodes c.len-place.result ≡ Some c.in-Some.node =
    ap (λ (q : Kept). slice_get q.path.nodes c.len-place.result) (sym here) ∙ sym c.in-Some.ensures.found in
    let found = c.in_ok-add_openings.ensures in
    subst (λ (l : List Opening). EachOpening (OpensAt c.remove-part.result.path.nodes) l)
    (ap (λ (l : List Opening). l ++ map (at_place c.len-place.result) found.0) (sym c.new-openings.ensures.items) ∙ sym found.2 ∙ sym c.deref-3.ensures.value)
    (placed_open c.remove-part.result.path.nodes c.in-Some.node c.len-place.result found.0 past found.1.each)

pub returns-clause-cuts : goal.returns-clause-cuts
returns-clause-cuts c = λ m made w now.
    let list = c.args.self.now.list in
    let trunk = c.args.self.now.trunk.items in
    let low : c.args.number < length list.items = omega (arith, c.len.ensures, list.ok.0, c.if-number-len.false) in
    let at : slice_get list.items c.args.number ≡ Some c.remove-part.result = got_or list.items c.args.number c.remove-part.result low ∙ ap Some (sym c.remove-part.ensures.value) in
    let first : c.index.result.now ≡ c.remove-part.result = c.index.ensures ∙ stands_or list.items c.args.number c.remove-part.result c.index.result.now at in
    let here : c.index-2.result.now ≡ c.remove-part.result = c.index-2.ensures ∙ stands_or list.items c.args.number c.remove-part.result c.index-2.result.now at in
    let place : c.len-place.result ≡ length c.remove-part.result.base.items = omega (arith, c.len-place.ensures, c.index.result.now.base.ok.0, ap (λ (q : Kept). length q.base.items) first) in
    let past : slice_get c.remove-part.result.path.nodes (length c.remove-part.result.base.items) ≡ Some c.in-Some.node =
    ap (slice_get c.remove-part.result.path.nodes) (sym place) ∙ ap (λ (q : Kept). slice_get q.path.nodes c.len-place.result) (sym here) ∙ sym c.in-Some.ensures.found in
    let found = c.in_ok-add_openings.ensures in
    let opened : c.deref-3.result.now ≡ map (at_place (length c.remove-part.result.base.items)) c.in_ok-add_openings.ensures.0 =
    c.deref-3.ensures.value ∙ found.2 ∙ ap (λ (l : List Opening). l ++ map (at_place c.len-place.result) found.0) c.new-openings.ensures.items
    ∙ ap (λ k. map (at_place k) c.in_ok-add_openings.ensures.0) place in
    let removed : c.issue_each.new.self.list.items ≡ remove c.args.self.now.list.items c.args.number = ap (λ (v : Vec Kept Global). v.items) c.in_ok-issue_each.ensures.0 ∙ c.remove-part.ensures.items in
    let issued : keys c.issue_each.new.self.trunk.items ≡ issued_onto c.remove-part.result.base.items c.in_ok-taken.taken.items (keys c.args.self.now.trunk.items) =
    c.in_ok-issue_each.ensures.1 ∙ ap (λ (b : List Choice). issued_onto b c.deref-2.result.now (keys c.args.self.now.trunk.items)) c.deref.ensures.value
    ∙ ap (λ (l : List Choice). issued_onto c.remove-part.result.base.items l (keys c.args.self.now.trunk.items)) c.deref-2.ensures.value in
    let each : Each c.issue_each.new.self.list.items c.issue_each.new.self.trunk.items c.hand_out_each.new.self.list.items c.hand_out_each.new.self.trunk.items c.remove-part.result.path.nodes
    (map (at_place (length c.remove-part.result.base.items)) c.in_ok-add_openings.ensures.0) =
    subst (λ (l : List Opening). Each c.issue_each.new.self.list.items c.issue_each.new.self.trunk.items c.hand_out_each.new.self.list.items c.hand_out_each.new.self.trunk.items c.remove-part.result.path.nodes l)
    opened c.in_ok-hand_out_each.ensures.hands in
    let x : Kept = record { base = c.push.new.self; path = c.remove-part.result.path; is_done = c.remove-part.result.is_done; runs = c.remove-part.result.runs } in
    subst (λ (l : List Kept). Now m made l c.hand_out_each.new.self.trunk.items) (sym c.in_ok-push-2.ensures.items)
    (cut_goes list.items trunk c.args.number c.remove-part.result c.in-Some.node c.in_ok-taken.taken.items found.0 at past c.in_ok-taken.ensures found.1
    c.issue_each.new.self.list.items c.hand_out_each.new.self.list.items c.issue_each.new.self.trunk.items c.hand_out_each.new.self.trunk.items removed issued each m made w now
    x refl (c.in_ok-push.ensures.items ∙ ap (λ o. c.remove-part.result.base.items ++ o ∷ []) c.choice.ensures))

pub returns-clause-spreads : goal.returns-clause-spreads
returns-clause-spreads c = λ m left now.
    let list = c.args.self.now.list in
    let trunk = c.args.self.now.trunk.items in
    let low : c.args.number < length list.items = omega (arith, c.len.ensures, list.ok.0, c.if-number-len.false) in
    let at : slice_get list.items c.args.number ≡ Some c.remove-part.result = got_or list.items c.args.number c.remove-part.result low ∙ ap Some (sym c.remove-part.ensures.value) in
    let first : c.index.result.now ≡ c.remove-part.result = c.index.ensures ∙ stands_or list.items c.args.number c.remove-part.result c.index.result.now at in
    let here : c.index-2.result.now ≡ c.remove-part.result = c.index-2.ensures ∙ stands_or list.items c.args.number c.remove-part.result c.index-2.result.now at in
    let place : c.len-place.result ≡ length c.remove-part.result.base.items = omega (arith, c.len-place.ensures, c.index.result.now.base.ok.0, ap (λ (q : Kept). length q.base.items) first) in
    let past : slice_get c.remove-part.result.path.nodes (length c.remove-part.result.base.items) ≡ Some c.in-Some.node =
    ap (slice_get c.remove-part.result.path.nodes) (sym place) ∙ ap (λ (q : Kept). slice_get q.path.nodes c.len-place.result) (sym here) ∙ sym c.in-Some.ensures.found in
    let found = c.in_ok-add_openings.ensures in
    let opened : c.deref-3.result.now ≡ map (at_place (length c.remove-part.result.base.items)) c.in_ok-add_openings.ensures.0 =
    c.deref-3.ensures.value ∙ found.2 ∙ ap (λ (l : List Opening). l ++ map (at_place c.len-place.result) found.0) c.new-openings.ensures.items
    ∙ ap (λ k. map (at_place k) c.in_ok-add_openings.ensures.0) place in
    let removed : c.issue_each.new.self.list.items ≡ remove c.args.self.now.list.items c.args.number = ap (λ (v : Vec Kept Global). v.items) c.in_ok-issue_each.ensures.0 ∙ c.remove-part.ensures.items in
    let issued : keys c.issue_each.new.self.trunk.items ≡ issued_onto c.remove-part.result.base.items c.in_ok-taken.taken.items (keys c.args.self.now.trunk.items) =
    c.in_ok-issue_each.ensures.1 ∙ ap (λ (b : List Choice). issued_onto b c.deref-2.result.now (keys c.args.self.now.trunk.items)) c.deref.ensures.value
    ∙ ap (λ (l : List Choice). issued_onto c.remove-part.result.base.items l (keys c.args.self.now.trunk.items)) c.deref-2.ensures.value in
    let each : HandsEach (Spread m left) c.issue_each.new.self.list.items c.issue_each.new.self.trunk.items c.hand_out_each.new.self.list.items c.hand_out_each.new.self.trunk.items c.remove-part.result.path.nodes
    (map (at_place (length c.remove-part.result.base.items)) c.in_ok-add_openings.ensures.0) =
    subst (λ (l : List Opening). HandsEach (Spread m left) c.issue_each.new.self.list.items c.issue_each.new.self.trunk.items c.hand_out_each.new.self.list.items c.hand_out_each.new.self.trunk.items c.remove-part.result.path.nodes l)
    opened (c.in_ok-hand_out_each.ensures.spreads m left) in
    let x : Kept = record { base = c.push.new.self; path = c.remove-part.result.path; is_done = c.remove-part.result.is_done; runs = c.remove-part.result.runs } in (
      now.0,
      subst (λ (l : List Kept). Spread m left (views l) now.0 (keys c.hand_out_each.new.self.trunk.items) []) (sym c.in_ok-push-2.ensures.items)
          (cut_spreads list.items trunk c.args.number c.remove-part.result c.in-Some.node c.in_ok-taken.taken.items found.0 at past c.in_ok-taken.ensures found.1
          c.issue_each.new.self.list.items c.hand_out_each.new.self.list.items c.issue_each.new.self.trunk.items c.hand_out_each.new.self.trunk.items removed issued m left each now.0 now.1
          x refl (c.in_ok-push.ensures.items ∙ ap (λ o. c.remove-part.result.base.items ++ o ∷ []) c.choice.ensures)),
    )

pub returns-clause-counts : goal.returns-clause-counts
returns-clause-counts c = (c.in_ok-hand_out_each.ensures.adds.1.0 ∙ c.in_ok-issue_each.ensures.2.0, c.in_ok-hand_out_each.ensures.adds.1.1 ∙ c.in_ok-issue_each.ensures.2.1)
