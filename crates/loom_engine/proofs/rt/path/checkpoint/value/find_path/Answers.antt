use Rattle.std.proofs.Common.{◌≡◌, ◌≤◌, map, length, inl, inr, Some, refl, sym, ap, ◌∙◌, subst, arith}
use Rattle.std.proofs.lemmas.Bool.{ltb-true, ltb-false}
use Rattle.std.proofs.lemmas.List.{length-map}
use Rattle.serde_json.specs.View.{view}
use Rattle.loom_engine.specs.Path.Route.{settings}
use Rattle.loom_engine.specs.Path.WellFormed.{bare}
use Rattle.loom_engine.specs.Checkpoint.Accepted.{version_of, IsRefused}
use Rattle.loom_engine.proofs.Checkpoint.ShapeLaws.{shape, no_shape, shaped, with_settings, memory_refused, nodes_well, read_length, read_all, read_none}
use Rattle.loom_engine.proofs.rt.path.checkpoint.value.find_path.Goals as goal

pub returns-in-None-read_parts-clause-err : goal.returns-in-None-read_parts-clause-err
returns-in-None-read_parts-clause-err c =
    let two : version_of (view c.args.value.now) ≡ Some 2 = sym c.in-Some.ensures ∙ ap Some c.if-version-ne-VERSION.false in
    inr (two, no_shape (view c.args.value.now) c.in-None-read_parts.ensures)

pub returns-in-Some-other_setting-clause-err : goal.returns-in-Some-other_setting-clause-err
returns-in-Some-other_setting-clause-err c =
    let two : version_of (view c.args.value.now) ≡ Some 2 = sym c.in-Some.ensures ∙ ap Some c.if-version-ne-VERSION.false in
    let p = c.in-Some-read_parts.parts in
    let is = shaped (view c.args.value.now) _ c.in-Some-read_parts.ensures two in
    (p.exploring, map view p.nodes.now.items, p.order.now, p.preemption_bound, p.reduce, is, c.in-Some-other_setting.ensures.some)

pub returns-then-is_too_many-clause-err : goal.returns-then-is_too_many-clause-err
returns-then-is_too_many-clause-err c =
    let two : version_of (view c.args.value.now) ≡ Some 2 = sym c.in-Some.ensures ∙ ap Some c.if-version-ne-VERSION.false in
    let p = c.in-Some-read_parts.parts in
    let is = shaped (view c.args.value.now) _ c.in-Some-read_parts.ensures two in
    let items = map view p.nodes.now.items in
    let parts = shape p.exploring items p.order.now p.preemption_bound p.reduce p.version in
    let s = settings c.args.search in
    let explores = c.args.search.explores in
    let d = view c.args.value.now in
    let has = with_settings s explores d parts is (c.in-None-other_setting.ensures.none refl) in
    let n : c.len-count.result ≡ length items = rw length-map (omega (arith, p.nodes.now.ok.0)) in
    (items, has, n, ltb-true _ _ (sym c.if-is_too_many.ensures))

pub returns-in-Err-clause-err : goal.returns-in-Err-clause-err
returns-in-Err-clause-err c =
    let two : version_of (view c.args.value.now) ≡ Some 2 = sym c.in-Some.ensures ∙ ap Some c.if-version-ne-VERSION.false in
    let p = c.in-Some-read_parts.parts in
    let is = shaped (view c.args.value.now) _ c.in-Some-read_parts.ensures two in
    let items = map view p.nodes.now.items in
    let parts = shape p.exploring items p.order.now p.preemption_bound p.reduce p.version in
    let s = settings c.args.search in
    let explores = c.args.search.explores in
    let d = view c.args.value.now in
    let has = with_settings s explores d parts is (c.in-None-other_setting.ensures.none refl) in
    let fits : length items ≤ s.max_branches = rw length-map (omega (arith, p.nodes.now.ok.0, ltb-false _ _ (sym c.if-is_too_many.ensures))) in
    elim c.in-Err.ensures.err [ inl m ↦ memory_refused s explores d c.in-Err.error m | inr n ↦ subst (IsRefused s explores d) (sym n.0) (read_none s explores d items has fits n.1) ]

pub from_nodes-requires-clause-fits : goal.from_nodes-requires-clause-fits
from_nodes-requires-clause-fits c =
    let p = c.in-Some-read_parts.parts in
    let items = map view p.nodes.now.items in
    let most : length items ≤ c.args.search.max_branches = rw length-map (omega (arith, p.nodes.now.ok.0, ltb-false _ _ (sym c.if-is_too_many.ensures))) in
    omega (arith, most, read_length items c.in-Ok.nodes.items c.in-Ok.ensures.ok, ap length c.deref.ensures.value)

pub from_nodes-requires-clause-well_formed : goal.from_nodes-requires-clause-well_formed
from_nodes-requires-clause-well_formed c = rw c.deref.ensures.value (nodes_well (map view c.in-Some-read_parts.parts.nodes.now.items) c.in-Ok.nodes.items c.in-Ok.ensures.ok)

pub returns-in-Ok-from_nodes-clause-ok : goal.returns-in-Ok-from_nodes-clause-ok
returns-in-Ok-from_nodes-clause-ok c =
    let two : version_of (view c.args.value.now) ≡ Some 2 = sym c.in-Some.ensures ∙ ap Some c.if-version-ne-VERSION.false in
    let p = c.in-Some-read_parts.parts in
    let is = shaped (view c.args.value.now) _ c.in-Some-read_parts.ensures two in
    let items = map view p.nodes.now.items in
    let parts = shape p.exploring items p.order.now p.preemption_bound p.reduce p.version in
    let s = settings c.args.search in
    let explores = c.args.search.explores in
    let d = view c.args.value.now in
    let has = with_settings s explores d parts is (c.in-None-other_setting.ensures.none refl) in
    let fits : length items ≤ s.max_branches = rw length-map (omega (arith, p.nodes.now.ok.0, ltb-false _ _ (sym c.if-is_too_many.ensures))) in
    let alike = c.in-Ok-from_nodes.ensures.nodes ∙ ap (map bare) c.deref.ensures.value in
    (c.in-Ok-from_nodes.ensures.rests, read_all s explores d items has fits c.in-Ok.nodes.items c.in-Ok-from_nodes.path.nodes c.in-Ok.ensures.ok alike)
