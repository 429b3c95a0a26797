use Rattle.std.proofs.Common.{◌∙◌, ◌++◌, ◌∷◌, [], ◌≤◌, List, ap, append_assoc, append-nil, arith, length, refl, subst, sym}
use Rattle.std.proofs.lemmas.List.{take_all}
use Rattle.loom_views.specs.InOrder.{PairAll, PairsStores, Ranked}
use Rattle.loom_views.specs.declared.rt.atomic.Store.{Store}
use Rattle.loom_views.proofs.Ranks.{pair_next, pair_none}
use Rattle.loom_views.proofs.rt.atomic.push_ranked.Goals as goal

pub loop-store-init : goal.loop-store-init
loop-store-init c = let pairs = Ranked c.args.ranks.now in ([], sym (append-nil c.args.stores.now), pair_none pairs (PairsStores pairs))

pub loop-store-preserved : goal.loop-store-preserved
loop-store-preserved c =
    let pairs = Ranked c.args.ranks.now in
    let h = c.loop-store.invariant in
    let more : List Store = h.0 ++ c.in-Some.one ∷ [] in (
      more,
      c.in_ok-push.ensures.ok ∙ ap (λ (l : List Store). l ++ c.in-Some.one ∷ []) h.1 ∙ append_assoc c.args.stores.now h.0 (c.in-Some.one ∷ []),
      pair_next pairs (PairsStores pairs) c.args.from.now h.0 more c.loop-store.store-index c.store-item.result c.in-Some.one (omega (arith, c.loop-store-test.true)) refl h.2 c.store-item.is c.in-Some.ensures,
    )

pub returns : goal.returns
returns c =
    let h = c.loop-store.invariant in
    let all : length c.args.from.now ≤ c.loop-store.store-index = omega (arith, c.loop-store-test.false) in
    λ _. (h.0, h.1, subst (λ (l : List Store). PairAll (Ranked c.args.ranks.now) (PairsStores (Ranked c.args.ranks.now)) l h.0) (take_all c.loop-store.store-index c.args.from.now all) h.2)
