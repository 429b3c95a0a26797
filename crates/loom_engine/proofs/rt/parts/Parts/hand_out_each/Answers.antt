use Rattle.std.proofs.Common.{ℕ, List, ◌≡◌, ◌<◌, ◌≤◌, ◌+◌, suc, [], ◌∷◌, ◌++◌, map, drop, append_assoc, refl, ap, sym, ◌∙◌, subst, inl, arith, length}
use Rattle.std.proofs.lemmas.List.{append-nil}
use Rattle.std.specs.Prelude.{slice_index_or}
use Rattle.loom_objects.specs.declared.choice.Choice.{Choice}
use Rattle.loom_engine.specs.declared.rt.path.node.Node.{Node}
use Rattle.loom_engine.specs.declared.rt.parts.Parts.{Parts}
use Rattle.loom_engine.specs.Walk.Lists.{Member}
use Rattle.loom_engine.specs.Covering.Spread.{Spread}
use Rattle.loom_engine.specs.Parts.Cuts.{Part, IsBelow, IsWithout}
use Rattle.loom_engine.specs.Parts.Works.{Work}
use Rattle.loom_engine.specs.declared.rt.path.opening.Opening.{Opening}
use Rattle.loom_engine.specs.Parts.Openings.{chosen_to, key_at, EachOpening, OpensAt}
use Rattle.loom_engine.specs.Parts.Keeping.{views, keys, AddsParts, Stands}
use Rattle.loom_engine.proofs.Parts.Keeping.{each_or, drop_or, drop_all}
use Rattle.loom_engine.proofs.rt.parts.Parts.hand_out_each.Goals as goal

pub hand_out-requires : goal.hand_out-requires
hand_out-requires c =
    let low : c.loop-opening.opening-index < length c.args.openings.now = omega (arith, c.loop-opening-test.true, c.loop-opening.auto.opening-index-end) in
    each_or (OpensAt c.args.path.now.nodes) c.args.openings.now c.loop-opening.opening-index _ low c.requires

-- one option is handed out, and its note is done with, whoever makes the runs
one_more : (P : List Part → List Part → List (List Choice) → List (List Choice) → Type 0) (nodes : List Node) (list : List Opening) (i : ℕ) (d : Opening) → i < length list → (mid new : Parts)
    → ((out spent : List Part) (source : Part) (notes less : List (List Choice)) → P (out ++ views mid.list.items) spent (keys mid.trunk.items) notes → Stands out spent nodes source
    → IsBelow (chosen_to (slice_index_or list i d).place nodes) source.base → Member (key_at nodes (slice_index_or list i d)) notes → IsWithout (key_at nodes (slice_index_or list i d)) notes less
    → P (out ++ views new.list.items) spent (keys new.trunk.items) less)
    → (out spent : List Part) (source : Part) → P (out ++ views mid.list.items) spent (keys mid.trunk.items) (map (key_at nodes) (drop i list))
    → Stands out spent nodes source → EachOpening (λ opening. IsBelow (chosen_to opening.place nodes) source.base) list
    → P (out ++ views new.list.items) spent (keys new.trunk.items) (map (key_at nodes) (drop (i + 1) list))
one_more P nodes list i d low mid new hands out spent source s stands each =
    let next : suc i ≡ i + 1 = omega arith in
    subst (λ k. P (out ++ views new.list.items) spent (keys new.trunk.items) (map (key_at nodes) (drop k list))) next
    (hands out spent source (map (key_at nodes) (slice_index_or list i d ∷ drop (suc i) list)) (map (key_at nodes) (drop (suc i) list))
    (subst (λ l. P (out ++ views mid.list.items) spent (keys mid.trunk.items) (map (key_at nodes) l)) (drop_or list i d low) s)
    stands
    (each_or (λ (opening : Opening). IsBelow (chosen_to opening.place nodes) source.base) list i d low each)
    (inl refl)
    (λ j. ((λ h. h), λ h. h)))

-- parts were added twice
adds_again : (old mid new : Parts) → AddsParts old mid → AddsParts mid new → AddsParts old new
adds_again old mid new a b = (
  (a.0.0 ++ b.0.0, b.0.1 ∙ ap (λ l. l ++ b.0.0) a.0.1 ∙ append_assoc old.list.items a.0.0 b.0.0),
  (b.1.0 ∙ a.1.0, b.1.1 ∙ a.1.1),
)

pub loop-opening-init : goal.loop-opening-init
loop-opening-init c = record { hands = λ m made out spent source s stands each. s; spreads = λ m left out spent source s stands each. s; adds = (([], sym (append-nil c.args.self.now.list.items)), (refl, refl)) }

pub loop-opening-preserved : goal.loop-opening-preserved
loop-opening-preserved c =
    let low : c.loop-opening.opening-index < length c.args.openings.now = omega (arith, c.loop-opening-test.true, c.loop-opening.auto.opening-index-end) in
    record {
      hands = λ m made out spent source s stands each. one_more (Work m made) c.args.path.now.nodes c.args.openings.now c.loop-opening.opening-index _ low c.loop-opening.self c.hand_out.new.self
          (c.in_ok-hand_out.ensures.hands m made) out spent source (c.loop-opening.invariant.hands m made out spent source s stands each) stands each;
      spreads = λ m left out spent source s stands each. one_more (Spread m left) c.args.path.now.nodes c.args.openings.now c.loop-opening.opening-index _ low c.loop-opening.self c.hand_out.new.self
          (c.in_ok-hand_out.ensures.spreads m left) out spent source (c.loop-opening.invariant.spreads m left out spent source s stands each) stands each;
      adds = adds_again c.args.self.now c.loop-opening.self c.hand_out.new.self c.loop-opening.invariant.adds c.in_ok-hand_out.ensures.adds;
    }

pub returns-clause-hands : goal.returns-clause-hands
returns-clause-hands c = λ m made out spent source s stands each.
    let all : length c.args.openings.now ≤ c.loop-opening.opening-index = omega (arith, c.loop-opening-test.false, c.loop-opening.auto.opening-index-end) in
    subst (λ l. Work m made (out ++ views c.loop-opening.self.list.items) spent (keys c.loop-opening.self.trunk.items) (map (key_at c.args.path.now.nodes) l)) (drop_all c.args.openings.now c.loop-opening.opening-index all)
    (c.loop-opening.invariant.hands m made out spent source s stands each)

pub returns-clause-spreads : goal.returns-clause-spreads
returns-clause-spreads c = λ m left out spent source s stands each.
    let all : length c.args.openings.now ≤ c.loop-opening.opening-index = omega (arith, c.loop-opening-test.false, c.loop-opening.auto.opening-index-end) in
    subst (λ l. Spread m left (out ++ views c.loop-opening.self.list.items) spent (keys c.loop-opening.self.trunk.items) (map (key_at c.args.path.now.nodes) l)) (drop_all c.args.openings.now c.loop-opening.opening-index all)
    (c.loop-opening.invariant.spreads m left out spent source s stands each)
