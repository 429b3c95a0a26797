use Rattle.std.proofs.Common.{[], refl, ◌∷◌, ◌++◌, sym, ap, ◌∙◌, subst, false}
use Rattle.std.proofs.lemmas.List.{append-nil}
use Rattle.loom_engine.specs.Walk.Lists.{Member}
use Rattle.loom_engine.specs.Parts.Works.{Work}
use Rattle.loom_engine.specs.Parts.Openings.{key_at}
use Rattle.loom_engine.specs.Parts.Keeping.{views, keys}
use Rattle.loom_engine.specs.Path.Route.{Route}
use Rattle.loom_engine.specs.declared.rt.parts.Part.{Part as Kept}
use Rattle.loom_engine.specs.Covering.Spread.{Spread}
use Rattle.loom_engine.proofs.Parts.Keeping.{hand_old, hand_new, spread_steps, work_steps}
use Rattle.loom_engine.proofs.rt.parts.Parts.hand_out.Goals as goal

pub returns-then-is_issued-clause-hands : goal.returns-then-is_issued-clause-hands
returns-then-is_issued-clause-hands c = λ m made.
    hand_old c.args.self.now.list.items c.args.self.now.trunk.items c.args.path.now.nodes c.args.opening.now c.in_ok-key.key.items c.in_ok-key.ensures
    (subst (λ t. Member t (keys c.args.self.now.trunk.items)) c.deref.ensures.value (c.is_issued.ensures.0 c.if-is_issued.true))
    (Work m made) (work_steps m made)

pub returns-clause-hands : goal.returns-clause-hands
returns-clause-hands c = λ m made out spent source notes less s stands low member without.
    let o = c.requires in
    let nodes = c.args.path.now.nodes in
    let unissued : Member (key_at c.args.path.now.nodes c.args.opening.now) (keys c.args.self.now.trunk.items) → ⊥ =
    λ i. (let told = c.is_issued.ensures.1 (subst (λ t. Member t (keys c.args.self.now.trunk.items)) (sym (c.deref.ensures.value ∙ c.in_ok-key.ensures)) i) in cc (told, c.if-is_issued.false)) in
    let x : Kept = record { base = c.extend_from_slice.new.self; path = c.in_ok-branch.branch; is_done = false; runs = 0 } in
    subst (λ t. Work m made (out ++ views t) spent (keys c.push-2.new.self.items) less) (sym c.in_ok-push.ensures.items)
    (subst (λ t. Work m made (out ++ views (c.args.self.now.list.items ++ x ∷ [])) spent (keys t) less) (sym c.in_ok-push-2.ensures.items)
    (hand_new c.args.self.now.list.items c.args.self.now.trunk.items c.args.path.now.nodes c.args.opening.now o.0 o.1 o.2 x c.in_ok-key.key
    (c.in_ok-extend_from_slice.ensures.items ∙ ap (λ l. l ++ c.deref-2.result.now) c.new-base.ensures.items ∙ c.deref-2.ensures.value ∙ c.in_ok-key.ensures) (ap (λ (r : Route). r.nodes) c.in_ok-branch.ensures) c.in_ok-key.ensures unissued (Work m made) (work_steps m made) out spent source notes less s stands low member without))

pub returns-then-is_issued-clause-spreads : goal.returns-then-is_issued-clause-spreads
returns-then-is_issued-clause-spreads c = λ m left.
    hand_old c.args.self.now.list.items c.args.self.now.trunk.items c.args.path.now.nodes c.args.opening.now c.in_ok-key.key.items c.in_ok-key.ensures
    (subst (λ t. Member t (keys c.args.self.now.trunk.items)) c.deref.ensures.value (c.is_issued.ensures.0 c.if-is_issued.true))
    (Spread m left) (spread_steps m left)

pub returns-clause-spreads : goal.returns-clause-spreads
returns-clause-spreads c = λ m left out spent source notes less s stands low member without.
    let o = c.requires in
    let nodes = c.args.path.now.nodes in
    let unissued : Member (key_at c.args.path.now.nodes c.args.opening.now) (keys c.args.self.now.trunk.items) → ⊥ =
    λ i. (let told = c.is_issued.ensures.1 (subst (λ t. Member t (keys c.args.self.now.trunk.items)) (sym (c.deref.ensures.value ∙ c.in_ok-key.ensures)) i) in cc (told, c.if-is_issued.false)) in
    let x : Kept = record { base = c.extend_from_slice.new.self; path = c.in_ok-branch.branch; is_done = false; runs = 0 } in
    subst (λ t. Spread m left (out ++ views t) spent (keys c.push-2.new.self.items) less) (sym c.in_ok-push.ensures.items)
    (subst (λ t. Spread m left (out ++ views (c.args.self.now.list.items ++ x ∷ [])) spent (keys t) less) (sym c.in_ok-push-2.ensures.items)
    (hand_new c.args.self.now.list.items c.args.self.now.trunk.items c.args.path.now.nodes c.args.opening.now o.0 o.1 o.2 x c.in_ok-key.key
    (c.in_ok-extend_from_slice.ensures.items ∙ ap (λ l. l ++ c.deref-2.result.now) c.new-base.ensures.items ∙ c.deref-2.ensures.value ∙ c.in_ok-key.ensures) (ap (λ (r : Route). r.nodes) c.in_ok-branch.ensures) c.in_ok-key.ensures unissued (Spread m left) (spread_steps m left) out spent source notes less s stands low member without))

pub returns-then-is_issued-clause-adds : goal.returns-then-is_issued-clause-adds
returns-then-is_issued-clause-adds c = (([], sym (append-nil c.args.self.now.list.items)), (refl, refl))

pub returns-clause-adds : goal.returns-clause-adds
returns-clause-adds c = ((_, c.in_ok-push.ensures.items), (refl, refl))
