use Rattle.std.proofs.Common.{◌≡◌, ◌≤◌, subst, length, arith, sym, ◌∙◌, ap, refl}
use Rattle.std.proofs.lemmas.Bool.{OnTrue_at, true≢false}
use Rattle.loom_views.specs.declared.rt.synchronize.ThreadViews.{ThreadViews}
use Rattle.loom_views.specs.Graph.{raised}
use Rattle.loom_views.proofs.Views.ThreadMoves.{child-shown, parent-shown, own-version, no-version}
use Rattle.loom_views.proofs.rt.synchronize.ThreadViews.spawn.Goals as goal
use Rattle.loom_views.proofs.rt.synchronize.ThreadViews.spawn.Goals.{then-not-inc-via-then-not-inc, then-not-inc-via-else-not-inc+then-not-inc-2}

pub returns-then-not-inc-clause-room : goal.returns-then-not-inc-clause-room
returns-then-not-inc-clause-room c = λ g p e i h.
    let none = no-version g c.args.child p.present c.args.self.now.present c.requires.child_in e h.present in
    let own = own-version g c.args.thread p.present c.args.self.now.present c.requires.thread_in i h.present in
    let full : length (raised g c.args.thread) ≡ 65534 = elim c.then-not-inc.branch [
      | then-not-inc-via-then-not-inc w ↦ (let f = c.inc.ensures.full.0 w.if-not-inc.true in absurd (omega arith))
      | then-not-inc-via-else-not-inc+then-not-inc-2 w ↦ sym own ∙ w.inc-else-not-inc.ensures.full.0 w.if-not-inc-2.true
    ] in
    (λ _. full, λ _. refl)

pub returns-clause-room : goal.returns-clause-room
returns-clause-room c = λ g p e i h.
    let own = own-version g c.args.thread p.present c.args.self.now.present c.requires.thread_in i h.present in
    (λ b. absurd (true≢false b), λ f. absurd (true≢false (sym c.if-not-inc-2.false ∙ c.inc-else-not-inc.ensures.full.1 (own ∙ f))))

pub returns-then-not-inc-clause-counted : goal.returns-then-not-inc-clause-counted
returns-then-not-inc-clause-counted c = λ g p e i h.
    let full : length (raised g c.args.thread) ≡ 65534 = (returns-then-not-inc-clause-room c g p e i h).0 refl in
    omega arith

pub returns-clause-counted : goal.returns-clause-counted
returns-clause-counted c = λ g p e i h. subst (λ n. n ≤ 65534) (own-version g c.args.thread p.present c.args.self.now.present c.requires.thread_in i h.present) c.inc-else-not-inc.ensures.counted

pub returns-clause-shown : goal.returns-clause-shown
returns-clause-shown c = λ g p ch e h.
    let fresh = c.new-views.ensures in (
      rw (OnTrue_at c.if-not-inc.false c.inc.ensures.raised, ap (λ (v : ThreadViews). v.released) fresh, ap (λ (v : ThreadViews). v.last_yield) fresh) (child-shown g c.args.thread c.args.child p c.args.self.now c.requires.thread_in c.requires.child_in ch e h),
      rw (OnTrue_at c.if-not-inc-2.false c.inc-else-not-inc.ensures.raised) (parent-shown g c.args.thread c.args.child p c.args.self.now c.requires.thread_in c.requires.child_in ch e h),
    )
