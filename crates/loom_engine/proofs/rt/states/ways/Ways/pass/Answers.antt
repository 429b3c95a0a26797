use Rattle.std.proofs.Common.{◌≡◌, ◌++◌, ◌∷◌, [], ap, sym, ◌∙◌, subst, rules, refl, arith, false, inl, inr, Some}
use Rattle.std.specs.Prelude.{slice_get, slice_index_or}
use Rattle.loom_engine.specs.Covering.Between.{AddsWithin, Passes}
use Rattle.loom_engine.proofs.Covering.Between.{adds_none, adds_one, at_place}
use Rattle.loom_engine.proofs.Covering.Whole.{passes_alone, passes_linked}
use Rattle.loom_engine.proofs.rt.states.ways.Ways.pass.Goals.{in-Some+in_ok-push, in_default}
use Rattle.loom_engine.proofs.rt.states.ways.Ways.pass.Goals as goal

pub returns-clause-adds : goal.returns-clause-adds
returns-clause-adds c =
    let led_by = c.args.led_by.now in
    let made = c.args.made.now in
    let there = slice_index_or led_by c.args.number [] in
    let at : slice_get led_by c.args.number ≡ Some there = at_place led_by c.args.number [] c.requires in
    let passed : Passes led_by made c.args.number = c.passes.ensures.0 (search rules) in
    let ways : c.self.inside.list.items ≡ c.args.self.now.ways = ap (λ t. t.ways) c.self.view_is in
    elim c.match-last_on_way.branch [
      | in-Some+in_ok-push w ↦
          let grown : c.match-last_on_way.self-inside.list.items ≡ c.args.self.now.ways ++ record { from = w.in-Some.from; to = Some c.args.number } ∷ [] =
          ap (λ s. s.list.items) w.self-inside-is ∙ w.in_ok-push.ensures.items ∙ ap (λ l. l ++ record { from = w.in-Some.from; to = Some c.args.number } ∷ []) ways in
          subst (λ l. AddsWithin led_by made c.args.self.now.ways l) (sym grown)
          (adds_one led_by made c.args.self.now.ways (record { from = w.in-Some.from; to = Some c.args.number }) (record { next = c.args.number; there = there; goes = refl; led = at; before = (w.in-Some.ensures there at).1; after = passed }))
      | in_default w ↦ subst (λ l. AddsWithin led_by made c.args.self.now.ways l) (sym (ap (λ s. s.list.items) w.self-inside-is ∙ ways)) (adds_none led_by made c.args.self.now.ways)
    ]

pub returns-then-not-passes-clause-on : goal.returns-then-not-passes-clause-on
returns-then-not-passes-clause-on c = let off : c.passes.result ≡ false = search rules in inr (λ p. cc (c.passes.ensures.1 p, off), refl)

pub returns-clause-on : goal.returns-clause-on
returns-clause-on c =
    let led_by = c.args.led_by.now in
    let made = c.args.made.now in
    let there = slice_index_or led_by c.args.number [] in
    let at : slice_get led_by c.args.number ≡ Some there = at_place led_by c.args.number [] c.requires in
    let passes : Passes led_by made c.args.number = c.passes.ensures.0 (search rules) in
    let ways : c.self.inside.list.items ≡ c.args.self.now.ways = ap (λ t. t.ways) c.self.view_is in
    let before : c.self.inside.passed.items ≡ c.args.self.now.passed = ap (λ t. t.passed) c.self.view_is in
    elim c.match-last_on_way.branch [
      | in-Some+in_ok-push w ↦
          inl (passes_linked led_by made c.args.number w.in-Some.from c.args.self.now _ _ there passes at (w.in-Some.ensures there at)
          (ap (λ s. s.list.items) w.self-inside-is ∙ w.in_ok-push.ensures.items ∙ ap (λ l. l ++ record { from = w.in-Some.from; to = Some c.args.number } ∷ []) ways)
          (c.in_ok-push-2.ensures.items ∙ ap (λ s. s.passed.items ++ c.args.number ∷ []) w.self-inside-is ∙ ap (λ l. l ++ c.args.number ∷ []) before))
      | in_default w ↦
          inl (passes_alone led_by made c.args.number c.args.self.now _ _ there passes at (rw w.in_default.is at (c.last_on_way.ensures there at)) (ap (λ s. s.list.items) w.self-inside-is ∙ ways)
          (c.in_ok-push-2.ensures.items ∙ ap (λ s. s.passed.items ++ c.args.number ∷ []) w.self-inside-is ∙ ap (λ l. l ++ c.args.number ∷ []) before))
    ]
