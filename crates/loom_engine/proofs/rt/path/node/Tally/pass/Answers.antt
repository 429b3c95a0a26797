use Rattle.std.proofs.Common.{◌≡◌, ℕ, suc, ◌+◌, Bool, [], ◌∷◌, ◌++◌, Option, Some, refl, ap, sym, ◌∙◌, subst, arith}
use Rattle.std.specs.Prelude.{cond, ◌&&◌}
use Rattle.std.specs.Option.{option_map}
use Rattle.loom_objects.specs.declared.choice.Choice.TheVariants.{Thread}
use Rattle.loom_engine.specs.Walk.Path.{Stored}
use Rattle.loom_engine.specs.Trees.Drive.{pass_of}
use Rattle.loom_engine.specs.declared.rt.path.node.Tally.{Tally}
use Rattle.loom_engine.specs.Path.Nodes.{seen_schedule}
use Rattle.loom_engine.specs.Path.Tallies.{Tallies, goes_over}
use Rattle.loom_engine.proofs.Nodes.Tallies.{tallied}
use Rattle.loom_engine.proofs.rt.path.node.Tally.pass.Goals as goal
use Rattle.loom_engine.proofs.rt.path.node.Tally.pass.Goals.{then-preempts, else-preempts, then-switches, else-switches, then-schedule, else-schedule}

pub returns : goal.returns
returns c = λ passes size held.
    let old : Tally = c.args.self.now in
    let mid : Tally = c.if-preempts.self in
    let place : ℕ = c.args.place in
    let seen : Stored = seen_schedule c.args.schedule.now in
    let one : old.preemptions + 1 ≡ suc old.preemptions = omega arith in
    let counted : mid ≡ record old { preemptions = cond c.preempts.result (suc old.preemptions) old.preemptions } =
    elim c.if-preempts.branch [
      | then-preempts w ↦
          w.self-is ∙ ap (λ (n : ℕ). record old { preemptions = n }) one
          ∙ ap (λ (b : Bool). record old { preemptions = cond b (suc old.preemptions) old.preemptions }) (sym w.if-preempts.true)
      | else-preempts w ↦ w.self-is ∙ ap (λ (b : Bool). record old { preemptions = cond b (suc old.preemptions) old.preemptions }) (sym w.if-preempts.false)
    ] in
    let kept : mid.switch ≡ old.switch = ap (λ (t : Tally). t.switch) counted in
    let switched : c.if-switches.self ≡ record mid { switch = cond c.switches.result (Some place) old.switch } =
    elim c.if-switches.branch [
      | then-switches w ↦ w.self-is ∙ ap (λ (b : Bool). record mid { switch = cond b (Some place) old.switch }) (sym w.if-switches.true)
      | else-switches w ↦
          w.self-is ∙ ap (λ (o : Option ℕ). record mid { switch = o }) kept
          ∙ ap (λ (b : Bool). record mid { switch = cond b (Some place) old.switch }) (sym w.if-switches.false)
    ] in
    let on : c.if-switches.self.nearest ≡ old.nearest = ap (λ (t : Tally). t.nearest) (switched ∙ ap (λ (t : Tally). record t { switch = cond c.switches.result (Some place) old.switch }) counted) in
    let explored : c.if-schedule.self ≡ record c.if-switches.self { nearest = cond seen.made.exploring (Some place) old.nearest } =
    elim c.if-schedule.branch [
      | then-schedule w ↦ w.self-is ∙ ap (λ (b : Bool). record c.if-switches.self { nearest = cond b (Some place) old.nearest }) (sym w.if-schedule.true)
      | else-schedule w ↦
          w.self-is ∙ ap (λ (o : Option ℕ). record c.if-switches.self { nearest = o }) on
          ∙ ap (λ (b : Bool). record c.if-switches.self { nearest = cond b (Some place) old.nearest }) (sym w.if-schedule.false)
    ] in
    let next : suc place ≡ place + 1 = omega arith in
    let new : Tally = record { preemptions = c.if-schedule.self.preemptions; last = Some c.args.chosen; switch = c.if-schedule.self.switch; nearest = c.if-schedule.self.nearest } in
    subst (λ (j : ℕ). Tallies j (passes ++ pass_of seen ∷ []) new) next
    (tallied place passes (pass_of seen) size old held new refl
    (ap (λ (t : Tally). t.preemptions) (explored ∙ ap (λ (t : Tally). record t { nearest = cond seen.made.exploring (Some place) old.nearest }) (switched ∙ ap (λ (t : Tally). record t { switch = cond c.switches.result (Some place) old.switch }) counted))
    ∙ ap (λ (b : Bool). cond b (suc old.preemptions) old.preemptions) c.preempts.ensures)
    (ap Some c.requires.chosen)
    (ap (λ (t : Tally). t.switch) (explored ∙ ap (λ (t : Tally). record t { nearest = cond seen.made.exploring (Some place) old.nearest }) switched)
    ∙ ap (λ (b : Bool). cond b (Some place) old.switch) c.switches.ensures
    ∙ ap (λ (o : Option (Option ℕ)). cond (seen.made.exploring && goes_over (option_map Thread o) seen.present) (Some place) old.switch) (ap (λ (t : Tally). t.last) counted))
    (ap (λ (t : Tally). t.nearest) explored))
