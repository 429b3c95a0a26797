use Rattle.std.proofs.Common.{ℕ, ◌≡◌, ◌⊎◌, ◌<◌, ◌≤◌, ◌+◌, ◌^◌, max, inl, inr, refl, ap, sym, ◌∙◌, subst, length, arith}
use Rattle.loom_engine.specs.Path.Route.{Route}
use Rattle.loom_engine.specs.Runs.Body.{runs}
use Rattle.loom_engine.proofs.Runs.Bodies.{run_tree_law}
use Rattle.loom_engine.specs.declared.rt.parts.Part.{Part}
use Rattle.loom.specs.declared.model.parts.Worked.TheVariants.{Failed}
use Rattle.loom.specs.Model.Parts.{Works}
use Rattle.loom.specs.Model.Settings.{explores}
use Rattle.loom.proofs.ModelLemmas.Parts.{working_start, working_on, working_ends, working_fails, working_stops}
use Rattle.loom.proofs.model.search.BodyRuns.work_on.Goals as goal

pub slice-init : goal.slice-init
slice-init g c =
    let b = c.args.self.now.builder.now in
    let tree = runs g.B.Body.next (explores b) b.max_threads b.max_steps c.args.self.now.body.now in
    let sound = run_tree_law g.B.Body.next (explores b) b.max_threads b.max_steps c.args.self.now.body.now in
    record {
      working = working_start b tree sound c.args.part.now g.V.Visitor.takes c.args.visitor.now c.args.path c.requires.starts;
      within = inl refl;
      same = refl;
    }

pub run_and_step_above-requires-clause-starts : goal.run_and_step_above-requires-clause-starts
run_and_step_above-requires-clause-starts g c =
    let rests = c.slice.invariant.working.rests in
    (ap (λ (r : Route). r.position) rests, ap (λ (r : Route). r.explores) rests, ap (λ (r : Route). r.exploring) rests)

pub returns-in-Last-clause-works : goal.returns-in-Last-clause-works
returns-in-Last-clause-works g c =
    let b = c.args.self.now.builder.now in
    let tree = runs g.B.Body.next (explores b) b.max_threads b.max_steps c.args.self.now.body.now in
    let sound = run_tree_law g.B.Body.next (explores b) b.max_threads b.max_steps c.args.self.now.body.now in
    let z = c.slice.invariant in
    let size : c.len-floor.result ≡ length c.args.part.now.base.items = omega (arith, c.len-floor.ensures, c.args.part.now.base.ok.0) in
    let comes = rw (c.in-Last.is, size) at c.in_ok-run_and_step_above.ensures in
    working_ends b tree sound c.args.part.now g.V.Visitor.takes c.args.visitor.now c.slice.path c.slice.visitor c.slice.runs z.working c.leave-in-Last.new.part c.run_and_step_above.new.path c.run_and_step_above.new.receiver comes
    c.requires.left (c.leave-in-Last.ensures.base ∙ ap (λ (p : Part). p.base) z.same) c.leave-in-Last.ensures.path c.leave-in-Last.ensures.is_done

pub returns-in-Failed-clause-works : goal.returns-in-Failed-clause-works
returns-in-Failed-clause-works g c =
    let b = c.args.self.now.builder.now in
    let tree = runs g.B.Body.next (explores b) b.max_threads b.max_steps c.args.self.now.body.now in
    let sound = run_tree_law g.B.Body.next (explores b) b.max_threads b.max_steps c.args.self.now.body.now in
    let z = c.slice.invariant in
    let comes = rw c.in-Failed.is at c.in_ok-run_and_step_above.ensures in
    let takes = g.V.Visitor.takes in
    subst (λ v. Works takes c.args.visitor.now v b tree c.args.part.now c.slice.part (Failed c.slice.runs c.in-Failed.failure c.in-Failed.choices)) (sym comes.3)
    (subst (λ (p : Part). Works takes c.args.visitor.now c.slice.visitor b tree c.args.part.now p (Failed c.slice.runs c.in-Failed.failure c.in-Failed.choices)) (sym z.same)
    (working_fails b tree sound c.args.part.now takes c.args.visitor.now c.slice.path c.slice.visitor c.slice.runs z.working comes.0 c.in-Failed.failure c.in-Failed.choices comes.1.0 comes.2 c.requires.left))

pub returns-then-is_used_up-clause-works : goal.returns-then-is_used_up-clause-works
returns-then-is_used_up-clause-works g c =
    let b = c.args.self.now.builder.now in
    let tree = runs g.B.Body.next (explores b) b.max_threads b.max_steps c.args.self.now.body.now in
    let sound = run_tree_law g.B.Body.next (explores b) b.max_threads b.max_steps c.args.self.now.body.now in
    let z = c.slice.invariant in
    let size : c.len-floor.result ≡ length c.args.part.now.base.items = omega (arith, c.len-floor.ensures, c.args.part.now.base.ok.0) in
    let comes = rw (c.in-Next.is, size) at c.in_ok-run_and_step_above.ensures in
    let takes = g.V.Visitor.takes in
    working_stops b tree sound c.args.part.now takes c.args.visitor.now c.leave.new.part c.run_and_step_above.new.path c.run_and_step_above.new.receiver c.slice.runs
    (working_on b tree sound c.args.part.now takes c.args.visitor.now c.slice.path c.slice.visitor c.slice.runs z.working c.run_and_step_above.new.path c.run_and_step_above.new.receiver comes)
    c.requires.left (c.leave.ensures.base ∙ ap (λ (p : Part). p.base) z.same) c.leave.ensures.path c.leave.ensures.is_done

pub slice-preserved : goal.slice-preserved
slice-preserved g c =
    let b = c.args.self.now.builder.now in
    let tree = runs g.B.Body.next (explores b) b.max_threads b.max_steps c.args.self.now.body.now in
    let sound = run_tree_law g.B.Body.next (explores b) b.max_threads b.max_steps c.args.self.now.body.now in
    let z = c.slice.invariant in
    let size : c.len-floor.result ≡ length c.args.part.now.base.items = omega (arith, c.len-floor.ensures, c.args.part.now.base.ok.0) in
    let comes = rw (c.in-Next.is, size) at c.in_ok-run_and_step_above.ensures in
    record {
      working = working_on b tree sound c.args.part.now g.V.Visitor.takes c.args.visitor.now c.slice.path c.slice.visitor c.slice.runs z.working c.run_and_step_above.new.path c.run_and_step_above.new.receiver comes;
      within = inr (c.is_used_up.ensures c.if-is_used_up.false);
      same = z.same;
    }

pub slice-smaller : goal.slice-smaller
slice-smaller g c = let less = c.is_used_up.ensures c.if-is_used_up.false in omega arith

-- a run more is within the slice
within_slice : (count most : ℕ) → (count ≡ 0) ⊎ (count < most) → count + 1 ≤ max 1 most
within_slice count most (inl e) = omega arith
within_slice count most (inr h) = omega arith

here_slice : (count most : ℕ) → (count ≡ 0) ⊎ (count < most) → count ≤ max 1 most
here_slice count most (inl e) = omega arith
here_slice count most (inr h) = omega arith

-- the runs of a part count
counts_on : (old mid later : Part) (count : ℕ) → mid ≡ old → (mid.runs + count < 2 ^ 64 → later.runs ≡ mid.runs + count) → old.runs + count < 2 ^ 64 → later.runs ≡ old.runs + count
counts_on old mid later count same counts = subst (λ (p : Part). p.runs + count < 2 ^ 64 → later.runs ≡ p.runs + count) same counts

pub returns-then-is_used_up-clause-within : goal.returns-then-is_used_up-clause-within
returns-then-is_used_up-clause-within g c = within_slice c.slice.runs c.args.slice.runs c.slice.invariant.within

pub returns-in-Last-clause-within : goal.returns-in-Last-clause-within
returns-in-Last-clause-within g c = within_slice c.slice.runs c.args.slice.runs c.slice.invariant.within

pub returns-in-Failed-clause-within : goal.returns-in-Failed-clause-within
returns-in-Failed-clause-within g c = here_slice c.slice.runs c.args.slice.runs c.slice.invariant.within

pub returns-then-is_used_up-clause-counts : goal.returns-then-is_used_up-clause-counts
returns-then-is_used_up-clause-counts g c = counts_on c.args.part.now c.slice.part c.leave.new.part (c.slice.runs + 1) c.slice.invariant.same c.leave.ensures.runs

pub returns-in-Last-clause-counts : goal.returns-in-Last-clause-counts
returns-in-Last-clause-counts g c = counts_on c.args.part.now c.slice.part c.leave-in-Last.new.part (c.slice.runs + 1) c.slice.invariant.same c.leave-in-Last.ensures.runs

pub returns-in-Failed-clause-counts : goal.returns-in-Failed-clause-counts
returns-in-Failed-clause-counts g c = c.slice.invariant.same
