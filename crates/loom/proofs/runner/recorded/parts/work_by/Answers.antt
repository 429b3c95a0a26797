use Rattle.std.proofs.Common.{ℕ, ◌≡◌, ◌⊎◌, ◌<◌, ◌≤◌, ◌+◌, ◌^◌, max, inl, inr, refl, ap, sym, ◌∙◌, subst, length, arith}
use Rattle.std.specs.Fn.{CalledAtMut}
use Rattle.loom_engine.specs.declared.rt.parts.Part.{Part}
use Rattle.loom.specs.declared.model.parts.Worked.TheVariants.{Failed}
use Rattle.loom.specs.Runner.Recorded.{WorksRecorded}
use Rattle.loom.proofs.RunnerLemmas.RecordedParts.{part_ends, part_fails, part_on, part_start, part_starts, part_stops}
use Rattle.loom.proofs.runner.recorded.parts.work_by.Goals as goal

pub slice-init : goal.slice-init
slice-init g c = record {
  callable = c.requires.callable;
  limits = c.requires.limits;
  locations = c.requires.locations;
  working = part_start (CalledAtMut g.F.FnMut) g.V.Visitor.takes c.args.builder.now c.args.closure.now c.args.visitor.now c.args.part.now c.args.path c.args.recorder.now.recording c.requires.starts c.requires.fresh;
  within = inl refl;
  same = refl;
}

pub make_run-requires-clause-starts : goal.make_run-requires-clause-starts
make_run-requires-clause-starts g c κs lives =
    part_starts (CalledAtMut g.F.FnMut) g.V.Visitor.takes c.args.builder.now c.args.closure.now c.args.visitor.now c.args.part.now c.slice.closure c.slice.visitor c.slice.recorder.recording c.slice.path c.slice.runs
    c.slice.invariant.working

pub slice-preserved : goal.slice-preserved
slice-preserved g c =
    let z = c.slice.invariant in
    let size : c.len-floor.result ≡ length c.args.part.now.base.items = omega (arith, c.len-floor.ensures, c.args.part.now.base.ok.0) in
    record {
      callable = c.make_run.ensures.again;
      limits = c.make_run.ensures.limits ∙ z.limits;
      locations = c.make_run.ensures.locations ∙ z.locations;
      working = part_on (CalledAtMut g.F.FnMut) g.V.Visitor.takes c.args.builder.now c.args.closure.now c.args.visitor.now c.args.part.now c.slice.closure c.slice.visitor c.slice.recorder.recording c.slice.path c.slice.runs z.working
          c.slice.recorder.limits c.slice.recorder.keeps_locations z.limits z.locations c.make_run.new.closure c.end_above.new.visitor c.make_run.new.path c.end_above.new.path c.make_run.new.self.recording c.in_ok-ending.ending
          c.in_ok-ending.ensures.makes (rw (c.in-Next.is, size) at c.in-Ok.ensures);
      within = inr (c.is_used_up.ensures c.if-is_used_up.false);
      same = z.same;
    }

pub returns-then-is_used_up-clause-works : goal.returns-then-is_used_up-clause-works
returns-then-is_used_up-clause-works g c =
    let z = c.slice.invariant in
    let size : c.len-floor.result ≡ length c.args.part.now.base.items = omega (arith, c.len-floor.ensures, c.args.part.now.base.ok.0) in
    part_stops (CalledAtMut g.F.FnMut) g.V.Visitor.takes c.args.builder.now c.args.closure.now c.args.visitor.now c.args.part.now c.make_run.new.closure c.end_above.new.visitor c.make_run.new.self.recording c.end_above.new.path
    c.slice.runs c.leave.new.part
    (part_on (CalledAtMut g.F.FnMut) g.V.Visitor.takes c.args.builder.now c.args.closure.now c.args.visitor.now c.args.part.now c.slice.closure c.slice.visitor c.slice.recorder.recording c.slice.path c.slice.runs z.working
    c.slice.recorder.limits c.slice.recorder.keeps_locations z.limits z.locations c.make_run.new.closure c.end_above.new.visitor c.make_run.new.path c.end_above.new.path c.make_run.new.self.recording c.in_ok-ending.ending
    c.in_ok-ending.ensures.makes (rw (c.in-Next.is, size) at c.in-Ok.ensures))
    c.requires.left (c.leave.ensures.base ∙ ap (λ (p : Part). p.base) z.same) c.leave.ensures.path c.leave.ensures.is_done

pub returns-in-Last-clause-works : goal.returns-in-Last-clause-works
returns-in-Last-clause-works g c =
    let z = c.slice.invariant in
    let size : c.len-floor.result ≡ length c.args.part.now.base.items = omega (arith, c.len-floor.ensures, c.args.part.now.base.ok.0) in
    part_ends (CalledAtMut g.F.FnMut) g.V.Visitor.takes c.args.builder.now c.args.closure.now c.args.visitor.now c.args.part.now c.slice.closure c.slice.visitor c.slice.recorder.recording c.slice.path c.slice.runs z.working
    c.slice.recorder.limits c.slice.recorder.keeps_locations z.limits z.locations c.make_run.new.closure c.end_above.new.visitor c.make_run.new.path c.end_above.new.path c.make_run.new.self.recording c.in_ok-ending.ending
    c.in_ok-ending.ensures.makes c.leave-in-Last.new.part (rw (c.in-Last.is, size) at c.in-Ok.ensures)
    c.requires.left (c.leave-in-Last.ensures.base ∙ ap (λ (p : Part). p.base) z.same) c.leave-in-Last.ensures.path c.leave-in-Last.ensures.is_done

pub returns-in-Failed-clause-works : goal.returns-in-Failed-clause-works
returns-in-Failed-clause-works g c =
    let z = c.slice.invariant in
    let size : c.len-floor.result ≡ length c.args.part.now.base.items = omega (arith, c.len-floor.ensures, c.args.part.now.base.ok.0) in
    subst (λ (p : Part). WorksRecorded (CalledAtMut g.F.FnMut) g.V.Visitor.takes c.args.builder.now c.args.closure.now c.args.visitor.now c.end_above.new.visitor c.args.part.now p (Failed c.slice.runs c.in-Failed.failure c.in-Failed.choices)) (sym z.same)
    (part_fails (CalledAtMut g.F.FnMut) g.V.Visitor.takes c.args.builder.now c.args.closure.now c.args.visitor.now c.args.part.now c.slice.closure c.slice.visitor c.slice.recorder.recording c.slice.path c.slice.runs z.working
    c.slice.recorder.limits c.slice.recorder.keeps_locations z.limits z.locations c.make_run.new.closure c.end_above.new.visitor c.make_run.new.path c.end_above.new.path c.make_run.new.self.recording c.in_ok-ending.ending
    c.in_ok-ending.ensures.makes c.in-Failed.failure c.in-Failed.choices (rw (c.in-Failed.is, size) at c.in-Ok.ensures) c.requires.left)

pub slice-smaller : goal.slice-smaller
slice-smaller g c = let less = c.is_used_up.ensures c.if-is_used_up.false in omega arith

-- a run more is within the slice
within_slice : (count most : ℕ) → (count ≡ 0) ⊎ (count < most) → count + 1 ≤ max 1 most
within_slice count most (inl e) = omega arith
within_slice count most (inr h) = omega arith

here_slice : (count most : ℕ) → (count ≡ 0) ⊎ (count < most) → count ≤ max 1 most
here_slice count most (inl e) = omega arith
here_slice count most (inr h) = omega arith

-- the runs of a part count
counts_on : (old mid later : Part) (count : ℕ) → mid ≡ old → (mid.runs + count < 2 ^ 64 → later.runs ≡ mid.runs + count) → old.runs + count < 2 ^ 64 → later.runs ≡ old.runs + count
counts_on old mid later count same counts = subst (λ (p : Part). p.runs + count < 2 ^ 64 → later.runs ≡ p.runs + count) same counts

pub returns-then-is_used_up-clause-within : goal.returns-then-is_used_up-clause-within
returns-then-is_used_up-clause-within g c = within_slice c.slice.runs c.args.slice.runs c.slice.invariant.within

pub returns-in-Last-clause-within : goal.returns-in-Last-clause-within
returns-in-Last-clause-within g c = within_slice c.slice.runs c.args.slice.runs c.slice.invariant.within

pub returns-in-Failed-clause-within : goal.returns-in-Failed-clause-within
returns-in-Failed-clause-within g c = here_slice c.slice.runs c.args.slice.runs c.slice.invariant.within

pub returns-then-is_used_up-clause-counts : goal.returns-then-is_used_up-clause-counts
returns-then-is_used_up-clause-counts g c = counts_on c.args.part.now c.slice.part c.leave.new.part (c.slice.runs + 1) c.slice.invariant.same c.leave.ensures.runs

pub returns-in-Last-clause-counts : goal.returns-in-Last-clause-counts
returns-in-Last-clause-counts g c = counts_on c.args.part.now c.slice.part c.leave-in-Last.new.part (c.slice.runs + 1) c.slice.invariant.same c.leave-in-Last.ensures.runs

pub returns-in-Failed-clause-counts : goal.returns-in-Failed-clause-counts
returns-in-Failed-clause-counts g c = c.slice.invariant.same
