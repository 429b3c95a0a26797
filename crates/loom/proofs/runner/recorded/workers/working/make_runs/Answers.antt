use Rattle.std.proofs.Common.{ℕ, ◌≡◌, ◌⊎◌, ◌<◌, ◌≤◌, ◌+◌, max, inl, inr, refl, ap, sym, ◌∙◌, subst, length, arith}
use Rattle.loom_engine.specs.declared.rt.parts.Part.{Part}
use Rattle.loom.specs.declared.model.parts.Worked.TheVariants.{Failed, Made}
use Rattle.loom.proofs.RunnerLemmas.RecordedWorkers.{HasPlayed, playing_ends, playing_fails, playing_lacks, playing_on, playing_start, playing_starts, playing_stops}
use Rattle.loom.proofs.runner.recorded.workers.working.make_runs.Goals as goal

pub slice-init : goal.slice-init
slice-init g c = record {
  playing = playing_start g.V.Visitor.takes c.args.builder.now c.args.visitor.now c.args.part.now c.args.recording.now c.args.path c.requires.starts;
  within = inl refl;
  same = refl;
}

pub make_round-requires-clause-starts : goal.make_round-requires-clause-starts
make_round-requires-clause-starts g c κs lives =
    playing_starts g.V.Visitor.takes c.args.builder.now c.args.visitor.now c.args.part.now c.args.recording.now c.slice.visitor c.slice.path c.slice.runs c.slice.invariant.playing

pub returns-in_default-clause-works : goal.returns-in_default-clause-works
returns-in_default-clause-works g c =
    let z = c.slice.invariant in
    let stays = rw c.in_default.is at c.in_ok-made.ensures in
    subst (λ v. HasPlayed g.V.Visitor.takes c.args.builder.now c.args.visitor.now c.args.part.now c.args.recording.now v c.leave.new.part (Made c.slice.runs)) (sym stays.1)
    (playing_lacks g.V.Visitor.takes c.args.builder.now c.args.visitor.now c.args.part.now c.args.recording.now c.slice.visitor c.slice.path c.slice.runs c.leave.new.part z.playing c.requires.left
    (c.leave.ensures.base ∙ ap (λ (p : Part). p.base) z.same) (c.leave.ensures.path ∙ stays.0) c.leave.ensures.is_done)

pub slice-preserved : goal.slice-preserved
slice-preserved g c =
    let z = c.slice.invariant in
    let size : c.len-floor.result ≡ length c.args.part.now.base.items = omega (arith, c.len-floor.ensures, c.args.part.now.base.ok.0) in
    let known = rw (c.in-Next.is, size) at (rw c.in-Some.is at c.in_ok-made.ensures) in
    record {
      playing = playing_on g.V.Visitor.takes c.args.builder.now c.args.visitor.now c.args.part.now c.args.recording.now c.slice.visitor c.slice.path c.slice.runs z.playing c.args.limits c.requires.limits
          c.make_round.new.visitor c.make_round.new.path known;
      within = inr (c.ends_turn.ensures c.if-ends_turn.false);
      same = z.same;
    }

pub returns-then-ends_turn-clause-works : goal.returns-then-ends_turn-clause-works
returns-then-ends_turn-clause-works g c =
    let z = c.slice.invariant in
    let size : c.len-floor.result ≡ length c.args.part.now.base.items = omega (arith, c.len-floor.ensures, c.args.part.now.base.ok.0) in
    let known = rw (c.in-Next.is, size) at (rw c.in-Some.is at c.in_ok-made.ensures) in
    playing_stops g.V.Visitor.takes c.args.builder.now c.args.visitor.now c.args.part.now c.args.recording.now c.make_round.new.visitor c.make_round.new.path c.slice.runs c.leave-then-ends_turn.new.part
    (playing_on g.V.Visitor.takes c.args.builder.now c.args.visitor.now c.args.part.now c.args.recording.now c.slice.visitor c.slice.path c.slice.runs z.playing c.args.limits c.requires.limits c.make_round.new.visitor
    c.make_round.new.path known)
    c.requires.left (c.leave-then-ends_turn.ensures.base ∙ ap (λ (p : Part). p.base) z.same) c.leave-then-ends_turn.ensures.path c.leave-then-ends_turn.ensures.is_done

pub returns-in-Last-clause-works : goal.returns-in-Last-clause-works
returns-in-Last-clause-works g c =
    let z = c.slice.invariant in
    let size : c.len-floor.result ≡ length c.args.part.now.base.items = omega (arith, c.len-floor.ensures, c.args.part.now.base.ok.0) in
    let known = rw (c.in-Last.is, size) at (rw c.in-Some.is at c.in_ok-made.ensures) in
    playing_ends g.V.Visitor.takes c.args.builder.now c.args.visitor.now c.args.part.now c.args.recording.now c.slice.visitor c.slice.path c.slice.runs z.playing c.args.limits c.requires.limits c.make_round.new.visitor
    c.make_round.new.path c.leave-in-Last.new.part known c.requires.left (c.leave-in-Last.ensures.base ∙ ap (λ (p : Part). p.base) z.same) c.leave-in-Last.ensures.path c.leave-in-Last.ensures.is_done

pub returns-in-Failed-clause-works : goal.returns-in-Failed-clause-works
returns-in-Failed-clause-works g c =
    let z = c.slice.invariant in
    let size : c.len-floor.result ≡ length c.args.part.now.base.items = omega (arith, c.len-floor.ensures, c.args.part.now.base.ok.0) in
    let known = rw (c.in-Failed.is, size) at (rw c.in-Some.is at c.in_ok-made.ensures) in
    subst (λ (p : Part). HasPlayed g.V.Visitor.takes c.args.builder.now c.args.visitor.now c.args.part.now c.args.recording.now c.make_round.new.visitor p (Failed c.slice.runs c.in-Failed.failure c.in-Failed.choices)) (sym z.same)
    (playing_fails g.V.Visitor.takes c.args.builder.now c.args.visitor.now c.args.part.now c.args.recording.now c.slice.visitor c.slice.path c.slice.runs z.playing c.args.limits c.requires.limits c.make_round.new.visitor
    c.make_round.new.path c.in-Failed.failure c.in-Failed.choices known c.requires.left)

pub slice-smaller : goal.slice-smaller
slice-smaller g c = let less = c.ends_turn.ensures c.if-ends_turn.false in omega arith

-- a run more is within the slice
within_slice : (count most : ℕ) → (count ≡ 0) ⊎ (count < most) → count + 1 ≤ max 1 most
within_slice count most (inl e) = omega arith
within_slice count most (inr h) = omega arith

here_slice : (count most : ℕ) → (count ≡ 0) ⊎ (count < most) → count ≤ max 1 most
here_slice count most (inl e) = omega arith
here_slice count most (inr h) = omega arith

pub returns-in_default-clause-within : goal.returns-in_default-clause-within
returns-in_default-clause-within g c = here_slice c.slice.runs c.args.slice.runs c.slice.invariant.within

pub returns-then-ends_turn-clause-within : goal.returns-then-ends_turn-clause-within
returns-then-ends_turn-clause-within g c = within_slice c.slice.runs c.args.slice.runs c.slice.invariant.within

pub returns-in-Last-clause-within : goal.returns-in-Last-clause-within
returns-in-Last-clause-within g c = within_slice c.slice.runs c.args.slice.runs c.slice.invariant.within

pub returns-in-Failed-clause-within : goal.returns-in-Failed-clause-within
returns-in-Failed-clause-within g c = here_slice c.slice.runs c.args.slice.runs c.slice.invariant.within
