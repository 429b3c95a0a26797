use Rattle.std.proofs.Common.{ℕ, ◌≡◌, ◌⊎◌, ◌<◌, ◌≤◌, ◌+◌, max, inl, inr, refl, arith}
use Rattle.std.specs.Prelude.{false, true}
use Rattle.loom_engine.specs.Path.Route.{stored}
use Rattle.loom.proofs.ModelLemmas.CoverParts.{HasCome, come_so, way_ended, way_fails, way_met, way_starts}
use Rattle.loom.proofs.model.builder.Builder.cover_above.Goals.{in-Ended, in-Met}
use Rattle.loom.proofs.model.builder.Builder.cover_above.Goals as goal

-- so many runs are within the slice, and one more is
within_slice : (count most : ℕ) → (count ≡ 0) ⊎ (count < most) → count + 1 ≤ max 1 most
within_slice count most (inl e) = omega arith
within_slice count most (inr h) = omega arith

pub slice-init : goal.slice-init
slice-init g c = record {
  way =
      way_starts c.args.self.now g.B.Body.next c.args.body.now g.V.Visitor.takes c.args.visitor.now c.args.floor (stored c.args.path.now.nodes) c.args.known.now c.args.states.now c.args.path.now
      c.requires.starts refl;
  within = inl refl;
}

pub cover_run-requires-clause-starts : goal.cover_run-requires-clause-starts
cover_run-requires-clause-starts g c = c.slice.invariant.way.rests

pub slice-preserved : goal.slice-preserved
slice-preserved g c =
    let b = c.args.self.now in
    let takes = g.V.Visitor.takes in
    let z = c.slice.invariant in
    let now = c.match-went.runs in
    let given_up = c.match-went.met in
    let is_last = c.match-went.is_last in
    let path = c.cover_run.new.path in
    let visitor = c.cover_run.new.visitor in
    let more = c.cover_run.new.states in
    let come : HasCome b g.B.Body.next c.args.body.now takes c.args.visitor.now c.args.floor (stored c.args.path.now.nodes) c.args.known.now c.args.states.now c.slice.path c.slice.visitor c.slice.runs c.slice.met c.slice.states z.way path
    visitor now given_up more is_last =
    elim c.match-went.branch [
      | in-Ended w ↦
          way_ended b g.B.Body.next c.args.body.now takes c.args.visitor.now c.args.floor (stored c.args.path.now.nodes) c.args.known.now c.args.states.now c.slice.path c.slice.visitor c.slice.runs c.slice.met c.slice.states z.way
          path visitor now given_up more is_last w.in-Ended.is_last w.is_last-is w.runs-is w.met-is (rw w.in-Ended.is at c.in_ok-went.ensures.goes)
      | in-Met w ↦
          way_met b g.B.Body.next c.args.body.now takes c.args.visitor.now c.args.floor (stored c.args.path.now.nodes) c.args.known.now c.args.states.now c.slice.path c.slice.visitor c.slice.runs c.slice.met c.slice.states z.way
          path visitor now given_up more is_last w.in-Met.is_last w.is_last-is w.runs-is w.met-is (rw w.in-Met.is at c.in_ok-went.ensures.goes)
    ] in
    record {
      way = come.goes c.if-is_last.false;
      within = inr (c.is_used_up.ensures c.if-is_used_up.false);
    }

pub slice-smaller : goal.slice-smaller
slice-smaller g c =
    let less = c.is_used_up.ensures c.if-is_used_up.false in
    elim c.match-went.branch [
      | in-Ended w ↦ omega (arith, less, w.runs-is, w.met-is)
      | in-Met w ↦ omega (arith, less, w.runs-is, w.met-is)
    ]

pub returns-then-is_last-clause-covers : goal.returns-then-is_last-clause-covers
returns-then-is_last-clause-covers g c =
    let b = c.args.self.now in
    let takes = g.V.Visitor.takes in
    let z = c.slice.invariant in
    let now = c.match-went.runs in
    let given_up = c.match-went.met in
    let is_last = c.match-went.is_last in
    let path = c.cover_run.new.path in
    let visitor = c.cover_run.new.visitor in
    let more = c.cover_run.new.states in
    let come : HasCome b g.B.Body.next c.args.body.now takes c.args.visitor.now c.args.floor (stored c.args.path.now.nodes) c.args.known.now c.args.states.now c.slice.path c.slice.visitor c.slice.runs c.slice.met c.slice.states z.way path
    visitor now given_up more is_last =
    elim c.match-went.branch [
      | in-Ended w ↦
          way_ended b g.B.Body.next c.args.body.now takes c.args.visitor.now c.args.floor (stored c.args.path.now.nodes) c.args.known.now c.args.states.now c.slice.path c.slice.visitor c.slice.runs c.slice.met c.slice.states z.way
          path visitor now given_up more is_last w.in-Ended.is_last w.is_last-is w.runs-is w.met-is (rw w.in-Ended.is at c.in_ok-went.ensures.goes)
      | in-Met w ↦
          way_met b g.B.Body.next c.args.body.now takes c.args.visitor.now c.args.floor (stored c.args.path.now.nodes) c.args.known.now c.args.states.now c.slice.path c.slice.visitor c.slice.runs c.slice.met c.slice.states z.way
          path visitor now given_up more is_last w.in-Met.is_last w.is_last-is w.runs-is w.met-is (rw w.in-Met.is at c.in_ok-went.ensures.goes)
    ] in
    come_so b g.B.Body.next c.args.body.now takes c.args.visitor.now c.args.floor (stored c.args.path.now.nodes) c.args.known.now c.args.states.now c.slice.path c.slice.visitor c.slice.runs c.slice.met c.slice.states z.way path visitor now given_up more is_last true c.if-is_last.true come

pub returns-then-is_used_up-clause-covers : goal.returns-then-is_used_up-clause-covers
returns-then-is_used_up-clause-covers g c =
    let b = c.args.self.now in
    let takes = g.V.Visitor.takes in
    let z = c.slice.invariant in
    let now = c.match-went.runs in
    let given_up = c.match-went.met in
    let is_last = c.match-went.is_last in
    let path = c.cover_run.new.path in
    let visitor = c.cover_run.new.visitor in
    let more = c.cover_run.new.states in
    let come : HasCome b g.B.Body.next c.args.body.now takes c.args.visitor.now c.args.floor (stored c.args.path.now.nodes) c.args.known.now c.args.states.now c.slice.path c.slice.visitor c.slice.runs c.slice.met c.slice.states z.way path
    visitor now given_up more is_last =
    elim c.match-went.branch [
      | in-Ended w ↦
          way_ended b g.B.Body.next c.args.body.now takes c.args.visitor.now c.args.floor (stored c.args.path.now.nodes) c.args.known.now c.args.states.now c.slice.path c.slice.visitor c.slice.runs c.slice.met c.slice.states z.way
          path visitor now given_up more is_last w.in-Ended.is_last w.is_last-is w.runs-is w.met-is (rw w.in-Ended.is at c.in_ok-went.ensures.goes)
      | in-Met w ↦
          way_met b g.B.Body.next c.args.body.now takes c.args.visitor.now c.args.floor (stored c.args.path.now.nodes) c.args.known.now c.args.states.now c.slice.path c.slice.visitor c.slice.runs c.slice.met c.slice.states z.way
          path visitor now given_up more is_last w.in-Met.is_last w.is_last-is w.runs-is w.met-is (rw w.in-Met.is at c.in_ok-went.ensures.goes)
    ] in
    come_so b g.B.Body.next c.args.body.now takes c.args.visitor.now c.args.floor (stored c.args.path.now.nodes) c.args.known.now c.args.states.now c.slice.path c.slice.visitor c.slice.runs c.slice.met c.slice.states z.way path visitor now given_up more is_last false c.if-is_last.false come

pub returns-then-is_last-clause-within : goal.returns-then-is_last-clause-within
returns-then-is_last-clause-within g c =
    let less = within_slice (c.slice.runs + c.slice.met) c.args.slice.runs c.slice.invariant.within in
    elim c.match-went.branch [
      | in-Ended w ↦ omega (arith, less, w.runs-is, w.met-is)
      | in-Met w ↦ omega (arith, less, w.runs-is, w.met-is)
    ]

pub returns-then-is_used_up-clause-within : goal.returns-then-is_used_up-clause-within
returns-then-is_used_up-clause-within g c =
    let less = within_slice (c.slice.runs + c.slice.met) c.args.slice.runs c.slice.invariant.within in
    elim c.match-went.branch [
      | in-Ended w ↦ omega (arith, less, w.runs-is, w.met-is)
      | in-Met w ↦ omega (arith, less, w.runs-is, w.met-is)
    ]

pub returns-in-Failed-clause-covers : goal.returns-in-Failed-clause-covers
returns-in-Failed-clause-covers g c =
    way_fails c.args.self.now g.B.Body.next c.args.body.now g.V.Visitor.takes c.args.visitor.now c.args.floor (stored c.args.path.now.nodes) c.args.known.now c.args.states.now c.slice.path c.slice.visitor c.slice.runs c.slice.met
    c.slice.states c.slice.invariant.way c.in-Failed.failure.kind c.in-Failed.choices.items (rw c.in-Failed.is at c.in_ok-went.ensures.goes)

pub returns-in-Failed-clause-within : goal.returns-in-Failed-clause-within
returns-in-Failed-clause-within g c = let less = within_slice (c.slice.runs + c.slice.met) c.args.slice.runs c.slice.invariant.within in omega (arith, less)
