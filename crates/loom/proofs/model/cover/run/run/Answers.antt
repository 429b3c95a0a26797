use Rattle.std.proofs.Common.{List, subst, sym}
use Rattle.loom_objects.specs.declared.operation.Reply.TheVariants as reply
use Rattle.loom_engine.specs.declared.rt.path.node.Node.{Node}
use Rattle.loom_engine.specs.Covering.Kept.{beside}
use Rattle.loom_engine.specs.Path.Route.{Route}
use Rattle.loom.specs.Model.Cover.{IsUnderWay, noting}
use Rattle.loom.specs.Model.CoverSnapshots.{AreKeptIn}
use Rattle.loom.proofs.ModelLemmas.Covering.{begins_so, starts_so}
use Rattle.loom.proofs.ModelLemmas.CoverSnapshots.{ends_left, goes_on_open, goes_on_with, kept_fewer, kept_fit, left_kept, same_nodes}
use Rattle.loom.proofs.ModelLemmas.Handing.{joined}
use Rattle.loom.proofs.model.cover.run.run.Goals as goal

pub go_on-requires : goal.go_on-requires
go_on-requires g c =
    let b = c.args.limits in
    let path = c.args.path.now in
    let body = c.args.body.now in
    let next = g.B.Body.next in
    let kept = left_kept next path.search.max_branches path.explores b.max_threads b.max_steps body path.nodes c.args.room.now.snapshots c.keep_before.new.self c.keep_before.ensures.fewer.0 c.keep_before.ensures.fewer.1
    (rw c.node_count.ensures at c.keep_before.ensures.before) c.requires.left in
    kept_fit next path.search.max_branches path.explores b.max_threads b.max_steps body path c.keep_before.new.self kept

pub from_snapshot-requires : goal.from_snapshot-requires
from_snapshot-requires g c =
    let b = c.args.limits in
    let path = c.args.path.now in
    let body = c.args.body.now in
    let next = g.B.Body.next in
    let kept = left_kept next path.search.max_branches path.explores b.max_threads b.max_steps body path.nodes c.args.room.now.snapshots c.keep_before.new.self c.keep_before.ensures.fewer.0 c.keep_before.ensures.fewer.1
    (rw c.node_count.ensures at c.keep_before.ensures.before) c.requires.left in
    let run = noting b.max_threads b.max_steps body path (beside c.args.known.now c.args.states.now) in
    let goes = rw c.if-is_on.true at c.in_ok-is_on.ensures.goes in
    goes_on_open next run path c.go_on.new.path c.keep_before.new.self c.go_on.new.execution c.go_on.new.bodies.items goes.0 goes.1 (starts_so next run path c.requires.starts.0 c.requires.unguided) c.requires.whole goes.2 kept goes.3

pub returns-then-is_on-clause-along : goal.returns-then-is_on-clause-along
returns-then-is_on-clause-along g c = λ are.
    let b = c.args.limits in
    let path = c.args.path.now in
    let body = c.args.body.now in
    let next = g.B.Body.next in
    let kept = left_kept next path.search.max_branches path.explores b.max_threads b.max_steps body path.nodes c.args.room.now.snapshots c.keep_before.new.self c.keep_before.ensures.fewer.0 c.keep_before.ensures.fewer.1
    (rw c.node_count.ensures at c.keep_before.ensures.before) c.requires.left in
    let run = noting b.max_threads b.max_steps body path (beside c.args.known.now c.args.states.now) in
    let goes = rw c.if-is_on.true at c.in_ok-is_on.ensures.goes in
    c.from_snapshot.ensures.along run (goes_on_with next run path c.go_on.new.path c.keep_before.new.self c.go_on.new.execution c.go_on.new.bodies.items goes.0 goes.1 (starts_so next run path c.requires.starts.0 c.requires.unguided) c.requires.whole goes.2 kept goes.3 are)

pub returns-then-is_on-clause-left : goal.returns-then-is_on-clause-left
returns-then-is_on-clause-left g c = λ are.
    let b = c.args.limits in
    let path = c.args.path.now in
    let body = c.args.body.now in
    let next = g.B.Body.next in
    let kept = left_kept next path.search.max_branches path.explores b.max_threads b.max_steps body path.nodes c.args.room.now.snapshots c.keep_before.new.self c.keep_before.ensures.fewer.0 c.keep_before.ensures.fewer.1
    (rw c.node_count.ensures at c.keep_before.ensures.before) c.requires.left in
    let more = kept_fewer next path.search.max_branches path.explores b.max_threads b.max_steps body path.nodes c.keep_before.new.self c.go_on.new.self c.go_on.ensures.fewer.0 c.go_on.ensures.fewer.1 kept in
    let run = noting b.max_threads b.max_steps body path (beside c.args.known.now c.args.states.now) in
    let goes = rw c.if-is_on.true at c.in_ok-is_on.ensures.goes in
    ends_left next run c.from_snapshot.result c.from_snapshot.new.path c.from_snapshot.new.snapshots
    (c.from_snapshot.ensures.kept run (goes_on_with next run path c.go_on.new.path c.keep_before.new.self c.go_on.new.execution c.go_on.new.bodies.items goes.0 goes.1 (starts_so next run path c.requires.starts.0 c.requires.unguided) c.requires.whole goes.2 kept goes.3 are)
    (subst (λ (nodes : List Node). AreKeptIn next run nodes c.go_on.new.self) (sym (same_nodes next run path c.go_on.new.path c.keep_before.new.self c.go_on.new.execution c.go_on.new.bodies.items goes.0 goes.1 (starts_so next run path c.requires.starts.0 c.requires.unguided) c.requires.whole goes.2 kept goes.3)) more))

pub returns-then-is_on-clause-same : goal.returns-then-is_on-clause-same
returns-then-is_on-clause-same g c = joined c.args.path.now c.go_on.new.path c.from_snapshot.new.path c.go_on.ensures.same c.from_snapshot.ensures.same

pub returns-clause-along : goal.returns-clause-along
returns-clause-along g c = λ are.
    let b = c.args.limits in
    let path = c.args.path.now in
    let body = c.args.body.now in
    let next = g.B.Body.next in
    let run = noting b.max_threads b.max_steps body path (beside c.args.known.now c.args.states.now) in
    let same = rw c.if-is_on.false at c.in_ok-is_on.ensures.goes in
    let under_way = subst (λ (p : Route). IsUnderWay next run c.begin.new.bodies.items c.restart.new.self.run p 0 reply.Start (beside c.args.known.now c.args.states.now)) (sym same)
    (begins_so next run c.begin.new.bodies.items c.restart.new.self.run path c.in_ok-begin.ensures (c.in_ok-restart.ensures.opens path.explores path c.requires.starts) (starts_so next run path c.requires.starts.0 c.requires.unguided)
    c.requires.whole are) in
    c.take_turns.ensures.along run under_way

pub returns-clause-left : goal.returns-clause-left
returns-clause-left g c = λ are.
    let b = c.args.limits in
    let path = c.args.path.now in
    let body = c.args.body.now in
    let next = g.B.Body.next in
    let kept = left_kept next path.search.max_branches path.explores b.max_threads b.max_steps body path.nodes c.args.room.now.snapshots c.keep_before.new.self c.keep_before.ensures.fewer.0 c.keep_before.ensures.fewer.1
    (rw c.node_count.ensures at c.keep_before.ensures.before) c.requires.left in
    let more = kept_fewer next path.search.max_branches path.explores b.max_threads b.max_steps body path.nodes c.keep_before.new.self c.go_on.new.self c.go_on.ensures.fewer.0 c.go_on.ensures.fewer.1 kept in
    let run = noting b.max_threads b.max_steps body path (beside c.args.known.now c.args.states.now) in
    let same = rw c.if-is_on.false at c.in_ok-is_on.ensures.goes in
    let under_way = subst (λ (p : Route). IsUnderWay next run c.begin.new.bodies.items c.restart.new.self.run p 0 reply.Start (beside c.args.known.now c.args.states.now)) (sym same)
    (begins_so next run c.begin.new.bodies.items c.restart.new.self.run path c.in_ok-begin.ensures (c.in_ok-restart.ensures.opens path.explores path c.requires.starts) (starts_so next run path c.requires.starts.0 c.requires.unguided)
    c.requires.whole are) in
    ends_left next run c.take_turns.result c.take_turns.new.path c.take_turns.new.snapshots
    (c.take_turns.ensures.kept run under_way (subst (λ (p : Route). AreKeptIn next run p.nodes c.go_on.new.self) (sym same) more))

pub returns-clause-same : goal.returns-clause-same
returns-clause-same g c = joined c.args.path.now c.go_on.new.path c.take_turns.new.path c.go_on.ensures.same c.take_turns.ensures.same

pub returns-in_err-is_on-clause-same : goal.returns-in_err-is_on-clause-same
returns-in_err-is_on-clause-same g c = c.go_on.ensures.same
