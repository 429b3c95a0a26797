use Rattle.std.proofs.Common.{◌≡◌, ◌<◌, ◌≢◌, length, get_or, set, Some, arith, get_or-set_other, get_or-set_same, below_more, sym, length-set}
use Rattle.std.proofs.lemmas.List.{length-map}
use Rattle.serde_json.specs.View.{view}
use Rattle.loom_engine.specs.Checkpoint.Reader.{status_of, statuses_of}
use Rattle.loom_engine.proofs.Checkpoint.Each.{each-all, same_at}
use Rattle.loom_engine.proofs.rt.path.checkpoint.read.read_statuses.Goals as goal

pub loop-thread-preserved : goal.loop-thread-preserved
loop-thread-preserved c = record {
  five = simp length-set c.loop-thread.invariant.five;
  done = λ k v s.
      below_more (λ k. status_of (view (get_or c.args.items.now.items k v)) ≡ Some (get_or (set c.loop-thread.statuses c.loop-thread.thread c.in_ok-statuses.field-0) k s)) c.loop-thread.thread
      (λ k h. let ne : k ≢ c.loop-thread.thread = omega arith in rw get_or-set_other (c.loop-thread.invariant.done k v s h))
      (let lt : c.loop-thread.thread < length c.loop-thread.statuses = omega arith in
      let in' : c.loop-thread.thread < length c.args.items.now.items = omega (arith, c.args.items.now.ok.0) in
      rw (get_or-set_same, same_at c.args.items.now.items c.loop-thread.thread v c.index.result.now in' c.index.ensures) (sym c.in_ok-statuses.ensures)) k;
}

pub returns : goal.returns
unfolding statuses_of
returns c =
    let n : length c.args.items.now.items ≡ 5 = omega (arith, c.args.items.now.ok.0) in
    let m : length c.args.items.now.items ≡ length c.loop-thread.statuses = omega arith in
    sym (rw (length-map, n) (each-all status_of view c.args.items.now.items c.loop-thread.statuses m (λ k v s h. c.loop-thread.invariant.done k v s (omega arith))))
