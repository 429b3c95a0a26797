use Rattle.std.proofs.Common.{rules}
use Rattle.loom_engine.proofs.rt.states.State.has_scene.Goals as goal

pub returns : goal.returns
returns g c = λ same.
    let threads = c.are_equal.ensures (search rules) in
    let objects = c.are_equal-2.ensures (search rules) in
    let lazies = c.are_equal-3.ensures same in
    record {
      threads = cc (threads, c.as_slice.ensures, c.get.ensures, c.as_slice-2.ensures, c.threads.ensures);
      objects = cc (objects, c.as_slice-3.ensures, c.get-2.ensures, c.as_slice-4.ensures, c.objects.ensures);
      lazies = cc (lazies, c.as_slice-5.ensures, c.as_slice-6.ensures, c.lazies.ensures);
      max_threads = cc (c.if-self-max_threads.false, c.max_threads.ensures);
    }
