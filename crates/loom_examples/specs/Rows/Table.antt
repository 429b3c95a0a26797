-- The table of the program's rows: each name, what it means, and how this is checked.
use Rattle.std.specs.Prelude.{◌≡◌, List, [], ◌∷◌, ◌++◌, codes}
use Rattle.loom_examples.specs.Rows.FewThreads.{few_thread_rows, lock_beside}
use Rattle.loom_examples.specs.Rows.Meanings.{Named}
use Rattle.loom_examples.specs.Rows.Settings.{script, whole, limited, short, long, few, bounded, explicit, updates}
use Rattle.loom_examples.specs.Rows.Scripts.First as first
use Rattle.loom_examples.specs.Rows.Scripts.Atomics as atomics
use Rattle.loom_examples.specs.Rows.Scripts.Cells as cells
use Rattle.loom_examples.specs.Rows.Scripts.Locks as locks
use Rattle.loom_examples.specs.Rows.Scripts.Channels as channels
use Rattle.loom_examples.specs.Rows.Scripts.Wakers as wakers
use Rattle.loom_examples.specs.Rows.Scripts.Values as values
use Rattle.loom_examples.specs.Rows.Scripts.Exploring as exploring
use Rattle.loom_examples.specs.Rows.Scripts.Limits as limits
use Rattle.loom_examples.specs.Rows.Scripts.Walks as walks

-- of an assertion that fails, and of a deadlock
abbrev pub failing_rows : List Named
failing_rows =
    script (codes "fail_at_once") first.fail_at_once ∷
    script (codes "two_mutexes_deadlock") first.two_mutexes_deadlock ∷ []

-- of loads from one atomic
abbrev pub load_rows : List Named
load_rows =
    whole (codes "load_beside") first.load_beside ∷ script (codes "load_beside_reduced") first.load_beside ∷
    script (codes "store_seven") first.store_seven ∷ []

-- of two threads that store and load crosswise
abbrev pub buffering_rows : List Named
buffering_rows =
    script (codes "store_buffering") first.store_buffering ∷ script (codes "load_buffering") first.load_buffering ∷ []

-- of what a load that acquires has to see
abbrev pub ordering_rows : List Named
ordering_rows =
    script (codes "check_ordering_valid") first.check_ordering_valid ∷
    script (codes "check_ordering_invalid_1") first.check_ordering_invalid_1 ∷
    script (codes "checks_fail") first.checks_fail ∷ []

-- the first ones
abbrev pub first_rows : List Named
first_rows = few_thread_rows ++ failing_rows ++ load_rows ++ buffering_rows ++ ordering_rows

-- of what atomics are changed by
abbrev pub function_rows : List Named
function_rows =
    script (codes "u8_functions") atomics.u8_functions ∷ script (codes "i8_functions") atomics.i8_functions ∷
    script (codes "bool_nand") atomics.bool_nand ∷ script (codes "compare_exchange") atomics.compare_exchange ∷ []

-- of atomics that are accessed beside others
abbrev pub unsynchronized_rows : List Named
unsynchronized_rows =
    script (codes "unsync_race") atomics.unsync_race ∷ script (codes "load_in_with_mut") atomics.load_in_with_mut ∷ []

-- of fences, and of loads without end
abbrev pub fence_rows : List Named
fence_rows =
    script (codes "relaxed_fence") atomics.relaxed_fence ∷
    script (codes "fences_then_relaxed") atomics.fences_then_relaxed ∷
    short (codes "unsync_load_forever") atomics.unsync_load_forever ∷ script (codes "sb_fences") atomics.sb_fences ∷
    []

-- of threads that update one atomic
abbrev pub update_rows : List Named
update_rows =
    script (codes "fetch_add_atomic") atomics.fetch_add_atomic ∷ script (codes "two_rmw") atomics.two_rmw ∷
    script (codes "orders_equal") atomics.orders_equal ∷ script (codes "three_adds") atomics.three_adds ∷
    updates (codes "fetch_update_once") atomics.num_a atomics.num_b ∷ []

-- of threads that wait for flags
abbrev pub flag_rows : List Named
flag_rows =
    bounded (codes "acq_rel") atomics.acq_rel ∷ script (codes "spinners") atomics.spinners ∷
    script (codes "spinners_forever") atomics.spinners_forever ∷ []

-- about atomics and fences
abbrev pub atomic_rows : List Named
atomic_rows = function_rows ++ unsynchronized_rows ++ fence_rows ++ update_rows ++ flag_rows

-- of a cell that an atomic releases
abbrev pub causality_rows : List Named
causality_rows =
    script (codes "atomic_causality_success") cells.atomic_causality_success ∷
    script (codes "atomic_causality_fail") cells.atomic_causality_fail ∷ []

-- of two threads that write a cell
abbrev pub write_race_rows : List Named
write_race_rows =
    script (codes "unsafe_cell_race_mut_mut_1") cells.unsafe_cell_race_mut_mut_1 ∷
    script (codes "unsafe_cell_race_mut_mut_2") cells.unsafe_cell_race_mut_mut_2 ∷ []

-- of main and a thread, of which one writes a cell that the other reads
abbrev pub read_race_rows : List Named
read_race_rows =
    script (codes "unsafe_cell_race_mut_immut_1") cells.unsafe_cell_race_mut_immut_1 ∷
    script (codes "unsafe_cell_race_mut_immut_2") cells.unsafe_cell_race_mut_immut_2 ∷ []

-- of two threads, of which one writes a cell that the other reads
abbrev pub thread_race_rows : List Named
thread_race_rows =
    script (codes "unsafe_cell_race_mut_immut_3") cells.unsafe_cell_race_mut_immut_3 ∷
    script (codes "unsafe_cell_race_mut_immut_4") cells.unsafe_cell_race_mut_immut_4 ∷
    script (codes "unsafe_cell_race_mut_immut_5") cells.unsafe_cell_race_mut_immut_5 ∷ []

-- of main and a thread that access a cell in turn
abbrev pub turn_rows : List Named
turn_rows =
    script (codes "unsafe_cell_ok_1") cells.unsafe_cell_ok_1 ∷
    script (codes "unsafe_cell_ok_2") cells.unsafe_cell_ok_2 ∷ []

-- of a cell that main writes after others
abbrev pub synchronized_rows : List Named
synchronized_rows =
    script (codes "unsafe_cell_ok_3") cells.unsafe_cell_ok_3 ∷
    script (codes "unsafe_cell_access_after_sync") cells.unsafe_cell_access_after_sync ∷ []

-- of main alone, with a cell or with counted references and tracked values
abbrev pub main_alone_rows : List Named
main_alone_rows =
    script (codes "read_in_write") cells.read_in_write ∷ script (codes "detect_mem_leak") cells.detect_mem_leak ∷
    script (codes "arc_count") cells.arc_count ∷ script (codes "arc_unwrap") cells.arc_unwrap ∷
    script (codes "track_then_arc") cells.track_then_arc ∷ script (codes "arc_then_track") cells.arc_then_track ∷ []

-- about cells, counted references and tracked values
abbrev pub cell_rows : List Named
cell_rows = causality_rows ++ write_race_rows ++ read_race_rows ++ thread_race_rows ++ turn_rows ++ synchronized_rows ++ main_alone_rows

-- of mutexes
abbrev pub mutex_rows : List Named
mutex_rows =
    script (codes "release_unlocked") locks.release_unlocked ∷ script (codes "lock_while_out") locks.lock_while_out ∷
    script (codes "mutex_into_inner") locks.mutex_into_inner ∷ long (codes "many_locks") locks.many_locks ∷
    long (codes "too_many_locks") locks.too_many_locks ∷ []

-- of read-write locks
abbrev pub rwlock_rows : List Named
rwlock_rows =
    script (codes "rwlock_read_twice") locks.rwlock_read_twice ∷
    script (codes "rwlock_write_then_try_write") locks.rwlock_write_then_try_write ∷
    script (codes "read_guard_of_another") locks.read_guard_of_another ∷
    script (codes "rwlock_writer_and_readers") locks.rwlock_writer_and_readers ∷ []

-- of condition variables
abbrev pub condvar_rows : List Named
condvar_rows =
    script (codes "condvar_alone") locks.condvar_alone ∷
    script (codes "condvar_with_token") locks.condvar_with_token ∷
    script (codes "condvar_hands_over") locks.condvar_hands_over ∷ script (codes "notify_all") locks.notify_all ∷ []

-- of notifiers and tokens
abbrev pub waking_rows : List Named
waking_rows =
    script (codes "notify_wait") locks.notify_wait ∷ script (codes "second_waiter") locks.second_waiter ∷
    script (codes "unpark_then_park") locks.unpark_then_park ∷ script (codes "park_alone") locks.park_alone ∷
    script (codes "unpark_wakes") locks.unpark_wakes ∷ []

-- of a yield, of a thread with a name, and of code that is never reached
abbrev pub other_rows : List Named
other_rows =
    script (codes "yield_beside") locks.yield_beside ∷ script (codes "named_child") locks.named_child ∷
    script (codes "unreachable") locks.unreachable ∷ []

-- about threads that wait for one another
abbrev pub lock_rows : List Named
lock_rows = mutex_rows ++ rwlock_rows ++ condvar_rows ++ waking_rows ++ other_rows

-- of messages that are sent
abbrev pub message_rows : List Named
message_rows =
    script (codes "send_then_recv") channels.send_then_recv ∷
    script (codes "recv_after_drop") channels.recv_after_drop ∷
    script (codes "commutative_senders") channels.commutative_senders ∷
    script (codes "non_commutative_senders1") channels.non_commutative_senders1 ∷ []

-- of channels with nothing to receive or nobody who does, and of a name that is sent
abbrev pub end_rows : List Named
end_rows =
    script (codes "try_recv_empty") channels.try_recv_empty ∷ script (codes "drop_receiver") channels.drop_receiver ∷
    script (codes "message_left") channels.message_left ∷ script (codes "send_late") channels.send_late ∷
    script (codes "name_sent") channels.name_sent ∷ []

-- about channels
abbrev pub channel_rows : List Named
channel_rows = message_rows ++ end_rows

-- about wakers
abbrev pub waker_rows : List Named
waker_rows =
    script (codes "ready_at_once") wakers.ready_at_once ∷ script (codes "waker_leak") wakers.waker_leak ∷
    script (codes "waker_round") wakers.waker_round ∷ script (codes "wait_taken") wakers.wait_taken ∷
    script (codes "wake_dropped") wakers.wake_dropped ∷ script (codes "spurious_poll") wakers.spurious_poll ∷ []

-- about threads' own values, and values that are made once a run
abbrev pub value_rows : List Named
value_rows =
    script (codes "lazy_once") values.lazy_once ∷ script (codes "lazy_late") values.lazy_late ∷
    script (codes "local_twice") values.local_twice ∷ script (codes "local_gone") values.local_gone ∷
    script (codes "local_access_error") values.local_access_error ∷ script (codes "local_order") values.local_order ∷ []

-- about runs that don't explore everywhere
abbrev pub exploring_rows : List Named
exploring_rows =
    whole (codes "stop_exploring") exploring.stop_exploring ∷
    whole (codes "stop_exploring_twice") exploring.stop_exploring_twice ∷ whole (codes "skip_branch") exploring.skip_branch ∷
    explicit (codes "never_explore") lock_beside ∷ explicit (codes "explore_first") exploring.explore_first ∷ []

-- about misuse and limits
abbrev pub limit_rows : List Named
limit_rows =
    few (codes "spin_alone") limits.spin_alone ∷ script (codes "fences") limits.fences ∷
    script (codes "too_many_fences") limits.too_many_fences ∷ long (codes "many_stores") limits.many_stores ∷
    script (codes "finish_twice") limits.finish_twice ∷ script (codes "exit_first") limits.exit_first ∷
    script (codes "put_absent") limits.put_absent ∷ script (codes "guard_left") limits.guard_left ∷ []

-- for walks
abbrev pub walk_rows : List Named
walk_rows = limited (codes "three_planted") walks.three_planted ∷ limited (codes "five_counting") walks.five_counting ∷ []

-- all of them
abbrev pub IsTable : List Named → Type 0
IsTable rows =
    rows ≡ first_rows ++ atomic_rows ++ cell_rows ++ lock_rows ++ channel_rows ++ waker_rows ++ value_rows ++ exploring_rows ++ limit_rows ++ walk_rows
