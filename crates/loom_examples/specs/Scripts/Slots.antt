-- What a thread of a script keeps: numbers in four registers, handles in eight slots.
use Rattle.std.specs.Prelude.{ℕ, ◌+◌, ◌*◌, ◌%◌, ◌^◌, List, Option, Some, None, Ok, Err, slice_get, slice_set, slice_index}
use Rattle.std.specs.List.{fold}
use Rattle.loom_objects.specs.declared.operation.Keyed.{Keyed}
use Rattle.loom_objects.specs.declared.operation.Lazy.{Lazy}
use Rattle.loom_objects.specs.declared.operation.Reply.{Reply}
use Rattle.loom_objects.specs.declared.operation.Reply.TheVariants as reply
use Rattle.loom_objects.specs.declared.operation.Name.{Name}
use Rattle.loom_objects.specs.Text.{shown}
use Rattle.loom_examples.specs.declared.scripts.state.Handle.{Handle}
use Rattle.loom_examples.specs.declared.scripts.state.Handle.TheVariants.{Empty, Object, Thread, Spawned}
use Rattle.loom_examples.specs.declared.scripts.state.State.{State}
use Rattle.loom_examples.specs.declared.scripts.state.Told.{Told}
use Rattle.loom_examples.specs.declared.scripts.state.Told.TheVariants as told
use Rattle.loom_examples.specs.declared.scripts.step.Value.{Value}
use Rattle.loom_examples.specs.declared.scripts.step.Value.TheVariants.{Plain, Held, Next, Both}

-- the number with this one behind it, as a decimal digit
abbrev pub with_digit : ℕ → ℕ → ℕ
with_digit n digit = (n * 10 + digit) % 2 ^ 64

-- a 1, and behind it the numbers
abbrev pub digits : List ℕ → ℕ
digits numbers = fold with_digit 1 numbers

-- a 1, and behind it the key and the number of each value
abbrev pub local_digits : List (Keyed ℕ) → ℕ
local_digits locals = fold (λ n local. with_digit (with_digit n local.key) local.value) 1 locals

abbrev pub lazy_digits : List (Lazy ℕ) → ℕ
lazy_digits lazies = fold (λ n lazy. with_digit (with_digit n lazy.key) lazy.value) 1 lazies

-- what stands for a thread's name: 0 for none, and else the bytes of a 1 and of the text
abbrev pub name_number : Option Name → ℕ
name_number None = 0
name_number (Some name) = fold (λ n byte. (n * 256 + byte) % 2 ^ 64) 1 (shown name.text)

-- What a step keeps of the reply: what was made or taken out, the number that an object holds or that a thread finished with,
-- or the digits of what is given back. Or in the last register what a compare-exchange found or a channel has sent back; or 1
-- where others share or have what was asked for, or there is none yet, and 2 where there will be none. An exchange that fails
-- clears its own register.
abbrev pub told_by : Reply ℕ → Told
told_by (reply.Atomic n) = told.Handle (Object n)
told_by (reply.Value n) = told.Number n
told_by (reply.Exchanged (Ok n)) = told.Number n
told_by (reply.Exchanged (Err n)) = told.Found n
told_by (reply.Data n) = told.Number n
told_by (reply.Cell n) = told.Handle (Object n)
told_by (reply.Reading cell n) = told.Number n
told_by (reply.Writing cell n) = told.Number n
told_by (reply.Arc n) = told.Handle (Object n)
told_by reply.Shared = told.Instead 1
told_by (reply.Track n) = told.Handle (Object n)
told_by (reply.Mutex n) = told.Handle (Object n)
told_by (reply.Locked mutex n) = told.Number n
told_by (reply.Waited mutex n timed_out) = told.Number n
told_by reply.WouldBlock = told.Instead 1
told_by (reply.RwLock n) = told.Handle (Object n)
told_by (reply.ReadLocked lock n) = told.Number n
told_by (reply.WriteLocked lock n) = told.Number n
told_by (reply.Condvar n) = told.Handle (Object n)
told_by (reply.Notify n) = told.Handle (Object n)
told_by (reply.Channel n) = told.Handle (Object n)
told_by reply.Empty = told.Instead 1
told_by reply.RecvError = told.Instead 2
told_by reply.Disconnected = told.Instead 2
told_by (reply.SendError n) = told.Instead n
told_by (reply.Messages numbers) = told.Number (digits numbers)
told_by (reply.BlockOn n) = told.Handle (Object n)
told_by (reply.Waker n) = told.Handle (Object n)
told_by reply.NoWaker = told.Instead 1
told_by (reply.AtomicWaker n) = told.Handle (Object n)
told_by reply.Absent = told.Instead 1
told_by reply.AccessError = told.Instead 2
told_by (reply.Stood one other) = told.Number (with_digit one other)
told_by (reply.Locals locals) = told.Number (local_digits locals)
told_by (reply.Lazies lazies) = told.Number (lazy_digits lazies)
told_by (reply.Thread thread name) = told.Named (Thread thread) (name_number name)
told_by (reply.Spawned thread name notifier) = told.Handle (Spawned thread notifier)
told_by answer = told.Nothing

-- the register holds the number, if there is such a register
abbrev pub put_number : State → ℕ → ℕ → State
put_number s register n = record s { registers = slice_set s.registers register n }

-- the slot that the last step names keeps the handle, if there is such a slot
abbrev pub put_handle : State → Handle → State
put_handle s handle = record s { slots = slice_set s.slots s.keep handle }

abbrev pub kept_told : State → Told → State
kept_told s told.Nothing = s
kept_told s (told.Number n) = put_number s s.keep n
kept_told s (told.Instead n) = put_number s 3 n
kept_told s (told.Found n) = put_number (put_number s s.keep 0) 3 n
kept_told s (told.Handle handle) = put_handle s handle
kept_told s (told.Named handle n) = put_number (put_handle s handle) s.keep n

-- what the reply tells is kept where the last step says
abbrev pub kept : State → Reply ℕ → State
kept s answer = kept_told s (told_by answer)

-- what the register holds, or 0 where there is none
abbrev pub held : State → ℕ → ℕ
held s register = slice_index s.registers register

-- the number that the value stands for
abbrev pub number_of : State → Value → ℕ
number_of s (Plain n) = n
number_of s (Held register) = held s register
number_of s (Next register) = (held s register + 1) % 2 ^ 64
number_of s (Both one other) = (held s one * 10 + held s other) % 2 ^ 64

abbrev pub handle_in : Option Handle → Handle
handle_in None = Empty
handle_in (Some handle) = handle

-- what the slot keeps
abbrev pub handle_at : State → ℕ → Handle
handle_at s slot = handle_in (slice_get s.slots slot)

abbrev pub object_of : Handle → Option ℕ
object_of Empty = None
object_of (Object n) = Some n
object_of (Thread thread) = None
object_of (Spawned thread notifier) = None

-- the number of the object in the slot
abbrev pub object : State → ℕ → Option ℕ
object s slot = object_of (handle_at s slot)

abbrev pub thread_of : Handle → Option ℕ
thread_of Empty = None
thread_of (Object n) = None
thread_of (Thread thread) = Some thread
thread_of (Spawned thread notifier) = Some thread

-- the thread in the slot
abbrev pub thread : State → ℕ → Option ℕ
thread s slot = thread_of (handle_at s slot)

abbrev pub notifier_of : Handle → Option ℕ
notifier_of Empty = None
notifier_of (Object n) = None
notifier_of (Thread thread) = None
notifier_of (Spawned thread notifier) = Some notifier

-- the notifier of the thread in the slot
abbrev pub notifier : State → ℕ → Option ℕ
notifier s slot = notifier_of (handle_at s slot)
