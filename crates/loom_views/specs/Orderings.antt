-- What the orderings ask for.
use Rattle.std.specs.Prelude.{Bool, true, false}
use Rattle.std.specs.declared.sync.atomic.Ordering.{Ordering}
use Rattle.std.specs.declared.sync.atomic.Ordering.TheVariants.{Relaxed, Release, Acquire, AcqRel, SeqCst}

-- a load acquires
abbrev pub is_acquire : Ordering → Bool
is_acquire Relaxed = false
is_acquire Release = false
is_acquire Acquire = true
is_acquire AcqRel = true
is_acquire SeqCst = true

-- a store releases
abbrev pub is_release : Ordering → Bool
is_release Relaxed = false
is_release Release = true
is_release Acquire = false
is_release AcqRel = true
is_release SeqCst = true

-- an access is sequentially consistent
abbrev pub is_seq_cst : Ordering → Bool
is_seq_cst Relaxed = false
is_seq_cst Release = false
is_seq_cst Acquire = false
is_seq_cst AcqRel = false
is_seq_cst SeqCst = true
