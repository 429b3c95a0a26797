-- The numbers by which reports name why a run failed.
use Rattle.std.specs.Prelude.{ℕ}
use Rattle.loom_views.specs.declared.rt.failure.FailureKind.{FailureKind}
use Rattle.loom_views.specs.declared.rt.failure.FailureKind.TheVariants.{Assertion, Deadlock, Race, OpenAccess, LeakArc, LeakTrack, LeakMessages, TooManyThreads, TooManyBranches, TooManyVersions, TooManyStores, TooManySteps, OrdersEqual, Misuse, Unreachable, RelaxedFence, LazyShutdown, LocalGone, ExploreSwitch, NotDeterministic, SecondWaiter, KeyTaken}

-- the number of each kind
abbrev pub number_of : FailureKind → ℕ
number_of Assertion = 1
number_of Deadlock = 2
number_of Race = 3
number_of OpenAccess = 4
number_of LeakArc = 5
number_of LeakTrack = 6
number_of LeakMessages = 7
number_of TooManyThreads = 8
number_of TooManyBranches = 9
number_of TooManyVersions = 10
number_of TooManyStores = 11
number_of TooManySteps = 12
number_of OrdersEqual = 13
number_of Misuse = 14
number_of Unreachable = 15
number_of RelaxedFence = 16
number_of LazyShutdown = 17
number_of LocalGone = 18
number_of ExploreSwitch = 19
number_of NotDeterministic = 20
number_of SecondWaiter = 21
number_of KeyTaken = 22
