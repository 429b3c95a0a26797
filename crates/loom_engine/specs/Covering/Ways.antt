-- Ways from the states of a check to the ends of runs: where each state has one, no run goes round for ever.
use Rattle.std.specs.Prelude.{ℕ, ◌≡◌, Bool, List, ◌++◌, Some, None, Ok, ◌⊎◌}
use Rattle.loom_objects.specs.declared.choice.Choice.{Choice}
use Rattle.loom_objects.specs.Tree.Question.{Made}
use Rattle.loom_engine.specs.Walk.Path.{Stored, choices, node_at}
use Rattle.loom_engine.specs.Walk.Driven.{IsOneOf}
use Rattle.loom_views.specs.declared.rt.failure.FailureKind.{FailureKind}
use Rattle.loom_engine.specs.Covering.World.{World, IsCalled, Ends, IsStopped}
use Rattle.loom_engine.specs.Covering.Sound.{IsSound}
use Rattle.loom_engine.specs.Covering.Covered.{IsGiven, Remembers}

module _ {A K : Type 0} (w : World A) (key : List Choice → K) (left : List (List Stored)) (runs : List (List Choice × A)) where
  -- the run that left this path ended, and the visitor was given it
  pub record HasEnded (q : List Stored) : Type 0 where
    pub value : A
    pub over : w.node (choices q) ≡ None
    pub came : w.outcome (choices q) ≡ Some (Ok value)
    pub given : IsGiven (choices q) value runs

  -- These choices are a way from the state k to an end: what is left, from a node in that state, of a run that ended; or a part of a run,
  -- from a node in that state on, and then a way from the state where that part ends.
  pub data IsWay : K → List Choice → Type 0 where
    to_end : (k : K) (way : List Choice) (q : List Stored) (b : List Choice) → IsOneOf q left → choices q ≡ b ++ way → key b ≡ k → HasEnded q → IsWay k way
    to_state : (k : K) (way : List Choice) (q : List Stored) (b rest more on : List Choice) → IsOneOf q left → choices q ≡ (b ++ rest) ++ more → key b ≡ k → IsWay (key (b ++ rest)) on → way ≡ rest ++ on → IsWay k way

  -- each node of the runs has a way from its state
  abbrev pub HaveWays : Type 0
  HaveWays = (q : List Stored) (b : List Choice) (n : Stored) → IsOneOf q left → node_at q b ≡ Some n → (way : List Choice) × IsWay (key b) way

-- After the choices c a run of v ends by this way, unless it fails by a limit before.
abbrev pub ComesToEnd : {A : Type 0} → (FailureKind → Bool) → World A → List Choice → List Choice → Type 0
ComesToEnd {A} limits v c way = ((front back : List Choice) × (way ≡ front ++ back) × IsStopped v limits (c ++ front)) ⊎ (IsCalled v (c ++ way) × (value : A) × (v.outcome (c ++ way) ≡ Some (Ok value)))

-- Where each node of the runs has a way from its state to an end, so has the state after each list of called choices of v, and by it a
-- run of v ends, limits aside. Which ways there are doesn't depend on v: so it is no way into a limit.
abbrev pub WaysLaw : Type 0 → Type 0 → Type 0
WaysLaw A K = (limits : FailureKind → Bool) (w v : World A) (key other : List Choice → K) (left : List (List Stored)) (runs : List (List Choice × A)) → Ends w → Ends v
    → IsSound limits w v key other → Remembers w key left runs
    → HaveWays w key left runs
    → (c : List Choice) (n : Made) → IsCalled v c → v.node c ≡ Some n → (way : List Choice) × IsWay w key left runs (other c) way × ComesToEnd limits v c way

-- After whatever choices a run isn't over, some choices more lead on to its end; and those do so in each of these worlds, unless its run
-- fails by a limit before.
abbrev pub CanEnd : {A : Type 0} → (FailureKind → Bool) → (ℕ → World A) → Type 0
CanEnd limits worlds = (m : ℕ) (c : List Choice) (n : Made) → IsCalled (worlds m) c → (worlds m).node c ≡ Some n
    → (way : List Choice) × ((k : ℕ) → IsCalled (worlds k) c → ComesToEnd limits (worlds k) c way)

-- Where each node of the runs of w has a way, and runs of w and of these worlds have the same states, the runs of these can end.
abbrev pub CanEndLaw : Type 0 → Type 0 → Type 0
CanEndLaw A K = (limits : FailureKind → Bool) (w : World A) (worlds : ℕ → World A) (key : List Choice → K) (keys : ℕ → List Choice → K) (left : List (List Stored)) (runs : List (List Choice × A)) → Ends w
    → ((k : ℕ) → Ends (worlds k)) → ((k : ℕ) → IsSound limits w (worlds k) key (keys k)) → ((m k : ℕ) → IsSound limits (worlds m) (worlds k) (keys m) (keys k)) → Remembers w key left runs
    → HaveWays w key left runs → CanEnd limits worlds
