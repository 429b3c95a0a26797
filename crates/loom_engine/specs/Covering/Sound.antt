-- When two runs are in the same state.
use Rattle.std.specs.Prelude.{◌≡◌, Bool, false, List, [], ◌∷◌, ◌++◌, Option, Some, None, ◌⊎◌}
use Rattle.loom_objects.specs.declared.choice.Choice.{Choice}
use Rattle.loom_objects.specs.Tree.Question.{Made}
use Rattle.loom_views.specs.declared.rt.failure.FailureKind.{FailureKind}
use Rattle.loom_engine.specs.Covering.World.{World, IsCalled, IsStopped}

-- the same options, whether the runs explore, and where they don't, the same default
abbrev pub OffersSame : Made → Made → Type 0
OffersSame m n = (m.options ≡ n.options) × (m.exploring ≡ n.exploring) × (n.exploring ≡ false → m.default ≡ n.default)

-- both runs meet a node with the same options, or both are over
abbrev pub MeetsSame : Option Made → Option Made → Type 0
MeetsSame None None = Unit {0}
MeetsSame None (Some n) = ⊥
MeetsSame (Some m) None = ⊥
MeetsSame (Some m) (Some n) = OffersSame m n

-- it is so, unless a run of w has failed by a limit after the one choices, or a run of v after the other ones
abbrev pub Unless : {A : Type 0} → (FailureKind → Bool) → World A → World A → List Choice → List Choice → Type 0 → Type 0
Unless limits w v b c so = IsStopped w limits b ⊎ IsStopped v limits c ⊎ so

module _ {A K : Type 0} (limits : FailureKind → Bool) (w v : World A) where
  -- The key of a run tells its state, after called choices. A run of w and a run of v with the same key meet the same, or have come
  -- to the same; and after the same choice they have the same key again. All this limits aside.
  pub record IsSound (key other : List Choice → K) : Type 0 where
    pub start : Unless limits w v [] [] (key [] ≡ other [])
    pub same : (b c : List Choice) → IsCalled w b → IsCalled v c → key b ≡ other c → Unless limits w v b c (MeetsSame (w.node b) (v.node c) × (w.outcome b ≡ v.outcome c))
    pub next : (b c : List Choice) (o : Choice) → IsCalled w (b ++ o ∷ []) → IsCalled v (c ++ o ∷ []) → key b ≡ other c
        → Unless limits w v (b ++ o ∷ []) (c ++ o ∷ []) (key (b ++ o ∷ []) ≡ other (c ++ o ∷ []))
