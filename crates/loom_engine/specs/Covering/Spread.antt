-- A covering search that is spread over parts, as a program goes about it. Each of its runs may be cut off by what was noted when it was
-- made, so there is no one machine that makes them: of a run nothing is known but the path that it followed and the one that it left.
use Rattle.std.specs.Prelude.{ℕ, ◌≡◌, ◌⊎◌, Bool, true, false, List, [], ◌∷◌, ◌++◌, map, take, length, slice_get, Some, None}
use Rattle.loom_objects.specs.declared.choice.Choice.{Choice}
use Rattle.loom_objects.specs.Tree.Tree.{Tree}
use Rattle.loom_engine.specs.Walk.Machine.{Machine, is_thread}
use Rattle.loom_engine.specs.Walk.Path.{Pending, Stored, node_at, IsAtRest, IsResting}
use Rattle.loom_engine.specs.Walk.Driven.{IsLeftBy, IsOneOf}
use Rattle.loom_engine.specs.Walk.Lists.{Member}
use Rattle.loom_engine.specs.Runs.Body.{Meaning, runs}
use Rattle.loom_engine.specs.Trees.Meeting.{Marking, whole_search, machine_of}
use Rattle.loom_engine.specs.Trees.Machines.{IsMarking}
use Rattle.loom_engine.specs.Trees.Sound.{IsSoundTree}
use Rattle.loom_engine.specs.Path.Nodes.{stored}
use Rattle.loom_engine.specs.Parts.Cuts.{Part, IsIn, IsBelow, AreTaken, AreOpen, IsWithout}
use Rattle.loom_engine.specs.Parts.Floors.{step_above, branch_off, end_with}
use Rattle.loom_engine.specs.Parts.Openings.{chosen_to, key_at, EachOpening}
use Rattle.loom_engine.specs.Parts.Keeping.{views, keys, Stands}
use Rattle.loom_engine.specs.declared.rt.path.node.Node.{Node}
use Rattle.loom_engine.specs.declared.rt.path.opening.Opening.{Opening}
use Rattle.loom_engine.specs.declared.rt.parts.Part.{Part as Kept}
use Rattle.loom_engine.specs.declared.rt.parts.Parts.{Parts}
use Rattle.loom_views.specs.declared.rt.failure.FailureKind.{FailureKind}
use Rattle.loom_engine.specs.Covering.Covered.{AreTried, Covers, IsEnd, SkipsNone}
use Rattle.loom_engine.specs.Covering.Kept.{AreKeptAfter, Key, Noted}
use Rattle.loom_engine.specs.Covering.Sight.{IsKnown, seen_by}
use Rattle.loom_engine.specs.Covering.Sound.{IsSound}
use Rattle.loom_engine.specs.Covering.States.{AreLimits, state_after}
use Rattle.loom_engine.specs.Covering.UnderWay.{HasNode}
use Rattle.loom_engine.specs.Covering.World.{World, Ends, world_of}
use Rattle.std.specs.List.{Contains}

-- a path between two runs, of nodes that runs meet, at which no option is left out where the runs explore
pub record IsFull (m : Machine) (p : List Stored) : Type 0 where
  pub resting : IsResting m p
  pub tries : SkipsNone p

-- How far such a search may be: the paths that its runs left, the parts, the paths of the parts that are done, what was handed out, and
-- what is to be handed out.
pub data Spread (m : Machine) : List (List Stored) → List Part → List Part → List (List Choice) → List (List Choice) → Type 0 where
  begin : Spread m [] (record { base = []; path = [] } ∷ []) [] [] []
  turn : (left : List (List Stored)) (front back : List Part) (q : Part) (spent : List Part) (issued notes : List (List Choice)) → Spread m left (front ++ q ∷ back) spent issued notes
      → Spread m left (q ∷ front ++ back) spent issued notes
  -- a run, and a step above the floor
  one_run : (left : List (List Stored)) (b : List Choice) (p q later : List Stored) (parts spent : List Part) (issued notes : List (List Choice))
      → Spread m left (record { base = b; path = p } ∷ parts) spent issued notes → IsLeftBy p q → IsFull m q → step_above (length b) q ≡ Some later
      → Spread m (q ∷ left) (record { base = b; path = later } ∷ parts) spent issued notes
  -- the last one
  last_run : (left : List (List Stored)) (b : List Choice) (p q : List Stored) (parts spent : List Part) (issued notes : List (List Choice))
      → Spread m left (record { base = b; path = p } ∷ parts) spent issued notes → IsLeftBy p q → IsFull m q → step_above (length b) q ≡ None
      → Spread m (q ∷ left) parts (record { base = b; path = take (length b) q } ∷ spent) issued notes
  -- the floor is raised by one: what was tried there counts as handed out, and what is to be tried there is to be handed out
  raise : (left : List (List Stored)) (b : List Choice) (p : List Stored) (n : Stored) (parts spent : List Part) (issued notes taken open_ones : List (List Choice))
      → Spread m left (record { base = b; path = p } ∷ parts) spent issued notes → node_at p b ≡ Some n → AreTaken b n taken → AreOpen b n open_ones
      → Spread m left (record { base = b ++ n.present ∷ []; path = p } ∷ parts) spent (taken ++ issued) (open_ones ++ notes)
  -- whatever is to be handed out besides
  note : (left : List (List Stored)) (k : List Choice) (parts spent : List Part) (issued notes : List (List Choice)) → Spread m left parts spent issued notes
      → Spread m left parts spent issued (k ∷ notes)
  -- a thread that is to be tried at a schedule below the floor of some part becomes a part
  hand_out : (left : List (List Stored)) (source : Part) (before : List Choice) (n : Stored) (o : Choice) (parts spent : List Part) (issued notes less : List (List Choice))
      → Spread m left parts spent issued notes → IsIn source parts ⊎ IsIn source spent → IsBelow before source.base → node_at source.path before ≡ Some n → n.made.exploring ≡ true
      → n.status o ≡ Pending → Member (before ++ o ∷ []) notes → (Member (before ++ o ∷ []) issued → ⊥) → IsWithout (before ++ o ∷ []) notes less
      → Spread m left (record { base = before ++ o ∷ []; path = branch_off (length before) o source.path } ∷ parts) spent ((before ++ o ∷ []) ∷ issued) less
  -- so does an option of a load or of a spurious wake-up, by any node at rest that was made alike
  hand_out_value : (left : List (List Stored)) (source : Part) (before : List Choice) (n next : Stored) (parts spent : List Part) (issued notes less : List (List Choice))
      → Spread m left parts spent issued notes → IsIn source parts ⊎ IsIn source spent → IsBelow before source.base → node_at source.path before ≡ Some n
      → is_thread n.made.default ≡ false → next.made ≡ n.made → IsAtRest next → Member (before ++ next.present ∷ []) notes → (Member (before ++ next.present ∷ []) issued → ⊥)
      → IsWithout (before ++ next.present ∷ []) notes less
      → Spread m left (record { base = before ++ next.present ∷ []; path = end_with (length before) next source.path } ∷ parts) spent ((before ++ next.present ∷ []) ∷ issued) less
  drop_note : (left : List (List Stored)) (k : List Choice) (parts spent : List Part) (issued notes less : List (List Choice)) → Spread m left parts spent issued notes → Member k issued
      → IsWithout k notes less → Spread m left parts spent issued less

-- the runs of such a search have left these paths, and its parts are this list
abbrev pub IsSpread : Machine → List (List Stored) → Parts → Type 0
IsSpread m left parts = (spent : List Part) × Spread m left (views parts.list.items) spent (keys parts.trunk.items) []

-- Along each part's path a run may be made, and no two parts have the same base. Where no part is left each option was tried.
abbrev pub SpreadLaw : Type 0
SpreadLaw = (m : Machine) (left : List (List Stored)) (parts : Parts) → IsSpread m left parts
    → ((number : ℕ) (q : Kept) → slice_get parts.list.items number ≡ Some q → IsFull m (stored q.path.nodes))
    × ((i j : ℕ) (q d : Kept) → slice_get parts.list.items i ≡ Some q → slice_get parts.list.items j ≡ Some d → q.base.items ≡ d.base.items → q ≡ d)
    × (parts.list.items ≡ [] → AreTried left)

-- ---- to work on a part

-- rounds from the path p on, or none, above its first nodes: the paths that the runs left, the newest first, and the path of the next run
pub data Rounds (m : Machine) (floor : ℕ) (p : List Stored) : List (List Stored) → List Stored → Type 0 where
  no_round : Rounds m floor p [] p
  one_round : (left : List (List Stored)) (before q later : List Stored) → Rounds m floor p left before → IsLeftBy before q → IsFull m q → step_above floor q ≡ Some later
      → Rounds m floor p (q ∷ left) later

-- all of them, and of the path that the last run left the nodes below the floor
pub record AllRounds (m : Machine) (floor : ℕ) (p : List Stored) (left : List (List Stored)) (ends : List Stored) : Type 0 where
  pub earlier : List (List Stored)
  pub before : List Stored
  pub last : List Stored
  pub rounds : Rounds m floor p earlier before
  pub left_by : IsLeftBy before last
  pub full : IsFull m last
  pub none : step_above floor last ≡ None
  pub all : left ≡ last ∷ earlier
  pub stays : ends ≡ take floor last

-- rounds have led so far: more runs are left, or none
abbrev pub LeadSo : Machine → ℕ → List Stored → List (List Stored) → Bool → List Stored → Type 0
LeadSo m floor p left false q = Rounds m floor p left q
LeadSo m floor p left true q = AllRounds m floor p left q

-- Where rounds of the listed part with its base have left it so, the new list is the search's.
abbrev pub SpreadsBack : Parts → Kept → Parts → Bool → Type 0
SpreadsBack old part new false = Unit {0}
SpreadsBack old part new true =
    (m : Machine) (left more : List (List Stored)) (number : ℕ) (q : Kept) → IsSpread m left old → slice_get old.list.items number ≡ Some q → q.base.items ≡ part.base.items
    → LeadSo m (length q.base.items) (stored q.path.nodes) more part.is_done (stored part.path.nodes) → IsSpread m (more ++ left) new

-- the search goes on with other parts, and no run is made
abbrev pub SpreadsOn : Parts → Parts → Type 0
SpreadsOn old new = (m : Machine) (left : List (List Stored)) → IsSpread m left old → IsSpread m left new

-- ---- to hand options out

-- the opening's option has been handed out, and is to be no more
abbrev pub SpreadsOut : Parts → Parts → List Node → Opening → Type 0
SpreadsOut old new nodes opening = (m : Machine) (left : List (List Stored)) (out spent : List Part) (source : Part) (notes less : List (List Choice))
    → Spread m left (out ++ views old.list.items) spent (keys old.trunk.items) notes → Stands out spent nodes source → IsBelow (chosen_to opening.place nodes) source.base
    → Member (key_at nodes opening) notes → IsWithout (key_at nodes opening) notes less
    → Spread m left (out ++ views new.list.items) spent (keys new.trunk.items) less

abbrev pub SpreadsOutEach : Parts → Parts → List Node → List Opening → Type 0
SpreadsOutEach old new nodes list = (m : Machine) (left : List (List Stored)) (out spent : List Part) (source : Part)
    → Spread m left (out ++ views old.list.items) spent (keys old.trunk.items) (map (key_at nodes) list) → Stands out spent nodes source
    → EachOpening (λ opening. IsBelow (chosen_to opening.place nodes) source.base) list
    → Spread m left (out ++ views new.list.items) spent (keys new.trunk.items) []

-- ---- what it covers

-- Each state that was noted is that of a run which was, after the choices beside it, at a node of one of these paths, of a body that is
-- known never to switch whether the search explores, or of any.
pub record IsTableOf {D S : Type 0} (never : Bool) (key : List Choice → Key D S) (left : List (List Stored)) (noted : Noted D S) : Type 0 where
  pub same : noted.never ≡ never
  pub kept : AreKeptAfter key noted
  pub nodes : (c : List Choice) → Contains noted.led_by c → (q : List Stored) × IsOneOf q left × HasNode q c

module _ {A K : Type 0} (room : ℕ) (adds : Marking) (tree : Tree A) (key : List Choice → K) where
  -- A search of the tree has these parts now: its runs have left these paths, and the visitor was given those that ended. The others were
  -- cut off in states at nodes of these paths, whichever part they are of.
  pub record HasSpread (left : List (List Stored)) (given : List (List Choice × A)) (parts : Parts) : Type 0 where
    pub spread : IsSpread (machine_of (whole_search room) adds tree) left parts
    pub ends : (q : List Stored) → IsOneOf q left → IsEnd (world_of tree) key left given q

-- Where no part is left it has covered each run of the tree, however many nodes it meets, and each run of another world in which runs
-- have the same states.
abbrev pub SpreadCoversLaw : Type 0 → Type 0 → Type 0
SpreadCoversLaw A K = (limits : FailureKind → Bool) (v : World A) (room : ℕ) (adds : Marking) (tree : Tree A) (key other : List Choice → K) (left : List (List Stored)) (given : List (List Choice × A)) (parts : Parts)
    → IsSoundTree tree → IsMarking adds → Ends v → IsSound limits (world_of tree) v key other → HasSpread room adds tree key left given parts → parts.list.items ≡ [] → Covers limits (world_of tree) v given

-- So it has of a body, whose states are those of which the same is seen: each of its runs, those of more operations too.
abbrev pub SpreadBodyLaw : Type 0 → Type 0 → Type 0
SpreadBodyLaw D S = (never : Bool) (limits : FailureKind → Bool) (next : Meaning D S) (explores : Bool) (max_threads max_steps steps_too room : ℕ) (adds : Marking) (body : S) (left : List (List Stored)) (given : List (List Choice × D)) (parts : Parts)
    → IsKnown never next body → AreLimits limits → IsMarking adds → HasSpread room adds (runs next explores max_threads max_steps body) (state_after (seen_by never) next explores max_threads max_steps body) left given parts → parts.list.items ≡ []
    → Covers limits (world_of (runs next explores max_threads max_steps body)) (world_of (runs next explores max_threads steps_too body)) given
