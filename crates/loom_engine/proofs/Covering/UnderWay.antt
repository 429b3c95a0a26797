-- A run of a body with a table of states, from turn to turn, and its outcome.
use Rattle.std.proofs.Common.{◌≡◌, ◌<◌, ◌≤◌, ◌⊎◌, ℕ, zero, suc, arith, length-append, Bool, true, false, List, [], ◌∷◌, ◌++◌, length, take, Option, Some, None, Ok, Err, refl, ap, ap₂, sym, ◌∙◌, subst, inl, inr}
use Rattle.std.specs.Prelude.{map, slice_get, slice_set}
use Rattle.std.specs.List.{Contains}
use Rattle.std.proofs.lemmas.List.{length-take-le}
use Rattle.std.proofs.lemmas.List.Elements.{Contains-append_cases}
use Rattle.loom_views.specs.Laws.Moves.{none}
use Rattle.loom_views.specs.declared.rt.failure.FailureKind.{FailureKind}
use Rattle.loom_views.specs.declared.rt.failure.FailureKind.TheVariants.{Misuse}
use Rattle.loom_views.specs.declared.rt.views.Views.{Views}
use Rattle.loom_views.specs.InOrder.{IsInOrder}
use Rattle.loom_objects.specs.declared.choice.Choice.{Choice}
use Rattle.loom_objects.specs.declared.operation.Reply.{Reply}
use Rattle.loom_objects.specs.declared.operation.Reply.TheVariants as reply
use Rattle.loom_objects.specs.declared.operation.Turn.{Turn}
use Rattle.loom_objects.specs.declared.operation.Turn.TheVariants as turn
use Rattle.loom_objects.specs.declared.rt.exploring.Exploring.TheVariants.{On}
use Rattle.loom_objects.specs.Exploring.{is_on}
use Rattle.loom_objects.specs.Operation.Labelled.{Op}
use Rattle.loom_objects.specs.Operation.Plain.{plain, started}
use Rattle.loom_objects.specs.Schedule.Offers.{offers}
use Rattle.loom_objects.specs.Tree.Asked.{which_thread}
use Rattle.loom_objects.specs.Tree.Tree.{Tree, Gives, Fails, ◌>>=◌, found}
use Rattle.loom_engine.specs.declared.rt.execution.Begun.{Begun}
use Rattle.loom_engine.specs.declared.rt.execution.Begun.TheVariants as begun
use Rattle.loom_engine.specs.declared.rt.execution.Progress.{Progress}
use Rattle.loom_engine.specs.declared.rt.states.State.{State as Kept}
use Rattle.loom_engine.specs.Begun.{begins_at, goes_further}
use Rattle.loom_engine.specs.Execution.{ShowsCourse}
use Rattle.loom_engine.specs.Path.Route.{Route}
use Rattle.loom_engine.specs.Runs.Body.{Meaning, handed, play, with_child}
use Rattle.loom_engine.specs.Runs.Course.{Course, opening, unordered_in}
use Rattle.loom_engine.specs.Runs.Machine.{chooses, further, further_branches, passes, schedule}
use Rattle.loom_engine.specs.Trees.Meeting.{Marking, whole_search}
use Rattle.loom_engine.specs.Trees.Drive.{Trail, at_start, drive}
use Rattle.loom_engine.specs.Trees.Retracing.{BeginsWith, standing_at}
use Rattle.loom_engine.specs.Walk.Path.{Stored, choices, node_at}
use Rattle.loom_engine.specs.Covering.Cut.{cut, passed}
use Rattle.loom_engine.specs.Covering.Kept.{AreKeptAfter, GrowsFrom, IsKeptOf, Key, Noted, NotesAs, state_in}
use Rattle.loom_engine.specs.Covering.Moments.{Moment, Next, Stand, first_stand, handing, settled, stand_after, to_schedule}
use Rattle.loom_engine.specs.Covering.Parts.{IsEnded, LeadsOn, StayThere, TurnsOn, on_begun, on_turn}
use Rattle.loom_engine.specs.Covering.Sight.{seen_by}
use Rattle.loom_engine.specs.Covering.States.{seen_in, state_of}
use Rattle.loom_engine.specs.Covering.Table.{HasState, IsAlong}
use Rattle.loom_engine.specs.Covering.UnderWay.{HasNode, IsLed, IsOpen, LeadsUncut, StoodAt, after_begun, onward}
use Rattle.loom_engine.specs.Covering.UnderWay as under
use Rattle.loom_engine.proofs.Covering.Begun.{beginning_law}
use Rattle.loom_engine.proofs.Covering.Handing.{handing_law}
use Rattle.loom_engine.proofs.Covering.Kept.{has_at, kept_law}
use Rattle.loom_engine.proofs.Covering.Led.{begun_along, schedule_along}
use Rattle.loom_engine.proofs.Covering.Nodes.{nodes_law}
use Rattle.loom_engine.proofs.Covering.Parts.{NoMore, begins_open, begun_law}
use Rattle.loom_engine.proofs.Covering.Turns.{schedule_law}
use Rattle.loom_engine.proofs.Covering.Unfolding.{bound}
use Rattle.loom_engine.proofs.Walk.Lists.{node_chooses, node_on as on_path, not_longer}
use Rattle.loom_engine.proofs.Runs.Closing.{HasEnded, schedule_open}
use Rattle.loom_engine.proofs.Trees.Retracing.{begins_front, begins_long, begins_on, keeps}
use Rattle.loom_engine.proofs.Covering.Way.{it_was, just_at, never, way_begins, way_ends, way_fails, way_on, way_same, way_stops}

-- ---- lists of states

is_alone : {X : Type 0} (x y : X) → Contains (x ∷ []) y → y ≡ x
is_alone x y (zero, l, e) = sym e
is_alone x y (suc k, l, e) = absurd (omega (arith, l))

-- what is mapped has the values of the items, and of nothing else
pub in_map : {X Y : Type 0} (f : X → Y) (xs : List X) (x : X) → Contains xs x → Contains (map f xs) (f x)
in_map f [] x (k, l, e) = absurd (omega (arith, l))
in_map f (y ∷ xs) x (zero, l, e) = (0, omega arith, ap f e)
in_map f (y ∷ xs) x (suc k, l, e) = let z = in_map f xs x (k, omega (arith, l), e) in (suc z.0, omega (arith, z.1), z.2)

pub mapped : {X Y : Type 0} (f : X → Y) (xs : List X) (y : Y) → Contains (map f xs) y → (x : X) × Contains xs x × (f x ≡ y)
mapped f [] y (k, l, e) = absurd (omega (arith, l))
mapped f (x ∷ xs) y (zero, l, e) = (x, (0, omega arith, refl), e)
mapped f (x ∷ xs) y (suc k, l, e) = let z = mapped f xs y (k, omega (arith, l), e) in (z.0, (suc z.1.0, omega (arith, z.1.1), z.1.2), z.2)

-- an item of two lists of the same length, each with one more
module _ {X Y : Type 0} (x : X) (y : Y) where
  beside : (xs : List X) (ys : List Y) (k : ℕ) (a : X) → length ys ≡ length xs → slice_get (xs ++ x ∷ []) k ≡ Some a
      → (slice_get xs k ≡ Some a) ⊎ ((slice_get (ys ++ y ∷ []) k ≡ Some y) × (a ≡ x))
  beside [] [] zero a l e = inr (refl, cc e)
  beside [] [] (suc k) a l e = absurd (cc e)
  beside [] (z ∷ ys) k a l e = absurd (omega (arith, l))
  beside (w ∷ xs) [] k a l e = absurd (omega (arith, l))
  beside (w ∷ xs) (z ∷ ys) zero a l e = inl e
  beside (w ∷ xs) (z ∷ ys) (suc k) a l e = beside xs ys k a (omega (arith, l)) e

pub within : {X : Type 0} (xs : List X) (k : ℕ) (x : X) → slice_get xs k ≡ Some x → k < length xs
within [] k x e = absurd (cc e)
within (y ∷ xs) zero x e = omega arith
within (y ∷ xs) (suc k) x e = let z : k < length xs = within xs k x e in omega arith

-- an item of a list with one more
at_last : {X : Type 0} (xs : List X) (x : X) (k : ℕ) (a : X) → slice_get (xs ++ x ∷ []) k ≡ Some a → (slice_get xs k ≡ Some a) ⊎ ((k ≡ length xs) × (a ≡ x))
at_last [] x zero a e = inr (refl, cc e)
at_last [] x (suc k) a e = absurd (cc e)
at_last (y ∷ xs) x zero a e = inl e
at_last (y ∷ xs) x (suc k) a e = by (at_last xs x k a e)
  where
    by : (slice_get xs k ≡ Some a) ⊎ ((k ≡ length xs) × (a ≡ x)) → (slice_get xs k ≡ Some a) ⊎ ((suc k ≡ suc (length xs)) × (a ≡ x))
    by (inl h) = inl h
    by (inr (i, f)) = inr (ap suc i, f)

-- ---- lengths of paths

as_many : (q : List Stored) → length (choices q) ≡ length q
as_many [] = refl
as_many (n ∷ q) = ap suc (as_many q)

-- a node comes before the path's end
pub node_within : (q : List Stored) (c : List Choice) (n : Stored) → node_at q c ≡ Some n → length c < length q
node_within q c n at =
    let a = node_chooses q c n at in
    let all : length q ≡ length (c ++ n.present ∷ a.0) = sym (as_many q) ∙ ap length a.1 in
    omega (arith, all, length-append c (n.present ∷ a.0))

last_node : (n : Stored) (q : List Stored) → (c : List Choice) × (k : Stored) × (node_at (n ∷ q) c ≡ Some k) × (suc (length c) ≡ length (n ∷ q))
unfolding node_at
last_node n [] = ([], n, refl, refl)
last_node n (m ∷ q) = let z = last_node m q in (n.present ∷ z.0, z.1, on_path n (m ∷ q) n.present z.0 refl ∙ z.2, ap suc z.3)

-- a path that keeps nodes is no shorter
stay_longer : (p q : List Stored) → ((c : List Choice) (n : Stored) → node_at p c ≡ Some n → node_at q c ≡ Some n) → length p ≤ length q
stay_longer [] q stay = omega arith
stay_longer (n ∷ p) q stay = let z = last_node n p in let l = node_within q z.0 z.1 (stay z.0 z.1 z.2) in omega (arith, l, z.3)

still_there : {X : Type 0} (xs : List X) (x : X) (k : ℕ) (a : X) → slice_get xs k ≡ Some a → slice_get (xs ++ x ∷ []) k ≡ Some a
still_there [] x k a e = absurd (cc e)
still_there (y ∷ xs) x zero a e = e
still_there (y ∷ xs) x (suc k) a e = still_there xs x k a e

-- one more state, that after these choices
one_more : {D S : Type 0} (key : List Choice → Key D S) (noted grown : Noted D S) (state : Kept D S) (c : List Choice) → grown.states ≡ noted.states ++ state ∷ [] → grown.led_by ≡ noted.led_by ++ c ∷ [] → grown.never ≡ noted.never
    → IsKeptOf noted.never state (key c) → AreKeptAfter key noted → AreKeptAfter key grown
one_more {D} {S} key noted grown state c more led never is are = record {
  counted = ap length led ∙ longer noted.led_by c ∙ ap suc are.counted ∙ sym (longer noted.states state) ∙ ap length (sym more);
  each = λ k one at. subst (λ (b : Bool). (d : List Choice) × (slice_get grown.led_by k ≡ Some d) × IsKeptOf b one (key d)) (sym never) (each k one (beside state c noted.states noted.led_by k one are.counted (subst (λ (l : List (Kept D S)). slice_get l k ≡ Some one) more at)));
}
  where
    longer : {X : Type 0} (xs : List X) (x : X) → length (xs ++ x ∷ []) ≡ suc (length xs)
    longer [] x = refl
    longer (y ∷ xs) x = ap suc (longer xs x)

    each : (k : ℕ) (one : Kept D S) → (slice_get noted.states k ≡ Some one) ⊎ ((slice_get (noted.led_by ++ c ∷ []) k ≡ Some c) × (one ≡ state))
        → (d : List Choice) × (slice_get grown.led_by k ≡ Some d) × IsKeptOf noted.never one (key d)
    each k one (inl at) =
        let z = are.each k one at in (z.0, subst (λ (l : List (List Choice)). slice_get l k ≡ Some z.0) (sym led) (still_there noted.led_by c k z.0 z.1), z.2)
    each k one (inr at) = (c, subst (λ (l : List (List Choice)). slice_get l k ≡ Some c) (sym led) at.0, subst (λ (x : Kept D S). IsKeptOf noted.never x (key c)) (sym at.1) is)

module _ {D S : Type 0} (room : ℕ) (adds : Marking) (next : Meaning D S) (explores : Bool) (max_threads max_steps : ℕ) (body : S) (p : List Stored) (old : Noted D S) where
  abbrev tree : Tree D
  tree = under.tree room adds next explores max_threads max_steps body p old

  abbrev key : List Choice → Key D S
  key c = under.key room adds next explores max_threads max_steps body p old c

  abbrev IsOnWay : Trail → Tree D → Stand D S → Type 0
  IsOnWay path ahead stand = under.IsOnWay room adds next explores max_threads max_steps body p old path ahead stand

  abbrev keys : Noted D S → List (Key D S)
  keys noted = under.keys room adds next explores max_threads max_steps body p old noted

  abbrev Tables : Noted D S → Trail → Type 0
  Tables noted path = under.Tables room adds next explores max_threads max_steps body p old noted path

  abbrev AreLater : Noted D S → Trail → Type 0
  AreLater noted path = under.AreLater room adds next explores max_threads max_steps body p old noted path

  abbrev EndsIn : ℕ → Trail → Noted D S → Type 0
  EndsIn number path noted = under.EndsIn room adds next explores max_threads max_steps body p old number path noted

  abbrev AtTurn : Trail → ℕ → List S → Course D → ℕ → Reply D → Type 0
  AtTurn path left bodies c thread answer = under.AtTurn room adds next explores max_threads max_steps body p old path left bodies c thread answer

  abbrev IsHanding : Trail → ℕ → List S → Course D → Op D S → Type 0
  IsHanding path left bodies c op = under.IsHanding room adds next explores max_threads max_steps body p old path left bodies c op

  abbrev AtBranch : Trail → ℕ → List S → Course D → Type 0
  AtBranch path left bodies c = under.AtBranch room adds next explores max_threads max_steps body p old path left bodies c

  -- what comes of a turn: the next one, or the run's end
  abbrev pub TurnIs : Trail → ℕ → List S → Course D → Turn D → Type 0
  TurnIs path left bodies c (turn.Reply thread answer) = AtTurn path left bodies c thread answer
  TurnIs path left bodies c (turn.Start thread) = AtTurn path left bodies c thread reply.Start
  TurnIs path left bodies c (turn.Ended value) = drive (whole_search room) adds (cut never [] tree) (at_start p) ≡ (Ok (Some value), path)

  -- what was noted before, or at a node of the path
  abbrev IsOfBefore : Trail → List Choice → Type 0
  IsOfBefore path c = Contains old.led_by c ⊎ HasNode path.nodes c

  still : (path after : Trail) (c : List Choice) → StayThere path after → HasNode path.nodes c → HasNode after.nodes c
  still path after c stay has = record { node = has.node; at = stay c has.node has.at }

  of_before : (path after : Trail) (c : List Choice) → StayThere path after → IsOfBefore path c → IsOfBefore after c
  of_before path after c stay (inl has) = inl has
  of_before path after c stay (inr has) = inr (still path after c stay has)

  pub tables_same : (noted more : Noted D S) (path after : Trail) → more ≡ noted → StayThere path after → Tables noted path → Tables more after
  tables_same noted more path after same stay tables = record {
    explained = subst (λ (x : Noted D S). AreKeptAfter key x) (sym same) tables.explained;
    grows = subst (λ (x : Noted D S). GrowsFrom old x) (sym same) tables.grows;
    never = ap (λ (x : Noted D S). x.never) same ∙ tables.never;
    later = subst (λ (x : Noted D S). AreLater x after) (sym same) (record {
      there = λ k c l at. let z = tables.later.there k c l at in (still path after c stay z.0, z.1);
      ordered = tables.later.ordered;
    });
    known = λ c has. of_before path after c stay (tables.known c (subst (λ (x : Noted D S). Contains x.led_by c) same has));
  }

  pub tables_begin : AreKeptAfter key old → Tables old (at_start p)
  tables_begin are = record {
    explained = are;
    grows = λ k c at. at;
    never = refl;
    later = record { there = λ k c l at. absurd (let z = within old.led_by k c at in omega (arith, l, z)); ordered = λ k m c d l h at there. absurd (let z = within old.led_by m d there in omega (arith, l, h, z)) };
    known = λ c has. inl has;
  }

  -- a state in the table is one from before, or a node's
  in_table : (noted : Noted D S) (path : Trail) (tables : Tables noted path) (k : Key D S) → Contains (keys noted) k → Contains (keys old) k ⊎ HasState key path.nodes k
  in_table noted path tables k has = by (mapped key noted.led_by k has)
    where
      of_key : (c : List Choice) → key c ≡ k → IsOfBefore path c → Contains (keys old) k ⊎ HasState key path.nodes k
      of_key c e (inl there) = inl (subst (λ (x : Key D S). Contains (keys old) x) e (in_map key old.led_by c there))
      of_key c e (inr has) = inr (c, has.node, has.at, e)

      by : (c : List Choice) × Contains noted.led_by c × (key c ≡ k) → Contains (keys old) k ⊎ HasState key path.nodes k
      by (c, there, e) = of_key c e (tables.known c there)

  -- a run that has ended, or failed
  pub ended_along : (noted : Noted D S) (path : Trail) (value : D) (tables : Tables noted path) → drive (whole_search room) adds (cut never [] tree) (at_start p) ≡ (Ok (Some value), path)
      → IsAlong room adds tree key (keys old) p (Ok (Some value)) path (keys noted)
  ended_along noted path value tables e = record { stop = never; past = λ b n at. refl; stops = λ c h. absurd (cc h); notes = λ ended same k has. in_table noted path tables k has; comes = e }

  pub failed_along : (new : List (Key D S)) (path : Trail) (kind : FailureKind) → drive (whole_search room) adds (cut never [] tree) (at_start p) ≡ (Err kind, path)
      → IsAlong room adds tree key (keys old) p (Err kind) path new
  failed_along new path kind e = record { stop = never; past = λ b n at. refl; stops = λ c h. absurd (cc h); notes = λ ended same k has. absurd (cc same); comes = e }

  pub turn_begins : AtTurn (at_start p) (suc max_steps) (body ∷ []) (opening explores max_threads max_steps) 0 reply.Start
  turn_begins = record { last = None; since = []; way = way_begins room adds next tree (first_stand next explores max_threads max_steps body) p _ refl; led = none }

  -- ---- a run that goes on from where another one was

  same_choices_begin : (front q : List Stored) → BeginsWith front q → choices (take (length front) q) ≡ choices front
  same_choices_begin [] q b = refl
  same_choices_begin (n ∷ front) [] b = absurd b
  same_choices_begin (n ∷ front) (m ∷ q) b = ap₂ (λ (x : Choice) (l : List Choice). x ∷ l) b.0.present (same_choices_begin front q b.1)

  module _ (front : List Stored) (left : ℕ) (bodies : List S) (c : Course D) (stood : StoodAt room adds next explores max_threads max_steps body front left bodies c) (b : BeginsWith front p) where
    abbrev ahead : Tree D
    ahead = schedule further_branches c >>= onward next left bodies

    abbrev here : Trail
    here = standing_at (length front) (at_start p)

    same : passed here ≡ choices front
    same = same_choices_begin front p b

    long : length (take (length front) p) ≡ length front
    long = length-take-le (length front) p (begins_long front p b)

    leads_here : LeadsUncut room adds tree (take (length front) p) ahead
    leads_here stop open_ q from =
        stood.leads stop (subst (IsOpen stop) same open_) q (begins_on front (take (length front) p) q.nodes (begins_front front p b) from)
        ∙ ap₂ (λ (l : List Choice) (k : ℕ). drive (whole_search room) adds (cut stop l ahead) (standing_at k q)) (sym same) (sym long)

    -- along a path that begins so
    pub goes_on_there : AtBranch here left bodies c
    goes_on_there = record {
      last = stood.last;
      since = stood.since;
      way = record {
        within = begins_long front p b;
        cuts = λ stop open_.
            stood.leads stop (subst (IsOpen stop) same open_) (at_start p) b
            ∙ ap (λ (l : List Choice). drive (whole_search room) adds (cut stop l ahead) here) (sym same);
        leads = leads_here;
        stays = λ d n at. at;
        stands = ap (stand_after next (first_stand next explores max_threads max_steps body)) same ∙ stood.stands;
      };
      led = stood.led;
    }

  -- ---- an operation that is handed over

  module _ (left : ℕ) (bodies : List S) (c : Course D) (thread : ℕ) (answer : Reply D) (before after : S) (op : Op D S) (here : slice_get bodies thread ≡ Some before) (step : (after, op) ≡ next before answer) where
    abbrev more : List S
    more = with_child (slice_set bodies thread after) (started op)

    played : play next (suc left) bodies c thread answer ≡ begins_at (plain op) c >>= after_begun next left more
    unfolding play
    played =
        ap (λ (o : Option S). found o Misuse >>= (λ b. handed (play next left) bodies c thread (next b answer))) here
        ∙ ap (λ (x : S × Op D S). handed (play next left) bodies c thread x) (sym step)
        ∙ ap (λ (t : Tree (Turn D × Course D)). t >>= onward next left more) (beginning_law (plain op) c)
        ∙ bound (begins_at (plain op) c) goes_further (onward next left more)

    scheduled : to_schedule next (suc left) bodies c thread answer ≡ begins_at (plain op) c >>= on_begun (to_schedule next left more) left more
    unfolding to_schedule
    scheduled =
        ap (λ (o : Option S). found o Misuse >>= (λ b. handing (to_schedule next left) left bodies c thread (next b answer))) here
        ∙ ap (λ (x : S × Op D S). handing (to_schedule next left) left bodies c thread x) (sym step)
        ∙ handing_law (to_schedule next left) left bodies c thread after op

    -- the thread gets the reply, and its body hands over an operation
    pub hands_over : (path : Trail) → AtTurn path (suc left) bodies c thread answer → IsHanding path left (slice_set bodies thread after) c op
    hands_over path at = record {
      last = at.last;
      since = at.since;
      way =
          way_same room adds next tree (first_stand next explores max_threads max_steps body) p path (play next (suc left) bodies c thread answer) _ (settled next at.last at.since (to_schedule next (suc left) bodies c thread answer)) _ at.way played
          (ap (λ (t : Tree (Next D S)). settled next at.last at.since t) scheduled);
      led = at.led;
    }

  -- there is no body for the thread
  pub nobody : (path : Trail) (left : ℕ) (bodies : List S) (c : Course D) (thread : ℕ) (answer : Reply D) → AtTurn path (suc left) bodies c thread answer → slice_get bodies thread ≡ None
      → drive (whole_search room) adds (cut never [] tree) (at_start p) ≡ (Err Misuse, path)
  unfolding play
  nobody path left bodies c thread answer at away =
      way_fails room adds next tree (first_stand next explores max_threads max_steps body) p (Fails Misuse) (λ (value : D). Gives value) Misuse path path (settled next at.last at.since (to_schedule next (suc left) bodies c thread answer))
      (way_same room adds next tree (first_stand next explores max_threads max_steps body) p path (play next (suc left) bodies c thread answer) (Fails Misuse) (settled next at.last at.since (to_schedule next (suc left) bodies c thread answer))
      (settled next at.last at.since (to_schedule next (suc left) bodies c thread answer)) at.way (ap (λ (o : Option S). found o Misuse >>= (λ b. handed (play next left) bodies c thread (next b answer))) away) refl)
      refl

  module _ (path : Trail) (left : ℕ) (bodies : List S) (c : Course D) (op : Op D S) (at : IsHanding path left bodies c op) where
    abbrev all : List S
    all = with_child bodies (started op)

    -- it fails as it begins
    pub fails_begun : (kind : FailureKind) (end : Trail) → drive (whole_search room) adds (begins_at (plain op) c) path ≡ (Err kind, end)
        → drive (whole_search room) adds (cut never [] tree) (at_start p) ≡ (Err kind, end)
    fails_begun kind end e = way_fails room adds next tree (first_stand next explores max_threads max_steps body) p (begins_at (plain op) c) (after_begun next left all) kind path end _ at.way e

    -- it comes so far
    module _ (came : Begun D × Course D) (end : Trail) (e : drive (whole_search room) adds (begins_at (plain op) c) path ≡ (Ok came, end)) where
      led_so : IsLed came.1
      led_so = begun_along (whole_search room) adds path end c at.led (plain op) came e

      leads : LeadsOn next at.last at.since (begins_at (plain op) c) (on_begun (to_schedule next left all) left all) path came end
      leads = begun_law room adds next at.last at.since (plain op) c (on_begun (to_schedule next left all) left all) path end came at.way.within e

      begun_way : IsOnWay end (after_begun next left all came) (settled next at.last (at.since ++ leads.between) (on_begun (to_schedule next left all) left all came))
      begun_way =
          way_on room adds next tree (first_stand next explores max_threads max_steps body) p NoMore (begins_at (plain op) c) (after_begun next left all) came path end _ at.way (begins_open (plain op) c) (λ h. h) e _ leads.between leads.passes leads.stands

      -- the path keeps its nodes
      pub stays_begun : StayThere path end
      stays_begun = (nodes_law {A = Begun D × Course D} room adds).stay (begins_at (plain op) c) path end came at.way.within e

      -- and they are there later on
      pub keeps_begun : BeginsWith path.nodes end.nodes
      keeps_begun = (keeps room adds came end (begins_at (plain op) c) path at.way.within e).kept

    -- up to another turn
    pub turned_begun : (turn : Turn D) (v : Course D) (end : Trail) → drive (whole_search room) adds (begins_at (plain op) c) path ≡ (Ok (begun.Turn turn, v), end) → TurnIs end left all v turn
    turned_begun (turn.Reply t told) v end e = record {
      last = at.last;
      since = at.since ++ (leads (begun.Turn (turn.Reply t told), v) end e).between;
      way = begun_way (begun.Turn (turn.Reply t told), v) end e;
      led = led_so (begun.Turn (turn.Reply t told), v) end e;
    }
    turned_begun (turn.Start t) v end e = record {
      last = at.last;
      since = at.since ++ (leads (begun.Turn (turn.Start t), v) end e).between;
      way = begun_way (begun.Turn (turn.Start t), v) end e;
      led = led_so (begun.Turn (turn.Start t), v) end e;
    }
    turned_begun (turn.Ended value) v end e =
        way_ends room adds next tree (first_stand next explores max_threads max_steps body) p (begins_at (plain op) c) (after_begun next left all) (begun.Turn (turn.Ended value), v) value path end _ at.way e refl

    -- up to its branch point
    pub branched_begun : (v : Course D) (end : Trail) → drive (whole_search room) adds (begins_at (plain op) c) path ≡ (Ok (begun.AtBranch, v), end) → AtBranch end left all v
    branched_begun v end e = record {
      last = at.last;
      since = at.since ++ (leads (begun.AtBranch, v) end e).between;
      way = begun_way (begun.AtBranch, v) end e;
      led = led_so (begun.AtBranch, v) end e;
    }

  -- ---- a schedule

  module _ (path : Trail) (left : ℕ) (bodies : List S) (c : Course D) (at : AtBranch path left bodies c) where
    pub fails_on : (kind : FailureKind) (end : Trail) → drive (whole_search room) adds (schedule further_branches c) path ≡ (Err kind, end)
        → drive (whole_search room) adds (cut never [] tree) (at_start p) ≡ (Err kind, end)
    fails_on kind end e = way_fails room adds next tree (first_stand next explores max_threads max_steps body) p (schedule further_branches c) (onward next left bodies) kind path end _ at.way e

    turned_so : (turn : Turn D) (v : Course D) (end : Trail) → (IsEnded turn → ⊥) → drive (whole_search room) adds (schedule further_branches c) path ≡ (Ok (turn, v), end)
        → TurnsOn next (record { bodies = bodies; course = c; more = further_branches; left = left }) path (turn, v) end
        → (last : Option (Moment D S)) × (since : List Choice) × IsOnWay end (onward next left bodies (turn, v)) (settled next last since (on_turn (to_schedule next left bodies) (turn, v)))
    turned_so turn v end is_open e on = (
      on.last,
      on.since,
      way_on room adds next tree (first_stand next explores max_threads max_steps body) p HasEnded (schedule further_branches c) (onward next left bodies) (turn, v) path end _ at.way (schedule_open further_branches c) is_open e _ on.between on.passes on.stands,
    )

    led_on : (turn : Turn D) (v : Course D) (end : Trail) → drive (whole_search room) adds (schedule further_branches c) path ≡ (Ok (turn, v), end) → IsLed v
    led_on turn v end e = schedule_along (whole_search room) adds path end c at.led further_branches turn v e

    pub turned_on : (turn : Turn D) (v : Course D) (end : Trail) → drive (whole_search room) adds (schedule further_branches c) path ≡ (Ok (turn, v), end) → TurnIs end left bodies v turn
    turned_on (turn.Reply t told) v end e = by (schedule_law room adds next (record { bodies = bodies; course = c; more = further_branches; left = left }) path end (turn.Reply t told, v) at.way.within e)
      where
        by : IsEnded {D = D} (turn.Reply t told) ⊎ TurnsOn next (record { bodies = bodies; course = c; more = further_branches; left = left }) path (turn.Reply t told, v) end → AtTurn end left bodies v t told
        by (inl h) = absurd h
        by (inr on) = let z = turned_so (turn.Reply t told) v end (λ h. h) e on in record { last = z.0; since = z.1; way = z.2; led = led_on (turn.Reply t told) v end e }
    turned_on (turn.Start t) v end e = by (schedule_law room adds next (record { bodies = bodies; course = c; more = further_branches; left = left }) path end (turn.Start t, v) at.way.within e)
      where
        by : IsEnded {D = D} (turn.Start t) ⊎ TurnsOn next (record { bodies = bodies; course = c; more = further_branches; left = left }) path (turn.Start t, v) end → AtTurn end left bodies v t reply.Start
        by (inl h) = absurd h
        by (inr on) = let z = turned_so (turn.Start t) v end (λ h. h) e on in record { last = z.0; since = z.1; way = z.2; led = led_on (turn.Start t) v end e }
    turned_on (turn.Ended value) v end e =
        way_ends room adds next tree (first_stand next explores max_threads max_steps body) p (schedule further_branches c) (onward next left bodies) (turn.Ended value, v) value path end _ at.way e refl

    -- it is kept so
    pub stood_there : StoodAt room adds next explores max_threads max_steps body (take path.position path.nodes) left bodies c
    stood_there = record { last = at.last; since = at.since; stands = at.way.stands; led = at.led; leads = at.way.leads }

    -- the path's nodes are there later on
    pub keeps_on : (came : Turn D × Course D) (end : Trail) → drive (whole_search room) adds (schedule further_branches c) path ≡ (Ok came, end) → BeginsWith path.nodes end.nodes
    keeps_on came end e = (keeps room adds came end (schedule further_branches c) path at.way.within e).kept

    -- the path keeps its nodes, and has one where it was
    pub stays_on : (came : Turn D × Course D) (end : Trail) → drive (whole_search room) adds (schedule further_branches c) path ≡ (Ok came, end) → StayThere path end
    stays_on came end e = (nodes_law {A = Turn D × Course D} room adds).stay (schedule further_branches c) path end came at.way.within e

    asked_first : (k : ℕ) → schedule (suc k) c ≡ passes c >>= further (schedule k)
    unfolding schedule
    asked_first k = refl

    asks_so : (n k : ℕ) → n ≡ suc k → schedule n c ≡ passes c >>= further (schedule k)
    asks_so n k e = ap (λ (m : ℕ). schedule m c) e ∙ asked_first k

    asks : schedule further_branches c ≡ passes c >>= further (schedule 999999)
    asks = asks_so further_branches 999999 refl

    pub node_on : (came : Turn D × Course D) (end : Trail) → drive (whole_search room) adds (schedule further_branches c) path ≡ (Ok came, end) → (n : Stored) × (node_at end.nodes (passed path) ≡ Some n)
    node_on came end e =
        (nodes_law {A = Turn D × Course D} room adds).first (which_thread (is_on c.exploring) (offers c.world) (unordered_in c)) (λ o. chooses c o >>= further (schedule 999999)) path end came at.way.within (ap (λ (t : Tree (Turn D × Course D)). drive (whole_search room) adds t path) (sym asks) ∙ e)

    -- the state at hand
    pub key_here : key (passed path) ≡ (Some (state_of (seen_by old.never) (record { bodies = bodies; course = c; more = further_branches; left = left })), [])
    key_here = ap (seen_in (seen_by old.never)) at.way.stands

    pub kept_here : (run : Progress D) (route : Route) (views : Views) → ShowsCourse c run route → IsInOrder run.state.scene.views views → c.exploring ≡ On → IsKeptOf old.never (state_in old.never run bodies views) (key (passed path))
    kept_here run route views shown order explores = record {
      run = run;
      path = route;
      moment = record { bodies = bodies; course = c; more = further_branches; left = left };
      shown = shown;
      led = at.led;
      first = refl;
      explores = explores;
      views = views;
      order = order;
      copied = refl;
      state = key_here;
    }

    -- ---- it is cut off

    pub stops_here : drive (whole_search room) adds (cut (just_at (passed path)) [] tree) (at_start p) ≡ (Ok None, path)
    stops_here =
        way_stops room adds next tree (first_stand next explores max_threads max_steps body) p _ _ path _
        (way_same room adds next tree (first_stand next explores max_threads max_steps body) p path _ _ _ _ at.way (ap (λ (t : Tree (Turn D × Course D)). t >>= onward next left bodies) asks) refl)

    -- at the end of its nodes
    module _ (all : length path.nodes ≤ path.position) where
      whole : (nodes : List Stored) (k : ℕ) → length nodes ≤ k → take k nodes ≡ nodes
      whole [] zero l = refl
      whole [] (suc k) l = refl
      whole (n ∷ nodes) zero l = absurd (omega (arith, l))
      whole (n ∷ nodes) (suc k) l = ap (λ t. n ∷ t) (whole nodes k (omega (arith, l)))

      none_here : (n : Stored) → node_at path.nodes (passed path) ≡ Some n → ⊥
      none_here n e =
          let at_end : passed path ≡ choices path.nodes = ap choices (whole path.nodes path.position all) in
          let on = node_chooses path.nodes (passed path) n e in
          not_longer (passed path) n.present on.0 (at_end ∙ on.1)

      past : (b : List Choice) (n : Stored) → node_at p b ≡ Some n → just_at (passed path) b ≡ false
      past b n e = by (just_at (passed path) b) refl
        where
          by : (x : Bool) → just_at (passed path) b ≡ x → just_at (passed path) b ≡ false
          by false h = h
          by true h = absurd (none_here n (ap (λ (d : List Choice). node_at path.nodes d) (it_was (passed path) b h) ∙ at.way.stays b n e))

      -- a run that has met a state that was noted
      module _ (noted : Noted D S) (tables : Tables noted path) (run : Progress D) (route : Route) (views : Views) (shown : ShowsCourse c run route) (order : IsInOrder run.state.scene.views views) (is_exploring : c.exploring ≡ On) (number : ℕ)
          (has : slice_get noted.states number ≡ Some (state_in noted.never run bodies views)) where
        led : (d : List Choice) × (slice_get noted.led_by number ≡ Some d) × IsKeptOf old.never (state_in old.never run bodies views) (key d)
        led =
            subst (λ (b : Bool). (d : List Choice) × (slice_get noted.led_by number ≡ Some d) × IsKeptOf b (state_in b run bodies views) (key d)) tables.never
            (tables.explained.each number (state_in noted.never run bodies views) has)

        same_state : key led.0 ≡ key (passed path)
        same_state = kept_law old.never (state_in old.never run bodies views) (key led.0) (key (passed path)) led.2 (kept_here run route views shown order is_exploring)

        pub met_along : IsAlong room adds tree key (keys old) p (Ok None) path (keys noted)
        met_along = record {
          stop = just_at (passed path);
          past = past;
          stops = λ d h.
              subst (λ (k : Key D S). Contains (keys old) k ⊎ HasState key path.nodes k) (same_state ∙ ap key (it_was (passed path) d h))
              (in_table noted path tables (key led.0) (in_map key noted.led_by led.0 (has_at noted.led_by number led.0 led.1)));
          notes = λ ended e k has. in_table noted path tables k has;
          comes = stops_here;
        }

        pub met_there : EndsIn number path noted
        met_there = record { there = led.0; led = led.1; same = ap (λ (l : List Stored). key (choices l)) (sym (whole path.nodes path.position all)) ∙ sym same_state }

    -- ---- what is noted

    -- after the schedule, the state before it is that of a node
    pub tables_noted : (noted grown : Noted D S) (run : Progress D) (route : Route) (views : Views) (came : Turn D × Course D) (end : Trail) → ShowsCourse c run route → IsInOrder run.state.scene.views views → c.exploring ≡ On
        → length path.nodes ≤ path.position → NotesAs (state_in noted.never run bodies views) (passed path) noted grown → drive (whole_search room) adds (schedule further_branches c) path ≡ (Ok came, end) → Tables noted path → Tables grown end
    tables_noted noted grown run route views came end shown order explores all (inr same) e tables = tables_same noted grown path end same (stays_on came end e) tables
    tables_noted noted grown run route views came end shown order explores all (inl grows) e tables = record {
      explained =
          one_more key noted grown (state_in noted.never run bodies views) (passed path) grows.0 grows.1 grows.2
          (subst (λ (b : Bool). IsKeptOf b (state_in b run bodies views) (key (passed path))) (sym tables.never) (kept_here run route views shown order explores)) tables.explained;
      grows = λ k c at. subst (λ (l : List (List Choice)). slice_get l k ≡ Some c) (sym grows.1) (still_there noted.led_by (passed path) k c (tables.grows k c at));
      never = grows.2 ∙ tables.never;
      later = record {
        there = λ k c l at. there k c l (at_last noted.led_by (passed path) k c (subst (λ (x : List (List Choice)). slice_get x k ≡ Some c) grows.1 at));
        ordered = λ k m c d l h at to.
            ordered k m c d l h (at_last noted.led_by (passed path) k c (subst (λ (x : List (List Choice)). slice_get x k ≡ Some c) grows.1 at))
            (at_last noted.led_by (passed path) m d (subst (λ (x : List (List Choice)). slice_get x m ≡ Some d) grows.1 to));
      };
      known = λ c has. known c (node_on came end e) (Contains-append_cases noted.led_by (passed path ∷ []) c (subst (λ (l : List (List Choice)). Contains l c) grows.1 has));
    }
      where
        so_long : length (passed path) ≡ length path.nodes
        so_long = ap length (ap choices (whole all path.nodes path.position all)) ∙ as_many path.nodes

        -- all of the path's nodes come before
        before : (c : List Choice) → HasNode path.nodes c → length c ≤ length (passed path)
        before c has = let z = node_within path.nodes c has.node has.at in omega (arith, z, so_long)

        there : (k : ℕ) (c : List Choice) → length old.led_by ≤ k → (slice_get noted.led_by k ≡ Some c) ⊎ ((k ≡ length noted.led_by) × (c ≡ passed path)) → HasNode end.nodes c × (length p ≤ length c)
        there k c l (inl at) = let z = tables.later.there k c l at in (still path end c (stays_on came end e) z.0, z.1)
        there k c l (inr (i, same)) =
            let node = node_on came end e in
            let long : length p ≤ length path.nodes = stay_longer p path.nodes at.way.stays in
            (record { node = node.0; at = ap (node_at end.nodes) same ∙ node.1 }, omega (arith, long, so_long, ap length same))

        ordered : (k m : ℕ) (c d : List Choice) → length old.led_by ≤ k → k < m → (slice_get noted.led_by k ≡ Some c) ⊎ ((k ≡ length noted.led_by) × (c ≡ passed path))
            → (slice_get noted.led_by m ≡ Some d) ⊎ ((m ≡ length noted.led_by) × (d ≡ passed path)) → length c ≤ length d
        ordered k m c d l h (inl at) (inl to) = tables.later.ordered k m c d l h at to
        ordered k m c d l h (inl at) (inr (i, same)) = let z = before c (tables.later.there k c l at).0 in omega (arith, z, ap length same)
        ordered k m c d l h (inr (j, one)) (inl to) = absurd (let z = within noted.led_by m d to in omega (arith, h, j, z))
        ordered k m c d l h (inr (j, one)) (inr (i, same)) = absurd (omega (arith, h, i, j))

        known : (c : List Choice) → (n : Stored) × (node_at end.nodes (passed path) ≡ Some n) → Contains noted.led_by c ⊎ Contains (passed path ∷ []) c → IsOfBefore end c
        known c node (inl has) = of_before path end c (stays_on came end e) (tables.known c has)
        known c node (inr has) = inr (record { node = node.0; at = ap (node_at end.nodes) (is_alone (passed path) c has) ∙ node.1 })
