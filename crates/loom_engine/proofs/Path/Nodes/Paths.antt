-- What a path says of its nodes, as a walk sees it.
use Rattle.std.proofs.Common.{◌≡◌, ◌≢◌, ◌≤◌, ◌<◌, ◌+◌, ℕ, zero, suc, Bool, true, false, List, [], ◌∷◌, ◌++◌, length, map, take, get_or, Option, Some, None, refl, ap, ap₂, sym, ◌∙◌, subst, arith, length-append}
use Rattle.std.specs.Prelude.{slice_get, IsSomeAnd, nat_lt, cond, Ok, Err}
use Rattle.std.specs.Option.{option_map}
use Rattle.std.proofs.lemmas.List.{length-map}
use Rattle.loom_views.specs.declared.rt.failure.FailureKind.TheVariants.{NotDeterministic, TooManyBranches}
use Rattle.loom_objects.specs.declared.choice.Choice.{Choice}
use Rattle.loom_objects.specs.declared.choice.Choice.TheVariants.{Load}
use Rattle.loom_objects.specs.Tree.Question.{Question, made_of}
use Rattle.loom_objects.specs.Tree.Stores.{asked_store}
use Rattle.loom_engine.specs.Walk.Path.{Stored, choices}
use Rattle.loom_engine.specs.Walk.Choices.{pick}
use Rattle.loom_engine.specs.Trees.Comparing.{same_made}
use Rattle.loom_engine.specs.Trees.Meeting.{Settings, every_at}
use Rattle.loom_engine.specs.Trees.Drive.{Trail, Answer, passes_of, branch, branch_at, lengthen, new_node}
use Rattle.loom_engine.specs.Walk.Machine.{is_thread}
use Rattle.loom_engine.specs.declared.rt.path.node.Node.{Node}
use Rattle.loom_engine.specs.declared.rt.path.node.Node.TheVariants as node
use Rattle.loom_engine.specs.Path.Nodes.{seen, IsWell, AreWell}
use Rattle.loom_engine.specs.Path.Tallies.{IsValueAt}
use Rattle.loom_engine.specs.Path.Route.{Route, stored, trail, choice_here, passed, Grows, Decides}
use Rattle.loom_engine.proofs.Nodes.Marking.Nearest.{is_no_thread}
use Rattle.loom_engine.proofs.Nodes.Notes.{node_within}
use Rattle.loom_engine.proofs.Nodes.Nodes.Picks.{pick_yes, pick_no}

-- the choices at the first nodes
pub taken : (n : ℕ) (nodes : List Node) → choices (take n (stored nodes)) ≡ map (λ (x : Node). (seen x).present) (take n nodes)
taken zero nodes = refl
taken (suc n) [] = refl
taken (suc n) (x ∷ nodes) = ap (λ l. (seen x).present ∷ l) (taken n nodes)

-- in each search all its slots are to be tried
pub every_load : (exploring : Bool) (xs : List ℕ) (path : Route) → every_at path.search (passes_of (trail path)) (made_of (asked_store exploring xs)) ≡ true
every_load exploring [] path = refl
every_load exploring (x ∷ xs) path = refl

-- ---- a node at the end

pub well_more : (nodes : List Node) (n : Node) → AreWell nodes → IsWell n → AreWell (nodes ++ n ∷ [])
well_more [] n w v = (v, tt)
well_more (x ∷ nodes) n w v = (w.0, well_more nodes n w.1 v)

stored_more : (nodes : List Node) (n : Node) → stored (nodes ++ n ∷ []) ≡ stored nodes ++ seen n ∷ []
stored_more [] n = refl
stored_more (x ∷ nodes) n = ap (λ l. seen x ∷ l) (stored_more nodes n)

none_there : (nodes : List Node) (k : ℕ) → length nodes ≤ k → slice_get (stored nodes) k ≡ None
none_there [] k h = refl
none_there (x ∷ nodes) zero h = absurd (omega arith)
none_there (x ∷ nodes) (suc k) h = none_there nodes k (omega arith)

-- ---- what the path says

-- the length of the nodes, as the path that is held says it
pub past_end : (held path : Route) → held ≡ path → length held.nodes ≤ held.position → length path.nodes ≤ path.position
past_end held path e h = subst (λ (r : Route). length r.nodes ≤ r.position) e h

pub well_at : (nodes : List Node) (i : ℕ) (n : Node) → i < length nodes → n ≡ get_or nodes i n → AreWell nodes → IsWell n
well_at [] i n h e w = absurd (omega arith)
well_at (x ∷ nodes) zero n h e w = subst IsWell (sym e) w.0
well_at (x ∷ nodes) (suc i) n h e w = well_at nodes i n (omega arith) e w.1

stored_at : (nodes : List Node) (i : ℕ) (n : Node) → i < length nodes → n ≡ get_or nodes i n → slice_get (stored nodes) i ≡ Some (seen n)
stored_at [] i n h e = absurd (omega arith)
stored_at (x ∷ nodes) zero n h e = ap (λ (m : Node). Some (seen m)) (sym e)
stored_at (x ∷ nodes) (suc i) n h e = stored_at nodes i n (omega arith) e

got_there : (nodes : List Node) (k : ℕ) (n : Node) → slice_get nodes k ≡ Some n → n ≡ get_or nodes k n
got_there [] k n h = refl
got_there (x ∷ nodes) zero n h = cc h
got_there (x ∷ nodes) (suc k) n h = got_there nodes k n h

-- the choice of the node at the position
pub choice_stored : (path : Route) (n : Node) → path.position < length path.nodes → n ≡ get_or path.nodes path.position n → choice_here path ≡ Some (seen n).present
choice_stored path n h e = ap (option_map (λ (s : Stored). s.present)) (stored_at path.nodes path.position n h e)

-- no choice is past the end
pub no_choice : (path : Route) → length path.nodes ≤ path.position → choice_here path ≡ None
no_choice path h = ap (option_map (λ (s : Stored). s.present)) (none_there path.nodes path.position h)

last_stored : (nodes : List Node) (k : ℕ) (n : Node) → k ≡ length nodes → slice_get (stored (nodes ++ n ∷ [])) k ≡ Some (seen n)
last_stored [] zero n h = refl
last_stored [] (suc k) n h = absurd (omega arith)
last_stored (x ∷ nodes) zero n h = absurd (omega arith)
last_stored (x ∷ nodes) (suc k) n h = last_stored nodes k n (omega arith)

-- the position is at the end, as the path that is held says it
pub end_of : (held path : Route) → held ≡ path → held.position ≤ length held.nodes → length held.nodes ≤ held.position → path.position ≡ length path.nodes
end_of held path e h g = subst (λ (r : Route). r.position ≡ length r.nodes) e (omega arith)

-- the choice of a node that was made at the end
pub choice_made : (path after : Route) (n : Node) → path.position ≡ length path.nodes → after ≡ record path { nodes = path.nodes ++ n ∷ [] } → choice_here after ≡ Some (seen n).present
choice_made path after n h is = ap choice_here is ∙ ap (option_map (λ (s : Stored). s.present)) (last_stored path.nodes path.position n h)

module _ (path : Route) (question : Question) where
  abbrev pub Branches : Answer → Type 0
  Branches answer = branch path.search (trail path) question ≡ answer

  -- the stored node is passed, if it is the one that the question would make
  pub follows : (n : Node) (o : Choice) → path.position < length path.nodes → n ≡ get_or path.nodes path.position n → (seen n).made ≡ made_of question → o ≡ (seen n).present
      → Branches (Ok o, trail (record path { position = path.position + 1 }))
  follows n o h e f g =
      ap (branch_at path.search (trail path) question) (stored_at path.nodes path.position n h e)
      ∙ pick_yes (same_made (seen n).made (made_of question)) (Ok (seen n).present, trail (record path { position = path.position + 1 })) (Err NotDeterministic, trail path) f
      ∙ ap (λ (c : Choice). (Ok c, trail (record path { position = path.position + 1 }))) (sym g)

  pub differs : (n : Node) → path.position < length path.nodes → n ≡ get_or path.nodes path.position n → ((seen n).made ≡ made_of question → ⊥)
      → Branches (Err NotDeterministic, trail path)
  differs n h e f =
      ap (branch_at path.search (trail path) question) (stored_at path.nodes path.position n h e)
      ∙ pick_no (same_made (seen n).made (made_of question)) (Ok (seen n).present, trail (record path { position = path.position + 1 })) (Err NotDeterministic, trail path) f

  -- the same of a node that was found there
  pub follows_there : (n : Node) (o : Choice) → slice_get path.nodes path.position ≡ Some n → (seen n).made ≡ made_of question → o ≡ (seen n).present
      → Branches (Ok o, trail (record path { position = path.position + 1 }))
  follows_there n o h f g = follows n o (node_within path.nodes path.position n h) (got_there path.nodes path.position n h) f g

  pub differs_there : IsSomeAnd (slice_get path.nodes path.position) (λ n. (seen n).made ≢ made_of question) → Branches (Err NotDeterministic, trail path)
  differs_there h = go (slice_get path.nodes path.position) refl h
    where
      go : (o : Option Node) → slice_get path.nodes path.position ≡ o → IsSomeAnd o (λ n. (seen n).made ≢ made_of question) → Branches (Err NotDeterministic, trail path)
      go None e f = absurd f
      go (Some n) e f = differs n (node_within path.nodes path.position n e) (got_there path.nodes path.position n e) f

  -- past its end the path has room, or not
  pub full : length path.nodes ≤ path.position → path.search.max_branches ≤ path.position → Branches (Err TooManyBranches, trail path)
  full past h =
      let not_below : nat_lt path.position path.search.max_branches ≡ false = grind arith in
      ap (branch_at path.search (trail path) question) (none_there path.nodes path.position past)
      ∙ ap (λ b. cond b (lengthen (trail path) (new_node (every_at path.search (passes_of (trail path)) (made_of question)) (made_of question) (slice_get path.given path.position))) (Err TooManyBranches, trail path)) not_below

  module _ (past : length path.nodes ≤ path.position) (room : path.position < path.search.max_branches)
      (every : Bool) (is_every : every_at path.search (passes_of (trail path)) (made_of question) ≡ every) where
    at_end : (new : Option Stored) → new ≡ new_node every (made_of question) (slice_get path.given path.position) → Branches (lengthen (trail path) new)
    at_end new made =
        let below : nat_lt path.position path.search.max_branches ≡ true = grind arith in
        ap (branch_at path.search (trail path) question) (none_there path.nodes path.position past)
        ∙ ap (λ b. cond b (lengthen (trail path) (new_node (every_at path.search (passes_of (trail path)) (made_of question)) (made_of question) (slice_get path.given path.position))) (Err TooManyBranches, trail path)) below
        ∙ ap (λ b. lengthen (trail path) (new_node b (made_of question) (slice_get path.given path.position))) is_every
        ∙ ap (lengthen (trail path)) (sym made)

    -- the choice that was given is no option
    pub refuses : None ≡ new_node every (made_of question) (slice_get path.given path.position) → Branches (Err NotDeterministic, trail path)
    refuses made = at_end None made

    -- memory is asked for where the path makes a node
    pub grows : (n : Node) → Some (seen n) ≡ new_node every (made_of question) (slice_get path.given path.position) → Grows path (branch path.search (trail path) question).1
    grows n made =
        subst (λ (answer : Answer). Grows path answer.1) (sym (at_end (Some (seen n)) made)) (omega (arith, length-append (stored path.nodes) (seen n ∷ []), length-map path.nodes seen))

    -- the path makes a node
    pub makes : (n : Node) (o : Choice) (after : Route) → Some (seen n) ≡ new_node every (made_of question) (slice_get path.given path.position) → o ≡ (seen n).present
        → after ≡ record path { nodes = path.nodes ++ n ∷ []; position = path.position + 1 } → Branches (Ok o, trail after)
    makes n o after made present is =
        at_end (Some (seen n)) made
        ∙ ap₂ (λ (c : Choice) (l : List Stored). (Ok c, record (trail path) { nodes = l; position = path.position + 1 })) (sym present) (sym (stored_more path.nodes n))
        ∙ ap (λ (r : Route). (Ok o, trail r)) (sym is)

    -- or it makes the node without passing it
    pub pushes : (n : Node) (after : Route) → Some (seen n) ≡ new_node every (made_of question) (slice_get path.given path.position)
        → after ≡ record path { nodes = path.nodes ++ n ∷ [] } → Branches (Ok (seen n).present, passed (trail after))
    pushes n after made is =
        makes n (seen n).present (record path { nodes = path.nodes ++ n ∷ []; position = path.position + 1 }) made refl refl
        ∙ ap (λ (r : Route). (Ok (seen n).present, passed (trail r))) (sym is)

-- the path that is held has passed a node, and so has the path
pub passed_on : (held path : Route) (question : Question) (o : Choice) (after : Route) → held ≡ path
    → branch held.search (trail held) question ≡ (Ok o, trail (record held { position = held.position + 1 })) → after ≡ record path { position = path.position + 1 }
    → branch path.search (trail path) question ≡ (Ok o, trail after)
passed_on held path question o after e h is =
    subst (λ (r : Route). branch r.search (trail r) question ≡ (Ok o, trail (record r { position = r.position + 1 }))) e h ∙ ap (λ (r : Route). (Ok o, trail r)) (sym is)

-- ---- the position

pick_cases : {A B : Type 0} (P : B → Type 0) (d : Dec A) (x y : B) → P x → P y → P (pick d x y)
pick_cases P (yes a) x y p q = p
pick_cases P (no f) x y p q = q

-- the answer is no choice, or passes a node
abbrev PassesOne : Trail → Answer → Type 0
PassesOne path (Ok choice, after) = after.position ≡ path.position + 1
PassesOne path (Err failure, after) = Unit {0}

lengthens_one : (path : Trail) (n : Option Stored) → PassesOne path (lengthen path n)
lengthens_one path None = tt
lengthens_one path (Some n) = refl

passes_one : (s : Settings) (path : Trail) (question : Question) → PassesOne path (branch s path question)
passes_one s path question = go (slice_get path.nodes path.position)
  where
    new : (b : Bool) (n : Option Stored) → PassesOne path (cond b (lengthen path n) (Err TooManyBranches, path))
    new true n = lengthens_one path n
    new false n = tt

    go : (o : Option Stored) → PassesOne path (branch_at s path question o)
    go None = new (nat_lt path.position s.max_branches) (new_node (every_at s (passes_of path) (made_of question)) (made_of question) (slice_get path.given path.position))
    go (Some n) = pick_cases (PassesOne path) (same_made n.made (made_of question)) (Ok n.present, record path { position = path.position + 1 }) (Err NotDeterministic, path) refl tt

-- the path has passed one node more
pub says_position : {A : Type 0} (choice : A → Choice) (old : Route) (question : Question) (answer : A) (new : Route) → Decides choice old question (Ok answer) new → new.position ≡ old.position + 1
says_position choice old question answer new h = subst (PassesOne (trail old)) h (passes_one old.search (trail old) question)

-- ---- the choice of a node that is read as a choice

-- one choice more
pub chosen_next : (nodes : List Node) (i : ℕ) (x : Choice) → option_map (λ (n : Stored). n.present) (slice_get (stored nodes) i) ≡ Some x
    → map (λ (n : Node). (seen n).present) (take i nodes) ++ x ∷ [] ≡ map (λ (n : Node). (seen n).present) (take (suc i) nodes)
chosen_next [] i x h = absurd (cc h)
chosen_next (n ∷ nodes) zero x h = (let e : (seen n).present ≡ x = cc h in ap (λ (c : Choice). c ∷ []) (sym e))
chosen_next (n ∷ nodes) (suc i) x h = ap (λ (l : List Choice). (seen n).present ∷ l) (chosen_next nodes i x h)

load_no_thread : (n : Node) (slot : ℕ) → (seen n).present ≡ Load slot → is_thread (seen n).made.default ≡ false
load_no_thread n slot h = is_no_thread n (λ s e. let c : (seen (node.Schedule s)).present ≡ Load slot = ap (λ (m : Node). (seen m).present) (sym e) ∙ h in cc c)

-- where the choice is a slot, there is no schedule
pub value_chosen : (nodes : List Node) (i slot : ℕ) → option_map (λ (n : Stored). n.present) (slice_get (stored nodes) i) ≡ Some (Load slot) → IsValueAt nodes i
value_chosen [] i slot h = absurd (cc h)
value_chosen (n ∷ nodes) zero slot h = (let e : (seen n).present ≡ Load slot = cc h in load_no_thread n slot e)
value_chosen (n ∷ nodes) (suc i) slot h = value_chosen nodes i slot h

-- the choice is that of the node there
pub choice_got : (nodes : List Node) (i : ℕ) (x : Choice) (n : Node) → i < length nodes → n ≡ get_or nodes i n → x ≡ (seen n).present → option_map (λ (s : Stored). s.present) (slice_get (stored nodes) i) ≡ Some x
choice_got nodes i x n h e c = ap (option_map (λ (s : Stored). s.present)) (stored_at nodes i n h e) ∙ ap Some (sym c)
