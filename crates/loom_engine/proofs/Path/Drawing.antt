-- Choices that are drawn, as a path takes them that was given them.
use Rattle.std.proofs.Common.{◌≡◌, ◌≤◌, ◌<◌, ◌+◌, ℕ, zero, suc, Bool, true, false, List, [], ◌∷◌, ◌++◌, length, length-append, append-nil, append_assoc, take, Some, None, inl, inr, refl, ap, sym, ◌∙◌, subst, arith}
use Rattle.std.specs.Prelude.{slice_get, cond, Ok}
use Rattle.loom_objects.specs.declared.choice.Choice.{Choice}
use Rattle.loom_objects.specs.declared.choice.Choice.TheVariants.{Spurious}
use Rattle.loom_objects.specs.Tree.Asked.{whether_spurious}
use Rattle.loom_objects.specs.Tree.Question.{Made, Among, Question, made_of}
use Rattle.loom_engine.specs.declared.rt.path.node.Node.{Node}
use Rattle.loom_engine.specs.Path.Drawn.{IsDrawn, MakesMore, led_by}
use Rattle.loom_engine.specs.Path.Nodes.{seen, seen_spurious}
use Rattle.loom_engine.specs.Path.Route.{Route, chosen, stored, trail}
use Rattle.loom_engine.specs.Trees.Drive.{branch, is_used_up, new_node, passes_of, value_status}
use Rattle.loom_engine.specs.Trees.Meeting.{every_at}
use Rattle.loom_engine.specs.Walk.Choices.{among, pick, same}
use Rattle.loom_engine.specs.Walk.Lists.{Begins}
use Rattle.loom_engine.specs.Walk.Machine.{is_thread}
use Rattle.loom_engine.specs.Walk.Path.{Stored, choices, choose, fresh}
use Rattle.loom_engine.proofs.Nodes.Nodes.Turns.{turn_given}
use Rattle.loom_engine.proofs.Path.Nodes.Paths.{makes}

-- ---- beginnings

pub begins_all : (x given : List Choice) → given ≡ x → Begins x given
begins_all x given e = ([], e ∙ sym (append-nil x))

pub begins_so : (x y z : List Choice) → Begins x y → Begins y z → Begins x z
begins_so x y z one other = (one.0 ++ other.0, other.1 ∙ ap (λ (l : List Choice). l ++ other.0) one.1 ∙ append_assoc x one.0 other.0)

there : (x : List Choice) (o : Choice) (rest : List Choice) → slice_get ((x ++ o ∷ []) ++ rest) (length x) ≡ Some o
there [] o rest = refl
there (y ∷ x) o rest = there x o rest

-- the choice that is given behind those of a beginning
pub next_given : (x : List Choice) (o : Choice) (given : List Choice) → Begins (x ++ o ∷ []) given → slice_get given (length x) ≡ Some o
next_given x o given b = ap (λ (l : List Choice). slice_get l (length x)) b.1 ∙ there x o b.0

-- ---- the choices of a path whose nodes were all passed

chosen_length : (nodes : List Node) (k : ℕ) → k ≡ length nodes → length (choices (take k (stored nodes))) ≡ k
chosen_length [] zero h = refl
chosen_length [] (suc k) h = absurd (omega arith)
chosen_length (x ∷ nodes) zero h = absurd (omega arith)
chosen_length (x ∷ nodes) (suc k) h = ap suc (chosen_length nodes k (omega arith))

chosen_one : (nodes : List Node) (n : Node) (k : ℕ) → k ≡ length nodes → choices (take (suc k) (stored (nodes ++ n ∷ []))) ≡ choices (take k (stored nodes)) ++ (seen n).present ∷ []
chosen_one [] n zero h = refl
chosen_one [] n (suc k) h = absurd (omega arith)
chosen_one (x ∷ nodes) n zero h = absurd (omega arith)
chosen_one (x ∷ nodes) n (suc k) h = ap (λ (l : List Choice). (seen x).present ∷ l) (chosen_one nodes n k (omega arith))

chosen_within : (nodes : List Stored) (k : ℕ) → length (choices (take k nodes)) ≤ k
chosen_within nodes zero = omega arith
chosen_within [] (suc k) = omega arith
chosen_within (x ∷ nodes) (suc k) = omega (arith, chosen_within nodes k)

stored_length : (nodes : List Node) → length (stored nodes) ≡ length nodes
stored_length [] = refl
stored_length (x ∷ nodes) = ap suc (stored_length nodes)

plus_one : (n : ℕ) → n + 1 ≡ suc n
plus_one n = omega arith

-- ---- a node that was made at the end

module _ (path after : Route) (n : Node) (past : length path.nodes ≡ path.position) (is : after ≡ record path { nodes = path.nodes ++ n ∷ []; position = path.position + 1 }) where
  last : path.position ≡ length path.nodes
  last = sym past

  pub chosen_more : chosen after ≡ chosen path ++ (seen n).present ∷ []
  chosen_more =
      ap (λ (r : Route). chosen r) is
      ∙ ap (λ (k : ℕ). choices (take k (stored (path.nodes ++ n ∷ [])))) (plus_one path.position)
      ∙ chosen_one path.nodes n path.position last

  pub makes_more : MakesMore path after
  makes_more = ((seen n).present ∷ [], chosen_more)

  pub all_passed : length after.nodes ≡ after.position
  all_passed = subst (λ (r : Route). length r.nodes ≡ r.position) (sym is) (omega (arith, length-append path.nodes (n ∷ [])))

  -- a path takes the choice that was given those that the run has made now
  pub takes_drawn : (question : Question) → path.position < path.search.max_branches → (every : Bool) → every_at path.search (passes_of (trail path)) (made_of question) ≡ every
      → Some (seen n) ≡ new_node every (made_of question) (Some (seen n).present) → (given : List Choice) → Begins (chosen after) given
      → branch path.search (trail (led_by given path)) question ≡ (Ok (seen n).present, trail (led_by given after))
  takes_drawn question room every is_every made given b =
      let here : slice_get given path.position ≡ Some (seen n).present =
      ap (slice_get given) (sym (chosen_length path.nodes path.position last))
      ∙ next_given (chosen path) (seen n).present given (subst (λ (l : List Choice). Begins l given) chosen_more b) in
      makes (led_by given path) question (omega arith) room every is_every n (seen n).present (led_by given after)
      (made ∙ ap (new_node every (made_of question)) (sym here)) refl (ap (led_by given) is)

-- a path that was given just those choices is used up
pub is_all_used : (path : Route) (given : List Choice) → IsDrawn path → given ≡ chosen path → is_used_up (trail (led_by given path)) ≡ true
is_all_used path given drawn e =
    let nodes : length (stored path.nodes) ≤ path.position = omega (arith, stored_length path.nodes, drawn.0) in
    let choices_left : length given ≤ path.position = subst (λ (l : List Choice). length l ≤ path.position) (sym e) (chosen_within (stored path.nodes) path.position) in
    grind arith

-- ---- a new node is at the choice that was given

pub new_present : (every : Bool) (n : Made) (o : Choice) (s : Stored) → Some s ≡ new_node every n (Some o) → s.present ≡ o
new_present every n o s h = go (among o n.options) (same o n.default) (is_thread n.default) h
  where
    go : (a : Dec (Among o n.options)) (d : Dec (o ≡ n.default)) (b : Bool)
        → Some s ≡ pick a (Some (pick d (fresh every n) (cond b (choose (fresh every n) o) (record { made = n; present = o; status = value_status n.options o })))) None → s.present ≡ o
    go (no f) d b e = absurd (cc e)
    go (yes a) (yes d) b e = (let g : s ≡ fresh every n = cc e in ap (λ (k : Stored). k.present) g ∙ sym d)
    go (yes a) (no d) true e = (let g : s ≡ choose (fresh every n) o = cc e in ap (λ (k : Stored). k.present) g)
    go (yes a) (no d) false e = (let g : s ≡ record { made = n; present = o; status = value_status n.options o } = cc e in ap (λ (k : Stored). k.present) g)

-- so it is the node that the choice makes at which it stands
pub at_its_choice : (every : Bool) (n : Made) (o : Choice) (s : Stored) → Some s ≡ new_node every n (Some o) → Some s ≡ new_node every n (Some s.present)
at_its_choice every n o s h = h ∙ ap (λ (x : Choice). new_node every n (Some x)) (sym (new_present every n o s h))

-- whether a thread wakes, as a node that was made so
pub spurious_made : (exploring answer : Bool) → Some (seen_spurious (record { exploring = exploring; answer = answer })) ≡ new_node true (made_of (whether_spurious exploring)) (Some (Spurious answer))
spurious_made exploring true = turn_given exploring (Spurious false) (Spurious true ∷ []) [] (Spurious true) refl (inr (inl refl))
spurious_made exploring false = turn_given exploring (Spurious false) (Spurious true ∷ []) [] (Spurious false) refl (inl refl)
