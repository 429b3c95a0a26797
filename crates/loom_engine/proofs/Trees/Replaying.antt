-- A path that is to follow choices makes their run.
use Rattle.std.proofs.Common.{◌≡◌, ℕ, zero, suc, ◌<◌, ◌≤◌, Bool, true, false, ◌&&◌, List, [], ◌∷◌, ◌++◌, length, Option, Some, None, refl, ap, ap₂, sym, ◌∙◌, subst, arith, append-nil, length-append}
use Rattle.std.specs.Prelude.{slice_get, cond, nat_lt, nat_le, Result, Ok, Err}
use Rattle.std.proofs.lemmas.Option.{slice_get_past}
use Rattle.loom_objects.specs.declared.choice.Choice.{Choice}
use Rattle.loom_objects.specs.Tree.Question.{Made, Among, Question, made_of}
use Rattle.loom_engine.specs.Walk.Machine.{Machine, is_thread, run}
use Rattle.loom_engine.specs.Walk.Choices.{same, among, pick}
use Rattle.loom_engine.specs.Walk.Path.{Stored, choices, fresh, choose}
use Rattle.loom_engine.specs.Walk.UnderWay.{mark_with}
use Rattle.loom_engine.specs.Walk.Lists.{IsAllowed}
use Rattle.loom_engine.proofs.Walk.Lists.{choices_append, snoc_append}
use Rattle.loom_engine.proofs.Walk.Defaults.{Defaults, over, on, run_is}
use Rattle.loom_views.specs.declared.rt.failure.FailureKind.{FailureKind}
use Rattle.loom_views.specs.declared.rt.failure.FailureKind.TheVariants.{NotDeterministic, TooManyBranches}
use Rattle.loom_objects.specs.Tree.Tree.{Tree, Gives, Fails, Closes, Asks}
use Rattle.loom_engine.specs.Trees.Outcomes.{met, outcome}
use Rattle.loom_engine.specs.Trees.Sound.{IsSoundTree}
use Rattle.loom_engine.specs.Trees.Meeting.{Settings, Marking, marked_too, no_marks, machine_of, every_at}
use Rattle.loom_engine.specs.Trees.Drive.{Trail, passes_of, Answer, lengthen, new_node, made_at, value_status, branch_at, branch, marked, backtrack, is_used_up, drive, drive_on}
use Rattle.loom_engine.specs.Trees.Check.{following, ReplayLaw}
use Rattle.loom_engine.proofs.Trees.Machines.{sound_default, machine_law}
use Rattle.loom_engine.proofs.Trees.Driving.{Here, here_start, here_on, quiet, pick_yes, choices_size}

-- a path all of whose nodes were passed
abbrev pub passed_to : List Choice → List Stored → Trail
passed_to c nodes = record { nodes = nodes; position = length nodes; given = c }

pub get_end : (nodes : List Stored) → slice_get nodes (length nodes) ≡ None
get_end [] = refl
get_end (n ∷ nodes) = get_end nodes

pub get_at : (front : List Choice) (x : Choice) (rest : List Choice) → slice_get (front ++ x ∷ rest) (length front) ≡ Some x
get_at [] x rest = refl
get_at (y ∷ front) x rest = get_at front x rest

marked_choices : (marks : ℕ → Choice → Bool) (k : ℕ) (nodes : List Stored) → choices (mark_with marks k nodes) ≡ choices nodes
marked_choices marks k [] = refl
marked_choices marks k (n ∷ nodes) = ap (λ l. n.present ∷ l) (marked_choices marks (suc k) nodes)

marked_same : (reduce : Bool) (marks : ℕ → Choice → Bool) (nodes : List Stored) → choices (marked reduce marks nodes) ≡ choices nodes
marked_same true marks nodes = marked_choices marks zero nodes
marked_same false marks nodes = refl

pub at_present : (every : Bool) (n : Made) (x : Choice) → (made_at every n x).present ≡ x
at_present every n x = go (same x n.default)
  where
    kind : (b : Bool) → (cond b (choose (fresh every n) x) (record { made = n; present = x; status = value_status n.options x })).present ≡ x
    kind true = refl
    kind false = refl

    go : (d : Dec (x ≡ n.default)) → (pick d (fresh every n) (cond (is_thread n.default) (choose (fresh every n) x) (record { made = n; present = x; status = value_status n.options x }))).present ≡ x
    go (yes e) = sym e
    go (no f) = kind (is_thread n.default)

lengthen_by : (c : List Choice) (nodes : List Stored) (n : Stored) → lengthen (passed_to c nodes) (Some n) ≡ (Ok n.present, passed_to c (nodes ++ n ∷ []))
lengthen_by c nodes n =
    ap (λ (k : ℕ). (Ok n.present, record { nodes = nodes ++ n ∷ []; position = k; given = c })) (let e = length-append nodes (n ∷ []) in omega arith)

pub made_by : (s : Settings) (c : List Choice) (nodes : List Stored) (question : Question) (o : Option Choice) (n : Stored) → length nodes < s.max_branches → slice_get c (length nodes) ≡ o
    → new_node (every_at s (passes_of (passed_to c nodes)) (made_of question)) (made_of question) o ≡ Some n
    → branch s (passed_to c nodes) question ≡ (Ok n.present, passed_to c (nodes ++ n ∷ []))
made_by s c nodes question o n h e f =
    let room : nat_lt (length nodes) s.max_branches ≡ true = grind arith in
    let each : Bool = every_at s (passes_of (passed_to c nodes)) (made_of question) in
    ap (branch_at s (passed_to c nodes) question) (get_end nodes)
    ∙ ap (λ (b : Bool). cond b (lengthen (passed_to c nodes) (new_node each (made_of question) (slice_get c (length nodes)))) (Err TooManyBranches, passed_to c nodes)) room
    ∙ ap (λ (y : Option Choice). lengthen (passed_to c nodes) (new_node each (made_of question) y)) e
    ∙ ap (lengthen (passed_to c nodes)) f
    ∙ lengthen_by c nodes n

pub full_by : (s : Settings) (c : List Choice) (nodes : List Stored) (question : Question) → s.max_branches ≤ length nodes → branch s (passed_to c nodes) question ≡ (Err TooManyBranches, passed_to c nodes)
full_by s c nodes question h =
    let full : nat_lt (length nodes) s.max_branches ≡ false = grind arith in
    let each : Bool = every_at s (passes_of (passed_to c nodes)) (made_of question) in
    ap (branch_at s (passed_to c nodes) question) (get_end nodes)
    ∙ ap (λ (b : Bool). cond b (lengthen (passed_to c nodes) (new_node each (made_of question) (slice_get c (length nodes)))) (Err TooManyBranches, passed_to c nodes)) full

pub used_by : (c : List Choice) (nodes : List Stored) → length c ≤ length nodes → is_used_up (passed_to c nodes) ≡ true
used_by c nodes h =
    let e : nat_le (length nodes) (length nodes) ≡ true = grind arith in
    let f : nat_le (length c) (length nodes) ≡ true = grind arith in
    ap₂ (λ (a b : Bool). a && b) e f

module _ {A : Type 0} (s : Settings) (adds : Marking) (root : Tree A) (c : List Choice) where
  abbrev m : Machine
  m = machine_of s adds root

  -- the run is over, and it went on from these choices by defaults
  record Ended (from : List Choice) (d : Result A FailureKind × Trail) : Type 0 where
    reached : Defaults m from (choices d.1.nodes)
    ends : outcome s.max_branches root (choices d.1.nodes) ≡ Some d.0

  ends_at : (from : List Choice) (nodes : List Stored) (o : Result A FailureKind) → choices nodes ≡ from → m.node from ≡ None → outcome s.max_branches root from ≡ Some o → Ended from (o, passed_to c nodes)
  ends_at from nodes o e h f = record { reached = subst (Defaults m from) (sym e) (over from h); ends = ap (outcome s.max_branches root) e ∙ f }

  -- past the choices that were given
  abbrev GoesOn : Tree A → Type 0
  GoesOn sub = (room : ℕ) (nodes : List Stored) (from : List Choice) (passes : List (Made × Choice)) (acc : ℕ → Choice → Bool) → Here s adds root room sub from passes acc
      → choices nodes ≡ from → length c ≤ length from → IsSoundTree sub → Ended from (drive s adds sub (passed_to c nodes))

  pub backtracked : (nodes : List Stored) (question : Question) → (q : List Stored) × (backtrack s adds (passed_to c nodes) question ≡ passed_to c q) × (choices q ≡ choices nodes)
  backtracked nodes question =
      let marks = adds (passes_of (passed_to c nodes)) question in
      let q : List Stored = marked s.reduce marks nodes in
      let e : choices q ≡ choices nodes = marked_same s.reduce marks nodes in
      let size : length nodes ≡ length q = omega (arith, ap length e, choices_size q, choices_size nodes) in
      (q, ap (λ (k : ℕ). record { nodes = q; position = k; given = c }) size, e)

  asks_on : (question : Question) (branches : Choice → Tree A) (room : ℕ) (nodes : List Stored) (from : List Choice) (passes : List (Made × Choice)) (acc : ℕ → Choice → Bool)
      → Here s adds root room (Asks question branches) from passes acc → choices nodes ≡ from → length c ≤ length from → IsSoundTree (Asks question branches) → ((x : Choice) → GoesOn (branches x))
      → Ended from (drive_on (λ choice after. drive s adds (branches choice) after) (branch s (passed_to c nodes) question))
  asks_on question branches zero nodes from passes acc here e past wise ih =
      let all : from ++ [] ≡ from = append-nil from in
      let full : s.max_branches ≤ length nodes = omega (arith, here.size, ap length e, choices_size nodes) in
      subst (λ (y : Answer). Ended from (drive_on (λ choice after. drive s adds (branches choice) after) y)) (sym (full_by s c nodes question full))
      (ends_at from nodes (Err TooManyBranches) e (ap m.node (sym all) ∙ here.node []) (ap (outcome s.max_branches root) (sym all) ∙ here.ending []))
  asks_on question branches (suc room) nodes from passes acc here e past wise ih =
      let n = made_of question in
      let all : from ++ [] ≡ from = append-nil from in
      let within : length nodes < s.max_branches = omega (arith, here.size, ap length e, choices_size nodes) in
      let none : slice_get c (length nodes) ≡ None = slice_get_past c (length nodes) (omega (arith, ap length e, choices_size nodes)) in
      let x : Stored = fresh (every_at s (passes_of (passed_to c nodes)) n) n in
      let option : Among n.default n.options = sound_default question wise.0 in
      let longer : length c ≤ length (from ++ n.default ∷ []) = omega (arith, length-append from (n.default ∷ [])) in
      let z = ih n.default room (nodes ++ x ∷ []) (from ++ n.default ∷ []) (passes ++ (n, n.default) ∷ []) (marked_too (adds passes question) acc)
      (here_on s adds root room question branches from passes acc n.default here option) (choices_append nodes (x ∷ []) ∙ ap (λ l. l ++ n.default ∷ []) e) longer (wise.1 n.default option) in
      subst (λ (y : Answer). Ended from (drive_on (λ choice after. drive s adds (branches choice) after) y)) (sym (made_by s c nodes question None x within none refl))
      (record { reached = on from _ n (ap m.node (sym all) ∙ here.node []) z.reached; ends = z.ends })

  goes_on : (sub : Tree A) → GoesOn sub
  goes_on (Gives value) room nodes from passes acc here e past wise =
      let all : from ++ [] ≡ from = append-nil from in
      ends_at from nodes (Ok value) e (ap m.node (sym all) ∙ here.node []) (ap (outcome s.max_branches root) (sym all) ∙ here.ending [])
  goes_on (Fails failure) room nodes from passes acc here e past wise =
      let all : from ++ [] ≡ from = append-nil from in
      ends_at from nodes (Err failure) e (ap m.node (sym all) ∙ here.node []) (ap (outcome s.max_branches root) (sym all) ∙ here.ending [])
  goes_on (Closes later) room nodes from passes acc here e past wise =
      let all : from ++ [] ≡ from = append-nil from in
      let used : is_used_up (passed_to c nodes) ≡ true = used_by c nodes (omega (arith, ap length e, choices_size nodes)) in
      let z = quiet s adds later (passed_to c nodes) wise used in
      let driven : drive s adds (Closes later) (passed_to c nodes) ≡ (z.comes, passed_to c nodes) =
      ap (λ (b : Bool). cond b (drive s adds later (passed_to c nodes)) (Err NotDeterministic, passed_to c nodes)) used ∙ z.drives in
      subst (Ended from) (sym driven) (ends_at from nodes z.comes e (ap m.node (sym all) ∙ here.node []) (ap (outcome s.max_branches root) (sym all) ∙ here.ending [] ∙ z.ends room))
  goes_on (Asks question branches) room nodes from passes acc here e past wise =
      let b = backtracked nodes question in
      subst (λ (path : Trail). Ended from (drive_on (λ choice after. drive s adds (branches choice) after) (branch s path question))) (sym b.1)
      (asks_on question branches room b.0 from passes acc here (b.2 ∙ e) past wise (λ x. goes_on (branches x)))

  -- while choices are left
  abbrev Follows : Tree A → Type 0
  Follows sub = (room : ℕ) (nodes : List Stored) (from rest : List Choice) (passes : List (Made × Choice)) (acc : ℕ → Choice → Bool) → Here s adds root room sub from passes acc
      → choices nodes ≡ from → c ≡ from ++ rest → IsSoundTree sub → Ended c (drive s adds sub (passed_to c nodes))

  all_given : (sub : Tree A) (room : ℕ) (nodes : List Stored) (from : List Choice) (passes : List (Made × Choice)) (acc : ℕ → Choice → Bool) → Here s adds root room sub from passes acc
      → choices nodes ≡ from → c ≡ from ++ [] → IsSoundTree sub → Ended c (drive s adds sub (passed_to c nodes))
  all_given sub room nodes from passes acc here e given wise =
      let whole : c ≡ from = given ∙ append-nil from in
      subst (λ l. Ended l (drive s adds sub (passed_to c nodes))) (sym whole) (goes_on sub room nodes from passes acc here e (omega (arith, ap length whole)) wise)

  module _ (allowed : IsAllowed (machine_of s adds root) c) where
    -- where no node is met no choice is left
    none_more : (sub : Tree A) (room : ℕ) (from : List Choice) (x : Choice) (rest : List Choice) (passes : List (Made × Choice)) (acc : ℕ → Choice → Bool) → Here s adds root room sub from passes acc
        → c ≡ from ++ x ∷ rest → met room sub [] ≡ None → ⊥
    none_more sub room from x rest passes acc here given none =
        let a = allowed from x rest given in
        let n : m.node from ≡ None = ap m.node (sym (append-nil from)) ∙ here.node [] ∙ none in
        let found : m.node from ≡ Some a.0 = a.1 in
        cc (n, found)

    next_given : (question : Question) (branches : Choice → Tree A) (room : ℕ) (nodes : List Stored) (from : List Choice) (x : Choice) (rest : List Choice) (passes : List (Made × Choice)) (acc : ℕ → Choice → Bool)
        → Here s adds root room (Asks question branches) from passes acc → choices nodes ≡ from → c ≡ from ++ x ∷ rest → IsSoundTree (Asks question branches) → ((y : Choice) → Follows (branches y))
        → Ended c (drive_on (λ choice after. drive s adds (branches choice) after) (branch s (passed_to c nodes) question))
    next_given question branches zero nodes from x rest passes acc here e given wise ih = absurd (none_more (Asks question branches) zero from x rest passes acc here given refl)
    next_given question branches (suc room) nodes from x rest passes acc here e given wise ih =
        let n = made_of question in
        let a = allowed from x rest given in
        let found : m.node from ≡ Some a.0 = a.1 in
        let some : m.node from ≡ Some n = ap m.node (sym (append-nil from)) ∙ here.node [] in
        let is : a.0 ≡ n = cc (found, some) in
        let option : Among x n.options = subst (λ (y : Made). Among x y.options) is a.2 in
        let within : length nodes < s.max_branches = omega (arith, here.size, ap length e, choices_size nodes) in
        let each : Bool = every_at s (passes_of (passed_to c nodes)) n in
        let k : Stored = made_at each n x in
        let size : length nodes ≡ length from = omega (arith, ap length e, choices_size nodes) in
        let read : slice_get c (length nodes) ≡ Some x = ap₂ (λ (l : List Choice) (i : ℕ). slice_get l i) given size ∙ get_at from x rest in
        let new : new_node each n (Some x) ≡ Some k = pick_yes (among x n.options) _ _ option in
        let said : branch s (passed_to c nodes) question ≡ (Ok x, passed_to c (nodes ++ k ∷ [])) =
        made_by s c nodes question (Some x) k within read new ∙ ap (λ (y : Choice). (Ok y, passed_to c (nodes ++ k ∷ []))) (at_present each n x) in
        subst (λ (y : Answer). Ended c (drive_on (λ choice after. drive s adds (branches choice) after) y)) (sym said)
        (ih x room (nodes ++ k ∷ []) (from ++ x ∷ []) rest (passes ++ (n, x) ∷ []) (marked_too (adds passes question) acc)
        (here_on s adds root room question branches from passes acc x here option)
        (choices_append nodes (k ∷ []) ∙ ap₂ (λ (l : List Choice) (y : Choice). l ++ y ∷ []) e (at_present each n x))
        (given ∙ sym (snoc_append from x rest)) (wise.1 x option))

    follows : (sub : Tree A) → Follows sub
    follows (Gives value) room nodes from [] passes acc here e given wise = all_given (Gives value) room nodes from passes acc here e given wise
    follows (Gives value) room nodes from (x ∷ rest) passes acc here e given wise = absurd (none_more (Gives value) room from x rest passes acc here given refl)
    follows (Fails failure) room nodes from [] passes acc here e given wise = all_given (Fails failure) room nodes from passes acc here e given wise
    follows (Fails failure) room nodes from (x ∷ rest) passes acc here e given wise = absurd (none_more (Fails failure) room from x rest passes acc here given refl)
    follows (Closes later) room nodes from [] passes acc here e given wise = all_given (Closes later) room nodes from passes acc here e given wise
    follows (Closes later) room nodes from (x ∷ rest) passes acc here e given wise = absurd (none_more (Closes later) room from x rest passes acc here given refl)
    follows (Asks question branches) room nodes from [] passes acc here e given wise = all_given (Asks question branches) room nodes from passes acc here e given wise
    follows (Asks question branches) room nodes from (x ∷ rest) passes acc here e given wise =
        let b = backtracked nodes question in
        subst (λ (path : Trail). Ended c (drive_on (λ choice after. drive s adds (branches choice) after) (branch s path question))) (sym b.1)
        (next_given question branches room b.0 from x rest passes acc here (b.2 ∙ e) given wise (λ y. follows (branches y)))

module _ {A : Type 0} where
  pub replay_law : ReplayLaw A
  replay_law s adds tree c sound fair allowed =
      let z = follows s adds tree c allowed tree s.max_branches [] [] c [] no_marks (here_start s adds tree) refl refl sound in
      let m : Machine = machine_of s adds tree in
      let e : run m c ≡ choices (drive s adds tree (following c)).1.nodes = run_is m (machine_law s adds tree sound fair) c _ z.reached in
      (sym e, ap (outcome s.max_branches tree) e ∙ z.ends)
