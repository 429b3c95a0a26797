-- A path that drives through a tree is a walk's path while its run is under way.
use Rattle.std.proofs.Common.{◌≡◌, ℕ, zero, suc, ◌+◌, ◌<◌, ◌≤◌, Bool, true, false, ◌&&◌, ◌||◌, List, [], ◌∷◌, ◌++◌, length, map, take, Option, Some, None, refl, ap, ap₂, sym, ◌∙◌, subst, arith, append_assoc, append-nil, length-append}
use Rattle.std.specs.Prelude.{slice_get, cond, nat_lt, nat_le, Result, Ok, Err, IsSomeAnd}
use Rattle.std.proofs.lemmas.Option.{slice_get_within}
use Rattle.loom_objects.specs.declared.choice.Choice.{Choice}
use Rattle.loom_objects.specs.Tree.Question.{Made, Among, Question, made_of}
use Rattle.loom_engine.specs.Walk.Machine.{Machine}
use Rattle.loom_engine.specs.Walk.Choices.{among, pick}
use Rattle.loom_engine.specs.Walk.Path.{Stored, choices, node_at, IsAtRest, IsResting, fresh, after_run, mark_status}
use Rattle.loom_engine.specs.Walk.UnderWay.{mark_with, IsUnderWay, begins, follows, makes, marks_more, Meets}
use Rattle.loom_engine.proofs.Walk.Lists.{node_on, choices_append, snoc_append}
use Rattle.loom_engine.proofs.Walk.UnderWay.{over_law, meeting_law}
use Rattle.loom_engine.proofs.Walk.After.{after_run_is}
use Rattle.loom_views.specs.declared.rt.failure.FailureKind.{FailureKind}
use Rattle.loom_views.specs.declared.rt.failure.FailureKind.TheVariants.{NotDeterministic, TooManyBranches}
use Rattle.loom_engine.specs.Trees.Comparing.{same_made}
use Rattle.loom_objects.specs.Tree.Tree.{Tree, Gives, Fails, Closes, Asks}
use Rattle.loom_engine.specs.Trees.Outcomes.{met, outcome, passed}
use Rattle.loom_engine.specs.Trees.Sound.{IsQuiet, IsSoundTree}
use Rattle.loom_engine.specs.Trees.Meeting.{Settings, Marking, marked_too, marks_of, no_marks, machine_of, every_at, every_met}
use Rattle.loom_engine.specs.Trees.Machines.{IsMarking}
use Rattle.loom_engine.specs.Trees.Drive.{Trail, pass_of, passes_of, Answer, make, lengthen, new_node, branch_at, branch, marked, backtrack, is_used_up, drive, drive_on, at_start, at_end, IsDriven, DriveLaw}
use Rattle.loom_engine.proofs.Trees.Machines.{sound_default, machine_law}

-- ---- paths of which the front was passed

abbrev pub at_here : List Stored → List Stored → Trail
at_here front rest = record { nodes = front ++ rest; position = length front; given = [] }

pub take_front : (front rest : List Stored) → take (length front) (front ++ rest) ≡ front
take_front [] rest = refl
take_front (n ∷ front) rest = ap (λ l. n ∷ l) (take_front front rest)

pub get_next : (front : List Stored) (n : Stored) (rest : List Stored) → slice_get (front ++ n ∷ rest) (length front) ≡ Some n
get_next [] n rest = refl
get_next (x ∷ front) n rest = get_next front n rest

get_past : (front : List Stored) → slice_get (front ++ []) (length front) ≡ None
get_past [] = refl
get_past (x ∷ front) = get_past front

pub node_next : (front : List Stored) (n : Stored) (rest : List Stored) → node_at (front ++ n ∷ rest) (choices front) ≡ Some n
unfolding node_at
node_next [] n rest = refl
node_next (x ∷ front) n rest = node_on x (front ++ n ∷ rest) x.present (choices front) refl ∙ node_next front n rest

pub one_on : (front : List Stored) (n : Stored) (rest : List Stored) → (front ++ n ∷ []) ++ rest ≡ front ++ n ∷ rest
one_on front n rest = append_assoc front (n ∷ []) rest

one_longer : (front : List Stored) (n : Stored) → length (front ++ n ∷ []) ≡ length front + 1
one_longer front n = omega (arith, length-append front (n ∷ []))

abbrev pub trail : List Stored → ℕ → Trail
trail nodes position = record { nodes = nodes; position = position; given = [] }

pub all_passed : (front : List Stored) → at_here front [] ≡ at_end front
all_passed front = ap (λ l. trail l (length front)) (append-nil front)

pub passes_here : (front rest : List Stored) → passes_of (at_here front rest) ≡ map pass_of front
passes_here front rest = ap (map pass_of) (take_front front rest)

pub pick_yes : {B C : Type 0} (d : Dec B) (x y : C) → B → pick d x y ≡ x
pick_yes (yes a) x y b = refl
pick_yes (no f) x y b = absurd (f b)

-- ---- what the path says

pub branch_stored : (s : Settings) (front : List Stored) (n : Stored) (rest : List Stored) (question : Question) → n.made ≡ made_of question
    → branch s (at_here front (n ∷ rest)) question ≡ (Ok n.present, at_here (front ++ n ∷ []) rest)
branch_stored s front n rest question e =
    ap (branch_at s (at_here front (n ∷ rest)) question) (get_next front n rest)
    ∙ pick_yes (same_made n.made (made_of question)) _ _ e
    ∙ ap₂ (λ (l : List Stored) (k : ℕ). (Ok n.present, trail l k)) (sym (one_on front n rest)) (sym (one_longer front n))

branch_none : (s : Settings) (front : List Stored) (question : Question) → branch s (at_here front []) question ≡ make s (at_here front []) question
branch_none s front question = ap (branch_at s (at_here front []) question) (get_past front)

pub branch_full : (s : Settings) (front : List Stored) (question : Question) → s.max_branches ≤ length front
    → branch s (at_here front []) question ≡ (Err TooManyBranches, at_here front [])
branch_full s front question h =
    let e : nat_lt (length front) s.max_branches ≡ false = grind arith in
    branch_none s front question ∙ rw e refl

pub branch_new : (s : Settings) (front : List Stored) (question : Question) → length front < s.max_branches
    → branch s (at_here front []) question
    ≡ (Ok (made_of question).default, at_here (front ++ fresh (every_at s (map pass_of front) (made_of question)) (made_of question) ∷ []) [])
branch_new s front question h =
    let n = made_of question in
    let e : nat_lt (length front) s.max_branches ≡ true = grind arith in
    branch_none s front question
    ∙ ap (λ (b : Bool). cond b (lengthen (at_here front []) (new_node (every_at s (passes_of (at_here front [])) n) n None)) (Err TooManyBranches, at_here front [])) e
    ∙ ap (λ l. lengthen (at_here front []) (new_node (every_at s l n) n None)) (passes_here front [])
    ∙ ends (fresh (every_at s (map pass_of front) n) n)
  where
    ends : (x : Stored) → lengthen (at_here front []) (Some x) ≡ (Ok x.present, at_here (front ++ x ∷ []) [])
    ends x = ap₂ (λ (l : List Stored) (k : ℕ). (Ok x.present, trail l k)) (ap (λ l. l ++ x ∷ []) (append-nil front) ∙ sym (append-nil (front ++ x ∷ []))) (sym (one_longer front x))

-- ---- marks

unfoldable pub AllOffer : List Stored → Type 0
AllOffer [] = Unit {0}
AllOffer (n ∷ nodes) = Among n.present n.made.options × AllOffer nodes

offer_marked : (marks : ℕ → Choice → Bool) (k : ℕ) (nodes : List Stored) → AllOffer nodes → AllOffer (mark_with marks k nodes)
unfolding AllOffer
offer_marked marks k [] h = tt
offer_marked marks k (n ∷ nodes) h = (h.0, offer_marked marks (suc k) nodes h.1)

-- the front and the rest with marks
pub record Split (front rest nodes : List Stored) : Type 0 where
  pub first : List Stored
  pub others : List Stored
  pub joined : nodes ≡ first ++ others
  pub size : length first ≡ length front
  pub rest_size : length others ≡ length rest
  pub same_choices : choices first ≡ choices front
  pub same_passes : map pass_of first ≡ map pass_of front
  pub offer : AllOffer others

marked_length : (marks : ℕ → Choice → Bool) (k : ℕ) (nodes : List Stored) → length (mark_with marks k nodes) ≡ length nodes
marked_length marks k [] = refl
marked_length marks k (n ∷ nodes) = ap suc (marked_length marks (suc k) nodes)

split_with : (marks : ℕ → Choice → Bool) (k : ℕ) (front rest : List Stored) → AllOffer rest → Split front rest (mark_with marks k (front ++ rest))
split_with marks k [] rest h = record {
  first = [];
  others = mark_with marks k rest;
  joined = refl;
  size = refl;
  rest_size = marked_length marks k rest;
  same_choices = refl;
  same_passes = refl;
  offer = offer_marked marks k rest h;
}
split_with marks k (n ∷ front) rest h = go (split_with marks (suc k) front rest h)
  where
    go : Split front rest (mark_with marks (suc k) (front ++ rest)) → Split (n ∷ front) rest (mark_with marks k (n ∷ (front ++ rest)))
    go z = record {
      first = record n { status = λ o. mark_status (marks k o) (n.status o) } ∷ z.first;
      others = z.others;
      joined = ap (λ l. record n { status = λ o. mark_status (marks k o) (n.status o) } ∷ l) z.joined;
      size = ap suc z.size;
      rest_size = z.rest_size;
      same_choices = ap (λ l. n.present ∷ l) z.same_choices;
      same_passes = ap (λ l. pass_of n ∷ l) z.same_passes;
      offer = z.offer;
    }

pub split_marked : (reduce : Bool) (marks : ℕ → Choice → Bool) (front rest : List Stored) → AllOffer rest → Split front rest (marked reduce marks (front ++ rest))
split_marked true marks front rest h = split_with marks zero front rest h
split_marked false marks front rest h = record {
  first = front;
  others = rest;
  joined = refl;
  size = refl;
  rest_size = refl;
  same_choices = refl;
  same_passes = refl;
  offer = h;
}

-- the marks so far, with those that are made now
pub record More (m : Machine) (p : List Stored) (c : List Choice) (q : List Stored) (reduce : Bool) (acc : ℕ → Choice → Bool) : Type 0 where
  pub marks : ℕ → Choice → Bool
  pub way : IsUnderWay m p c marks q
  pub same : (k : ℕ) (o : Choice) → marks k o ≡ (reduce && acc k o)

pub more_marks : (m : Machine) (p : List Stored) (c : List Choice) (q : List Stored) (reduce : Bool) (more t acc : ℕ → Choice → Bool) → IsUnderWay m p c t q
    → ((k : ℕ) (o : Choice) → t k o ≡ (reduce && acc k o)) → ((k : ℕ) (o : Choice) → more k o ≡ true → k < length c)
    → More m p c (marked reduce more q) reduce (marked_too more acc)
more_marks m p c q true more t acc w h early = record {
  marks = λ k o. more k o || t k o;
  way = marks_more c t more q w early;
  same = λ k o. ap (λ b. more k o || b) (h k o);
}
more_marks m p c q false more t acc w h early = record { marks = t; way = w; same = h }

pub marks_early : (adds : Marking) → IsMarking adds → (passes : List (Made × Choice)) (question : Question) (k : ℕ) (o : Choice) → adds passes question k o ≡ true → k < length passes
marks_early adds fair passes question k o h = go (slice_get passes k) refl (fair passes question k o h)
  where
    go : (x : Option (Made × Choice)) → slice_get passes k ≡ x → IsSomeAnd x (λ pass. pass.0.exploring ≡ true) → k < length passes
    go None e f = absurd f
    go (Some pass) e f = slice_get_within passes k pass e

pub passes_size : (front : List Stored) → length (map pass_of front) ≡ length (choices front)
passes_size [] = refl
passes_size (n ∷ front) = ap suc (passes_size front)

pub passes_append : (front : List Stored) (n : Stored) → map pass_of (front ++ n ∷ []) ≡ map pass_of front ++ pass_of n ∷ []
passes_append [] n = refl
passes_append (x ∷ front) n = ap (λ l. pass_of x ∷ l) (passes_append front n)

pub choices_size : (front : List Stored) → length (choices front) ≡ length front
choices_size [] = refl
choices_size (n ∷ front) = ap suc (choices_size front)

-- ---- quiet ends

module _ {A : Type 0} where
  pub record Quiet (s : Settings) (adds : Marking) (sub : Tree A) (path : Trail) : Type 0 where
    pub comes : Result A FailureKind
    pub drives : drive s adds sub path ≡ (comes, path)
    pub ends : (room : ℕ) → outcome room sub [] ≡ Some comes

  pub quiet : (s : Settings) (adds : Marking) (sub : Tree A) (path : Trail) → IsQuiet sub → is_used_up path ≡ true → Quiet s adds sub path
  quiet s adds (Gives value) path h e = record { comes = Ok value; drives = refl; ends = λ room. refl }
  quiet s adds (Fails failure) path h e = record { comes = Err failure; drives = refl; ends = λ room. refl }
  quiet s adds (Closes rest) path h e = go (quiet s adds rest path h e)
    where
      go : Quiet s adds rest path → Quiet s adds (Closes rest) path
      go z = record { comes = z.comes; drives = ap (λ (b : Bool). cond b (drive s adds rest path) (Err NotDeterministic, path)) e ∙ z.drives; ends = z.ends }
  quiet s adds (Asks question branches) path h e = absurd h

pub used_up : (front : List Stored) → is_used_up (at_here front []) ≡ true
used_up front =
    let e : length (front ++ []) ≡ length front = ap length (append-nil front) in
    let f : nat_le (length (front ++ [])) (length front) ≡ true = grind arith in
    let g : nat_le 0 (length front) ≡ true = grind arith in
    ap₂ (λ (a b : Bool). a && b) f g

-- ---- the drive

-- the tree root leads to the tree sub by these choices
pub record Here {A : Type 0} (s : Settings) (adds : Marking) (root : Tree A) (room : ℕ) (sub : Tree A) (c : List Choice) (passes : List (Made × Choice)) (acc : ℕ → Choice → Bool) : Type 0 where
  pub node : (d : List Choice) → met s.max_branches root (c ++ d) ≡ met room sub d
  pub passing : (d : List Choice) → passed root (c ++ d) ≡ passes ++ passed sub d
  pub marking : (d : List Choice) → marks_of adds no_marks [] root (c ++ d) ≡ marks_of adds acc passes sub d
  pub ending : (d : List Choice) → outcome s.max_branches root (c ++ d) ≡ outcome room sub d
  pub size : room + length c ≡ s.max_branches

module _ {A : Type 0} (s : Settings) (adds : Marking) (root : Tree A) where
  pub here_start : Here s adds root s.max_branches root [] [] no_marks
  here_start = record { node = λ d. refl; passing = λ d. refl; marking = λ d. refl; ending = λ d. refl; size = omega arith }

  pub here_on : (room : ℕ) (question : Question) (branches : Choice → Tree A) (c : List Choice) (passes : List (Made × Choice)) (acc : ℕ → Choice → Bool) (x : Choice)
      → Here s adds root (suc room) (Asks question branches) c passes acc → Among x (made_of question).options
      → Here s adds root room (branches x) (c ++ x ∷ []) (passes ++ (made_of question, x) ∷ []) (marked_too (adds passes question) acc)
  here_on room question branches c passes acc x h a = record {
    node = λ d. ap (met s.max_branches root) (snoc_append c x d) ∙ h.node (x ∷ d) ∙ pick_yes (among x (made_of question).options) _ _ a;
    passing = λ d. ap (passed root) (snoc_append c x d) ∙ h.passing (x ∷ d) ∙ sym (append_assoc passes ((made_of question, x) ∷ []) (passed (branches x) d));
    marking = λ d. ap (marks_of adds no_marks [] root) (snoc_append c x d) ∙ h.marking (x ∷ d);
    ending = λ d. ap (outcome s.max_branches root) (snoc_append c x d) ∙ h.ending (x ∷ d) ∙ pick_yes (among x (made_of question).options) _ _ a;
    size = (let e = h.size in let f = length-append c (x ∷ []) in omega arith);
  }

module _ {A : Type 0} (s : Settings) (adds : Marking) (root : Tree A) (sound : IsSoundTree root) (fair : IsMarking adds) (p : List Stored) (meets : Meets (machine_of s adds root) p) where
  abbrev m : Machine
  m = machine_of s adds root

  -- the run is over, and no node is left over
  record Through (d : Result A FailureKind × Trail) : Type 0 where
    left : List Stored
    marks : ℕ → Choice → Bool
    way : IsUnderWay m p (choices left) marks left
    leaves : d.1 ≡ at_end left
    over : m.node (choices left) ≡ None
    same : (k : ℕ) (o : Choice) → marks k o ≡ (s.reduce && marks_of adds no_marks [] root (choices left) k o)
    ends : outcome s.max_branches root (choices left) ≡ Some d.0

  none_left : (front rest : List Stored) (t : ℕ → Choice → Bool) → IsUnderWay m p (choices front) t (front ++ rest) → m.node (choices front) ≡ None → rest ≡ []
  none_left front rest t way over = go rest ((meeting_law m p (front ++ rest) (choices front) t meets way).1 over ∙ choices_append front rest)
    where
      go : (rest : List Stored) → choices front ≡ choices front ++ choices rest → rest ≡ []
      go [] e = refl
      go (n ∷ rest) e = absurd (omega (arith, ap length e, length-append (choices front) (n.present ∷ choices rest)))

  through_end : (front rest : List Stored) (t : ℕ → Choice → Bool) (d : Result A FailureKind) → IsUnderWay m p (choices front) t (front ++ rest) → m.node (choices front) ≡ None
      → ((k : ℕ) (o : Choice) → t k o ≡ (s.reduce && marks_of adds no_marks [] root (choices front) k o))
      → outcome s.max_branches root (choices front) ≡ Some d → Through (d, at_here front rest)
  through_end front rest t d way over same ends =
      let none : rest ≡ [] = none_left front rest t way over in
      record {
        left = front;
        marks = t;
        way = subst (λ q. IsUnderWay m p (choices front) t q) (ap (λ l. front ++ l) none ∙ append-nil front) way;
        leaves = ap (at_here front) none ∙ all_passed front;
        over = over;
        same = same;
        ends = ends;
      }

  -- so a path drives from here on
  abbrev Goes : Tree A → Type 0
  Goes sub = (room : ℕ) (front rest : List Stored) (t acc : ℕ → Choice → Bool)
      → Here s adds root room sub (choices front) (map pass_of front) acc → IsUnderWay m p (choices front) t (front ++ rest)
      → ((k : ℕ) (o : Choice) → t k o ≡ (s.reduce && acc k o)) → AllOffer rest → IsSoundTree sub → Through (drive s adds sub (at_here front rest))

  -- the run is over here, with the marks so far
  ends_here : (sub : Tree A) (room : ℕ) (front rest : List Stored) (t acc : ℕ → Choice → Bool) (d : Result A FailureKind)
      → Here s adds root room sub (choices front) (map pass_of front) acc → IsUnderWay m p (choices front) t (front ++ rest)
      → ((k : ℕ) (o : Choice) → t k o ≡ (s.reduce && acc k o))
      → met room sub [] ≡ None → marks_of adds acc (map pass_of front) sub [] ≡ acc → outcome room sub [] ≡ Some d → Through (d, at_here front rest)
  ends_here sub room front rest t acc d here way same none marks ends =
      let all : choices front ++ [] ≡ choices front = append-nil (choices front) in
      let over : m.node (choices front) ≡ None = ap m.node (sym all) ∙ here.node [] ∙ none in
      let made : marks_of adds no_marks [] root (choices front) ≡ acc = ap (marks_of adds no_marks [] root) (sym all) ∙ here.marking [] ∙ marks in
      through_end front rest t d way over (λ k o. same k o ∙ ap (λ (f : ℕ → Choice → Bool). s.reduce && f k o) (sym made))
      (ap (outcome s.max_branches root) (sym all) ∙ here.ending [] ∙ ends)

  -- it follows a stored node
  follows_on : (question : Question) (branches : Choice → Tree A) (room : ℕ) (front : List Stored) (n : Stored) (rest : List Stored) (t acc : ℕ → Choice → Bool)
      → Here s adds root room (Asks question branches) (choices front) (map pass_of front) acc → IsUnderWay m p (choices front) t (front ++ n ∷ rest)
      → ((k : ℕ) (o : Choice) → t k o ≡ (s.reduce && marked_too (adds (map pass_of front) question) acc k o)) → AllOffer (n ∷ rest) → IsSoundTree (Asks question branches)
      → ((x : Choice) → Goes (branches x))
      → Through (drive_on (λ choice after. drive s adds (branches choice) after) (branch s (at_here front (n ∷ rest)) question))
  unfolding AllOffer
  follows_on question branches zero front n rest t acc here way same offer wise ih =
      let found : m.node (choices front) ≡ Some n.made = (meeting_law m p (front ++ n ∷ rest) (choices front) t meets way).0 n (node_next front n rest) in
      let none : m.node (choices front) ≡ None = ap m.node (sym (append-nil (choices front))) ∙ here.node [] in
      absurd (cc (found, none))
  follows_on question branches (suc room) front n rest t acc here way same offer wise ih =
      let found : m.node (choices front) ≡ Some n.made = (meeting_law m p (front ++ n ∷ rest) (choices front) t meets way).0 n (node_next front n rest) in
      let some : m.node (choices front) ≡ Some (made_of question) = ap m.node (sym (append-nil (choices front))) ∙ here.node [] in
      let is : n.made ≡ made_of question = cc (found, some) in
      let option : Among n.present (made_of question).options = subst (λ (y : Made). Among n.present y.options) is offer.0 in
      let chosen : choices (front ++ n ∷ []) ≡ choices front ++ n.present ∷ [] = choices_append front (n ∷ []) in
      let passing : map pass_of (front ++ n ∷ []) ≡ map pass_of front ++ (made_of question, n.present) ∷ [] =
      passes_append front n ∙ ap (λ (y : Made). map pass_of front ++ (y, n.present) ∷ []) is in
      let here_next = here_on s adds root room question branches (choices front) (map pass_of front) acc n.present here option in
      let here_there = subst (λ c. Here s adds root room (branches n.present) c (map pass_of (front ++ n ∷ [])) (marked_too (adds (map pass_of front) question) acc)) (sym chosen)
      (subst (λ l. Here s adds root room (branches n.present) (choices front ++ n.present ∷ []) l (marked_too (adds (map pass_of front) question) acc)) (sym passing) here_next) in
      let way_next : IsUnderWay m p (choices front ++ n.present ∷ []) t (front ++ n ∷ rest) = follows (choices front) t (front ++ n ∷ rest) n way (node_next front n rest) found in
      let way_there : IsUnderWay m p (choices (front ++ n ∷ [])) t ((front ++ n ∷ []) ++ rest) =
      subst (λ c. IsUnderWay m p c t ((front ++ n ∷ []) ++ rest)) (sym chosen) (subst (λ q. IsUnderWay m p (choices front ++ n.present ∷ []) t q) (sym (one_on front n rest)) way_next) in
      subst (λ (y : Answer). Through (drive_on (λ choice after. drive s adds (branches choice) after) y)) (sym (branch_stored s front n rest question is))
      (ih n.present room (front ++ n ∷ []) rest t (marked_too (adds (map pass_of front) question) acc) here_there way_there same offer.1 (wise.1 n.present option))

  -- it makes a node
  makes_on : (question : Question) (branches : Choice → Tree A) (room : ℕ) (front : List Stored) (t acc : ℕ → Choice → Bool)
      → Here s adds root room (Asks question branches) (choices front) (map pass_of front) acc → IsUnderWay m p (choices front) t (front ++ [])
      → ((k : ℕ) (o : Choice) → t k o ≡ (s.reduce && marked_too (adds (map pass_of front) question) acc k o)) → IsSoundTree (Asks question branches)
      → ((x : Choice) → Goes (branches x))
      → Through (drive_on (λ choice after. drive s adds (branches choice) after) (branch s (at_here front []) question))
  unfolding AllOffer
  makes_on question branches zero front t acc here way same wise ih =
      let all : choices front ++ [] ≡ choices front = append-nil (choices front) in
      let full : s.max_branches ≤ length front = omega (arith, here.size, choices_size front) in
      let over : m.node (choices front) ≡ None = ap m.node (sym all) ∙ here.node [] in
      let made : marks_of adds no_marks [] root (choices front) ≡ marked_too (adds (map pass_of front) question) acc = ap (marks_of adds no_marks [] root) (sym all) ∙ here.marking [] in
      subst (λ (y : Answer). Through (drive_on (λ choice after. drive s adds (branches choice) after) y)) (sym (branch_full s front question full))
      (through_end front [] t (Err TooManyBranches) way over (λ k o. same k o ∙ ap (λ (f : ℕ → Choice → Bool). s.reduce && f k o) (sym made))
      (ap (outcome s.max_branches root) (sym all) ∙ here.ending []))
  makes_on question branches (suc room) front t acc here way same wise ih =
      let n = made_of question in
      let all : choices front ++ [] ≡ choices front = append-nil (choices front) in
      let within : length front < s.max_branches = omega (arith, here.size, choices_size front) in
      let some : m.node (choices front) ≡ Some n = ap m.node (sym all) ∙ here.node [] in
      let passes : passed root (choices front) ≡ map pass_of front = ap (passed root) (sym all) ∙ here.passing [] ∙ append-nil (map pass_of front) in
      let each : m.every (choices front) ≡ every_at s (map pass_of front) n = ap₂ (every_met s) passes some in
      let x : Stored = fresh (every_at s (map pass_of front) n) n in
      let option : Among n.default n.options = sound_default question wise.0 in
      let chosen : choices (front ++ x ∷ []) ≡ choices front ++ n.default ∷ [] = choices_append front (x ∷ []) in
      let passing : map pass_of (front ++ x ∷ []) ≡ map pass_of front ++ (n, n.default) ∷ [] = passes_append front x in
      let here_next = here_on s adds root room question branches (choices front) (map pass_of front) acc n.default here option in
      let here_there = subst (λ c. Here s adds root room (branches n.default) c (map pass_of (front ++ x ∷ [])) (marked_too (adds (map pass_of front) question) acc)) (sym chosen)
      (subst (λ l. Here s adds root room (branches n.default) (choices front ++ n.default ∷ []) l (marked_too (adds (map pass_of front) question) acc)) (sym passing) here_next) in
      let way_next : IsUnderWay m p (choices front ++ n.default ∷ []) t ((front ++ []) ++ fresh (m.every (choices front)) n ∷ []) =
      makes (choices front) t (front ++ []) n way (ap choices (sym (append-nil front))) some in
      let joined : (front ++ []) ++ fresh (m.every (choices front)) n ∷ [] ≡ (front ++ x ∷ []) ++ [] =
      ap₂ (λ (l : List Stored) (b : Bool). l ++ fresh b n ∷ []) (append-nil front) each ∙ sym (append-nil (front ++ x ∷ [])) in
      let way_there : IsUnderWay m p (choices (front ++ x ∷ [])) t ((front ++ x ∷ []) ++ []) =
      subst (λ c. IsUnderWay m p c t ((front ++ x ∷ []) ++ [])) (sym chosen) (subst (λ q. IsUnderWay m p (choices front ++ n.default ∷ []) t q) joined way_next) in
      subst (λ (y : Answer). Through (drive_on (λ choice after. drive s adds (branches choice) after) y)) (sym (branch_new s front question within))
      (ih n.default room (front ++ x ∷ []) [] t (marked_too (adds (map pass_of front) question) acc) here_there way_there same tt (wise.1 n.default option))

  asks_on : (question : Question) (branches : Choice → Tree A) (room : ℕ) (front rest : List Stored) (t acc : ℕ → Choice → Bool)
      → Here s adds root room (Asks question branches) (choices front) (map pass_of front) acc → IsUnderWay m p (choices front) t (front ++ rest)
      → ((k : ℕ) (o : Choice) → t k o ≡ (s.reduce && marked_too (adds (map pass_of front) question) acc k o)) → AllOffer rest → IsSoundTree (Asks question branches)
      → ((x : Choice) → Goes (branches x))
      → Through (drive_on (λ choice after. drive s adds (branches choice) after) (branch s (at_here front rest) question))
  asks_on question branches room front [] t acc here way same offer wise ih = makes_on question branches room front t acc here way same wise ih
  asks_on question branches room front (n ∷ rest) t acc here way same offer wise ih = follows_on question branches room front n rest t acc here way same offer wise ih

  marks_first : (question : Question) (branches : Choice → Tree A) (room : ℕ) (front rest : List Stored) (t acc : ℕ → Choice → Bool)
      → Here s adds root room (Asks question branches) (choices front) (map pass_of front) acc → IsUnderWay m p (choices front) t (front ++ rest)
      → ((k : ℕ) (o : Choice) → t k o ≡ (s.reduce && acc k o)) → AllOffer rest → IsSoundTree (Asks question branches)
      → ((x : Choice) → Goes (branches x))
      → Through (drive s adds (Asks question branches) (at_here front rest))
  marks_first question branches room front rest t acc here way same offer wise ih =
      go (split_marked s.reduce (adds (map pass_of front) question) front rest offer)
      (more_marks m p (choices front) (front ++ rest) s.reduce (adds (map pass_of front) question) t acc way same
      (λ k o h. omega (arith, marks_early adds fair (map pass_of front) question k o h, passes_size front)))
    where
      go : Split front rest (marked s.reduce (adds (map pass_of front) question) (front ++ rest))
          → More m p (choices front) (marked s.reduce (adds (map pass_of front) question) (front ++ rest)) s.reduce (marked_too (adds (map pass_of front) question) acc)
          → Through (drive s adds (Asks question branches) (at_here front rest))
      go z y =
          let there : backtrack s adds (at_here front rest) question ≡ at_here z.first z.others =
          ap₂ (λ (l : List (Made × Choice)) (k : ℕ). trail (marked s.reduce (adds l question) (front ++ rest)) k) (passes_here front rest) (sym z.size)
          ∙ ap (λ l. trail l (length z.first)) z.joined in
          let here_there = subst (λ c. Here s adds root room (Asks question branches) c (map pass_of z.first) acc) (sym z.same_choices)
          (subst (λ l. Here s adds root room (Asks question branches) (choices front) l acc) (sym z.same_passes) here) in
          let way_there = subst (λ c. IsUnderWay m p c y.marks (z.first ++ z.others)) (sym z.same_choices)
          (subst (λ q. IsUnderWay m p (choices front) y.marks q) z.joined y.way) in
          let same_there : (k : ℕ) (o : Choice) → y.marks k o ≡ (s.reduce && marked_too (adds (map pass_of z.first) question) acc k o) =
          (λ k o. y.same k o ∙ ap (λ (l : List (Made × Choice)). s.reduce && marked_too (adds l question) acc k o) (sym z.same_passes)) in
          subst (λ (path : Trail). Through (drive_on (λ choice after. drive s adds (branches choice) after) (branch s path question))) (sym there)
          (asks_on question branches room z.first z.others y.marks acc here_there way_there same_there z.offer wise ih)

  through : (sub : Tree A) → Goes sub
  through (Gives value) room front rest t acc here way same offer wise = ends_here (Gives value) room front rest t acc (Ok value) here way same refl refl refl
  through (Fails failure) room front rest t acc here way same offer wise = ends_here (Fails failure) room front rest t acc (Err failure) here way same refl refl refl
  through (Closes later) room front rest t acc here way same offer wise =
      let over : m.node (choices front) ≡ None = ap m.node (sym (append-nil (choices front))) ∙ here.node [] in
      let none : rest ≡ [] = none_left front rest t way over in
      let z = quiet s adds later (at_here front []) wise (used_up front) in
      let driven : drive s adds (Closes later) (at_here front rest) ≡ (z.comes, at_here front rest) =
      subst (λ (r : List Stored). drive s adds (Closes later) (at_here front r) ≡ (z.comes, at_here front r)) (sym none)
      (ap (λ (b : Bool). cond b (drive s adds later (at_here front [])) (Err NotDeterministic, at_here front [])) (used_up front) ∙ z.drives) in
      subst Through (sym driven) (ends_here (Closes later) room front rest t acc z.comes here way same refl refl (z.ends room))
  through (Asks question branches) room front rest t acc here way same offer wise =
      marks_first question branches room front rest t acc here way same offer wise (λ x. through (branches x))

-- ---- the law

pub offers_from : (p : List Stored) → ((before : List Choice) (n : Stored) → node_at p before ≡ Some n → Among n.present n.made.options) → AllOffer p
unfolding AllOffer node_at
offers_from [] h = tt
offers_from (n ∷ p) h = (h [] n refl, offers_from p (λ before k e. h (n.present ∷ before) k (node_on n p n.present before refl ∙ e)))

pub rest_offers : (n : Stored) → IsAtRest n → Among n.present n.made.options
rest_offers n r = r.closed n.present (λ e. (let a = r.active in cc (a, e)))

pub resting_offers : (m : Machine) (p : List Stored) → IsResting m p → AllOffer p
resting_offers m p r = offers_from p (λ before n e. rest_offers n (r.rest before n e))

module _ {A : Type 0} where
  law_by : (s : Settings) (adds : Marking) (tree : Tree A) (p : List Stored) (sound : IsSoundTree tree) (fair : IsMarking adds) (rests : IsResting (machine_of s adds tree) p)
      → Through s adds tree sound fair p rests.meets (drive s adds tree (at_start p)) → IsDriven s adds tree p
  law_by s adds tree p sound fair rests z =
      let k : Machine = machine_of s adds tree in
      let is = machine_law s adds tree sound fair in
      let o = over_law k p z.left (choices z.left) z.marks is z.way z.over refl in
      let left_is : z.left ≡ after_run k p = o.2 (λ i c l. z.same i c) in
      record {
        comes = (drive s adds tree (at_start p)).0;
        drives = ap (λ (y : Trail). ((drive s adds tree (at_start p)).0, y)) (z.leaves ∙ ap at_end left_is);
        is_run = (after_run_is k is p).whole;
        outcome = ap (outcome s.max_branches tree) (sym o.1) ∙ z.ends;
      }

  pub drive_law : DriveLaw A
  drive_law s adds tree p sound fair rests =
      law_by s adds tree p sound fair rests
      (through s adds tree sound fair p rests.meets tree s.max_branches [] p (λ k o. false) no_marks (here_start s adds tree) begins
      (λ k o. no_and s.reduce) (resting_offers (machine_of s adds tree) p rests) sound)
    where
      no_and : (b : Bool) → false ≡ (b && false)
      no_and true = refl
      no_and false = refl
