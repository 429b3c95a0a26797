-- A path that is to follow any choices: they are allowed, or refused, or the run fails before.
use Rattle.std.proofs.Common.{◌≡◌, ℕ, zero, suc, ◌<◌, ◌≤◌, Bool, true, false, ◌&&◌, List, [], ◌∷◌, ◌++◌, length, Option, Some, None, refl, ap, ap₂, sym, ◌∙◌, subst, arith, append-nil, length-append}
use Rattle.std.specs.Prelude.{slice_get, cond, nat_lt, nat_le, Result, Ok, Err}
use Rattle.loom_objects.specs.declared.choice.Choice.{Choice}
use Rattle.loom_objects.specs.Tree.Question.{Made, Among, Question, made_of}
use Rattle.loom_engine.specs.Walk.Machine.{Machine}
use Rattle.loom_engine.specs.Walk.Choices.{among, pick}
use Rattle.loom_engine.specs.Walk.Path.{Stored, choices}
use Rattle.loom_engine.specs.Walk.Lists.{IsAllowed}
use Rattle.loom_engine.proofs.Walk.Lists.{TwoSplits, earlier, same_place, later, two_splits, choices_append, snoc_append}
use Rattle.loom_views.specs.declared.rt.failure.FailureKind.{FailureKind}
use Rattle.loom_views.specs.declared.rt.failure.FailureKind.TheVariants.{NotDeterministic, TooManyBranches}
use Rattle.loom_objects.specs.Tree.Tree.{Tree, Gives, Fails, Closes, Asks}
use Rattle.loom_engine.specs.Trees.Outcomes.{outcome}
use Rattle.loom_engine.specs.Trees.Sound.{IsSoundTree}
use Rattle.loom_engine.specs.Trees.Meeting.{Settings, Marking, marked_too, no_marks, machine_of, every_at}
use Rattle.loom_engine.specs.Trees.Drive.{Trail, passes_of, Answer, lengthen, new_node, made_at, branch_at, branch, is_used_up, drive, drive_on}
use Rattle.loom_engine.specs.Trees.Check.{GivenRun, all_allowed, refused, fails_before, GivenLaw}
use Rattle.loom_engine.specs.Trees.Sound.{IsClosing}
use Rattle.loom_engine.proofs.Trees.Driving.{Here, here_start, here_on, pick_yes, choices_size}
use Rattle.loom_engine.proofs.Trees.Replaying.{passed_to, get_end, get_at, at_present, made_by, full_by, backtracked}

pub nothing_after : (e : List Choice) (x : Choice) (after : List Choice) → [] ≡ e ++ x ∷ after → ⊥
nothing_after [] x after h = cc h
nothing_after (y ∷ e) x after h = cc h

module _ {A : Type 0} (s : Settings) (adds : Marking) (root : Tree A) (c : List Choice) where
  abbrev m : Machine
  m = machine_of s adds root

  allowed_more : (from : List Choice) (x : Choice) (n : Made) → IsAllowed (machine_of s adds root) from → m.node from ≡ Some n → Among x n.options → IsAllowed (machine_of s adds root) (from ++ x ∷ [])
  allowed_more from x n allowed met option before o after h = go (two_splits before o after from x [] (sym h))
    where
      go : TwoSplits before o after from x [] → (k : Made) × (m.node before ≡ Some k) × Among o k.options
      go (earlier e i j) = allowed before o e i
      go (same_place i j l) = (n, ap m.node i ∙ met, subst (λ y. Among y n.options) (sym j) option)
      go (later e i j) = absurd (nothing_after e o after j)

  pub refuses : (nodes : List Stored) (question : Question) (x : Choice) → length nodes < s.max_branches → slice_get c (length nodes) ≡ Some x → (Among x (made_of question).options → ⊥)
      → branch s (passed_to c nodes) question ≡ (Err NotDeterministic, passed_to c nodes)
  refuses nodes question x h e f =
      let room : nat_lt (length nodes) s.max_branches ≡ true = grind arith in
      let each : Bool = every_at s (passes_of (passed_to c nodes)) (made_of question) in
      ap (branch_at s (passed_to c nodes) question) (get_end nodes)
      ∙ ap (λ (b : Bool). cond b (lengthen (passed_to c nodes) (new_node each (made_of question) (slice_get c (length nodes)))) (Err TooManyBranches, passed_to c nodes)) room
      ∙ ap (λ (y : Option Choice). lengthen (passed_to c nodes) (new_node each (made_of question) y)) e
      ∙ ap (lengthen (passed_to c nodes)) (none each (among x (made_of question).options))
    where
      none : (each : Bool) (d : Dec (Among x (made_of question).options)) → ◌≡◌ {A = Option Stored} (pick d (Some (made_at each (made_of question) x)) None) None
      none each (yes a) = absurd (f a)
      none each (no g) = refl

  pub not_used : (nodes : List Stored) → length nodes < length c → is_used_up (passed_to c nodes) ≡ false
  not_used nodes h =
      let e : nat_le (length nodes) (length nodes) ≡ true = grind arith in
      let f : nat_le (length c) (length nodes) ≡ false = grind arith in
      ap₂ (λ (a b : Bool). a && b) e f

  abbrev Takes : Tree A → Type 0
  Takes sub = (room : ℕ) (nodes : List Stored) (from rest : List Choice) (passes : List (Made × Choice)) (acc : ℕ → Choice → Bool) → Here s adds root room sub from passes acc
      → choices nodes ≡ from → c ≡ from ++ rest → IsAllowed (machine_of s adds root) from → IsSoundTree sub → IsClosing sub → GivenRun s adds root c (drive s adds sub (passed_to c nodes))

  all_taken : (from : List Choice) (d : Result A FailureKind × Trail) → c ≡ from ++ [] → IsAllowed (machine_of s adds root) from → GivenRun s adds root c d
  all_taken from d given allowed = all_allowed (subst (IsAllowed (machine_of s adds root)) (sym (append-nil from) ∙ sym given) allowed)

  before_end : (sub : Tree A) (room : ℕ) (nodes : List Stored) (from : List Choice) (passes : List (Made × Choice)) (acc : ℕ → Choice → Bool) (failure : FailureKind) → Here s adds root room sub from passes acc
      → choices nodes ≡ from → outcome room sub [] ≡ Some (Err failure) → GivenRun s adds root c (Err failure, passed_to c nodes)
  before_end sub room nodes from passes acc failure here e f =
      fails_before failure refl (ap (outcome s.max_branches root) (e ∙ sym (append-nil from)) ∙ here.ending [] ∙ f)

  shorter : (nodes : List Stored) (from : List Choice) (x : Choice) (rest : List Choice) → choices nodes ≡ from → c ≡ from ++ x ∷ rest → length nodes < length c
  shorter nodes from x rest e given = omega (arith, ap length given, length-append from (x ∷ rest), ap length e, choices_size nodes)

  takes_next : (question : Question) (branches : Choice → Tree A) (room : ℕ) (nodes : List Stored) (from : List Choice) (x : Choice) (rest : List Choice) (passes : List (Made × Choice)) (acc : ℕ → Choice → Bool)
      → Here s adds root room (Asks question branches) from passes acc → choices nodes ≡ from → c ≡ from ++ x ∷ rest → IsAllowed (machine_of s adds root) from → IsSoundTree (Asks question branches)
      → IsClosing (Asks question branches) → ((y : Choice) → Takes (branches y)) → Dec (Among x (made_of question).options)
      → GivenRun s adds root c (drive_on (λ choice after. drive s adds (branches choice) after) (branch s (passed_to c nodes) question))
  takes_next question branches zero nodes from x rest passes acc here e given allowed wise shut ih d =
      let full : s.max_branches ≤ length nodes = omega (arith, here.size, ap length e, choices_size nodes) in
      subst (λ (y : Answer). GivenRun s adds root c (drive_on (λ choice after. drive s adds (branches choice) after) y)) (sym (full_by s c nodes question full))
      (before_end (Asks question branches) zero nodes from passes acc TooManyBranches here e refl)
  takes_next question branches (suc room) nodes from x rest passes acc here e given allowed wise shut ih d =
      let within : length nodes < s.max_branches = omega (arith, here.size, ap length e, choices_size nodes) in
      let size : length nodes ≡ length from = omega (arith, ap length e, choices_size nodes) in
      let read : slice_get c (length nodes) ≡ Some x = ap₂ (λ (l : List Choice) (i : ℕ). slice_get l i) given size ∙ get_at from x rest in
      go within read d
    where
      go : length nodes < s.max_branches → slice_get c (length nodes) ≡ Some x → Dec (Among x (made_of question).options)
          → GivenRun s adds root c (drive_on (λ choice after. drive s adds (branches choice) after) (branch s (passed_to c nodes) question))
      go within read (no f) =
          subst (λ (y : Answer). GivenRun s adds root c (drive_on (λ choice after. drive s adds (branches choice) after) y)) (sym (refuses nodes question x within read f)) (refused refl)
      go within read (yes option) =
          let n = made_of question in
          let some : m.node from ≡ Some n = ap m.node (sym (append-nil from)) ∙ here.node [] in
          let each : Bool = every_at s (passes_of (passed_to c nodes)) n in
          let k : Stored = made_at each n x in
          let new : new_node each n (Some x) ≡ Some k = pick_yes (among x n.options) _ _ option in
          let said : branch s (passed_to c nodes) question ≡ (Ok x, passed_to c (nodes ++ k ∷ [])) =
          made_by s c nodes question (Some x) k within read new ∙ ap (λ (y : Choice). (Ok y, passed_to c (nodes ++ k ∷ []))) (at_present each n x) in
          subst (λ (y : Answer). GivenRun s adds root c (drive_on (λ choice after. drive s adds (branches choice) after) y)) (sym said)
          (ih x room (nodes ++ k ∷ []) (from ++ x ∷ []) rest (passes ++ (n, x) ∷ []) (marked_too (adds passes question) acc)
          (here_on s adds root room question branches from passes acc x here option)
          (choices_append nodes (k ∷ []) ∙ ap₂ (λ (l : List Choice) (y : Choice). l ++ y ∷ []) e (at_present each n x))
          (given ∙ sym (snoc_append from x rest)) (allowed_more from x n allowed some option) (wise.1 x option) (shut x))

  takes : (sub : Tree A) → Takes sub
  takes sub room nodes from [] passes acc here e given allowed wise shut = all_taken from _ given allowed
  takes (Gives value) room nodes from (x ∷ rest) passes acc here e given allowed wise shut = absurd shut
  takes (Fails failure) room nodes from (x ∷ rest) passes acc here e given allowed wise shut = before_end (Fails failure) room nodes from passes acc failure here e refl
  takes (Closes last) room nodes from (x ∷ rest) passes acc here e given allowed wise shut =
      refused (ap (λ (b : Bool). (cond b (drive s adds last (passed_to c nodes)) (Err NotDeterministic, passed_to c nodes)).0) (not_used nodes (shorter nodes from x rest e given)))
  takes (Asks question branches) room nodes from (x ∷ rest) passes acc here e given allowed wise shut =
      let b = backtracked s adds root c nodes question in
      subst (λ (path : Trail). GivenRun s adds root c (drive_on (λ choice after. drive s adds (branches choice) after) (branch s path question))) (sym b.1)
      (takes_next question branches room b.0 from x rest passes acc here (b.2 ∙ e) given allowed wise shut (λ y. takes (branches y)) (among x (made_of question).options))

module _ {A : Type 0} where
  pub given_law : GivenLaw A
  given_law s adds tree c sound shut =
      takes s adds tree c tree s.max_branches [] [] c [] no_marks (here_start s adds tree) refl refl none sound shut
    where
      none : IsAllowed (machine_of s adds tree) []
      none before o after h = absurd (nothing_after before o after h)
