-- A path that begins as another one did drives as that one did, as far as both are the same.
use Rattle.std.proofs.Common.{◌≡◌, ◌≤◌, ◌<◌, ◌+◌, ℕ, zero, suc, arith, Bool, true, false, cond, List, [], ◌∷◌, ◌++◌, length, map, take, Option, Some, None, Result, Ok, Err, refl, ap, ap₂, sym, ◌∙◌, subst}
use Rattle.std.specs.Prelude.{nat_lt, slice_get}
use Rattle.loom_views.specs.declared.rt.failure.FailureKind.{FailureKind}
use Rattle.loom_views.specs.declared.rt.failure.FailureKind.TheVariants.{NotDeterministic, TooManyBranches}
use Rattle.loom_objects.specs.declared.choice.Choice.{Choice}
use Rattle.loom_objects.specs.Tree.Question.{Made, Question, made_of}
use Rattle.loom_objects.specs.Tree.Tree.{Tree, Gives, Fails, Closes, Asks}
use Rattle.loom_engine.specs.Walk.Choices.{among, pick, same}
use Rattle.loom_engine.specs.Walk.Machine.{is_thread}
use Rattle.loom_engine.specs.Walk.Path.{Stored, advance, choose, fresh, step}
use Rattle.loom_engine.specs.Trees.Comparing.{same_made}
use Rattle.loom_engine.specs.Trees.Meeting.{Settings, Marking, every_at, whole_search}
use Rattle.loom_engine.specs.Trees.Drive.{Answer, Trail, branch, branch_at, drive, drive_on, follow, is_used_up, lengthen, made_at, new_node, pass_of, passes_of, value_status}
use Rattle.loom_engine.specs.Trees.Retracing.{BeginsWith, IsLater, standing_at}
use Rattle.loom_engine.proofs.Trees.Driving.{pick_yes}
use Rattle.loom_engine.proofs.Covering.Parts.{AllGive, not_both, same_path, same_value}

-- ---- nodes later on

later_itself : (n : Stored) → IsLater n n
later_itself n = record { made = refl; present = refl }

later_on : (n m l : Stored) → IsLater n m → IsLater m l → IsLater n l
later_on n m l a b = record { made = b.made ∙ a.made; present = b.present ∙ a.present }

pub begins_itself : (nodes : List Stored) → BeginsWith nodes nodes
begins_itself [] = tt
begins_itself (n ∷ nodes) = (later_itself n, begins_itself nodes)

pub begins_on : (p q r : List Stored) → BeginsWith p q → BeginsWith q r → BeginsWith p r
begins_on [] q r a b = tt
begins_on (n ∷ p) [] r a b = absurd a
begins_on (n ∷ p) (m ∷ q) [] a b = absurd b
begins_on (n ∷ p) (m ∷ q) (l ∷ r) a b = (later_on n m l a.0 b.0, begins_on p q r a.1 b.1)

begins_append : (p q : List Stored) → BeginsWith p (p ++ q)
begins_append [] q = tt
begins_append (n ∷ p) q = (later_itself n, begins_append p q)

-- and with fewer of them
pub begins_less : (j k : ℕ) (p q r : List Stored) → j ≤ k → BeginsWith p q → BeginsWith (take k q) r → BeginsWith (take j p) r
begins_less zero k p q r l a b = tt
begins_less (suc j) zero p q r l a b = absurd (omega (arith, l))
begins_less (suc j) (suc k) [] q r l a b = tt
begins_less (suc j) (suc k) (n ∷ p) [] r l a b = absurd a
begins_less (suc j) (suc k) (n ∷ p) (m ∷ q) [] l a b = absurd b
begins_less (suc j) (suc k) (n ∷ p) (m ∷ q) (x ∷ r) l a b = (later_on n m x a.0 b.0, begins_less j k p q r (omega (arith, l)) a.1 b.1)

-- it is as long
pub begins_long : (p q : List Stored) → BeginsWith p q → length p ≤ length q
begins_long [] q a = omega arith
begins_long (n ∷ p) [] a = absurd a
begins_long (n ∷ p) (m ∷ q) a = let l = begins_long p q a.1 in omega (arith, l)

-- a node of the first so many
begins_at : (k i : ℕ) (p q : List Stored) (n : Stored) → i < k → slice_get p i ≡ Some n → BeginsWith (take k p) q → (m : Stored) × (slice_get q i ≡ Some m) × IsLater n m
begins_at zero i p q n l e b = absurd (omega (arith, l))
begins_at (suc k) i [] q n l e b = absurd (cc e)
begins_at (suc k) i (x ∷ p) [] n l e b = absurd b
begins_at (suc k) zero (x ∷ p) (m ∷ q) n l e b = let is : x ≡ n = cc e in (m, refl, subst (λ (y : Stored). IsLater y m) is b.0)
begins_at (suc k) (suc i) (x ∷ p) (m ∷ q) n l e b = begins_at k i p q n (omega (arith, l)) e b.1

-- its first nodes are there
pub begins_taken : (k : ℕ) (p : List Stored) → BeginsWith (take k p) p
begins_taken zero p = tt
begins_taken (suc k) [] = tt
begins_taken (suc k) (n ∷ p) = (later_itself n, begins_taken k p)

-- the path's first nodes are those later on
pub begins_front : (front q : List Stored) → BeginsWith front q → BeginsWith front (take (length front) q)
begins_front [] q b = tt
begins_front (n ∷ front) [] b = absurd b
begins_front (n ∷ front) (m ∷ q) b = (b.0, begins_front front q b.1)

-- what was passed is the same
pub passes_begin : (front q : List Stored) → BeginsWith front q → map pass_of (take (length front) q) ≡ map pass_of front
passes_begin [] q b = refl
passes_begin (n ∷ front) [] b = absurd b
passes_begin (n ∷ front) (m ∷ q) b =
    ap₂ (λ (x : Made × Choice) (l : List (Made × Choice)). x ∷ l) (ap₂ (λ (a : Made) (c : Choice). (a, c)) b.0.made b.0.present) (passes_begin front q b.1)

-- ---- what the path says

-- The path has answered the question by this choice, at a node that is where it was, and is passed; its nodes are there later on.
pub record Answers (path : Trail) (question : Question) (o : Choice) (mid : Trail) : Type 0 where
  pub position : mid.position ≡ path.position + 1
  pub given : mid.given ≡ path.given
  pub within : mid.position ≤ length mid.nodes
  pub node : Stored
  pub at : slice_get mid.nodes path.position ≡ Some node
  pub made : node.made ≡ made_of question
  pub present : node.present ≡ o
  pub kept : BeginsWith path.nodes mid.nodes

abbrev pub GoesOn : Trail → Question → Answer → Type 0
GoesOn path question (Ok o, mid) = Answers path question o mid
GoesOn path question (Err kind, mid) = Unit {0}

get_within : (p : List Stored) (k : ℕ) (n : Stored) → slice_get p k ≡ Some n → k + 1 ≤ length p
get_within [] k n e = absurd (cc e)
get_within (x ∷ p) zero n e = omega arith
get_within (x ∷ p) (suc k) n e = let l = get_within p k n e in omega (arith, l)

get_last : (p : List Stored) (k : ℕ) (n : Stored) → slice_get p k ≡ None → k ≤ length p → (slice_get (p ++ n ∷ []) k ≡ Some n) × (k + 1 ≤ length (p ++ n ∷ []))
get_last [] zero n e l = (refl, omega arith)
get_last [] (suc k) n e l = absurd (omega (arith, l))
get_last (x ∷ p) zero n e l = absurd (cc e)
get_last (x ∷ p) (suc k) n e l = let z = get_last p k n e (omega (arith, l)) in (z.0, omega (arith, z.1))

follows_on : (path : Trail) (question : Question) (n : Stored) → slice_get path.nodes path.position ≡ Some n → GoesOn path question (follow path question n)
follows_on path question n e = by (same_made n.made (made_of question))
  where
    by : (d : Dec (n.made ≡ made_of question)) → GoesOn path question (pick d (Ok n.present, record path { position = path.position + 1 }) (Err NotDeterministic, path))
    by (yes f) = record { position = refl; given = refl; within = get_within path.nodes path.position n e; node = n; at = e; made = f; present = refl; kept = begins_itself path.nodes }
    by (no f) = tt

made_so : (every : Bool) (n : Made) (x : Choice) → (made_at every n x).made ≡ n
made_so every n x = by (same x n.default) (is_thread n.default)
  where
    by : (d : Dec (x ≡ n.default)) (b : Bool) → (pick d (fresh every n) (cond b (choose (fresh every n) x) (record { made = n; present = x; status = value_status n.options x }))).made ≡ n
    by (yes e) b = refl
    by (no f) true = refl
    by (no f) false = refl

-- a new node is made so
abbrev IsMadeSo : Made → Option Stored → Type 0
IsMadeSo made None = Unit {0}
IsMadeSo made (Some n) = n.made ≡ made

new_so : (every : Bool) (made : Made) (x : Option Choice) → IsMadeSo made (new_node every made x)
new_so every made None = refl
new_so every made (Some x) = by (among x made.options)
  where
    by : {B : Type 0} (d : Dec B) → IsMadeSo made (pick d (Some (made_at every made x)) None)
    by (yes a) = made_so every made x
    by (no f) = tt

lengthens_on : (path : Trail) (question : Question) (x : Option Stored) → slice_get path.nodes path.position ≡ None → path.position ≤ length path.nodes → IsMadeSo (made_of question) x → GoesOn path question (lengthen path x)
lengthens_on path question None e l is = tt
lengthens_on path question (Some n) e l is =
    let z = get_last path.nodes path.position n e l in
    record { position = refl; given = refl; within = z.1; node = n; at = z.0; made = is; present = refl; kept = begins_append path.nodes (n ∷ []) }

pub answers_on : (s : Settings) (path : Trail) (question : Question) → path.position ≤ length path.nodes → GoesOn path question (branch s path question)
answers_on s path question l = by (slice_get path.nodes path.position) refl
  where
    makes_on : slice_get path.nodes path.position ≡ None → (b : Bool) (x : Option Stored) → IsMadeSo (made_of question) x → GoesOn path question (cond b (lengthen path x) (Err TooManyBranches, path))
    makes_on e true x is = lengthens_on path question x e l is
    makes_on e false x is = tt

    by : (x : Option Stored) → slice_get path.nodes path.position ≡ x → GoesOn path question (branch_at s path question x)
    by None e =
        let every = every_at s (passes_of path) (made_of question) in
        makes_on e (nat_lt path.position s.max_branches) (new_node every (made_of question) (slice_get path.given path.position)) (new_so every (made_of question) (slice_get path.given path.position))
    by (Some n) e = follows_on path question n e

-- a stored node answers again
answers_again : (s : Settings) (path : Trail) (question : Question) (m : Stored) → slice_get path.nodes path.position ≡ Some m → m.made ≡ made_of question
    → branch s path question ≡ (Ok m.present, record path { position = path.position + 1 })
answers_again s path question m e f =
    ap (branch_at s path question) e ∙ pick_yes (same_made m.made (made_of question)) (Ok m.present, record path { position = path.position + 1 }) (Err NotDeterministic, path) f

-- ---- a tree

-- The whole search makes no marks: its path is as it was where a question is asked.
module _ (room : ℕ) (adds : Marking) {A : Type 0} (x : A) (after : Trail) where
  pub used_by : (b : Bool) (path : Trail) (d : Result A FailureKind × Trail) → cond b d (Err NotDeterministic, path) ≡ (Ok x, after) → d ≡ (Ok x, after)
  used_by true path d e = e
  used_by false path d e = absurd (not_both NotDeterministic x path after e)

  -- A path that has driven through a tree has gone on, and its nodes are there later on.
  pub record Keeps (path : Trail) : Type 0 where
    pub further : path.position ≤ after.position
    pub within : after.position ≤ length after.nodes
    pub given : after.given ≡ path.given
    pub kept : BeginsWith path.nodes after.nodes

  keeps_there : (path : Trail) → path.position ≤ length path.nodes → path ≡ after → Keeps path
  keeps_there path l e = record {
    further = subst (λ (p : Trail). path.position ≤ p.position) e (omega arith);
    within = subst (λ (p : Trail). p.position ≤ length p.nodes) e l;
    given = ap (λ (p : Trail). p.given) (sym e);
    kept = subst (λ (p : Trail). BeginsWith path.nodes p.nodes) e (begins_itself path.nodes);
  }

  keeps_one : (path : Trail) (question : Question) (o : Choice) (mid : Trail) → Answers path question o mid → Keeps mid → Keeps path
  keeps_one path question o mid a k = record {
    further = let e = a.position in let f = k.further in omega (arith, e, f);
    within = k.within;
    given = k.given ∙ a.given;
    kept = begins_on path.nodes mid.nodes after.nodes a.kept k.kept;
  }

  pub keeps : (t : Tree A) (path : Trail) → path.position ≤ length path.nodes → drive (whole_search room) adds t path ≡ (Ok x, after) → Keeps path
  keeps (Gives a) path l e = keeps_there path l (same_path a x path after e)
  keeps (Fails kind) path l e = absurd (not_both kind x path after e)
  keeps (Closes rest) path l e = keeps rest path l (used_by (is_used_up path) path (drive (whole_search room) adds rest path) e)
  keeps (Asks question branches) path l e = by (branch (whole_search room) path question) (answers_on (whole_search room) path question l) e (λ o mid m d. keeps (branches o) mid m d)
    where
      by : (answer : Answer) → GoesOn path question answer → drive_on (λ o mid. drive (whole_search room) adds (branches o) mid) answer ≡ (Ok x, after)
          → ((o : Choice) (mid : Trail) → mid.position ≤ length mid.nodes → drive (whole_search room) adds (branches o) mid ≡ (Ok x, after) → Keeps mid) → Keeps path
      by (Err kind, mid) a d ih = absurd (not_both kind x mid after d)
      by (Ok o, mid) a d ih = keeps_one path question o mid a (ih o mid a.within d)

  pub given_behind : (P : A → Type 0) (t : Tree A) (path : Trail) → AllGive P t → drive (whole_search room) adds t path ≡ (Ok x, after) → P x
  given_behind P (Gives a) path h e = subst P (same_value a x path after e) h
  given_behind P (Fails kind) path h e = absurd (not_both kind x path after e)
  given_behind P (Closes rest) path h e = given_behind P rest path h (used_by (is_used_up path) path (drive (whole_search room) adds rest path) e)
  given_behind P (Asks question branches) path h e = by (branch (whole_search room) path question) e (λ o mid d. given_behind P (branches o) mid (h o) d)
    where
      by : (answer : Answer) → drive_on (λ o mid. drive (whole_search room) adds (branches o) mid) answer ≡ (Ok x, after) → ((o : Choice) (mid : Trail) → drive (whole_search room) adds (branches o) mid ≡ (Ok x, after) → P x) → P x
      by (Ok o, mid) d ih = ih o mid d
      by (Err kind, mid) d ih = absurd (not_both kind x mid after d)

  -- A path that begins as it did answers the question so again.
  pub asks_again : (question : Question) (path mid : Trail) (o : Choice) → Answers path question o mid → Keeps mid → (q : Trail) → BeginsWith (take after.position after.nodes) q.nodes
      → branch (whole_search room) (standing_at path.position q) question ≡ (Ok o, standing_at mid.position q)
  asks_again question path mid o a k q b =
      answers_again (whole_search room) (standing_at path.position q) question m.0 m.1 (m.2.made ∙ a.made) ∙ ap₂ (λ (c : Choice) (i : ℕ). (Ok c, standing_at i q)) (m.2.present ∙ a.present) (sym a.position)
    where
      on : path.position + 1 ≤ after.position
      on = let e = a.position in let f = k.further in omega (arith, e, f)

      m : (m : Stored) × (slice_get q.nodes path.position ≡ Some m) × IsLater a.node m
      m = begins_at (path.position + 1) path.position mid.nodes q.nodes a.node (omega arith) a.at (begins_less (path.position + 1) after.position mid.nodes after.nodes q.nodes on k.kept b)

-- ---- a step to the next run

-- The next path begins with these nodes still, where they come before the one that goes on.
pub begins_stepped : (front p later : List Stored) → BeginsWith front p → step p ≡ Some later → length front < length later → BeginsWith front later
unfolding step
begins_stepped [] p later b e l = tt
begins_stepped (x ∷ front) [] later b e l = absurd b
begins_stepped (x ∷ front) (n ∷ p) later b e l = by (step p) (advance n) refl e (λ deeper f m. begins_stepped front p deeper b.1 f m)
  where
    by : (r : Option (List Stored)) (a : Option Stored) → step p ≡ r
        → ◌≡◌ {A = Option (List Stored)} (elim r [ Some deeper ↦ Some (n ∷ deeper) | None ↦ elim a [ None ↦ None | Some next ↦ Some (next ∷ []) ] ]) (Some later)
        → ((deeper : List Stored) → step p ≡ Some deeper → length front < length deeper → BeginsWith front deeper) → BeginsWith (x ∷ front) later
    by (Some deeper) a f g ih =
        let is : n ∷ deeper ≡ later = cc g in
        let m : suc (length deeper) ≡ length later = ap (λ (q : List Stored). length q) is in
        subst (λ (q : List Stored). BeginsWith (x ∷ front) q) is (b.0, ih deeper f (omega (arith, l, m)))
    by None None f g ih = absurd (cc g)
    by None (Some next) f g ih =
        let is : next ∷ [] ≡ later = cc g in
        let m : 1 ≡ length later = ap (λ (q : List Stored). length q) is in
        absurd (omega (arith, l, m))

-- and has no more nodes
pub stepped_long : (p later : List Stored) → step p ≡ Some later → length later ≤ length p
unfolding step
stepped_long [] later e = absurd (cc e)
stepped_long (n ∷ p) later e = by (step p) (advance n) refl e (λ deeper f. stepped_long p deeper f)
  where
    by : (r : Option (List Stored)) (a : Option Stored) → step p ≡ r
        → ◌≡◌ {A = Option (List Stored)} (elim r [ Some deeper ↦ Some (n ∷ deeper) | None ↦ elim a [ None ↦ None | Some next ↦ Some (next ∷ []) ] ]) (Some later)
        → ((deeper : List Stored) → step p ≡ Some deeper → length deeper ≤ length p) → length later ≤ suc (length p)
    by (Some deeper) a f g ih =
        let is : n ∷ deeper ≡ later = cc g in
        let m : suc (length deeper) ≡ length later = ap (λ (q : List Stored). length q) is in
        let l = ih deeper f in
        omega (arith, l, m)
    by None None f g ih = absurd (cc g)
    by None (Some next) f g ih =
        let is : next ∷ [] ≡ later = cc g in
        let m : 1 ≡ length later = ap (λ (q : List Stored). length q) is in
        omega (arith, m)
