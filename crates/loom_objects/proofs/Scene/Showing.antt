-- From the state that a scene shows to the one that it shows then.
use Rattle.std.proofs.Common.{◌≡◌, ℕ, refl, sym, ap, subst}
use Rattle.std.specs.Prelude.{Ok, Err, Result}
use Rattle.loom_views.specs.Views.{Points, ShowsViews, MovesAs}
use Rattle.loom_views.specs.declared.rt.failure.FailureKind.{FailureKind}
use Rattle.loom_views.specs.declared.rt.views.Views.{Views}
use Rattle.loom_objects.specs.Rules.Rule.{◌>>=◌}
use Rattle.loom_objects.specs.Scene.Stage.{Stage, world_of, points_of, Comes, Does}
use Rattle.loom_objects.specs.Tree.Tree.{Tree, Gives, Fails, came}
use Rattle.loom_objects.specs.World.{World}

module _ {A D : Type 0} (rule : World D → Result (A × World D) FailureKind) (old new : Stage D) where
  -- the points move as the views do, and all else as the rule says
  pub gives : (a : A) (views : Views) (after : Points → Points) → new.views ≡ views → ((p : Points) → ShowsViews p old.views → ShowsViews (after p) views)
      → ((p : Points) (left : ℕ) → rule (world_of p left old) ≡ Ok (a, world_of (after p) left new)) → Does rule old (Ok a) new
  gives a views after same moves e = λ p left shown. rw (e p left) (refl, subst (ShowsViews (after p)) (sym same) (moves p shown))

  -- the views stay as they are
  pub keeps : (a : A) → new.views ≡ old.views → ((p : Points) (left : ℕ) → rule (world_of p left old) ≡ Ok (a, world_of p left new)) → Does rule old (Ok a) new
  keeps a same e = gives a old.views (λ p. p) same (λ p shown. shown) e

  -- whatever the points are, the rule fails
  pub refuses : (kind : FailureKind) → ((p : Points) (left : ℕ) → rule (world_of p left old) ≡ Err kind) → Does rule old (Err kind) new
  refuses kind e = λ p left shown. e p left

-- a rule does what another one does that answers the same
pub does_as : {A D : Type 0} (rule other : World D → Result (A × World D) FailureKind) (old new : Stage D) (result : Result A FailureKind)
    → ((p : Points) (left : ℕ) → rule (world_of p left old) ≡ other (world_of p left old)) → Does other old result new → Does rule old result new
does_as {A} {D} rule other old new result same does = λ p left shown.
    subst (λ (answer : Result (A × World D) FailureKind). Comes p left answer result new) (sym (same p left)) (does p left shown)

-- a rule goes on as another one from the scene that the code has reached
pub does_from : {A D : Type 0} (rule other : World D → Result (A × World D) FailureKind) (old mid new : Stage D) (result : Result A FailureKind) → mid.views ≡ old.views
    → ((p : Points) (left : ℕ) → rule (world_of p left old) ≡ other (world_of p left mid)) → Does other mid result new → Does rule old result new
does_from {A} {D} rule other old mid new result views same does = λ p left shown.
    subst (λ (answer : Result (A × World D) FailureKind). Comes p left answer result new) (sym (same p left)) (does p left (subst (ShowsViews p) (sym views) shown))

-- what is said of the points that a rule leads to doesn't depend on those before it
comes_at : {A D : Type 0} (p q : Points) (left : ℕ) (answer : Result (A × World D) FailureKind) (result : Result A FailureKind) (new : Stage D) → Comes q left answer result new → Comes p left answer result new
comes_at p q left (Ok x) (Ok a) new comes = comes
comes_at p q left (Ok x) (Err kind) new comes = comes
comes_at p q left (Err kind) (Ok a) new comes = let e = comes.0 in absurd (cc)
comes_at p q left (Err kind) (Err other) new comes = comes

-- a rule goes on from another one's result
pub follows : {A B D : Type 0} (first : World D → Result (A × World D) FailureKind) (next : A × World D → Result (B × World D) FailureKind) (old mid new : Stage D) (a : A) (result : Result B FailureKind)
    → Does first old (Ok a) mid → Does (λ w. next (a, w)) mid result new → Does (λ w. first w >>= next) old result new
follows {A} {B} {D} first next old mid new a result does then p left shown =
    let h = does p left shown in
    let q = points_of p (first (world_of p left old)) in
    subst (λ (answer : Result (A × World D) FailureKind). Comes p left (answer >>= next) result new) (sym h.0)
    (comes_at p q left (next (a, world_of q left mid)) result new (then q left h.1))

-- ---- moves of the views that may fail

-- points that the one views show lead this way to some that the other views show
abbrev pub Leads : Views → Views → (Points → Points → Type 0) → Type 0
Leads old new Way = (p : Points) → ShowsViews p old → (q : Points) × Way p q × ShowsViews q new

moved : (r : Result Points FailureKind) (v : Views) → MovesAs r (Ok tt) v → (p : Points) × (r ≡ Ok p) × ShowsViews p v
moved (Ok p) v h = (p, refl, h.1)
moved (Err kind) v h = absurd (cc)

moved_not : (r : Result Points FailureKind) (v : Views) (kind : FailureKind) → MovesAs r (Err kind) v → r ≡ Err kind
moved_not (Ok p) v kind h = let e = h.0 in absurd (cc)
moved_not (Err other) v kind h = cc

-- by one move, which succeeds
pub leads_by : (move : Points → Result Points FailureKind) (old new : Views) → ((p : Points) → ShowsViews p old → MovesAs (move p) (Ok tt) new) → Leads old new (λ p q. move p ≡ Ok q)
leads_by move old new moves p shown = moved (move p) new (moves p shown)

-- and by one more
pub leads_on : {Way : Points → Points → Type 0} (move : Points → Result Points FailureKind) (old mid new : Views) → Leads old mid Way
    → ((p : Points) → ShowsViews p mid → MovesAs (move p) (Ok tt) new) → Leads old new (λ p r. (q : Points) × Way p q × (move q ≡ Ok r))
leads_on move old mid new leads moves p shown =
    let q = leads p shown in
    let r = moved (move q.0) new (moves q.0 q.2) in
    (r.0, (q.0, q.1, r.1), r.2)

-- the same views by another name
pub leads_same : {Way : Points → Points → Type 0} (old mid new : Views) → new ≡ mid → Leads old mid Way → Leads old new Way
leads_same {Way} old mid new same leads = subst (λ (v : Views). Leads old v Way) (sym same) leads

module _ {A D : Type 0} (rule : World D → Result (A × World D) FailureKind) (old new : Stage D) (views : Views) (Way : Points → Points → Type 0) (leads : Leads old.views views Way) where
  pub gives_by : (a : A) → new.views ≡ views → ((p q : Points) (left : ℕ) → Way p q → rule (world_of p left old) ≡ Ok (a, world_of q left new)) → Does rule old (Ok a) new
  gives_by a same e = λ p left shown. let q = leads p shown in rw (e p q.0 left q.1) (refl, subst (ShowsViews q.0) (sym same) q.2)

  pub refuses_by : (kind : FailureKind) → ((p q : Points) (left : ℕ) → Way p q → rule (world_of p left old) ≡ Err kind) → Does rule old (Err kind) new
  refuses_by kind e = λ p left shown. let q = leads p shown in e p q.0 left q.1

  -- the next move fails
  pub stops_by : (move : Points → Result Points FailureKind) (after : Views) (kind : FailureKind) → ((p : Points) → ShowsViews p views → MovesAs (move p) (Err kind) after)
      → ((p q : Points) (left : ℕ) → Way p q → move q ≡ Err kind → rule (world_of p left old) ≡ Err kind) → Does rule old (Err kind) new
  stops_by move after kind moves e = λ p left shown. let q = leads p shown in e p q.0 left q.1 (moved_not (move q.0) after kind (moves q.0 q.2))

-- the first move fails
pub stops : {A D : Type 0} (rule : World D → Result (A × World D) FailureKind) (old new : Stage D) (move : Points → Result Points FailureKind) (after : Views) (kind : FailureKind)
    → ((p : Points) → ShowsViews p old.views → MovesAs (move p) (Err kind) after) → ((p : Points) (left : ℕ) → move p ≡ Err kind → rule (world_of p left old) ≡ Err kind) → Does rule old (Err kind) new
stops rule old new move after kind moves e = λ p left shown. e p left (moved_not (move p) after kind (moves p shown))

-- ---- from results to trees

-- A rule without a choice as a tree of one leaf.
abbrev pub ComesTree : {A D : Type 0} → ℕ → Tree (A × World D) → Result A FailureKind → Stage D → Type 0
ComesTree {D = D} left tree (Ok a) new = (q : Points) × ShowsViews q new.views × (tree ≡ Gives (a, world_of q left new))
ComesTree left tree (Err kind) new = tree ≡ Fails kind

pub by_tree : {A D : Type 0} (rule : World D → Result (A × World D) FailureKind) (old new : Stage D) (r : Result A FailureKind)
    → Does rule old r new → (p : Points) (left : ℕ) → ShowsViews p old.views → ComesTree left (came (rule (world_of p left old))) r new
by_tree rule old new (Ok a) does p left shown = (points_of p (rule (world_of p left old)), (does p left shown).1, ap came (does p left shown).0)
by_tree rule old new (Err kind) does p left shown = ap came (does p left shown)
