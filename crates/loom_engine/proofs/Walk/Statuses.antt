-- The state of options as they are made, marked and chosen.
use Rattle.std.proofs.Common.{◌≡◌, ◌⊎◌, Bool, true, false, cond, ◌&&◌, List, [], ◌∷◌, Option, Some, None, refl, ap, sym, ◌∙◌, inl, inr, IsSomeAnd}
use Rattle.loom_objects.specs.declared.choice.Choice.{Choice}
use Rattle.loom_engine.specs.Walk.Choices.{same, among, pick}
use Rattle.loom_objects.specs.Tree.Question.{Made, Among}
use Rattle.loom_engine.specs.Walk.Machine.{Machine}
use Rattle.loom_engine.specs.Walk.Path.{Status, Closed, Skip, Pending, Active, Visited, Stored, IsAtRest, IsBarred, IsLeftOut, node_at, first_status, mark_status, first_pending, choose, advance}
use Rattle.loom_engine.proofs.Walk.Lists.{pick_same}

pub both_true : (a b : Bool) → (a && b) ≡ true → (a ≡ true) × (b ≡ true)
both_true true true h = (refl, refl)
both_true true false h = absurd (cc h)
both_true false b h = absurd (cc h)

pub true_both : (a b : Bool) → a ≡ true → b ≡ true → (a && b) ≡ true
true_both true true h g = refl
true_both true false h g = absurd (cc g)
true_both false b h g = absurd (cc h)

-- what a mark leaves
pub kept_closed : (b : Bool) (s : Status) → s ≡ Closed → mark_status b s ≡ Closed
kept_closed b s h = rw h refl

pub kept_pending : (b : Bool) (s : Status) → s ≡ Pending → mark_status b s ≡ Pending
kept_pending b s h = rw h refl

pub kept_active : (b : Bool) (s : Status) → s ≡ Active → mark_status b s ≡ Active
kept_active b s h = rw h refl

pub kept_visited : (b : Bool) (s : Status) → s ≡ Visited → mark_status b s ≡ Visited
kept_visited b s h = rw h refl

pub kept_skip : (b : Bool) (s : Status) → s ≡ Skip → b ≡ false → mark_status b s ≡ Skip
kept_skip b s h g = rw (h, g) refl

pub made_pending : (b : Bool) (s : Status) → s ≡ Skip → b ≡ true → mark_status b s ≡ Pending
made_pending b s h g = rw (h, g) refl

-- and what it was before
pub was_closed : (b : Bool) (s : Status) → mark_status b s ≡ Closed → s ≡ Closed
was_closed b Closed h = refl
was_closed true Skip h = absurd (cc h)
was_closed false Skip h = absurd (cc h)
was_closed b Pending h = absurd (cc h)
was_closed b Active h = absurd (cc h)
was_closed b Visited h = absurd (cc h)

pub was_active : (b : Bool) (s : Status) → mark_status b s ≡ Active → s ≡ Active
was_active b Closed h = absurd (cc h)
was_active true Skip h = absurd (cc h)
was_active false Skip h = absurd (cc h)
was_active b Pending h = absurd (cc h)
was_active b Active h = refl
was_active b Visited h = absurd (cc h)

pub was_visited : (b : Bool) (s : Status) → mark_status b s ≡ Visited → s ≡ Visited
was_visited b Closed h = absurd (cc h)
was_visited true Skip h = absurd (cc h)
was_visited false Skip h = absurd (cc h)
was_visited b Pending h = absurd (cc h)
was_visited b Active h = absurd (cc h)
was_visited b Visited h = refl

pub was_skip : (b : Bool) (s : Status) → mark_status b s ≡ Skip → (s ≡ Skip) × (b ≡ false)
was_skip b Closed h = absurd (cc h)
was_skip true Skip h = absurd (cc h)
was_skip false Skip h = (refl, refl)
was_skip b Pending h = absurd (cc h)
was_skip b Active h = absurd (cc h)
was_skip b Visited h = absurd (cc h)

pub was_pending : (b : Bool) (s : Status) → mark_status b s ≡ Pending → (s ≡ Pending) ⊎ ((s ≡ Skip) × (b ≡ true))
was_pending b Closed h = absurd (cc h)
was_pending true Skip h = inr (refl, refl)
was_pending false Skip h = absurd (cc h)
was_pending b Pending h = inl refl
was_pending b Active h = absurd (cc h)
was_pending b Visited h = absurd (cc h)

-- a node that was just made
pub fresh_default : (every : Bool) (n : Made) → first_status every n n.default ≡ Active
fresh_default every n = pick_same n.default Active (pick (among n.default n.options) (cond every Pending Skip) Closed)

pub data FirstStatus (every : Bool) (n : Made) (o : Choice) (s : Status) : Type 0 where
  is_default : o ≡ n.default → s ≡ Active → FirstStatus every n o s
  is_pending : (o ≡ n.default → ⊥) → Among o n.options → every ≡ true → s ≡ Pending → FirstStatus every n o s
  is_skipped : (o ≡ n.default → ⊥) → Among o n.options → every ≡ false → s ≡ Skip → FirstStatus every n o s
  is_closed : (o ≡ n.default → ⊥) → (Among o n.options → ⊥) → s ≡ Closed → FirstStatus every n o s

pub fresh_cases : (every : Bool) (n : Made) (o : Choice) → FirstStatus every n o (first_status every n o)
fresh_cases every n o = go every refl (same o n.default) (among o n.options)
  where
    go : (b : Bool) → every ≡ b → (d : Dec (o ≡ n.default)) (a : Dec (Among o n.options)) → FirstStatus every n o (pick d Active (pick a (cond b Pending Skip) Closed))
    go b e (yes d) a = is_default d refl
    go true e (no f) (yes a) = is_pending f a e refl
    go false e (no f) (yes a) = is_skipped f a e refl
    go b e (no f) (no g) = is_closed f g refl

-- a node whose next choice is taken
pub data Chosen (n : Stored) (o x : Choice) (s : Status) : Type 0 where
  was_present : x ≡ n.present → s ≡ Visited → Chosen n o x s
  is_next : (x ≡ n.present → ⊥) → x ≡ o → s ≡ Active → Chosen n o x s
  is_other : (x ≡ n.present → ⊥) → (x ≡ o → ⊥) → s ≡ n.status x → Chosen n o x s

pub chosen_cases : (n : Stored) (o x : Choice) → Chosen n o x ((choose n o).status x)
chosen_cases n o x = go (same x n.present) (same x o)
  where
    go : (d : Dec (x ≡ n.present)) (e : Dec (x ≡ o)) → Chosen n o x (pick d Visited (pick e Active (n.status x)))
    go (yes d) e = was_present d refl
    go (no f) (yes e) = is_next f e refl
    go (no f) (no g) = is_other f g refl

-- the first that is pending
pub first_is_pending : (s : Choice → Status) (os : List Choice) (o : Choice) → first_pending s os ≡ Some o → (s o ≡ Pending) × Among o os
first_is_pending s [] o h = absurd (cc h)
first_is_pending s (x ∷ os) o h = go (s x) refl h (λ g. first_is_pending s os o g)
  where
    go : (t : Status) → s x ≡ t → (elim t [ Pending ↦ Some x | _ ↦ first_pending s os ]) ≡ Some o
        → (first_pending s os ≡ Some o → (s o ≡ Pending) × Among o os) → (s o ≡ Pending) × ((o ≡ x) ⊎ Among o os)
    go Pending e h ih = let g : x ≡ o = cc h in (ap s (sym g) ∙ e, inl (sym g))
    go Closed e h ih = ((ih h).0, inr (ih h).1)
    go Skip e h ih = ((ih h).0, inr (ih h).1)
    go Active e h ih = ((ih h).0, inr (ih h).1)
    go Visited e h ih = ((ih h).0, inr (ih h).1)

pub none_is_pending : (s : Choice → Status) (os : List Choice) → first_pending s os ≡ None → (o : Choice) → Among o os → s o ≡ Pending → ⊥
none_is_pending s [] h o a p = elim a [ ]
none_is_pending s (x ∷ os) h o a p = go (s x) refl h a (λ g b. none_is_pending s os g o b p)
  where
    go : (t : Status) → s x ≡ t → (◌≡◌ {A = Option Choice} (elim t [ Pending ↦ Some x | _ ↦ first_pending s os ]) None)
        → ((o ≡ x) ⊎ Among o os) → (first_pending s os ≡ None → Among o os → ⊥) → ⊥
    go Pending e h a ih = cc h
    go Closed e h (inl a) ih = cc (e, p, ap s a)
    go Closed e h (inr a) ih = ih h a
    go Skip e h (inl a) ih = cc (e, p, ap s a)
    go Skip e h (inr a) ih = ih h a
    go Active e h (inl a) ih = cc (e, p, ap s a)
    go Active e h (inr a) ih = ih h a
    go Visited e h (inl a) ih = cc (e, p, ap s a)
    go Visited e h (inr a) ih = ih h a

-- a node that cannot go on has nothing pending
pub nothing_pending : (n : Stored) → IsAtRest n → advance n ≡ None → n.made.exploring ≡ true → (o : Choice) → n.status o ≡ Pending → ⊥
nothing_pending n w h e o p = go (first_pending n.status n.made.options) refl (rw e at h)
  where
    go : (x : Option Choice) → first_pending n.status n.made.options ≡ x → (◌≡◌ {A = Option Stored} (elim x [ None ↦ None | Some o ↦ Some (choose n o) ]) None) → ⊥
    go None f g = none_is_pending n.status n.made.options f o (w.closed o (λ q. cc (q, p))) p
    go (Some y) f g = cc g

-- and one that does takes the first that is pending
pub goes_to_pending : (n next : Stored) → advance n ≡ Some next → (o : Choice) × (next ≡ choose n o) × (n.made.exploring ≡ true) × (first_pending n.status n.made.options ≡ Some o)
goes_to_pending n next h = explores n.made.exploring refl h
  where
    go : (x : Option Choice) → first_pending n.status n.made.options ≡ x → (elim x [ None ↦ None | Some o ↦ Some (choose n o) ]) ≡ Some next
        → (o : Choice) × (next ≡ choose n o) × (first_pending n.status n.made.options ≡ Some o)
    go None f g = absurd (cc g)
    go (Some o) f g = (o, cc g, f)

    explores : (b : Bool) → n.made.exploring ≡ b → cond b (elim (first_pending n.status n.made.options) [ None ↦ None | Some o ↦ Some (choose n o) ]) None ≡ Some next
        → (o : Choice) × (next ≡ choose n o) × (n.made.exploring ≡ true) × (first_pending n.status n.made.options ≡ Some o)
    explores true e g = let r = go (first_pending n.status n.made.options) refl g in (r.0, r.1, e, r.2)
    explores false e g = absurd (cc g)

pub barred_or_not : (m : Machine) (s : Status) → Dec (IsBarred m s)
barred_or_not m Closed = no (λ a. a)
barred_or_not m Skip = go m.reduce
  where
    go : (b : Bool) → Dec (b ≡ false)
    go true = no (λ e. cc e)
    go false = yes refl
barred_or_not m Pending = no (λ a. a)
barred_or_not m Active = yes tt
barred_or_not m Visited = yes tt

pub left_out : (m : Machine) (p : List Stored) (before : List Choice) (o : Choice) (n : Stored) → node_at p before ≡ Some n → IsBarred m (n.status o) → IsLeftOut m p before o
left_out m p before o n h b = rw h b

pub left_out_is : (m : Machine) (p : List Stored) (before : List Choice) (o : Choice) → IsLeftOut m p before o → (n : Stored) × (node_at p before ≡ Some n) × IsBarred m (n.status o)
left_out_is m p before o l = go (node_at p before) refl l
  where
    go : (x : Option Stored) → node_at p before ≡ x → IsSomeAnd x (λ n. IsBarred m (n.status o)) → (n : Stored) × (node_at p before ≡ Some n) × IsBarred m (n.status o)
    go None e l = absurd l
    go (Some n) e l = (n, e, l)

pub left_out_or_not : (m : Machine) (p : List Stored) (before : List Choice) (o : Choice) → Dec (IsLeftOut m p before o)
left_out_or_not m p before o = go (node_at p before)
  where
    go : (x : Option Stored) → Dec (IsSomeAnd x (λ n. IsBarred m (n.status o)))
    go None = no (λ a. a)
    go (Some n) = barred_or_not m (n.status o)
