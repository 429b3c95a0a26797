-- Nodes stay well formed when they are made, marked and chosen.
use Rattle.std.proofs.Common.{◌≡◌, ◌⊎◌, ℕ, Bool, true, false, ◌&&◌, List, length, Some, refl, ap, sym, ◌∙◌, subst, inl, inr}
use Rattle.loom_objects.specs.declared.choice.Choice.{Choice}
use Rattle.loom_objects.specs.Tree.Question.{Made, Among}
use Rattle.loom_engine.specs.Walk.Machine.{Machine, is_thread}
use Rattle.loom_engine.specs.Walk.Sound.{IsMachine}
use Rattle.loom_engine.specs.Walk.Path.{Status, Closed, Skip, Pending, Active, Visited, Stored, IsAtRest, IsResting, node_at, first_status, fresh, mark, choose}
use Rattle.loom_engine.proofs.Walk.Lists.{node_chooses}
use Rattle.loom_engine.proofs.Walk.Statuses.{both_true, kept_closed, kept_active, kept_visited, was_closed, was_active, was_visited, was_skip, was_pending, FirstStatus, is_default, is_pending, is_skipped, is_closed, fresh_default, fresh_cases, Chosen, was_present, is_next, is_other, chosen_cases}
use Rattle.loom_engine.proofs.Walk.After.{IsNodeAfter, was_there, is_new, IsAfter}

pub mark_at_rest : (m : Machine) (r : List Choice) (k : ℕ) (n : Stored) → IsAtRest n → ((o : Choice) → m.marks r k o ≡ true → n.made.exploring ≡ true) → IsAtRest (mark m r k n)
mark_at_rest m r k n w only =
    let b : Choice → Bool = λ o. m.reduce && m.marks r k o in
    record {
      active = kept_active (b n.present) (n.status n.present) w.active;
      one = λ o h. w.one o (was_active (b o) (n.status o) h);
      default = elim w.default [ inl d ↦ inl (kept_active (b n.made.default) (n.status n.made.default) d) | inr d ↦ inr (kept_visited (b n.made.default) (n.status n.made.default) d) ];
      opened = λ o am h. w.opened o am (was_closed (b o) (n.status o) h);
      closed = λ o h. w.closed o (λ e. h (kept_closed (b o) (n.status o) e));
      values = λ t o h. w.values t o (was_skip (b o) (n.status o) h).0;
      fixed = λ e. (
        (w.fixed e).0,
        (λ o h. (w.fixed e).1 o (was_visited (b o) (n.status o) h)),
        λ t o h. elim (was_pending (b o) (n.status o) h) [ inl g ↦ (w.fixed e).2 t o g | inr g ↦ let z = only o (both_true m.reduce (m.marks r k o) g.1).1 in cc (z, e) ],
      );
    }

pub fresh_at_rest : (m : Machine) → IsMachine m → (c : List Choice) (made : Made) → m.node c ≡ Some made → IsAtRest (fresh (m.every c) made)
fresh_at_rest m w c made met =
    record {
      active = fresh_default (m.every c) made;
      one = λ o h. one o h (fresh_cases (m.every c) made o);
      default = inl (fresh_default (m.every c) made);
      opened = λ o am h. opened o am h (fresh_cases (m.every c) made o);
      closed = λ o h. closed o h (fresh_cases (m.every c) made o);
      values = λ t o h. values t o h (fresh_cases (m.every c) made o);
      fixed = λ e. (refl, (λ o h. unvisited o h (fresh_cases (m.every c) made o)), λ t o h. idle e t o h (fresh_cases (m.every c) made o));
    }
  where
    s : Choice → Status
    s o = first_status (m.every c) made o

    one : (o : Choice) → s o ≡ Active → FirstStatus (m.every c) made o (s o) → o ≡ made.default
    one o h (is_default e f) = e
    one o h (is_pending nd am ev f) = absurd (cc (h, f))
    one o h (is_skipped nd am ev f) = absurd (cc (h, f))
    one o h (is_closed nd na f) = absurd (cc (h, f))

    opened : (o : Choice) → Among o made.options → s o ≡ Closed → FirstStatus (m.every c) made o (s o) → ⊥
    opened o am h (is_default e f) = cc (h, f)
    opened o am h (is_pending nd a ev f) = cc (h, f)
    opened o am h (is_skipped nd a ev f) = cc (h, f)
    opened o am h (is_closed nd na f) = na am

    closed : (o : Choice) → (s o ≡ Closed → ⊥) → FirstStatus (m.every c) made o (s o) → Among o made.options
    closed o h (is_default e f) = subst (λ u. Among u made.options) (sym e) (w.default c made met)
    closed o h (is_pending nd a ev f) = a
    closed o h (is_skipped nd a ev f) = a
    closed o h (is_closed nd na f) = absurd (h f)

    values : is_thread made.default ≡ false → (o : Choice) → s o ≡ Skip → FirstStatus (m.every c) made o (s o) → ⊥
    values t o h (is_default e f) = cc (h, f)
    values t o h (is_pending nd a ev f) = cc (h, f)
    values t o h (is_skipped nd a ev f) = let z = w.values c made met t in cc (z, ev)
    values t o h (is_closed nd na f) = cc (h, f)

    unvisited : (o : Choice) → s o ≡ Visited → FirstStatus (m.every c) made o (s o) → ⊥
    unvisited o h (is_default e f) = cc (h, f)
    unvisited o h (is_pending nd a ev f) = cc (h, f)
    unvisited o h (is_skipped nd a ev f) = cc (h, f)
    unvisited o h (is_closed nd na f) = cc (h, f)

    idle : made.exploring ≡ false → is_thread made.default ≡ true → (o : Choice) → s o ≡ Pending → FirstStatus (m.every c) made o (s o) → ⊥
    idle e t o h (is_default d f) = cc (h, f)
    idle e t o h (is_pending nd a ev f) = let z = (w.full c made met ev t).1 in cc (z, e)
    idle e t o h (is_skipped nd a ev f) = cc (h, f)
    idle e t o h (is_closed nd na f) = cc (h, f)

pub choose_at_rest : (n : Stored) (o : Choice) → IsAtRest n → n.made.exploring ≡ true → n.status o ≡ Pending → IsAtRest (choose n o)
choose_at_rest n o w ex pending =
    record {
      active = active (chosen_cases n o o);
      one = λ x h. one x h (chosen_cases n o x);
      default = default (chosen_cases n o n.made.default);
      opened = λ x am h. opened x am h (chosen_cases n o x);
      closed = λ x h. closed x h (chosen_cases n o x);
      values = λ t x h. values t x h (chosen_cases n o x);
      fixed = λ e. absurd (cc (e, ex));
    }
  where
    s : Choice → Status
    s x = (choose n o).status x

    moved : o ≡ n.present → ⊥
    moved e = cc (w.active, pending, ap n.status e)

    active : Chosen n o o (s o) → s o ≡ Active
    active (was_present e f) = absurd (moved e)
    active (is_next ne e f) = f
    active (is_other ne no_ f) = absurd (no_ refl)

    one : (x : Choice) → s x ≡ Active → Chosen n o x (s x) → x ≡ o
    one x h (was_present e f) = absurd (cc (h, f))
    one x h (is_next ne e f) = e
    one x h (is_other ne no_ f) = absurd (ne (w.one x (sym f ∙ h)))

    default : Chosen n o n.made.default (s n.made.default) → (s n.made.default ≡ Active) ⊎ (s n.made.default ≡ Visited)
    default (was_present e f) = inr f
    default (is_next ne e f) = inl f
    default (is_other ne no_ f) = elim w.default [ inl d ↦ inl (f ∙ d) | inr d ↦ inr (f ∙ d) ]

    opened : (x : Choice) → Among x n.made.options → s x ≡ Closed → Chosen n o x (s x) → ⊥
    opened x am h (was_present e f) = cc (h, f)
    opened x am h (is_next ne e f) = cc (h, f)
    opened x am h (is_other ne no_ f) = w.opened x am (sym f ∙ h)

    closed : (x : Choice) → (s x ≡ Closed → ⊥) → Chosen n o x (s x) → Among x n.made.options
    closed x h (was_present e f) = subst (λ u. Among u n.made.options) (sym e) (w.closed n.present (λ g. cc (g, w.active)))
    closed x h (is_next ne e f) = subst (λ u. Among u n.made.options) (sym e) (w.closed o (λ g. cc (g, pending)))
    closed x h (is_other ne no_ f) = w.closed x (λ g. h (f ∙ g))

    values : is_thread n.made.default ≡ false → (x : Choice) → s x ≡ Skip → Chosen n o x (s x) → ⊥
    values t x h (was_present e f) = cc (h, f)
    values t x h (is_next ne e f) = cc (h, f)
    values t x h (is_other ne no_ f) = w.values t x (sym f ∙ h)

pub after_resting : (m : Machine) → IsMachine m → (p q : List Stored) (r : List Choice) → IsResting m p → IsAfter m p q r → IsResting m q
after_resting m w p q r rest a = record { meets = λ before x h. meets before x (a.each before x h); rest = λ before x h. each before x h (a.each before x h) }
  where
    meets : (before : List Choice) (x : Stored) → IsNodeAfter m p r before x → m.node before ≡ Some x.made
    meets before x (was_there n g f) = rest.meets before n g ∙ ap (λ (y : Stored). Some y.made) (sym f)
    meets before x (is_new made g met f dr) = met ∙ ap (λ (y : Stored). Some y.made) (sym f)

    only : (before : List Choice) (x : Stored) → node_at q before ≡ Some x → (made : Made) → m.node before ≡ Some made → (o : Choice) → m.marks r (length before) o ≡ true → made.exploring ≡ true
    only before x h made met o e =
        let at = node_chooses q before x h in
        w.marked before x.present at.0 made o met (subst (λ u. m.marks u (length before) o ≡ true) (sym a.whole ∙ at.1) e)

    each : (before : List Choice) (x : Stored) → node_at q before ≡ Some x → IsNodeAfter m p r before x → IsAtRest x
    each before x h (was_there n g f) =
        subst IsAtRest (sym f) (mark_at_rest m r (length before) n (rest.rest before n g) (λ o e. only before x h n.made (rest.meets before n g) o e))
    each before x h (is_new made g met f dr) =
        subst IsAtRest (sym f) (mark_at_rest m r (length before) (fresh (m.every before) made) (fresh_at_rest m w before made met) (λ o e. only before x h made met o e))
