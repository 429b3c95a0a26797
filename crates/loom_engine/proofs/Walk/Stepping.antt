-- The deepest node that can go on does.
use Rattle.std.proofs.Common.{◌≡◌, true, List, [], ◌∷◌, ◌++◌, Option, Some, None, refl, ap, sym, ◌∙◌, subst}
use Rattle.loom_objects.specs.declared.choice.Choice.{Choice}
use Rattle.loom_engine.specs.Walk.Path.{Pending, Stored, choices, node_at, choose, first_pending, advance, step}
use Rattle.loom_engine.proofs.Walk.Lists.{node_on}
use Rattle.loom_engine.proofs.Walk.Statuses.{goes_to_pending, first_is_pending}
use Rattle.loom_engine.proofs.Walk.After.{node_in}

-- the path q goes on at its node n, which is after the choices branch, to the option o
pub record IsStep (q next : List Stored) (branch : List Choice) (n : Stored) (o : Choice) : Type 0 where
  pub at : node_at q branch ≡ Some n
  pub exploring : n.made.exploring ≡ true
  pub first : first_pending n.status n.made.options ≡ Some o
  pub pending : n.status o ≡ Pending
  pub chosen : choices next ≡ branch ++ o ∷ []
  pub here : node_at next branch ≡ Some (choose n o)
  pub above : (before : List Choice) (c : Choice) (e : List Choice) → branch ≡ before ++ c ∷ e → node_at next before ≡ node_at q before
  pub below : (e : List Choice) (x : Stored) → node_at q (branch ++ n.present ∷ e) ≡ Some x → advance x ≡ None

pub step_none : (q : List Stored) → step q ≡ None → (before : List Choice) (x : Stored) → node_at q before ≡ Some x → advance x ≡ None
unfolding step node_at
step_none [] h before x g = absurd (cc g)
step_none (n ∷ q) h before x g = go (step q) (advance n) refl refl h before g (λ e b f. step_none q e b x f)
  where
    go : (s : Option (List Stored)) (a : Option Stored) → step q ≡ s → advance n ≡ a
        → (◌≡◌ {A = Option (List Stored)} (elim s [ Some deeper ↦ Some (n ∷ deeper) | None ↦ elim a [ None ↦ None | Some next ↦ Some (next ∷ []) ] ]) None)
        → (before : List Choice) → node_at (n ∷ q) before ≡ Some x
        → (step q ≡ None → (b : List Choice) → node_at q b ≡ Some x → advance x ≡ None) → advance x ≡ None
    go (Some deeper) a e f h before g ih = absurd (cc h)
    go None (Some next) e f h before g ih = absurd (cc h)
    go None None e f h [] g ih = let same_node : n ≡ x = cc g in subst (λ (y : Stored). advance y ≡ None) same_node f
    go None None e f h (c ∷ before) g ih = ih e before (node_in n q c before x g).1

unfoldable pub Steps : List Stored → List Stored → Type 0
Steps q next = (branch : List Choice) × (n : Stored) × (o : Choice) × IsStep q next branch n o

step_here : (n : Stored) (q : List Stored) (next : Stored) → advance n ≡ Some next → ((before : List Choice) (x : Stored) → node_at q before ≡ Some x → advance x ≡ None) → Steps (n ∷ q) (next ∷ [])
unfolding node_at Steps
step_here n q next h below =
    let z = goes_to_pending n next h in (
      [],
      n,
      z.0,
      record {
        at = refl;
        exploring = z.2;
        first = z.3;
        pending = (first_is_pending n.status n.made.options z.0 z.3).0;
        chosen = ap (λ (y : Stored). y.present ∷ []) z.1;
        here = ap Some z.1;
        above = λ before c e g. absurd (nothing_before before c e g);
        below = λ e x g. below e x (node_in n q n.present e x g).1;
      },
    )
  where
    nothing_before : (before : List Choice) (c : Choice) (e : List Choice) → [] ≡ before ++ c ∷ e → ⊥
    nothing_before [] c e g = cc g
    nothing_before (b ∷ before) c e g = cc g

step_deeper : (n : Stored) (q deeper : List Stored) → Steps q deeper → Steps (n ∷ q) (n ∷ deeper)
unfolding Steps node_at
step_deeper n q deeper (branch, k, o, s) = (
  n.present ∷ branch,
  k,
  o,
  record {
    at = node_on n q n.present branch refl ∙ s.at;
    exploring = s.exploring;
    first = s.first;
    pending = s.pending;
    chosen = ap (λ t. n.present ∷ t) s.chosen;
    here = node_on n deeper n.present branch refl ∙ s.here;
    above = above;
    below = λ e x g. s.below e x (node_in n q n.present (branch ++ k.present ∷ e) x g).1;
  },
)
  where
    above : (before : List Choice) (c : Choice) (e : List Choice) → n.present ∷ branch ≡ before ++ c ∷ e → node_at (n ∷ deeper) before ≡ node_at (n ∷ q) before
    above [] c e g = refl
    above (b ∷ before) c e g =
        let first : b ≡ n.present = cc g in
        node_on n deeper b before first ∙ s.above before c e (cc g) ∙ sym (node_on n q b before first)

pub step_some : (q next : List Stored) → step q ≡ Some next → Steps q next
unfolding step
step_some [] next h = absurd (cc h)
step_some (n ∷ q) next h = go (step q) (advance n) refl refl h (λ d e. step_some q d e)
  where
    go : (s : Option (List Stored)) (a : Option Stored) → step q ≡ s → advance n ≡ a
        → (◌≡◌ {A = Option (List Stored)} (elim s [ Some deeper ↦ Some (n ∷ deeper) | None ↦ elim a [ None ↦ None | Some next ↦ Some (next ∷ []) ] ]) (Some next))
        → ((d : List Stored) → step q ≡ Some d → Steps q d) → Steps (n ∷ q) next
    go (Some deeper) a e f h ih = let g : n ∷ deeper ≡ next = cc h in subst (λ t. Steps (n ∷ q) t) g (step_deeper n q deeper (ih deeper e))
    go None (Some k) e f h ih = let g : k ∷ [] ≡ next = cc h in subst (λ t. Steps (n ∷ q) t) g (step_here n q k f (λ before x y. step_none q e before x y))
    go None None e f h ih = absurd (cc h)
