-- A new schedule at a choice that was given.
use Rattle.std.proofs.Common.{◌≡◌, ℕ, Bool, List, [], Option, Some, None, refl, ap, sym, ◌∙◌}
use Rattle.std.specs.Prelude.{slice_get, true}
use Rattle.loom_objects.specs.declared.choice.Choice.{Choice}
use Rattle.loom_objects.specs.declared.choice.Choice.TheVariants.{Thread, Load, Spurious}
use Rattle.loom_objects.specs.declared.rt.schedule.Offers.{Offers}
use Rattle.loom_objects.specs.Tree.Question.{Made, Among, made_of}
use Rattle.loom_objects.specs.Tree.Sound.{AreSoundOffers}
use Rattle.loom_engine.specs.Walk.Path.{Stored, fresh, first_status, choose}
use Rattle.loom_engine.specs.Trees.Drive.{new_node}
use Rattle.loom_engine.specs.declared.rt.path.node.Status.{Status}
use Rattle.loom_engine.specs.declared.rt.path.node.Schedule.{Schedule}
use Rattle.loom_engine.specs.Path.Nodes.{thread_state, state_at, is_left, seen_schedule}
use Rattle.loom_objects.specs.Tree.Asked.{which_thread}
use Rattle.loom_engine.proofs.Walk.Statuses.{FirstStatus, is_default, is_pending, is_skipped, is_closed, fresh_cases}
use Rattle.loom_engine.proofs.Nodes.Nodes.Statuses.{is_open, left_there, open_there}
use Rattle.loom_engine.proofs.Path.Nodes.Making.{default_offered, given_default, given_other, given_none}

-- an open option of a new node is one, and not the default
open_among : (every : Bool) (n : Made) (o : Choice) → is_open (first_status every n o) ≡ true → (o ≡ n.default → ⊥) × Among o n.options
open_among every n o h = go (fresh_cases every n o)
  where
    go : FirstStatus every n o (first_status every n o) → (o ≡ n.default → ⊥) × Among o n.options
    go (is_default e f) = (let z = ap is_open f in absurd (cc (z, h)))
    go (is_pending f a e g) = (f, a)
    go (is_skipped f a e g) = (f, a)
    go (is_closed f b e) = (let z = ap is_open e in absurd (cc (z, h)))

-- an option that isn't open is the default
not_among : (every : Bool) (n : Made) (o : Choice) → (o ≡ n.default → ⊥) → (is_open (first_status every n o) ≡ true → ⊥) → Among o n.options → ⊥
not_among every n o d h = go (fresh_cases every n o)
  where
    go : FirstStatus every n o (first_status every n o) → Among o n.options → ⊥
    go (is_default e f) a = d e
    go (is_pending f b e g) a = h (ap is_open g)
    go (is_skipped f b e g) a = h (ap is_open g)
    go (is_closed f b e) a = b a

state_is : (first : Option ℕ) (statuses : List Status) (k : ℕ) → thread_state first statuses (Thread (Some k)) ≡ state_at statuses k
state_is None statuses k = refl
state_is (Some first) statuses k = refl

-- only a thread is open at a schedule, and one that is left
not_open : (first : Option ℕ) (statuses : List Status) (o : Choice) → ((k : ℕ) (s : Status) → o ≡ Thread (Some k) → slice_get statuses k ≡ Some s → is_left s ≡ true → ⊥)
    → is_open (thread_state first statuses o) ≡ true → ⊥
not_open first statuses (Thread (Some k)) f h = (let z = left_there statuses k (ap is_open (sym (state_is first statuses k)) ∙ h) in f k z.0 refl z.1 z.2)
not_open None statuses (Thread None) f h = cc h
not_open (Some first) statuses (Thread None) f h = cc h
not_open None statuses (Load slot) f h = cc h
not_open (Some first) statuses (Load slot) f h = cc h
not_open None statuses (Spurious answer) f h = cc h
not_open (Some first) statuses (Spurious answer) f h = cc h

module _ (exploring every : Bool) (n : Schedule) (offers : Offers) (sound : AreSoundOffers offers.default offers.abilities) (is_fresh : seen_schedule n ≡ fresh every (made_of (which_thread exploring offers []))) where
  made : Made
  made = made_of (which_thread exploring offers [])

  default_is : Thread n.first ≡ made.default
  unfolding made
  default_is = ap (λ (x : Stored). x.made.default) is_fresh

  -- the default
  pub at_default : (o : Choice) → o ≡ Thread n.first → Some (seen_schedule n) ≡ new_node every (made_of (which_thread exploring offers [])) (Some o)
  unfolding made
  at_default o e = ap Some is_fresh ∙ sym (given_default every made o (e ∙ default_is) (default_offered offers sound))

  -- a thread that is left
  pub at_other : (o : Choice) (k : ℕ) (s : Status) → o ≡ Thread (Some k) → slice_get n.statuses k ≡ Some s → is_left s ≡ true
      → Some (choose (seen_schedule n) (Thread (Some k))) ≡ new_node every (made_of (which_thread exploring offers [])) (Some o)
  unfolding made
  at_other o k s e h l =
      let z = open_among every made (Thread (Some k))
      (ap (λ (x : Stored). is_open (x.status (Thread (Some k)))) (sym is_fresh) ∙ ap is_open (state_is n.first n.statuses k) ∙ open_there n.statuses k s h l) in
      ap (λ (x : Stored). Some (choose x (Thread (Some k)))) is_fresh ∙ sym (given_other every made (Thread (Some k)) refl z.0 z.1) ∙ ap (λ c. new_node every made (Some c)) (sym e)

  -- no option
  pub at_none : (o : Choice) → (o ≡ Thread n.first → ⊥) → ((k : ℕ) (s : Status) → o ≡ Thread (Some k) → slice_get n.statuses k ≡ Some s → is_left s ≡ true → ⊥)
      → ◌≡◌ {A = Option Stored} None (new_node every (made_of (which_thread exploring offers [])) (Some o))
  unfolding made
  at_none o f g =
      sym (given_none every made o (not_among every made o (λ e. f (e ∙ sym default_is)) (λ h. not_open n.first n.statuses o g (ap (λ (x : Stored). is_open (x.status o)) is_fresh ∙ h))))
