-- The channel that is found, and found again once it was changed.
use Rattle.std.proofs.Common.{◌≡◌, ◌∙◌, ℕ, ap, refl, sym}
use Rattle.std.proofs.lemmas.Option.{slice_get_within}
use Rattle.std.specs.Prelude.{Bool, true, false, List, [], ◌∷◌, slice_get, slice_set, None, Result, Ok, Err}
use Rattle.loom_views.proofs.Atomic.Table.Lists.{get-set_same, set-same}
use Rattle.loom_views.specs.declared.rt.failure.FailureKind.{FailureKind}
use Rattle.loom_views.specs.declared.rt.failure.FailureKind.TheVariants.{Misuse}
use Rattle.loom_objects.specs.declared.rt.object.Object.{Object}
use Rattle.loom_objects.specs.declared.rt.object.Object.TheVariants as object
use Rattle.loom_objects.specs.declared.rt.mpsc.Channel.{Channel}
use Rattle.loom_objects.specs.Rules.Mpsc.{by_receiver, first_of}
use Rattle.loom_objects.specs.Scene.Lookup.{channel_at, channel_in, looked_up}
use Rattle.loom_objects.proofs.Scene.Finding.{channel_stands}
use Rattle.loom_objects.specs.Rules.Rule.{◌>>=◌, check}
use Rattle.loom_objects.specs.World.{World}

module _ {D : Type 0} where
  module _ (objects : List (Object D)) (n : ℕ) (channel : Channel D) (at : channel_at n objects ≡ Ok channel) where
    -- it is found again
    pub found_again : (other : Channel D) → channel_at n (slice_set objects n (object.Channel other)) ≡ Ok other
    found_again other = ap (looked_up channel_in) (get-set_same objects n (object.Channel other) (slice_get_within objects n (object.Channel channel) (channel_stands (slice_get objects n) channel at)))

    -- as it was, nothing changes
    pub kept : slice_set objects n (object.Channel channel) ≡ objects
    kept = set-same objects n (object.Channel channel) (channel_stands (slice_get objects n) channel at)

  by_test : (other channel : Channel D) (is_there : Bool) → other.has_receiver ≡ is_there → ◌>>=◌ {B = Channel D} (check is_there Misuse) (λ passed. Ok other) ≡ Ok channel
      → (other ≡ channel) × (channel.has_receiver ≡ true)
  by_test other channel false is e = absurd (cc)
  by_test other channel true is e = let same : other ≡ channel = cc in (same, ap (λ (c : Channel D). c.has_receiver) (sym same) ∙ is)

  of_receiver : (r : Result (Channel D) FailureKind) (channel : Channel D) → (r >>= (λ other. check other.has_receiver Misuse >>= (λ passed. Ok other))) ≡ Ok channel
      → (r ≡ Ok channel) × (channel.has_receiver ≡ true)
  of_receiver (Err kind) channel e = absurd (cc)
  of_receiver (Ok other) channel e = let h = by_test other channel other.has_receiver refl e in (ap Ok h.0, h.1)

  -- a receiver that is there stays where only the messages change
  pub receives_again : (n : ℕ) (w after : World D) (channel other : Channel D) → by_receiver n w ≡ Ok channel → other.has_receiver ≡ channel.has_receiver
      → after.objects ≡ slice_set w.objects n (object.Channel other) → by_receiver n after ≡ Ok other
  receives_again n w after channel other e same objects =
      let h = of_receiver (channel_at n w.objects) channel e in
      rw (objects, found_again w.objects n channel h.0 other, same, h.1) refl

-- without a first one the list is empty
pub none_there : {A : Type 0} (list : List A) → first_of list ≡ None → list ≡ []
none_there [] e = refl
none_there (a ∷ rest) e = absurd (cc)
