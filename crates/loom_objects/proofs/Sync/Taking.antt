-- A receipt takes the first message, and goes on with what it has taken.
use Rattle.std.proofs.Common.{◌≡◌, ◌∙◌, ℕ, ap, refl, sym}
use Rattle.std.specs.Prelude.{◌++◌, ◌&&◌, Bool, true, false, nat_lt, List, [], ◌∷◌, slice_set, Option, Some, None, Result, Ok, Err}
use Rattle.loom_objects.specs.Stages.Mpsc.{content, gives_back, goes_on}
use Rattle.loom_objects.specs.Stages.Mpsc.{gathers, takes_first, takes_from}
use Rattle.loom_views.specs.declared.rt.failure.FailureKind.{FailureKind}
use Rattle.loom_views.specs.declared.rt.failure.FailureKind.TheVariants.{Misuse, TooManySteps}
use Rattle.loom_objects.specs.declared.operation.Message.{Message}
use Rattle.loom_objects.specs.declared.operation.Reply.{Reply}
use Rattle.loom_objects.specs.declared.operation.Reply.TheVariants as reply
use Rattle.loom_objects.specs.declared.rt.object.Object.TheVariants as object
use Rattle.loom_objects.specs.declared.rt.run.Passed.{Passed}
use Rattle.loom_objects.specs.declared.rt.mpsc.Channel.{Channel}
use Rattle.loom_objects.specs.declared.rt.thread.Receiving.{Receiving}
use Rattle.loom_objects.specs.Rules.Mpsc.{blocks_if, by_receiver, drains, drains_from, drains_on, first_of, fits_behind, none_left, receives, receives_from, takes}
use Rattle.loom_objects.specs.Rules.Leaks.{is_none_left}
use Rattle.loom_objects.specs.Rules.Moves.{acquires_from_stamp}
use Rattle.loom_objects.specs.Rules.Rule.{◌>>=◌, check, found}
use Rattle.loom_objects.specs.Scene.Stage.{Stage, Does, world_of}
use Rattle.loom_objects.specs.World.{World}
use Rattle.loom_objects.proofs.Scene.Showing.{does_as, keeps}
use Rattle.loom_objects.proofs.Stages.Finding.{receives_again}

module _ {D : Type 0} where
  -- what a message that isn't sent holds comes back
  pub given_back : (sent : List (Message D)) (w : World D)
      → ◌>>=◌ {B = Reply D × World D} (found (first_of sent) Misuse) (λ message. ◌>>=◌ {B = Reply D × World D} (found (first_of message.value) Misuse) (λ value. Ok (reply.SendError value, w)))
      ≡ ◌>>=◌ {B = Reply D × World D} (gives_back sent) (λ reply. Ok (reply, w))
  given_back [] w = refl
  given_back (message ∷ rest) w = by_value (first_of message.value)
    where
      by_value : (value : Option D) → ◌>>=◌ {B = Reply D × World D} (found value Misuse) (λ v. Ok (reply.SendError v, w))
          ≡ ◌>>=◌ {B = Reply D × World D} (◌>>=◌ {B = Reply D} (found value Misuse) (λ v. Ok (reply.SendError v))) (λ reply. Ok (reply, w))
      by_value None = refl
      by_value (Some v) = refl

  -- what a receive says of what was taken
  abbrev pub tells_taken : Receiving → Option (Message D) × World D → Result (Reply D × World D) FailureKind
  tells_taken by (None, w) = Ok (none_left by, w)
  tells_taken by (Some message, w) = content message >>= (λ value. Ok (reply.Data value, w))

  module _ (by : Receiving) (n : ℕ) (w : World D) where
    told_from : (channel : Channel D) (messages : List (Message D)) → receives_from by n channel messages w ≡ (takes_from n channel messages w >>= tells_taken by)
    told_from channel [] = refl
    told_from channel (message ∷ rest) = refl

    told_of : (r : Result (Channel D) FailureKind) → (r >>= (λ channel. receives_from by n channel channel.messages w)) ≡ ((r >>= (λ channel. takes_from n channel channel.messages w)) >>= tells_taken by)
    told_of (Err kind) = refl
    told_of (Ok channel) = told_from channel channel.messages

    pub told : receives by n w ≡ (takes_first n w >>= tells_taken by)
    told = told_of (by_receiver n w)

  -- how a drop of the receiver goes on with what was taken
  abbrev pub gathers_taken : ℕ → List D → Option (Message D) × World D → Result (Passed D × World D) FailureKind
  gathers_taken n taken x = gathers taken x.0 >>= (λ all. goes_on n all x.1)

  module _ (n : ℕ) (taken : List D) (w : World D) where
    objects_kept : (is_blocked : Bool) (v : World D) → (blocks_if is_blocked n v).objects ≡ v.objects
    objects_kept true v = refl
    objects_kept false v = refl

    module _ (channel : Channel D) (at : by_receiver n w ≡ Ok channel) where
      by_fit : (message : Message D) (rest : List (Message D)) (fits : Bool)
          → ◌>>=◌ {B = Passed D × World D} (check fits TooManySteps) (λ passed. drains_on (is_none_left rest) n (taken ++ message.value) (takes n channel message rest w))
          ≡ ◌>>=◌ {B = Passed D × World D} (◌>>=◌ {B = List D} (check fits TooManySteps) (λ passed. Ok (taken ++ message.value))) (λ all. goes_on n all (takes n channel message rest w))
      by_fit message rest false = refl
      by_fit message rest true =
          let again = receives_again n w (takes n channel message rest w) channel (record channel { messages = rest }) at refl
          (objects_kept (is_none_left rest && nat_lt 0 channel.senders) (acquires_from_stamp message.stamp (record w { objects = slice_set w.objects n (object.Channel (record channel { messages = rest })) }))) in
          sym (ap (λ (r : Result (Channel D) FailureKind). r >>= (λ (c : Channel D). drains_on (is_none_left c.messages) n (taken ++ message.value) (takes n channel message rest w))) again)

      by_messages : (messages : List (Message D)) → channel.messages ≡ messages → drains_from n taken channel messages w ≡ (takes_from n channel messages w >>= gathers_taken n taken)
      by_messages [] is =
          ap (λ (messages : List (Message D)). drains_on (is_none_left messages) n taken w) (sym is)
          ∙ sym (ap (λ (r : Result (Channel D) FailureKind). r >>= (λ (c : Channel D). drains_on (is_none_left c.messages) n taken w)) at)
      by_messages (message ∷ rest) is = by_fit message rest (fits_behind taken message.value)

    by_channel : (r : Result (Channel D) FailureKind) → by_receiver n w ≡ r → (r >>= (λ channel. drains_from n taken channel channel.messages w)) ≡ ((r >>= (λ channel. takes_from n channel channel.messages w)) >>= gathers_taken n taken)
    by_channel (Err kind) e = refl
    by_channel (Ok channel) e = by_messages channel e channel.messages refl

    pub gathered : drains n taken w ≡ (takes_first n w >>= gathers_taken n taken)
    gathered = by_channel (by_receiver n w) refl

module _ {D : Type 0} (n : ℕ) (taken : List D) (message : Option (Message D)) (s new : Stage D) (result : Result (Passed D) FailureKind) where
  -- where there are too many values
  pub not_gathered : (kind : FailureKind) → result ≡ Err kind → gathers taken message ≡ Err kind → Does (λ w. gathers_taken n taken (message, w)) s result new
  not_gathered kind failed e = rw failed (λ p left shown. ap (λ (r : Result (List D) FailureKind). r >>= (λ (all : List D). goes_on n all (world_of p left s))) e)

  pub goes_on_with : (all : List D) → gathers taken message ≡ Ok all → Does (goes_on n all) s result new → Does (λ w. gathers_taken n taken (message, w)) s result new
  goes_on_with all e does =
      does_as (λ w. gathers_taken n taken (message, w)) (goes_on n all) s new result
      (λ p left. ap (λ (r : Result (List D) FailureKind). r >>= (λ (all : List D). goes_on n all (world_of p left s))) e) does

module _ {D : Type 0} (by : Receiving) (message : Message D) (s : Stage D) where
  -- a message without a value
  pub not_told : (kind : FailureKind) (result : Result (Reply D) FailureKind) → result ≡ Err kind → content message ≡ Err kind → Does (λ w. tells_taken by (Some message, w)) s result s
  not_told kind result failed e =
      rw failed (λ p left shown. ap (λ (r : Result D FailureKind). ◌>>=◌ {B = Reply D × World D} r (λ (value : D). Ok (reply.Data value, world_of p left s))) e)

  pub told_value : (value : D) → content message ≡ Ok value → Does (λ w. tells_taken by (Some message, w)) s (Ok (reply.Data value)) s
  told_value value e =
      keeps (λ w. tells_taken by (Some message, w)) s s (reply.Data value) refl
      (λ p left. ap (λ (r : Result D FailureKind). ◌>>=◌ {B = Reply D × World D} r (λ (v : D). Ok (reply.Data v, world_of p left s))) e)
