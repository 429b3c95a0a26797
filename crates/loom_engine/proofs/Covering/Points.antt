-- Where what is seen of points tells their moves, the state with that in their place tells the future.
use Rattle.std.proofs.Common.{◌≡◌, ℕ, Bool, true, false, List, [], ◌∷◌, length, refl, ap, ap₂, sym, subst, inl}
use Rattle.std.specs.Prelude.{◌+◌, slice_index, slice_set}
use Rattle.loom_views.specs.Views.{Points, opening}
use Rattle.loom_views.specs.declared.rt.failure.FailureKind.{FailureKind}
use Rattle.loom_views.specs.declared.rt.failure.FailureKind.TheVariants.{TooManySteps}
use Rattle.loom_objects.specs.declared.choice.Choice.{Choice}
use Rattle.loom_objects.specs.declared.choice.Choice.TheVariants as choice
use Rattle.loom_objects.specs.declared.operation.Reply.{Reply}
use Rattle.loom_objects.specs.declared.operation.Turn.{Turn}
use Rattle.loom_objects.specs.declared.rt.run.Loading.{Loading}
use Rattle.loom_objects.specs.declared.rt.run.Passed.TheVariants as passed
use Rattle.loom_objects.specs.declared.rt.run.Resumed.{Resumed}
use Rattle.loom_objects.specs.declared.rt.run.Resumed.TheVariants as resumed
use Rattle.loom_objects.specs.Rules.Atomic.{reads}
use Rattle.loom_objects.specs.Rules.Ending.{all_ended}
use Rattle.loom_objects.specs.Rules.Leaks.{check_leak, first_leak}
use Rattle.loom_objects.specs.Rules.Moves.{takes_result}
use Rattle.loom_objects.specs.Rules.Steps.{asked, asks_slot, begins, enters_wait, read_slot, resumes, slot_of, told, turned}
use Rattle.loom_objects.specs.Rules.Tables.{chosen}
use Rattle.loom_objects.specs.Rules.Uses.{use_at}
use Rattle.loom_objects.specs.Schedule.Offers.{offers, standings}
use Rattle.loom_objects.specs.Tree.Asked.{which_thread}
use Rattle.loom_objects.specs.Tree.Question.{made_of}
use Rattle.loom_objects.specs.Tree.Stores.{slots}
use Rattle.loom_objects.specs.Tree.Tree.{Tree, ◌>>=◌, came}
use Rattle.loom_objects.specs.World.{World}
use Rattle.loom_engine.specs.Covering.Alike.{AreAlike}
use Rattle.loom_engine.specs.Covering.Points.{PointsLaw, Sight, TellsMoves, YieldsLaw, sight, yields_seen}
use Rattle.loom_engine.specs.Covering.Sound.{OffersSame}
use Rattle.loom_engine.specs.Covering.States.{BothAlike, EndsAlike, LooksSame, end_alone, TellsFuture}
use Rattle.loom_engine.proofs.Covering.Alike.{then_alike, weaker}
use Rattle.loom_engine.proofs.Covering.Kinds.{enters_wait_so}
use Rattle.loom_engine.proofs.Covering.Rules.{Like, SeenSame, YieldsTell, reads_so, with_other}
use Rattle.loom_engine.proofs.Covering.Seen.{end_of_like, ended_by, options_same, standings_same}
use Rattle.loom_engine.proofs.Covering.Tables.{chosen_so, counted_so}

module _ {D V : Type 0} (limits : FailureKind → Bool) (steps : limits TooManySteps ≡ true) (seen : Points → V) (see : List ℕ → List ℕ) (more : YieldsTell see) (tells : TellsMoves limits seen) where
  abbrev Other : Points → ℕ → List ℕ → World D → World D
  Other q k y w = with_other limits seen see q k y w

  abbrev Goes : {A : Type 0} → Tree (A × World D) → Tree (A × World D) → Type 0
  Goes t u = AreAlike limits (BothAlike (Like limits seen see)) t u

  told_so : (a : Reply D × World D) (b : Reply D × World D) → BothAlike (Like limits seen see) a b → Goes (told a) (told b)
  told_so (a, w) (b, v) (i, (q, k, y, e, j)) =
      subst (λ x. Goes (told (a, w)) (told (b, x))) (sym j) (subst (λ x. Goes (told (a, w)) (told (x, Other q k y w))) i (refl, (_, _, _, e, refl)))

  turned_so : (a b : Turn D × World D) → BothAlike (Like limits seen see) a b → Goes (turned a) (turned b)
  turned_so (a, w) (b, v) (i, h) = (ap passed.Turn i, h)

  read_so : (load : Loading) (slot : ℕ) (w : World D) (q : Points) (k : ℕ) (y : List ℕ) → SeenSame limits seen see w q y → Goes (read_slot load w slot >>= turned) (read_slot load (Other q k y w) slot >>= turned)
  read_so load slot w q k y e =
      then_alike limits (BothAlike (Like limits seen see)) (BothAlike (Like limits seen see)) (read_slot load w slot) (read_slot load (Other q k y w) slot) turned turned
      (then_alike limits (BothAlike (Like limits seen see)) (BothAlike (Like limits seen see)) (came (reads load.access w slot)) (came (reads load.access (Other q k y w) slot)) told told (reads_so limits seen see tells load.access slot w q k y e) told_so)
      turned_so

  by_slot : (load : Loading) (o : Choice) (w : World D) (q : Points) (k : ℕ) (y : List ℕ) → SeenSame limits seen see w q y
      → Goes (slot_of o >>= (λ slot. read_slot load w slot >>= turned)) (slot_of o >>= (λ slot. read_slot load (Other q k y w) slot >>= turned))
  by_slot load (choice.Load slot) w q k y e = read_so load slot w q k y e
  by_slot load (choice.Thread t) w q k y e = inl refl
  by_slot load (choice.Spurious answer) w q k y e = inl refl

  slots_so : (explores : Bool) (load : Loading) (numbers : List ℕ) (w : World D) (q : Points) (k : ℕ) (y : List ℕ) → SeenSame limits seen see w q y
      → Goes (asks_slot explores numbers >>= (λ slot. read_slot load w slot >>= turned)) (asks_slot explores numbers >>= (λ slot. read_slot load (Other q k y w) slot >>= turned))
  slots_so explores load [] w q k y e = inl refl
  slots_so explores load (lowest ∷ others) w q k y e = ((refl, refl, λ f. refl), λ o a. by_slot load o w q k y e)

  asked_here : (explores : Bool) (answer : Resumed D) (w : World D) (q : Points) (k : ℕ) (y : List ℕ) → SeenSame limits seen see w q y → Goes (asked explores (answer, w)) (asked explores (answer, Other q k y w))
  asked_here explores (resumed.Passed passed) w q k y e = (refl, (_, _, _, e, refl))
  asked_here explores (resumed.Load load) w q k y e = slots_so explores load (slots load.readable) w q k y e

  asked_so : (explores : Bool) (a b : Resumed D × World D) → BothAlike (Like limits seen see) a b → Goes (asked explores a) (asked explores b)
  asked_so explores (a, w) (b, v) (i, (q, k, y, e, j)) =
      subst (λ x. Goes (asked explores (a, w)) (asked explores (b, x))) (sym j) (subst (λ x. Goes (asked explores (a, w)) (asked explores (x, Other q k y w))) i (asked_here explores a w q k y e))

  pub resumes_so : (explores : Bool) (t : ℕ) (w : World D) (q : Points) (k : ℕ) (y : List ℕ) → SeenSame limits seen see w q y → Goes (resumes explores t w) (resumes explores t (Other q k y w))
  resumes_so explores t w q k y e =
      then_alike limits (BothAlike (Like limits seen see)) (BothAlike (Like limits seen see)) (came (chosen t w)) (came (chosen t (Other q k y w))) (asked explores) (asked explores) (chosen_so limits steps seen see more tells t w q k y e) (asked_so explores)

-- ---- what is seen of a state

module _ {D V : Type 0} (limits : FailureKind → Bool) (steps : limits TooManySteps ≡ true) (seen : Points → V) (tells : TellsMoves limits seen) (see : Bool → List ℕ → List ℕ) (more : (explores : Bool) → YieldsTell (see explores)) (offered : (explores : Bool) (w : World D) (y : List ℕ) → see explores w.yields ≡ see explores y → OffersSame (made_of (which_thread explores (offers w) [])) (made_of (which_thread explores (offers (record w { yields = y })) []))) where
  abbrev With : Bool → Points → ℕ → List ℕ → World D → World D
  With x q k y w = with_other limits seen (see x) q k y w

  abbrev Alike : Bool → World D → World D → Type 0
  Alike x w v = Like limits seen (see x) w v

  abbrev shown : Bool → World D → Sight D V
  shown x w = sight seen (record w { yields = see x w.yields })

  abbrev Same : Bool → World D → World D → Type 0
  Same x w v = LooksSame shown x w v

  like_of : (x : Bool) (w v : World D) → Same x w v → Alike x w v
  like_of x w v h = (
    v.points,
    v.steps_left,
    v.yields,
    (ap (λ (s : Sight D V). s.points) h, ap (λ (s : Sight D V). s.rest.yields) h),
    sym (ap (λ (u : World D). record u { points = v.points; steps_left = v.steps_left; yields = v.yields }) (ap (λ (s : Sight D V). s.rest) h)),
  )

  abbrev sight_with : World D → V → List ℕ → Sight D V
  sight_with w p y = record { rest = record w { points = opening; steps_left = 0; yields = y }; points = p }

  same_of : (x : Bool) (w v : World D) → Alike x w v → Same x w v
  same_of x w v (q, k, y, e, i) = subst (λ u. Same x w u) (sym i) (ap₂ (λ (p : V) (l : List ℕ). sight_with w p l) e.0 e.1)

  both_same : {A : Type 0} (x : Bool) (a b : A × World D) → BothAlike (Alike x) a b → BothAlike (Same x) a b
  both_same x (a, w) (b, v) (i, h) = (i, same_of x w v h)

  as_seen : {A : Type 0} (x : Bool) (t u : Tree (A × World D)) → AreAlike limits (BothAlike (Alike x)) t u → AreAlike limits (BothAlike (Same x)) t u
  as_seen x t u h = weaker limits (BothAlike (Alike x)) (BothAlike (Same x)) t u (λ a b i. both_same x a b i) h

  -- what holds of the same state with other points holds of one that looks the same
  moved_to : (x : Bool) (P : World D → World D → Type 0) (w v : World D) → ((q : Points) (k : ℕ) (y : List ℕ) → SeenSame limits seen (see x) w q y → P w (With x q k y w)) → Same x w v → P w v
  moved_to x P w v h s = let l = like_of x w v s in subst (λ u. P w u) (sym l.4) (h l.0 l.1 l.2 l.3)

  ends_here : (x : Bool) (w : World D) (q : Points) (k : ℕ) (y : List ℕ) → EndsAlike limits (end_alone w) (end_alone (With x q k y w))
  ends_here x w q k y = subst (λ u. EndsAlike limits (end_alone w) u) (end_of_like w (With x q k y w) refl refl) (ended_by (check_leak (first_leak w.objects)) (takes_result 0 w) limits)

  pub points_tell : TellsFuture limits shown (LooksSame shown)
  points_tell = record {
    threads = λ x w v h. ap (λ (s : Sight D V). length s.rest.threads) h;
    active = λ x w v h. ap (λ (s : Sight D V). s.rest.active) h;
    looks = λ x w v h. h;
    begins = λ x todo w v h. moved_to x (λ a b. AreAlike limits (BothAlike (Same x)) (begins todo a) (begins todo b)) w v (λ q k y e. as_seen x (begins todo w) (begins todo (With x q k y w)) (counted_so limits steps seen (see x) (more x) tells todo w q k y e)) h;
    waits = λ x b n w v h. moved_to x (λ a c. AreAlike limits (BothAlike (Same x)) (enters_wait b n a) (enters_wait b n c)) w v (λ q k y e. as_seen x (enters_wait b n w) (enters_wait b n (With x q k y w)) (enters_wait_so limits steps seen (see x) (more x) tells b n w q k y e)) h;
    resumes = λ x t w v h. moved_to x (λ a b. AreAlike limits (BothAlike (Same x)) (resumes x t a) (resumes x t b)) w v (λ q k y e. as_seen x (resumes x t w) (resumes x t (With x q k y w)) (resumes_so limits steps seen (see x) (more x) tells x t w q k y e)) h;
    ends = λ x w v h. moved_to x (λ a b. EndsAlike limits (end_alone a) (end_alone b)) w v (λ q k y e. ends_here x w q k y) h;
    all_ended = λ x w v h. ap (λ (s : Sight D V). all_ended s.rest) h;
    uses = λ x w v h t. ap (λ (s : Sight D V). use_at s.rest.threads t) h;
    offers = λ x w v h. moved_to x (λ a b. OffersSame (made_of (which_thread x (offers a) [])) (made_of (which_thread x (offers b) []))) w v (λ q k y e. offered x w y e.1) h;
  }

module _ {D : Type 0} where
  -- the default is the same too, where all is seen of the yields
  default_same : (explores : Bool) (w : World D) (y : List ℕ) → w.yields ≡ y → OffersSame (made_of (which_thread explores (offers w) [])) (made_of (which_thread explores (offers (record w { yields = y })) []))
  default_same explores w y e = subst (λ z. OffersSame (made_of (which_thread explores (offers w) [])) (made_of (which_thread explores (offers (record w { yields = z })) []))) e (refl, refl, λ f. refl)

  -- the options are the same whatever they are
  any_yields : (explores : Bool) (w : World D) (y : List ℕ) → yields_seen explores w.yields ≡ yields_seen explores y → OffersSame (made_of (which_thread explores (offers w) [])) (made_of (which_thread explores (offers (record w { yields = y })) []))
  any_yields true w y e = (options_same (standings w) (standings (record w { yields = y })) (standings_same w.yields y w.threads (0 ∷ 1 ∷ 2 ∷ 3 ∷ 4 ∷ [])) w.active, refl, λ f. absurd (cc f))
  any_yields false w y e = default_same false w y e

more_alike : (a b : List ℕ) (t : ℕ) → a ≡ b → slice_set a t (slice_index a t + 1) ≡ slice_set b t (slice_index b t + 1)
more_alike a b t e = ap (λ (yields : List ℕ). slice_set yields t (slice_index yields t + 1)) e

seen_more : (explores : Bool) → YieldsTell (yields_seen explores)
seen_more true a b t e = refl
seen_more false a b t e = more_alike a b t e

pub points_law : {D V : Type 0} → PointsLaw D V
points_law limits seen steps tells = points_tell limits steps seen tells (λ explores yields. yields) (λ explores a b t e. more_alike a b t e) (λ explores w y e. default_same explores w y e)

pub yields_law : {D V : Type 0} → YieldsLaw D V
yields_law limits seen steps tells = points_tell limits steps seen tells yields_seen seen_more (λ explores w y e. any_yields explores w y e)
