-- The whole state tells the future, and so it does without whose turn it is.
use Rattle.std.proofs.Common.{◌≡◌, ◌⊎◌, ◌+◌, arith, ℕ, zero, suc, Bool, true, false, cond, List, [], ◌∷◌, map, length, Option, Some, None, refl, ap, ap₂, sym, ◌∙◌, subst, inl, inr}
use Rattle.std.specs.Prelude.{nat_lt, slice_get, slice_index, slice_set, Result, Ok, Err, ⊤}
use Rattle.std.specs.List.{position_from}
use Rattle.loom_views.specs.declared.rt.failure.FailureKind.{FailureKind}
use Rattle.loom_views.specs.declared.rt.failure.FailureKind.TheVariants.{Misuse}
use Rattle.loom_objects.specs.declared.choice.Choice.{Choice}
use Rattle.loom_objects.specs.declared.operation.Turn.TheVariants.{Ended}
use Rattle.loom_objects.specs.declared.rt.schedule.Ability.{Ability}
use Rattle.loom_objects.specs.declared.rt.schedule.Ability.TheVariants.{Able, Yielding, Unable}
use Rattle.loom_objects.specs.declared.rt.thread.Thread.{Thread}
use Rattle.loom_objects.specs.Rules.Ending.{all_ended}
use Rattle.loom_objects.specs.Rules.Leaks.{check_leak, first_leak}
use Rattle.loom_objects.specs.Rules.Moves.{takes_result}
use Rattle.loom_objects.specs.Rules.Rule.{◌>>=◌, found}
use Rattle.loom_objects.specs.Rules.Steps.{begins, enters_wait, resumes}
use Rattle.loom_objects.specs.Rules.Uses.{use_at}
use Rattle.loom_objects.specs.Schedule.Defaults.{is_able, is_yielding, better, fewer, fewest, or_else, default_thread}
use Rattle.loom_objects.specs.Schedule.Offers.{ability_in, offers, standing_at, standing_of, standings, with_able}
use Rattle.loom_objects.specs.Tree.Asked.{which_thread}
use Rattle.loom_objects.specs.Tree.Question.{made_of, able_threads, thread_options}
use Rattle.loom_objects.specs.Tree.Tree.{Tree, Gives, Fails, Closes, Asks}
use Rattle.loom_objects.specs.World.{World}
use Rattle.loom_engine.specs.Covering.Sound.{OffersSame}
use Rattle.loom_engine.specs.Covering.Alike.{AreAlike}
use Rattle.loom_engine.specs.Covering.States.{BothAlike, EndsAlike, LooksSame, end_alone, turn_of, TellsFuture}
use Rattle.loom_engine.specs.Covering.Seen.{without_active, without_turn, WholeLaw, TurnLaw}

-- ---- the whole state

module _ {A : Type 0} (limits : FailureKind → Bool) (Same : A → A → Type 0) (same : (a : A) → Same a a) where
  pub alike_self : (t : Tree A) → AreAlike limits Same t t
  alike_self (Gives a) = same a
  alike_self (Fails kind) = inl refl
  alike_self (Closes rest) = alike_self rest
  alike_self (Asks question branches) = ((refl, refl, λ e. refl), λ o a. alike_self (branches o))

module _ {D : Type 0} where
  -- a run that ends does so with a result
  pub ended_by : (r : Result ⊤ FailureKind) (s : Result (D × World D) FailureKind) (limits : FailureKind → Bool)
      → EndsAlike limits (turn_of (r >>= (λ u. s >>= (λ (value, taken). Ok (Ended value, taken))))) (turn_of (r >>= (λ u. s >>= (λ (value, taken). Ok (Ended value, taken)))))
  ended_by (Ok u) (Ok (value, taken)) limits = (value, refl, refl)
  ended_by (Ok u) (Err kind) limits = inl refl
  ended_by (Err kind) s limits = inl refl

  same_both : {A : Type 0} (x : A × World D) → BothAlike (λ (w v : World D). w ≡ v) x x
  same_both (a, w) = (refl, refl)

pub whole_law : {D : Type 0} → WholeLaw D
whole_law {D} limits = record {
  threads = λ explores w v e. ap (λ (x : World D). length x.threads) e;
  active = λ explores w v e. ap (λ (x : World D). x.active) e;
  looks = λ explores w v e. e;
  begins = λ explores todo w v e. subst (λ x. AreAlike limits (BothAlike (λ (a b : World D). a ≡ b)) (begins todo w) (begins todo x)) e (alike_self limits (BothAlike (λ (a b : World D). a ≡ b)) same_both (begins todo w));
  waits = λ explores b n w v e. subst (λ x. AreAlike limits (BothAlike (λ (a b : World D). a ≡ b)) (enters_wait b n w) (enters_wait b n x)) e (alike_self limits (BothAlike (λ (a b : World D). a ≡ b)) same_both (enters_wait b n w));
  resumes = λ explores t w v e. subst (λ x. AreAlike limits (BothAlike (λ (a b : World D). a ≡ b)) (resumes explores t w) (resumes explores t x)) e (alike_self limits (BothAlike (λ (a b : World D). a ≡ b)) same_both (resumes explores t w));
  ends = λ explores w v e. subst (λ x. EndsAlike limits (end_alone w) (end_alone x)) e (ended_by (check_leak (first_leak w.objects)) (takes_result 0 w) limits);
  all_ended = λ explores w v e. ap all_ended e;
  uses = λ explores w v e t. ap (λ (x : World D). use_at x.threads t) e;
  offers = λ explores w v e. subst (λ x. OffersSame (made_of (which_thread explores (offers w) [])) (made_of (which_thread explores (offers x) []))) e (refl, refl, λ f. refl);
}

-- ---- the options of a schedule don't depend on whose turn it is

able_there : (standings : List (Ability × ℕ)) (t : ℕ) → is_able (slice_get standings t) ≡ true → slice_get (map ability_in standings) t ≡ Some Able
able_there [] t h = absurd (cc h)
able_there ((Able, yields) ∷ rest) zero h = refl
able_there ((Yielding, yields) ∷ rest) zero h = absurd (cc h)
able_there ((Unable, yields) ∷ rest) zero h = absurd (cc h)
able_there (standing ∷ rest) (suc t) h = able_there rest t h

set_same : (abilities : List Ability) (t : ℕ) → slice_get abilities t ≡ Some Able → slice_set abilities t Able ≡ abilities
set_same [] t h = refl
set_same (ability ∷ rest) zero h = let e : Able ≡ ability = cc h in ap (λ a. a ∷ rest) e
set_same (ability ∷ rest) (suc t) h = ap (λ l. ability ∷ l) (set_same rest t h)

some_still : (best : ℕ × ℕ) (t : ℕ) (standings : List (Ability × ℕ)) → (k : ℕ) × (fewest (Some best) t standings ≡ Some k)
some_still best t [] = (best.0, refl)
some_still best t ((Able, yields) ∷ rest) = some_still (fewer (Some best) t yields) (suc t) rest
some_still best t ((Yielding, yields) ∷ rest) = some_still best (suc t) rest
some_still best t ((Unable, yields) ∷ rest) = some_still best (suc t) rest

-- where a thread can go on, one has the fewest yields
some_fewest : (best : Option (ℕ × ℕ)) (t : ℕ) (standings : List (Ability × ℕ)) (a : ℕ) → is_able (slice_get standings a) ≡ true → (k : ℕ) × (fewest best t standings ≡ Some k)
some_fewest best t [] a h = absurd (cc h)
some_fewest best t ((Able, yields) ∷ rest) zero h = some_still (fewer best t yields) (suc t) rest
some_fewest best t ((Yielding, yields) ∷ rest) zero h = absurd (cc h)
some_fewest best t ((Unable, yields) ∷ rest) zero h = absurd (cc h)
some_fewest best t (standing ∷ rest) (suc a) h = some_fewest (better best t standing) (suc t) rest a h

abbrev IsBest : Option (ℕ × ℕ) → ℕ → Type 0
IsBest None k = ⊥
IsBest (Some found) k = found.0 ≡ k

abbrev IsFrom : ℕ → List (Ability × ℕ) → ℕ → Type 0
IsFrom t standings k = (j : ℕ) × (k ≡ t + j) × (is_able (slice_get standings j) ≡ true)

-- the one with the fewest can go on
fewest_able : (best : Option (ℕ × ℕ)) (t : ℕ) (standings : List (Ability × ℕ)) (k : ℕ) → fewest best t standings ≡ Some k → IsBest best k ⊎ IsFrom t standings k
fewest_able None t [] k h = absurd (cc h)
fewest_able (Some found) t [] k h = inl (cc h)
fewest_able best t (standing ∷ rest) k h = go standing (fewest_able (better best t standing) (suc t) rest k h)
  where
    later : (standing : Ability × ℕ) → IsFrom (suc t) rest k → IsBest best k ⊎ IsFrom t (standing ∷ rest) k
    later standing (j, e, able) = inr (suc j, omega (arith, e), able)

    fewer_by : (b : Bool) (found : ℕ × ℕ) (yields : ℕ) → (cond b (t, yields) found).0 ≡ k → (found.0 ≡ k) ⊎ (t ≡ k)
    fewer_by true found yields e = inr e
    fewer_by false found yields e = inl e

    here : (yields : ℕ) → t ≡ k → IsBest best k ⊎ IsFrom t ((Able, yields) ∷ rest) k
    here yields e = inr (0, omega (arith, e), refl)

    by_best : (old : Option (ℕ × ℕ)) (yields : ℕ) → IsBest (Some (fewer old t yields)) k → IsBest old k ⊎ (t ≡ k)
    by_best None yields e = inr e
    by_best (Some (best, least)) yields e = fewer_by (nat_lt yields least) (best, least) yields e

    at_able : (yields : ℕ) → IsBest best k ⊎ (t ≡ k) → IsBest best k ⊎ IsFrom t ((Able, yields) ∷ rest) k
    at_able yields (inl e) = inl e
    at_able yields (inr e) = here yields e

    go : (standing : Ability × ℕ) → IsBest (better best t standing) k ⊎ IsFrom (suc t) rest k → IsBest best k ⊎ IsFrom t (standing ∷ rest) k
    go standing (inr e) = later standing e
    go (Able, yields) (inl e) = at_able yields (by_best best yields e)
    go (Yielding, yields) (inl e) = inl e
    go (Unable, yields) (inl e) = inl e

abbrev options_by : Option ℕ → List (Ability × ℕ) → List Choice
options_by default standings = thread_options default (with_able default (map ability_in standings))

-- with a default that can go on the options are who can
able_default : (standings : List (Ability × ℕ)) (t : ℕ) → is_able (slice_get standings t) ≡ true → options_by (Some t) standings ≡ able_threads 0 (map ability_in standings)
able_default standings t h = ap (able_threads 0) (set_same (map ability_in standings) t (able_there standings t h))

least_default : (standings : List (Ability × ℕ)) (a : ℕ) → is_able (slice_get standings a) ≡ true → (other : Option ℕ)
    → options_by (or_else (fewest None 0 standings) other) standings ≡ able_threads 0 (map ability_in standings)
least_default standings a h other = by (some_fewest None 0 standings a h)
  where
    by : (k : ℕ) × (fewest None 0 standings ≡ Some k) → options_by (or_else (fewest None 0 standings) other) standings ≡ able_threads 0 (map ability_in standings)
    by (k, e) = ap (λ d. options_by (or_else d other) standings) e ∙ able_default standings k (able (fewest_able None 0 standings k e))
      where
        able : ⊥ ⊎ IsFrom 0 standings k → is_able (slice_get standings k) ≡ true
        able (inl f) = absurd f
        able (inr (j, i, g)) = let same : j ≡ k = omega (arith, i) in subst (λ x. is_able (slice_get standings x) ≡ true) same g

same_options : (standings : List (Ability × ℕ)) (a b : ℕ) → options_by (default_thread a standings) standings ≡ options_by (default_thread b standings) standings
same_options standings a b = go (is_able (slice_get standings a)) (is_able (slice_get standings b)) refl refl
  where
    go : (x y : Bool) → is_able (slice_get standings a) ≡ x → is_able (slice_get standings b) ≡ y
        → options_by (cond x (Some a) (or_else (fewest None 0 standings) (position_from is_yielding 0 standings))) standings
        ≡ options_by (cond y (Some b) (or_else (fewest None 0 standings) (position_from is_yielding 0 standings))) standings
    go true true e f = able_default standings a e ∙ sym (able_default standings b f)
    go true false e f = able_default standings a e ∙ sym (least_default standings a e (position_from is_yielding 0 standings))
    go false true e f = least_default standings b f (position_from is_yielding 0 standings) ∙ sym (able_default standings b f)
    go false false e f = refl

-- ---- nor on how often threads have yielded

-- each thread can do the same
abbrev pub SameAbilities : List (Ability × ℕ) → List (Ability × ℕ) → Type 0
SameAbilities [] [] = Unit {0}
SameAbilities [] (y ∷ ys) = ⊥
SameAbilities (x ∷ xs) [] = ⊥
SameAbilities (x ∷ xs) (y ∷ ys) = (x.0 ≡ y.0) × SameAbilities xs ys

same_map : (xs ys : List (Ability × ℕ)) → SameAbilities xs ys → map ability_in xs ≡ map ability_in ys
same_map [] [] h = refl
same_map [] (y ∷ ys) h = absurd h
same_map (x ∷ xs) [] h = absurd h
same_map (x ∷ xs) (y ∷ ys) h = ap₂ (λ (a : Ability) (l : List Ability). a ∷ l) h.0 (same_map xs ys h.1)

abbrev able_of : Ability → Bool
able_of Able = true
able_of Yielding = false
able_of Unable = false

abbrev yielding_of : Ability → Bool
yielding_of Able = false
yielding_of Yielding = true
yielding_of Unable = false

able_is : (x : Ability × ℕ) → is_able (Some x) ≡ able_of x.0
able_is (Able, yields) = refl
able_is (Yielding, yields) = refl
able_is (Unable, yields) = refl

yielding_is : (x : Ability × ℕ) → is_yielding x ≡ yielding_of x.0
yielding_is (Able, yields) = refl
yielding_is (Yielding, yields) = refl
yielding_is (Unable, yields) = refl

able_same : (xs ys : List (Ability × ℕ)) → SameAbilities xs ys → (t : ℕ) → is_able (slice_get xs t) ≡ is_able (slice_get ys t)
able_same [] [] h t = refl
able_same [] (y ∷ ys) h t = absurd h
able_same (x ∷ xs) [] h t = absurd h
able_same (x ∷ xs) (y ∷ ys) h zero = able_is x ∙ ap able_of h.0 ∙ sym (able_is y)
able_same (x ∷ xs) (y ∷ ys) h (suc t) = able_same xs ys h.1 t

position_same : (xs ys : List (Ability × ℕ)) → SameAbilities xs ys → (t : ℕ) → position_from is_yielding t xs ≡ position_from is_yielding t ys
position_same [] [] h t = refl
position_same [] (y ∷ ys) h t = absurd h
position_same (x ∷ xs) [] h t = absurd h
position_same (x ∷ xs) (y ∷ ys) h t =
    ap₂ (λ (b : Bool) (o : Option ℕ). cond b (Some t) o) (yielding_is x ∙ ap yielding_of h.0 ∙ sym (yielding_is y)) (position_same xs ys h.1 (t + 1))

least_able : (standings : List (Ability × ℕ)) (k : ℕ) → fewest None 0 standings ≡ Some k → is_able (slice_get standings k) ≡ true
least_able standings k e = by (fewest_able None 0 standings k e)
  where
    by : ⊥ ⊎ IsFrom 0 standings k → is_able (slice_get standings k) ≡ true
    by (inl f) = absurd f
    by (inr (j, i, g)) = let same : j ≡ k = omega (arith, i) in subst (λ x. is_able (slice_get standings x) ≡ true) same g

pub options_same : (xs ys : List (Ability × ℕ)) → SameAbilities xs ys → (a : ℕ) → options_by (default_thread a xs) xs ≡ options_by (default_thread a ys) ys
options_same xs ys h a = go (is_able (slice_get xs a)) (is_able (slice_get ys a)) refl refl
  where
    all : able_threads 0 (map ability_in xs) ≡ able_threads 0 (map ability_in ys)
    all = ap (able_threads 0) (same_map xs ys h)

    by : (o p : Option ℕ) → fewest None 0 xs ≡ o → fewest None 0 ys ≡ p
        → options_by (or_else o (position_from is_yielding 0 xs)) xs ≡ options_by (or_else p (position_from is_yielding 0 ys)) ys
    by None None e f = ap₂ (λ (o : Option ℕ) (l : List Ability). thread_options o (with_able o l)) (position_same xs ys h 0) (same_map xs ys h)
    by None (Some j) e f = let some = some_fewest None 0 xs j (able_same xs ys h j ∙ least_able ys j f) in absurd (cc (some.1, e))
    by (Some k) None e f = let some = some_fewest None 0 ys k (sym (able_same xs ys h k) ∙ least_able xs k e) in absurd (cc (some.1, f))
    by (Some k) (Some j) e f = able_default xs k (least_able xs k e) ∙ all ∙ sym (able_default ys j (least_able ys j f))

    go : (x y : Bool) → is_able (slice_get xs a) ≡ x → is_able (slice_get ys a) ≡ y
        → options_by (cond x (Some a) (or_else (fewest None 0 xs) (position_from is_yielding 0 xs))) xs ≡ options_by (cond y (Some a) (or_else (fewest None 0 ys) (position_from is_yielding 0 ys))) ys
    go true true e f = able_default xs a e ∙ all ∙ sym (able_default ys a f)
    go true false e f = absurd (cc (e, f, able_same xs ys h a))
    go false true e f = absurd (cc (e, f, able_same xs ys h a))
    go false false e f = by (fewest None 0 xs) (fewest None 0 ys) refl refl

module _ {D : Type 0} where
  standing_same : (a b : ℕ) (o : Option (Thread D)) → (standing_of a o).0 ≡ (standing_of b o).0
  standing_same a b None = refl
  standing_same a b (Some thread) = refl

  pub standings_same : (yields others : List ℕ) (threads : List (Thread D)) (numbers : List ℕ) → SameAbilities (map (standing_at yields threads) numbers) (map (standing_at others threads) numbers)
  standings_same yields others threads [] = tt
  standings_same yields others threads (t ∷ rest) = (standing_same (slice_index yields t) (slice_index others t) (slice_get threads t), standings_same yields others threads rest)

-- ---- without whose turn it is

module _ {D : Type 0} where
  -- how a run ends doesn't depend on it
  result_by : (o : Option D) (w v : World D)
      → turn_of ((found o Misuse >>= (λ value. Ok (value, w))) >>= (λ (value, taken). Ok (Ended value, taken))) ≡ turn_of ((found o Misuse >>= (λ value. Ok (value, v))) >>= (λ (value, taken). Ok (Ended value, taken)))
  result_by None w v = refl
  result_by (Some value) w v = refl

  thread_by : (o : Option (Thread D)) (after before : Thread D → World D)
      → turn_of ((found o Misuse >>= (λ (thread : Thread D). found thread.result Misuse >>= (λ value. Ok (value, after thread)))) >>= (λ (value, taken). Ok (Ended value, taken)))
      ≡ turn_of ((found o Misuse >>= (λ (thread : Thread D). found thread.result Misuse >>= (λ value. Ok (value, before thread)))) >>= (λ (value, taken). Ok (Ended value, taken)))
  thread_by None after before = refl
  thread_by (Some thread) after before = result_by thread.result (after thread) (before thread)

  leak_by : (r : Result ⊤ FailureKind) (o : Option (Thread D)) (after before : Thread D → World D)
      → turn_of (r >>= (λ u. (found o Misuse >>= (λ (thread : Thread D). found thread.result Misuse >>= (λ value. Ok (value, after thread)))) >>= (λ (value, taken). Ok (Ended value, taken))))
      ≡ turn_of (r >>= (λ u. (found o Misuse >>= (λ (thread : Thread D). found thread.result Misuse >>= (λ value. Ok (value, before thread)))) >>= (λ (value, taken). Ok (Ended value, taken))))
  leak_by (Ok u) o after before = thread_by o after before
  leak_by (Err kind) o after before = refl

  -- a run's end depends on its threads and objects alone
  pub end_of_like : (w v : World D) → w.threads ≡ v.threads → w.objects ≡ v.objects → end_alone w ≡ end_alone v
  end_of_like w v e f =
      leak_by (check_leak (first_leak w.objects)) (slice_get w.threads 0)
      (λ (thread : Thread D). record w { threads = slice_set w.threads 0 (record thread { result = None }) })
      (λ (thread : Thread D). record v { threads = slice_set v.threads 0 (record thread { result = None }) })
      ∙ ap (λ o. turn_of (check_leak (first_leak w.objects) >>= (λ u. (found o Misuse >>= (λ (thread : Thread D). found thread.result Misuse >>= (λ value. Ok (value, record v { threads = slice_set v.threads 0 (record thread { result = None }) })))) >>= (λ (value, taken). Ok (Ended value, taken)))))
      (ap (λ ts. slice_get ts 0) e)
      ∙ ap (λ os. turn_of (check_leak (first_leak os) >>= (λ u. takes_result 0 v >>= (λ (value, taken). Ok (Ended value, taken))))) f

  end_without : (w : World D) → end_alone (without_active w) ≡ end_alone w
  end_without w = end_of_like (without_active w) w refl refl

  options_without : (w : World D) → (made_of (which_thread true (offers (without_active w)) [])).options ≡ (made_of (which_thread true (offers w) [])).options
  options_without w = same_options (standings w) 0 w.active

module _ {D K : Type 0} (limits : FailureKind → Bool) (look : Bool → World D → K) (Alike : Bool → World D → World D → Type 0) (tells : TellsFuture limits look Alike) (h : (explores : Bool) (w v : World D) → Alike explores w v → Alike explores (without_active w) (without_active v)) where
  looks_so : (explores : Bool) (w v : World D) → Alike explores w v → look explores (without_turn explores w) ≡ look explores (without_turn explores v)
  looks_so true w v a = tells.looks true (without_active w) (without_active v) (h true w v a)
  looks_so false w v a = tells.looks false w v a

  resumes_so : (explores : Bool) (t : ℕ) (w v : World D) → look explores (without_turn explores w) ≡ look explores (without_turn explores v)
      → AreAlike limits (BothAlike (Alike explores)) (resumes explores t w) (resumes explores t v)
  resumes_so true t w v e = tells.resumes true t (without_active w) (without_active v) e
  resumes_so false t w v e = tells.resumes false t w v e

  ends_so : (explores : Bool) (w v : World D) → look explores (without_turn explores w) ≡ look explores (without_turn explores v) → EndsAlike limits (end_alone w) (end_alone v)
  ends_so true w v e =
      subst (λ x. EndsAlike limits x (end_alone v)) (end_without w) (subst (λ y. EndsAlike limits (end_alone (without_active w)) y) (end_without v) (tells.ends true (without_active w) (without_active v) e))
  ends_so false w v e = tells.ends false w v e

  all_ended_so : (explores : Bool) (w v : World D) → look explores (without_turn explores w) ≡ look explores (without_turn explores v) → all_ended w ≡ all_ended v
  all_ended_so true w v e = tells.all_ended true (without_active w) (without_active v) e
  all_ended_so false w v e = tells.all_ended false w v e

  uses_so : (explores : Bool) (w v : World D) → look explores (without_turn explores w) ≡ look explores (without_turn explores v) → (t : ℕ) → use_at w.threads t ≡ use_at v.threads t
  uses_so true w v e t = tells.uses true (without_active w) (without_active v) e t
  uses_so false w v e t = tells.uses false w v e t

  offers_so : (explores : Bool) (w v : World D) → look explores (without_turn explores w) ≡ look explores (without_turn explores v)
      → OffersSame (made_of (which_thread explores (offers w) [])) (made_of (which_thread explores (offers v) []))
  offers_so true w v e =
      let z = tells.offers true (without_active w) (without_active v) e in
      (sym (options_without w) ∙ z.0 ∙ options_without v, refl, λ f. absurd (cc f))
  offers_so false w v e = tells.offers false w v e

pub turn_law : {D K F : Type 0} → TurnLaw D K F
turn_law limits look between tells h = record {
  threads = tells.threads;
  active = tells.active;
  looks = λ x w v a. looks_so limits look (LooksSame between) tells h x w v a;
  begins = tells.begins;
  waits = tells.waits;
  resumes = λ x t w v e. resumes_so limits look (LooksSame between) tells h x t w v e;
  ends = λ x w v e. ends_so limits look (LooksSame between) tells h x w v e;
  all_ended = λ x w v e. all_ended_so limits look (LooksSame between) tells h x w v e;
  uses = λ x w v e t. uses_so limits look (LooksSame between) tells h x w v e t;
  offers = λ x w v e. offers_so limits look (LooksSame between) tells h x w v e;
}
