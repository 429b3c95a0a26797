-- Where each state that was noted reaches an end by ways that runs went, each node of the runs has a way.
use Rattle.std.proofs.Common.{◌≡◌, ◌<◌, ◌⊎◌, ℕ, List, [], ◌∷◌, ◌++◌, length, Option, Some, None, refl, arith, ap, sym, ◌∙◌, subst, inl, inr, append-nil}
use Rattle.std.specs.Prelude.{slice_get}
use Rattle.std.specs.List.{Contains}
use Rattle.loom_objects.specs.declared.choice.Choice.{Choice}
use Rattle.loom_engine.specs.declared.rt.states.ways.Way.{Way}
use Rattle.loom_engine.specs.Walk.Path.{Stored, choices}
use Rattle.loom_engine.specs.Walk.Driven.{IsOneOf}
use Rattle.loom_engine.specs.Covering.Between.{AddsRun, EndsAt, IsOfRun, Leads, Passes, straight, through}
use Rattle.loom_engine.specs.Covering.Covered.{IsGiven}
use Rattle.loom_engine.specs.Covering.Ways.{HasEnded, HaveWays, IsWay, to_end, to_state}
use Rattle.loom_engine.specs.Covering.World.{World}
use Rattle.loom_engine.proofs.Covering.Between.{within}
use Rattle.loom_engine.proofs.Walk.Lists.{node_chooses}

module _ {A K : Type 0} (w : World A) (key : List Choice → K) (left : List (List Stored)) (runs : List (List Choice × A)) (led_by : List (List Choice)) where
  -- the run that left this path ended, or was cut off in the state of this number
  abbrev pub ComesTo : List Stored → Option ℕ → Type 0
  ComesTo q None = HasEnded w key left runs q
  ComesTo q (Some number) = EndsAt key led_by q number

  -- it is a way of a run that was made
  pub record IsMade (way : Way) : Type 0 where
    pub path : List Stored
    pub is_one : IsOneOf path left
    pub to : Option ℕ
    pub comes : ComesTo path to
    pub of_run : IsOfRun led_by (choices path) to way

  -- each run that was made came somewhere, and each of the ways is one of theirs
  pub record AreMade (ways : List Way) : Type 0 where
    pub each : (way : Way) → Contains ways way → IsMade way
    pub all : (q : List Stored) → IsOneOf q left → (to : Option ℕ) × ComesTo q to

module _ {A K : Type 0} (w : World A) (key : List Choice → K) (left : List (List Stored)) (runs : List (List Choice × A)) (led_by : List (List Choice)) where
  -- ---- what is reached

  module _ (ways : List Way) (made : AreMade w key left runs led_by ways) where
    -- the choices that led a run to a state, and those before a way
    same_there : (n : ℕ) (c : List Choice) (to : List Choice) (way : Way) (passes : Passes led_by to way.from) → slice_get led_by n ≡ Some c → way.from ≡ n → passes.there ≡ c
    same_there n c to way passes at from =
        let here : slice_get led_by n ≡ Some passes.there = subst (λ (k : ℕ). slice_get led_by k ≡ Some passes.there) from passes.led in cc (here, at)

    -- the way of a run to its end, or to where it was cut off
    by_last : (n : ℕ) (c : List Choice) (way : Way) (q : List Stored) → IsOneOf q left → (passes : Passes led_by (choices q) way.from) → slice_get led_by n ≡ Some c → way.from ≡ n → (to : Option ℕ) → ComesTo w key left runs led_by q to
        → ((m : ℕ) (d : List Choice) → to ≡ Some m → slice_get led_by m ≡ Some d → (on : List Choice) × IsWay w key left runs (key d) on) → (on : List Choice) × IsWay w key left runs (key c) on
    by_last n c way q i passes at from None ended further =
        (passes.rest, to_end (key c) passes.rest q passes.there i passes.begins (ap key (same_there n c (choices q) way passes at from)) ended)
    by_last n c way q i passes at from (Some m) came further =
        let z = further m came.there refl came.led in (
          passes.rest ++ z.0,
          to_state (key c) (passes.rest ++ z.0) q passes.there passes.rest [] z.0 i (passes.begins ∙ sym (append-nil (passes.there ++ passes.rest)))
              (ap key (same_there n c (choices q) way passes at from)) (subst (λ (k : K). IsWay w key left runs k z.0) (sym came.same ∙ ap key passes.begins) z.1) refl,
        )

    by_reaching : (n : ℕ) (c : List Choice) → slice_get led_by n ≡ Some c → Leads ways (length led_by) None n → (on : List Choice) × IsWay w key left runs (key c) on
    by_reaching n c at (straight _ (way, has, from, none)) = by (made.each way has)
      where
        by : IsMade w key left runs led_by way → (on : List Choice) × IsWay w key left runs (key c) on
        by m = go m.of_run
          where
            go : IsOfRun led_by (choices m.path) m.to way → (on : List Choice) × IsWay w key left runs (key c) on
            go (inl (passes, same)) = by_last n c way m.path m.is_one passes at from m.to m.comes (λ k d e led. absurd (cc (e, same, none)))
            go (inr is) = absurd (cc (is.goes, none))
    by_reaching n c at (through _ next (way, has, from, to) less on) = by (made.each way has) (λ d led. by_reaching next d led on)
      where
        by : IsMade w key left runs led_by way → ((d : List Choice) → slice_get led_by next ≡ Some d → (more : List Choice) × IsWay w key left runs (key d) more) → (more : List Choice) × IsWay w key left runs (key c) more
        by m further = go m.of_run
          where
            go : IsOfRun led_by (choices m.path) m.to way → (more : List Choice) × IsWay w key left runs (key c) more
            go (inl (passes, same)) =
                by_last n c way m.path m.is_one passes at from m.to m.comes (λ k d e led. let i : k ≡ next = cc (e, same, to) in further d (subst (λ (x : ℕ). slice_get led_by x ≡ Some d) i led))
            go (inr is) =
                let i : is.next ≡ next = cc (is.goes, to) in
                let z = further is.there (subst (λ (x : ℕ). slice_get led_by x ≡ Some is.there) i is.led) in
                let j : is.after.there ≡ is.there = cc (is.after.led, is.led) in
                let b = is.before in (
                  b.rest ++ z.0,
                  to_state (key c) (b.rest ++ z.0) m.path b.there b.rest is.after.rest z.0 m.is_one (is.after.begins ∙ ap (λ (l : List Choice). l ++ is.after.rest) (j ∙ b.begins))
                      (ap key (same_there n c is.there way b at from)) (subst (λ (k : K). IsWay w key left runs k z.0) (ap key b.begins) z.1) refl,
                )

    -- where all reach an end, each node has a way
    pub have_ways : ((n : ℕ) → n < length led_by → Leads ways (length led_by) None n) → HaveWays w key left runs
    have_ways reach q b n i at = by (made.all q i)
      where
        on : (rest : List Choice) × (choices q ≡ b ++ n.present ∷ rest)
        on = node_chooses q b n at

        by : (to : Option ℕ) × ComesTo w key left runs led_by q to → (way : List Choice) × IsWay w key left runs (key b) way
        by (None, ended) = (n.present ∷ on.0, to_end (key b) (n.present ∷ on.0) q b i on.1 refl ended)
        by (Some m, came) =
            let z = by_reaching m came.there came.led (reach m (within led_by m came.there came.led)) in (
              (n.present ∷ on.0) ++ z.0,
              to_state (key b) ((n.present ∷ on.0) ++ z.0) q b (n.present ∷ on.0) [] z.0 i (on.1 ∙ sym (append-nil (b ++ n.present ∷ on.0))) refl (subst (λ (k : K). IsWay w key left runs k z.0) (sym came.same ∙ ap key on.1) z.1) refl,
            )

-- ---- one run more

module _ {A K : Type 0} (w : World A) (key : List Choice → K) where
  pub one_of_more : (q : List Stored) (left : List (List Stored)) (x : List Stored) → IsOneOf x left → IsOneOf x (left ++ q ∷ [])
  one_of_more q [] x i = absurd i
  one_of_more q (y ∷ left) x (inl i) = inl i
  one_of_more q (y ∷ left) x (inr i) = inr (one_of_more q left x i)

  pub the_last : (q : List Stored) (left : List (List Stored)) → IsOneOf q (left ++ q ∷ [])
  the_last q [] = inl refl
  the_last q (y ∷ left) = inr (the_last q left)

  pub before_or_last : (q : List Stored) (left : List (List Stored)) (x : List Stored) → IsOneOf x (left ++ q ∷ []) → IsOneOf x left ⊎ (x ≡ q)
  before_or_last q [] x (inl i) = inr i
  before_or_last q [] x (inr i) = absurd i
  before_or_last q (y ∷ left) x (inl i) = inl (inl i)
  before_or_last q (y ∷ left) x (inr i) = by (before_or_last q left x i)
    where
      by : IsOneOf x left ⊎ (x ≡ q) → IsOneOf x (y ∷ left) ⊎ (x ≡ q)
      by (inl j) = inl (inr j)
      by (inr j) = inr j

  given_before : (c : List Choice) (value : A) (runs more : List (List Choice × A)) → IsGiven c value runs → IsGiven c value (runs ++ more)
  given_before c value [] more h = absurd h
  given_before c value (run ∷ runs) more (inl h) = inl h
  given_before c value (run ∷ runs) more (inr h) = inr (given_before c value runs more h)

  pub given_last : (c : List Choice) (value : A) (runs : List (List Choice × A)) → IsGiven c value (runs ++ (c, value) ∷ [])
  given_last c value [] = inl (refl, refl)
  given_last c value (run ∷ runs) = inr (given_last c value runs)

  module _ (left : List (List Stored)) (runs more : List (List Choice × A)) (q : List Stored) (led_by grown : List (List Choice))
      (grows : (k : ℕ) (c : List Choice) → slice_get led_by k ≡ Some c → slice_get grown k ≡ Some c) where
    ended_still : (x : List Stored) → HasEnded w key left runs x → HasEnded w key (left ++ q ∷ []) (runs ++ more) x
    ended_still x e = record { value = e.value; over = e.over; came = e.came; given = given_before (choices x) e.value runs more e.given }

    pub comes_still : (x : List Stored) (to : Option ℕ) → ComesTo w key left runs led_by x to → ComesTo w key (left ++ q ∷ []) (runs ++ more) grown x to
    comes_still x None e = ended_still x e
    comes_still x (Some n) came = record { there = came.there; led = grows n came.there came.led; same = came.same }

    passes_still : (made : List Choice) (n : ℕ) → Passes led_by made n → Passes grown made n
    passes_still made n p = record { there = p.there; rest = p.rest; led = grows n p.there p.led; begins = p.begins }

    of_run_still : (made : List Choice) (to : Option ℕ) (way : Way) → IsOfRun led_by made to way → IsOfRun grown made to way
    of_run_still made to way (inl (p, same)) = inl (passes_still made way.from p, same)
    of_run_still made to way (inr is) = inr (record {
      next = is.next;
      there = is.there;
      goes = is.goes;
      led = grows is.next is.there is.led;
      before = passes_still is.there way.from is.before;
      after = passes_still made is.next is.after;
    })

    made_still : (way : Way) → IsMade w key left runs led_by way → IsMade w key (left ++ q ∷ []) (runs ++ more) grown way
    made_still way m = record { path = m.path; is_one = one_of_more q left m.path m.is_one; to = m.to; comes = comes_still m.path m.to m.comes; of_run = of_run_still (choices m.path) m.to way m.of_run }

    -- a run more, with its ways
    pub made_more : (to : Option ℕ) → ComesTo w key (left ++ q ∷ []) (runs ++ more) grown q to → (old new : List Way) → AddsRun grown (choices q) to old new → AreMade w key left runs led_by old
        → AreMade w key (left ++ q ∷ []) (runs ++ more) grown new
    made_more to comes old new adds made = record {
      each = λ way has. each way (adds way has);
      all = λ x i. all x (before_or_last q left x i);
    }
      where
        each : (way : Way) → Contains old way ⊎ IsOfRun grown (choices q) to way → IsMade w key (left ++ q ∷ []) (runs ++ more) grown way
        each way (inl has) = made_still way (made.each way has)
        each way (inr of_run) = record { path = q; is_one = the_last q left; to = to; comes = comes; of_run = of_run }

        all : (x : List Stored) → IsOneOf x left ⊎ (x ≡ q) → (t : Option ℕ) × ComesTo w key (left ++ q ∷ []) (runs ++ more) grown x t
        all x (inl i) = let z = made.all x i in (z.0, comes_still x z.0 z.1)
        all x (inr e) = (to, subst (λ (y : List Stored). ComesTo w key (left ++ q ∷ []) (runs ++ more) grown y to) (sym e) comes)

  pub none_made : (led_by : List (List Choice)) → AreMade w key [] [] led_by []
  none_made led_by = record { each = λ way has. absurd (nothing way has); all = λ q i. absurd i }
    where
      nothing : (way : Way) → Contains [] way → ⊥
      nothing way (k, l, e) = omega arith
