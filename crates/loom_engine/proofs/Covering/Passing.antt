-- What a search has noted is on the path that comes next, or off: so each run passes only what is known to be passed, and leads on from all
-- of that to where it came.
use Rattle.std.proofs.Common.{◌≡◌, ◌<◌, ◌≤◌, ◌⊎◌, ℕ, zero, suc, arith, List, [], ◌∷◌, ◌++◌, length, Option, Some, None, ap, sym, ◌∙◌, subst, inl, inr, append-nil}
use Rattle.std.specs.Prelude.{slice_get, slice_index_or}
use Rattle.std.specs.List.{Contains}
use Rattle.loom_objects.specs.declared.choice.Choice.{Choice}
use Rattle.loom_engine.specs.declared.rt.states.ways.Way.{Way}
use Rattle.loom_engine.specs.Walk.Path.{IsAtRest, Stored, choices, node_at, step}
use Rattle.loom_engine.specs.Walk.Driven.{IsLeftBy, IsOneOf}
use Rattle.loom_engine.specs.Walk.Lists.{Begins}
use Rattle.loom_engine.specs.Covering.Between.{IsReady, IsWhole, Leads, Linked, Passes, Tracks, straight, through}
use Rattle.loom_engine.specs.Covering.UnderWay.{HasNode}
use Rattle.loom_engine.specs.Covering.World.{World}
use Rattle.loom_engine.proofs.Covering.Between.{at_place, within}
use Rattle.loom_engine.proofs.Covering.Closing.{IsOff, below_off, node_kept, node_stepped, off_apart, off_kept, off_stepped}
use Rattle.loom_engine.proofs.Covering.Leading.{ComesTo, before_or_last, comes_still}
use Rattle.loom_engine.proofs.Covering.Lost.{AreLost}
use Rattle.loom_engine.proofs.Covering.UnderWay.{node_within}
use Rattle.loom_engine.proofs.Covering.Whole.{leads_keeps}
use Rattle.loom_engine.proofs.Walk.Lists.{chooses_node, node_chooses}
use Rattle.loom_engine.proofs.Walk.Stepping.{IsStep, Steps, step_some}

less_or_not : (a b : ℕ) → (a < b) ⊎ (b ≤ a)
less_or_not zero zero = inr (omega arith)
less_or_not zero (suc b) = inl (omega arith)
less_or_not (suc a) zero = inr (omega arith)
less_or_not (suc a) (suc b) = by (less_or_not a b)
  where
    by : (a < b) ⊎ (b ≤ a) → (suc a < suc b) ⊎ (suc b ≤ suc a)
    by (inl h) = inl (omega (arith, h))
    by (inr h) = inr (omega (arith, h))

module _ {A K : Type 0} (w : World A) (key : List Choice → K) where
  -- a run came there, and each state that it passed leads there
  abbrev pub LeadsAll : List (List Stored) → List (List Choice × A) → List (List Choice) → List Way → List Stored → Type 0
  LeadsAll left runs led_by ways q = (to : Option ℕ) × ComesTo w key left runs led_by q to × ((n : ℕ) → Passes led_by (choices q) n → Leads ways (length led_by) to n)

  -- Between two runs: the choices that runs made are those before a node of the path that comes next, or off; so are those that led to
  -- states, of which those on the path are known to be passed.
  pub record Passed (p : List Stored) (left : List (List Stored)) (runs : List (List Choice × A)) (led_by : List (List Choice)) (tracks : Tracks) : Type 0 where
    pub made : (q : List Stored) → IsOneOf q left → (c rest : List Choice) → choices q ≡ c ++ rest → HasNode p c ⊎ IsOff p c
    pub noted : (n : ℕ) (c : List Choice) → slice_get led_by n ≡ Some c → (Contains tracks.passed n × HasNode p c) ⊎ IsOff p c
    pub linked : Linked tracks.ways tracks.passed
    pub inside : (n : ℕ) → Contains tracks.passed n → n < length led_by
    pub leads : (q : List Stored) → IsOneOf q left → LeadsAll left runs led_by tracks.ways q

  pub none_passed : Passed [] [] [] [] (record { ways = []; passed = [] })
  none_passed = record { made = λ q i. absurd i; noted = λ n c e. absurd (cc e); linked = tt; inside = λ n has. absurd (nothing n has); leads = λ q i. absurd i }
    where
      nothing : (n : ℕ) → Contains [] n → ⊥
      nothing n (k, l, e) = omega arith

  -- a run from the path p left the path q, and noted the states from the old ones on
  module _ (p q : List Stored) (left : List (List Stored)) (runs more : List (List Choice × A)) (led_by grown : List (List Choice)) (tracks new : Tracks) (z : Passed p left runs led_by tracks) (left_by : IsLeftBy p q)
      (rests : (b : List Choice) (n : Stored) → node_at q b ≡ Some n → IsAtRest n) (grows : (k : ℕ) (c : List Choice) → slice_get led_by k ≡ Some c → slice_get grown k ≡ Some c)
      (later : (k : ℕ) (c : List Choice) → length led_by ≤ k → slice_get grown k ≡ Some c → HasNode q c × (length p ≤ length c))
      (ordered : (k m : ℕ) (c d : List Choice) → length led_by ≤ k → k < m → slice_get grown k ≡ Some c → slice_get grown m ≡ Some d → length c ≤ length d) where
    -- the old states keep their numbers
    old_there : (n : ℕ) → n < length led_by → (c : List Choice) → slice_get grown n ≡ Some c → slice_get led_by n ≡ Some c
    old_there n l c at =
        let here : slice_get led_by n ≡ Some (slice_index_or led_by n []) = at_place led_by n [] l in
        let same : slice_index_or led_by n [] ≡ c = cc (grows n (slice_index_or led_by n []) here, at) in
        here ∙ ap Some same

    longer : length led_by ≤ length grown
    longer = by (less_or_not (length grown) (length led_by))
      where
        by : (length grown < length led_by) ⊎ (length led_by ≤ length grown) → length led_by ≤ length grown
        by (inl h) = absurd (let k = length grown in let l = within grown k (slice_index_or led_by k []) (grows k (slice_index_or led_by k []) (at_place led_by k [] h)) in omega (arith, l))
        by (inr h) = h

    -- an old state, or a new one
    old_or_new : (n : ℕ) → (n < length led_by) ⊎ (length led_by ≤ n)
    old_or_new n = less_or_not n (length led_by)

    apart : (c rest : List Choice) → IsOff p c → choices q ≡ c ++ rest → ⊥
    apart c rest off e = off_apart q rests c rest (off_kept p q left_by c off) e

    begins_so : (c : List Choice) → HasNode q c → (rest : List Choice) × (choices q ≡ c ++ rest)
    begins_so c has = let a = node_chooses q c has.node has.at in (has.node.present ∷ a.0, a.1)

    -- the run is ready
    pub is_ready : IsReady grown (choices q) (length led_by) tracks
    is_ready = record {
      low = longer;
      linked = z.linked;
      within = λ n has. let l = z.inside n has in let m = longer in omega (arith, l, m);
      order = record {
        before = λ n m c d has passes l at to. before n c d has passes at (later m d l to).1;
        within = λ n m c d l h at to. ordered n m c d l h at to;
      };
    }
      where
        before : (n : ℕ) (c d : List Choice) → Contains tracks.passed n → Passes grown (choices q) n → slice_get grown n ≡ Some c → length p ≤ length d → length c ≤ length d
        before n c d has passes at long = by (z.noted n c (old_there n (z.inside n has) c at))
          where
            by : (Contains tracks.passed n × HasNode p c) ⊎ IsOff p c → length c ≤ length d
            by (inl (is, here)) = let l = node_within p c here.node here.at in omega (arith, l, long)
            by (inr off) = let same : passes.there ≡ c = cc (passes.led, at) in absurd (apart c passes.rest off (passes.begins ∙ ap (λ l. l ++ passes.rest) same))

    -- its ways were added
    module _ (to : Option ℕ) (comes : ComesTo w key (left ++ q ∷ []) (runs ++ more) grown q to) (whole : IsWhole grown (choices q) (length led_by) to tracks new) where
      -- which states it passed
      passed_now : (n : ℕ) (c rest : List Choice) → slice_get grown n ≡ Some c → choices q ≡ c ++ rest → Contains new.passed n × Leads new.ways (length grown) to n
      passed_now n c rest at e = by (old_or_new n)
        where
          passes : Passes grown (choices q) n
          passes = record { there = c; rest = rest; led = at; begins = e }

          of_old : (Contains tracks.passed n × HasNode p c) ⊎ IsOff p c → Contains new.passed n × Leads new.ways (length grown) to n
          of_old (inl (has, node)) = whole.passed n (inl has) passes
          of_old (inr off) = absurd (apart c rest off e)

          by : (n < length led_by) ⊎ (length led_by ≤ n) → Contains new.passed n × Leads new.ways (length grown) to n
          by (inl l) = of_old (z.noted n c (old_there n l c at))
          by (inr l) = whole.passed n (inr (l, within grown n c at)) passes

      this_leads : LeadsAll (left ++ q ∷ []) (runs ++ more) grown new.ways q
      this_leads = (to, comes, λ n passes. (passed_now n passes.there passes.rest passes.led passes.begins).1)

      -- those of earlier runs still do, and they pass none of the new ones
      that_leads : (x : List Stored) → IsOneOf x left → LeadsAll left runs led_by tracks.ways x → LeadsAll (left ++ q ∷ []) (runs ++ more) grown new.ways x
      that_leads x i (t, came, leads) = (t, comes_still w key left runs more q led_by grown grows x t came, λ n passes. by n passes (old_or_new n))
        where
          new_one : (n : ℕ) (c rest : List Choice) → HasNode q c × (length p ≤ length c) → choices x ≡ c ++ rest → ⊥
          new_one n c rest (node, long) e = go (z.made x i c rest e)
            where
              go : HasNode p c ⊎ IsOff p c → ⊥
              go (inl here) = let l = node_within p c here.node here.at in omega (arith, l, long)
              go (inr off) = let b = begins_so c node in apart c b.0 off b.1

          by : (n : ℕ) → Passes grown (choices x) n → (n < length led_by) ⊎ (length led_by ≤ n) → Leads new.ways (length grown) t n
          by n passes (inl l) =
              leads_keeps tracks.ways new.ways (length led_by) (length grown) t whole.keeps longer n (leads n (record { there = passes.there; rest = passes.rest; led = old_there n l passes.there passes.led; begins = passes.begins }))
          by n passes (inr l) = absurd (new_one n passes.there passes.rest (later n passes.there l passes.led) passes.begins)

      pub leads_all : (x : List Stored) → IsOneOf x (left ++ q ∷ []) → LeadsAll (left ++ q ∷ []) (runs ++ more) grown new.ways x
      leads_all x i = by (before_or_last w key q left x i)
        where
          by : IsOneOf x left ⊎ (x ≡ q) → LeadsAll (left ++ q ∷ []) (runs ++ more) grown new.ways x
          by (inl j) = that_leads x j (z.leads x j)
          by (inr e) = subst (λ (y : List Stored). LeadsAll (left ++ q ∷ []) (runs ++ more) grown new.ways y) (sym e) this_leads

      -- a step goes on
      module _ (on : List Stored) (branch : List Choice) (n : Stored) (o : Choice) (s : IsStep q on branch n o) where
        kept_so : (c : List Choice) → HasNode p c ⊎ IsOff p c → HasNode on c ⊎ IsOff on c
        kept_so c (inl node) = node_stepped q on branch n o s c (node_kept p q left_by c node)
        kept_so c (inr off) = inr (off_stepped q on branch n o s c (off_kept p q left_by c off))

        made_so : (c rest : List Choice) → choices q ≡ c ++ rest → HasNode on c ⊎ IsOff on c
        made_so c [] e = let b = node_chooses q branch n s.at in inr (below_off q on branch n o s c b.0 (sym (e ∙ append-nil c) ∙ b.1))
        made_so c (x ∷ rest) e = let z = chooses_node q c x rest e in node_stepped q on branch n o s c (record { node = z.0; at = z.1 })

        noted_so : (k : ℕ) (c : List Choice) → slice_get grown k ≡ Some c → (Contains new.passed k × HasNode on c) ⊎ IsOff on c
        noted_so k c at = by (old_or_new k)
          where
            node_so : HasNode q c → (Contains new.passed k × HasNode on c) ⊎ IsOff on c
            node_so node = let b = begins_so c node in go (passed_now k c b.0 at b.1).0 (node_stepped q on branch n o s c node)
              where
                go : Contains new.passed k → HasNode on c ⊎ IsOff on c → (Contains new.passed k × HasNode on c) ⊎ IsOff on c
                go has (inl h) = inl (has, h)
                go has (inr off) = inr off

            of_old : (Contains tracks.passed k × HasNode p c) ⊎ IsOff p c → (Contains new.passed k × HasNode on c) ⊎ IsOff on c
            of_old (inl (has, node)) = node_so (node_kept p q left_by c node)
            of_old (inr off) = inr (off_stepped q on branch n o s c (off_kept p q left_by c off))

            by : (k < length led_by) ⊎ (length led_by ≤ k) → (Contains new.passed k × HasNode on c) ⊎ IsOff on c
            by (inl l) = of_old (z.noted k c (old_there k l c at))
            by (inr l) = node_so (later k c l at).0

        stepped : Passed on (left ++ q ∷ []) (runs ++ more) grown new
        stepped = record {
          made = λ x i c rest e. made x c rest e (before_or_last w key q left x i);
          noted = noted_so;
          linked = whole.linked;
          inside = whole.within;
          leads = leads_all;
        }
          where
            made : (x : List Stored) (c rest : List Choice) → choices x ≡ c ++ rest → IsOneOf x left ⊎ (x ≡ q) → HasNode on c ⊎ IsOff on c
            made x c rest e (inl j) = kept_so c (z.made x j c rest e)
            made x c rest e (inr same) = made_so c rest (ap choices (sym same) ∙ e)

      pub passed_on : (on : List Stored) → step q ≡ Some on → Passed on (left ++ q ∷ []) (runs ++ more) grown new
      unfolding Steps
      passed_on on e = by (step_some q on e)
        where
          by : Steps q on → Passed on (left ++ q ∷ []) (runs ++ more) grown new
          by (branch, n, o, s) = stepped on branch n o s

  -- ---- what is lost

  module _ (left : List (List Stored)) (runs : List (List Choice × A)) (led_by : List (List Choice)) (ways : List Way)
      (nodes : (c : List Choice) → Contains led_by c → (q : List Stored) × IsOneOf q left × HasNode q c) (leads : (q : List Stored) → IsOneOf q left → LeadsAll left runs led_by ways q) where
    -- these choices led to a state that reaches no end
    abbrev pub IsLost : List Choice → Type 0
    IsLost c = (n : ℕ) × (slice_get led_by n ≡ Some c) × (Leads ways (length led_by) None n → ⊥)

    leads_then : (to n : ℕ) → to < length led_by → Leads ways (length led_by) (Some to) n → Leads ways (length led_by) None to → Leads ways (length led_by) None n
    leads_then to n l (straight _ g) r = through n to g l r
    leads_then to n l (through _ m g h on) r = through n m g h (leads_then to m l on r)

    pub are_lost : AreLost key left IsLost
    are_lost = record {
      nodes = λ c is. nodes c (contains_there led_by is.0 c is.1);
      met = λ q c i is begins. met q c i is begins (leads q i);
    }
      where
        contains_there : {X : Type 0} (xs : List X) (k : ℕ) (x : X) → slice_get xs k ≡ Some x → Contains xs x
        contains_there [] k x e = absurd (cc e)
        contains_there (y ∷ xs) zero x e = (0, omega arith, cc e)
        contains_there (y ∷ xs) (suc k) x e = let r = contains_there xs k x e in (suc r.0, omega (arith, r.1), r.2)

        met : (q : List Stored) (c : List Choice) → IsOneOf q left → IsLost c → Begins c (choices q) → LeadsAll left runs led_by ways q → (d : List Choice) × IsLost d × (key (choices q) ≡ key d)
        met q c i (n, at, lost) (rest, begins) (None, ended, all) = absurd (lost (all n (record { there = c; rest = rest; led = at; begins = begins })))
        met q c i (n, at, lost) (rest, begins) (Some to, came, all) =
            (came.there, (to, came.led, λ r. lost (leads_then to n (within led_by to came.there came.led) (all n (record { there = c; rest = rest; led = at; begins = begins })) r)), came.same)
