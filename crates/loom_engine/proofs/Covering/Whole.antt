-- The states that a run passes are linked by ways, so that each of them leads to where it came.
use Rattle.std.proofs.Common.{◌≡◌, ◌<◌, ◌≤◌, ◌⊎◌, ℕ, zero, suc, ◌-◌, arith, length-append, true, false, List, [], ◌∷◌, ◌++◌, length, Option, Some, None, refl, ap, sym, ◌∙◌, subst, inl, inr, append_assoc, append-nil}
use Rattle.std.specs.Prelude.{slice_get, take}
use Rattle.std.specs.Option.{is_some}
use native.Mathlib.Decide.{ℕ_discrete}
use Rattle.std.specs.List.{Contains}
use Rattle.std.proofs.lemmas.List.Elements.{Contains-append_cases, Contains-append_left, Contains-append_right}
use Rattle.loom_objects.specs.declared.choice.Choice.{Choice}
use Rattle.loom_engine.specs.declared.rt.states.ways.Way.{Way}
use Rattle.loom_engine.proofs.Covering.Between.{within}
use Rattle.loom_engine.specs.Covering.Between.{AreInOrder, Goes, HasPassed, IsLastPassed, IsReady, IsWhole, Leads, LeavesOthers, Linked, Passes, PassesOn, Tracks, straight, through}

-- ---- lists

just : {X : Type 0} (x : X) → Contains (x ∷ []) x
just x = (0, omega arith, refl)

just_one : {X : Type 0} (x y : X) → Contains (x ∷ []) y → y ≡ x
just_one x y (zero, l, e) = sym e
just_one x y (suc k, l, e) = absurd (omega (arith, l))

not_in_none : {X : Type 0} (x : X) → Contains [] x → ⊥
not_in_none x (k, l, e) = omega arith

-- a list ends in one way
no_last : {X : Type 0} (front : List X) (x : X) → [] ≡ front ++ x ∷ [] → ⊥
no_last [] x e = cc e
no_last (y ∷ front) x e = cc e

same_last : {X : Type 0} (xs ys : List X) (x y : X) → xs ++ x ∷ [] ≡ ys ++ y ∷ [] → x ≡ y
same_last [] [] x y e = cc e
same_last [] (z ∷ ys) x y e = absurd (no_last ys y (cc e))
same_last (z ∷ xs) [] x y e = absurd (no_last xs x (cc e))
same_last (z ∷ xs) (w ∷ ys) x y e = same_last xs ys x y (cc e)

pub last_at : {X : Type 0} (xs : List X) (k : ℕ) (x : X) → suc k ≡ length xs → slice_get xs k ≡ Some x → (front : List X) × (xs ≡ front ++ x ∷ [])
last_at [] k x l e = absurd (cc e)
last_at (y ∷ []) zero x l e = ([], ap (λ z. z ∷ []) (cc e))
last_at (y ∷ []) (suc k) x l e = absurd (cc e)
last_at (y ∷ z ∷ xs) zero x l e = absurd (omega (arith, l))
last_at (y ∷ z ∷ xs) (suc k) x l e = let w = last_at (z ∷ xs) k x (omega (arith, l)) e in (y ∷ w.0, ap (λ l. y ∷ l) w.1)

pub at_last : {X : Type 0} (front : List X) (x : X) (k : ℕ) → suc k ≡ length (front ++ x ∷ []) → slice_get (front ++ x ∷ []) k ≡ Some x
at_last [] x zero l = refl
at_last [] x (suc k) l = absurd (omega (arith, l))
at_last (y ∷ front) x zero l = absurd (omega (arith, l, length-append front (x ∷ [])))
at_last (y ∷ front) x (suc k) l = at_last front x k (omega (arith, l))

-- of two fronts of one list the shorter one is a front of the other
front_of_front : (c d r s : List Choice) → c ++ r ≡ d ++ s → length c ≤ length d → (t : List Choice) × (d ≡ c ++ t)
front_of_front [] d r s e l = (d, refl)
front_of_front (x ∷ c) [] r s e l = absurd (omega (arith, l))
front_of_front (x ∷ c) (y ∷ d) r s e l =
    let z = front_of_front c d r s (cc e) (omega (arith, l)) in
    let same : y ≡ x = cc e in
    (z.0, ap (λ l. y ∷ l) z.1 ∙ ap (λ a. a ∷ c ++ z.0) same)

-- ---- linked states

module _ (ways : List Way) where
  linked_front : (xs ys : List ℕ) → Linked ways (xs ++ ys) → Linked ways xs
  linked_front [] ys h = tt
  linked_front (x ∷ []) ys h = tt
  linked_front (x ∷ y ∷ xs) ys h = (h.0, linked_front (y ∷ xs) ys h.1)

  linked_more : (xs : List ℕ) (n : ℕ) → Linked ways xs → ((front : List ℕ) (last : ℕ) → xs ≡ front ++ last ∷ [] → Goes ways last (Some n)) → Linked ways (xs ++ n ∷ [])
  linked_more [] n h goes = tt
  linked_more (x ∷ []) n h goes = (goes [] x refl, tt)
  linked_more (x ∷ y ∷ xs) n h goes = (h.0, linked_more (y ∷ xs) n h.1 (λ front last e. goes (x ∷ front) last (ap (λ l. x ∷ l) e)))

  -- each of them leads to where the last one does
  all_lead : (count : ℕ) (to : Option ℕ) (xs : List ℕ) → Linked ways xs → ((n : ℕ) → Contains xs n → n < count) → ((front : List ℕ) (last : ℕ) → xs ≡ front ++ last ∷ [] → Goes ways last to)
      → (n : ℕ) → Contains xs n → Leads ways count to n
  all_lead count to [] h within goes n has = absurd (not_in_none n has)
  all_lead count to (x ∷ []) h within goes n has = subst (λ (k : ℕ). Leads ways count to k) (sym (just_one x n has)) (straight x (goes [] x refl))
  all_lead count to (x ∷ y ∷ xs) h within goes n has =
      by has (λ k more. all_lead count to (y ∷ xs) h.1 (λ m i. within m (Contains-append_right (x ∷ []) (y ∷ xs) m i)) (λ front last e. goes (x ∷ front) last (ap (λ l. x ∷ l) e)) k more)
    where
      by : Contains (x ∷ y ∷ xs) n → ((k : ℕ) → Contains (y ∷ xs) k → Leads ways count to k) → Leads ways count to n
      by (zero, l, e) further_on = subst (λ (k : ℕ). Leads ways count to k) e (through x y h.0 (within y (1, omega arith, refl)) (further_on y (0, omega arith, refl)))
      by (suc k, l, e) further_on = further_on n (k, omega (arith, l), e)

linked_keeps : (ways more : List Way) → ((way : Way) → Contains ways way → Contains more way) → (xs : List ℕ) → Linked ways xs → Linked more xs
linked_keeps ways more keeps [] h = tt
linked_keeps ways more keeps (x ∷ []) h = tt
linked_keeps ways more keeps (x ∷ y ∷ xs) h = ((h.0.0, keeps h.0.0 h.0.1, h.0.2, h.0.3), linked_keeps ways more keeps (y ∷ xs) h.1)

pub leads_keeps : (ways more : List Way) (count later : ℕ) (to : Option ℕ) → ((way : Way) → Contains ways way → Contains more way) → count ≤ later → (n : ℕ) → Leads ways count to n → Leads more later to n
leads_keeps ways more count later to keeps l n (straight _ g) = straight n (g.0, keeps g.0 g.1, g.2, g.3)
leads_keeps ways more count later to keeps l n (through _ m g less on) = through n m (g.0, keeps g.0 g.1, g.2, g.3) (omega (arith, l, less)) (leads_keeps ways more count later to keeps l m on)

-- ---- a run

module _ (led_by : List (List Choice)) (made : List Choice) where
  -- states are left
  pub record Leaving (old new : Tracks) : Type 0 where
    pub ways : new.ways ≡ old.ways
    pub left : List ℕ
    pub front : old.passed ≡ new.passed ++ left
    pub others : (n : ℕ) → Contains left n → Passes led_by made n → ⊥

  pub leaving_starts : (old : Tracks) → Leaving old old
  leaving_starts old = record { ways = refl; left = []; front = sym (append-nil old.passed); others = λ n has. absurd (not_in_none n has) }

  -- the last one is left
  pub leaves_one : (old mid new : Tracks) (n : ℕ) → Leaving old mid → IsLastPassed led_by made mid.passed None → new.ways ≡ mid.ways → mid.passed ≡ new.passed ++ n ∷ [] → Leaving old new
  leaves_one old mid new n z none same last = record {
    ways = same ∙ z.ways;
    left = n ∷ z.left;
    front = z.front ∙ ap (λ l. l ++ z.left) last ∙ append_assoc new.passed (n ∷ []) z.left;
    others = λ k has. by k (Contains-append_cases (n ∷ []) z.left k has);
  }
    where
      by : (k : ℕ) → Contains (n ∷ []) k ⊎ Contains z.left k → Passes led_by made k → ⊥
      by k (inl has) p = none new.passed n last (subst (Passes led_by made) (just_one n k has) p)
      by k (inr has) p = z.others k has p

  -- none is left that is passed
  pub leaving_ends : (old new : Tracks) → Leaving old new → ((front : List ℕ) (n : ℕ) → new.passed ≡ front ++ n ∷ [] → Passes led_by made n) → LeavesOthers led_by made old new
  leaving_ends old new z last = record { ways = z.ways; left = z.left; front = z.front; others = z.others; last = last }

  pub last_is : (passed : List ℕ) (m : ℕ) → IsLastPassed led_by made passed (Some m) → (front : List ℕ) (n : ℕ) → passed ≡ front ++ n ∷ [] → Passes led_by made n
  last_is passed m ((front, e), p) other n f = subst (Passes led_by made) (same_last front other m n (sym e ∙ f)) p

  -- what the last one is
  some_last : (passed : List ℕ) (n : ℕ) → slice_get passed (length passed - 1) ≡ Some n → (front : List ℕ) × (passed ≡ front ++ n ∷ [])
  some_last passed n e = last_at passed (length passed - 1) n (let l = within passed (length passed - 1) n e in omega (arith, l)) e

  pub last_told : (passed : List ℕ) (n : ℕ) → slice_get passed (length passed - 1) ≡ Some n → Passes led_by made n → IsLastPassed led_by made passed (Some n)
  last_told passed n e p = (some_last passed n e, p)

  pub last_refused : (passed : List ℕ) (n : ℕ) → slice_get passed (length passed - 1) ≡ Some n → (Passes led_by made n → ⊥) → IsLastPassed led_by made passed None
  last_refused passed n e none = λ front m f p. let z = some_last passed n e in none (subst (Passes led_by made) (sym (same_last z.0 front n m (sym z.1 ∙ f))) p)

  pub no_last_told : (passed : List ℕ) → slice_get passed (length passed - 1) ≡ None → IsLastPassed led_by made passed None
  no_last_told passed e = λ front m f p. apart (ap (λ (l : List ℕ). slice_get l (length passed - 1)) f ∙ at_last front m (length passed - 1) (omega (arith, ap length f, length-append front (m ∷ []))))
    where
      apart : {m : ℕ} → slice_get passed (length passed - 1) ≡ Some m → ⊥
      apart f = cc (e, f)

  -- by what the test of the last one says
  pub ends_some : (old new : Tracks) (r : Option ℕ) → Leaving old new → IsLastPassed led_by made new.passed r → is_some r ≡ true → LeavesOthers led_by made old new
  ends_some old new None z h e = absurd (cc e)
  ends_some old new (Some m) z h e = leaving_ends old new z (last_is new.passed m h)

  pub leaves_none : (old mid new : Tracks) (r : Option ℕ) (n : ℕ) → Leaving old mid → IsLastPassed led_by made mid.passed r → is_some r ≡ false → new.ways ≡ mid.ways → mid.passed ≡ new.passed ++ n ∷ [] → Leaving old new
  leaves_none old mid new None n z h e same last = leaves_one old mid new n z h same last
  leaves_none old mid new (Some m) n z h e same last = absurd (cc e)

  pub ends_none : (old mid new : Tracks) → Leaving old mid → new.ways ≡ mid.ways → mid.passed ≡ new.passed → length mid.passed ≡ 0 → LeavesOthers led_by made old new
  ends_none old mid new z same e none =
      leaving_ends old new (record { ways = same ∙ z.ways; left = z.left; front = z.front ∙ ap (λ l. l ++ z.left) e; others = z.others })
      (λ front n f. absurd (omega (arith, none, ap length (e ∙ f), length-append front (n ∷ []))))

  -- the states up to this number are passed
  pub record Passing (first number : ℕ) (old new : Tracks) : Type 0 where
    pub keeps : (way : Way) → Contains old.ways way → Contains new.ways way
    pub linked : Linked old.ways old.passed → AreInOrder led_by made first old.passed → Linked new.ways new.passed
    pub passed : (n : ℕ) → Contains old.passed n ⊎ ((first ≤ n) × (n < number)) → Passes led_by made n → Contains new.passed n
    pub from : (n : ℕ) → Contains new.passed n → Contains old.passed n ⊎ ((first ≤ n) × (n < number))
    pub last : (front : List ℕ) (n : ℕ) → new.passed ≡ front ++ n ∷ [] → Passes led_by made n

  pub passing_starts : (first number : ℕ) (old new : Tracks) → number ≤ first → LeavesOthers led_by made old new → Passing first number old new
  passing_starts first number old new low z = record {
    keeps = λ way has. subst (λ (l : List Way). Contains l way) (sym z.ways) has;
    linked = λ l o. subst (λ (x : List Way). Linked x new.passed) (sym z.ways) (linked_front old.ways new.passed z.left (subst (Linked old.ways) z.front l));
    passed = λ n has p. passed n has p;
    from = λ n has. inl (subst (λ (l : List ℕ). Contains l n) (sym z.front) (Contains-append_left new.passed z.left n has));
    last = z.last;
  }
    where
      cases : (n : ℕ) → Contains new.passed n ⊎ Contains z.left n → Passes led_by made n → Contains new.passed n
      cases n (inl has) p = has
      cases n (inr has) p = absurd (z.others n has p)

      passed : (n : ℕ) → Contains old.passed n ⊎ ((first ≤ n) × (n < number)) → Passes led_by made n → Contains new.passed n
      passed n (inl has) p = cases n (Contains-append_cases new.passed z.left n (subst (λ (l : List ℕ). Contains l n) z.front has)) p
      passed n (inr (l, h)) p = absurd (omega (arith, l, h, low))

  module _ (first number : ℕ) (old mid new : Tracks) (low : first ≤ number) (z : Passing first number old mid) where
    one_on : (n : ℕ) → Contains old.passed n ⊎ ((first ≤ n) × (n < number)) → Contains old.passed n ⊎ ((first ≤ n) × (n < suc number))
    one_on n (inl h) = inl h
    one_on n (inr (l, h)) = inr (l, omega (arith, h))

    -- it is passed
    module _ (on : HasPassed led_by made number mid new) where
      begins : AreInOrder led_by made first old.passed → (front : List ℕ) (last : ℕ) → mid.passed ≡ front ++ last ∷ [] → Passes led_by on.passes.there last
      begins order front last e = by (z.last front last e) (z.from last (subst (λ (l : List ℕ). Contains l last) (sym e) (Contains-append_right front (last ∷ []) last (just last))))
        where
          go : (q : Passes led_by made last) → length q.there ≤ length on.passes.there → Passes led_by on.passes.there last
          go q l = let t = front_of_front q.there on.passes.there q.rest on.passes.rest (sym q.begins ∙ on.passes.begins) l in record { there = q.there; rest = t.0; led = q.led; begins = t.1 }

          by : Passes led_by made last → Contains old.passed last ⊎ ((first ≤ last) × (last < number)) → Passes led_by on.passes.there last
          by q (inl has) = go q (order.before last number q.there on.passes.there has q low q.led on.passes.led)
          by q (inr (l, h)) = go q (order.within last number q.there on.passes.there l h q.led on.passes.led)

      passes_it : Passing first (suc number) old new
      passes_it = record {
        keeps = λ way has. on.keeps way (z.keeps way has);
        linked = λ l o.
            subst (Linked new.ways) (sym on.passed)
            (linked_more new.ways mid.passed number (linked_keeps mid.ways new.ways on.keeps mid.passed (z.linked l o)) (λ front last e. on.linked front last on.passes.there e on.passes.led (begins o front last e)));
        passed = λ n has q. subst (λ (l : List ℕ). Contains l n) (sym on.passed) (passed n has q);
        from = λ n has. from n (Contains-append_cases mid.passed (number ∷ []) n (subst (λ (l : List ℕ). Contains l n) on.passed has));
        last = λ front n e. let same : number ≡ n = same_last mid.passed front number n (sym on.passed ∙ e) in subst (Passes led_by made) same on.passes;
      }
        where
          at : (n : ℕ) → Dec (n ≡ number) → first ≤ n → n < suc number → Passes led_by made n → Contains (mid.passed ++ number ∷ []) n
          at n (yes e) l h q = subst (λ (k : ℕ). Contains (mid.passed ++ number ∷ []) k) (sym e) (Contains-append_right mid.passed (number ∷ []) number (just number))
          at n (no f) l h q = Contains-append_left mid.passed (number ∷ []) n (z.passed n (inr (l, omega (arith, h, f))) q)

          passed : (n : ℕ) → Contains old.passed n ⊎ ((first ≤ n) × (n < suc number)) → Passes led_by made n → Contains (mid.passed ++ number ∷ []) n
          passed n (inl has) q = Contains-append_left mid.passed (number ∷ []) n (z.passed n (inl has) q)
          passed n (inr (l, h)) q = at n (ℕ_discrete n number) l h q

          from : (n : ℕ) → Contains mid.passed n ⊎ Contains (number ∷ []) n → Contains old.passed n ⊎ ((first ≤ n) × (n < suc number))
          from n (inl has) = one_on n (z.from n has)
          from n (inr has) = let e : n ≡ number = just_one number n has in inr (omega (arith, low, e), omega (arith, e))

    -- it isn't
    module _ (none : Passes led_by made number → ⊥) where
      stays_off : Passing first (suc number) old mid
      stays_off = record { keeps = z.keeps; linked = z.linked; passed = passed; from = λ n has. one_on n (z.from n has); last = z.last }
        where
          at : (n : ℕ) → Dec (n ≡ number) → first ≤ n → n < suc number → Passes led_by made n → Contains mid.passed n
          at n (yes e) l h q = absurd (none (subst (Passes led_by made) e q))
          at n (no f) l h q = z.passed n (inr (l, omega (arith, h, f))) q

          passed : (n : ℕ) → Contains old.passed n ⊎ ((first ≤ n) × (n < suc number)) → Passes led_by made n → Contains mid.passed n
          passed n (inl has) q = z.passed n (inl has) q
          passed n (inr (l, h)) q = at n (ℕ_discrete n number) l h q

    pub passing_on : PassesOn led_by made number mid new → Passing first (suc number) old new
    passing_on (inl on) = passes_it on
    passing_on (inr (none, same)) = subst (λ (t : Tracks). Passing first (suc number) old t) (sym same) (stays_off none)

  -- and its way to where it came is added
  pub passing_ends : (first : ℕ) (to : Option ℕ) (old mid new : Tracks) → Passing first (length led_by) old mid → ((way : Way) → Contains mid.ways way → Contains new.ways way) → new.passed ≡ mid.passed
      → ((front : List ℕ) (last : ℕ) → mid.passed ≡ front ++ last ∷ [] → Goes new.ways last to) → IsReady led_by made first old → IsWhole led_by made first to old new
  passing_ends first to old mid new z keeps same goes ready =
      let all : Linked new.ways mid.passed = linked_keeps mid.ways new.ways keeps mid.passed (z.linked ready.linked ready.order) in
      record {
        keeps = λ way has. keeps way (z.keeps way has);
        linked = subst (Linked new.ways) (sym same) all;
        within = λ n has. inside n (subst (λ (l : List ℕ). Contains l n) same has);
        passed = λ n has p. let is = z.passed n has p in (subst (λ (l : List ℕ). Contains l n) (sym same) is, all_lead new.ways (length led_by) to mid.passed all inside goes n is);
      }
    where
      inside : (n : ℕ) → Contains mid.passed n → n < length led_by
      inside n has = by (z.from n has)
        where
          by : Contains old.passed n ⊎ ((first ≤ n) × (n < length led_by)) → n < length led_by
          by (inl h) = ready.within n h
          by (inr (l, h)) = h

  -- ---- by what the code does

  -- the way to this state from the last one before it is added, and it is passed
  pub passes_linked : (number from : ℕ) (old : Tracks) (ways : List Way) (passed : List ℕ) (there : List Choice) → Passes led_by made number → slice_get led_by number ≡ Some there → IsLastPassed led_by there old.passed (Some from)
      → ways ≡ old.ways ++ record { from = from; to = Some number } ∷ [] → passed ≡ old.passed ++ number ∷ [] → HasPassed led_by made number old (record { ways = ways; passed = passed })
  passes_linked number from old ways passed there p at last grown more = record {
    passes = p;
    keeps = λ way has. subst (λ (l : List Way). Contains l way) (sym grown) (Contains-append_left old.ways (record { from = from; to = Some number } ∷ []) way has);
    passed = more;
    linked = λ front n t e led q. (
      record { from = from; to = Some number },
      subst (λ (l : List Way). Contains l (record { from = from; to = Some number })) (sym grown)
          (Contains-append_right old.ways (record { from = from; to = Some number } ∷ []) (record { from = from; to = Some number }) (just (record { from = from; to = Some number }))),
      same_last last.0.0 front from n (sym last.0.1 ∙ e),
      refl,
    );
  }

  -- none was passed on the way to it
  pub passes_alone : (number : ℕ) (old : Tracks) (ways : List Way) (passed : List ℕ) (there : List Choice) → Passes led_by made number → slice_get led_by number ≡ Some there → IsLastPassed led_by there old.passed None → ways ≡ old.ways
      → passed ≡ old.passed ++ number ∷ [] → HasPassed led_by made number old (record { ways = ways; passed = passed })
  passes_alone number old ways passed there p at none same more = record {
    passes = p;
    keeps = λ way has. subst (λ (l : List Way). Contains l way) (sym same) has;
    passed = more;
    linked = λ front n t e led q. let i : t ≡ there = cc (led, at) in absurd (none front n e (subst (λ (c : List Choice). Passes led_by c n) i q));
  }

  -- the way to where it came is added; or no state was passed
  pub ends_there : (first from : ℕ) (to : Option ℕ) (old mid : Tracks) (ways : List Way) (passed : List ℕ) → Passing first (length led_by) old mid → IsLastPassed led_by made mid.passed (Some from)
      → ways ≡ mid.ways ++ record { from = from; to = to } ∷ [] → passed ≡ mid.passed → IsReady led_by made first old → IsWhole led_by made first to old (record { ways = ways; passed = passed })
  ends_there first from to old mid ways passed z last grown same ready =
      passing_ends first to old mid (record { ways = ways; passed = passed }) z
      (λ way has. subst (λ (l : List Way). Contains l way) (sym grown) (Contains-append_left mid.ways (record { from = from; to = to } ∷ []) way has)) same
      (λ front n e. (
        record { from = from; to = to },
        subst (λ (l : List Way). Contains l (record { from = from; to = to })) (sym grown)
            (Contains-append_right mid.ways (record { from = from; to = to } ∷ []) (record { from = from; to = to }) (just (record { from = from; to = to }))),
        same_last last.0.0 front from n (sym last.0.1 ∙ e),
        refl,
      ))
      ready

  pub ends_nowhere : (first : ℕ) (to : Option ℕ) (old mid : Tracks) → Passing first (length led_by) old mid → IsLastPassed led_by made mid.passed None → IsReady led_by made first old → IsWhole led_by made first to old mid
  ends_nowhere first to old mid z none ready = passing_ends first to old mid mid z (λ way has. has) refl (λ front n e. absurd (none front n e (z.last front n e))) ready

-- what was written through a slice of a vector
pub taken_back : {X : Type 0} (n : ℕ) (new rest : List X) → length new ≡ n → take n (new ++ rest) ≡ new
taken_back zero [] rest e = refl
taken_back zero (x ∷ new) rest e = absurd (omega (arith, e))
taken_back (suc n) [] rest e = absurd (omega (arith, e))
taken_back (suc n) (x ∷ new) rest e = ap (λ l. x ∷ l) (taken_back n new rest (omega (arith, e)))
