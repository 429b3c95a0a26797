-- Lists of choices that are kept as a tree: where they lead, how they begin, and that they stay as more come.
use Rattle.std.proofs.Common.{◌≡◌, ◌<◌, ◌≤◌, ◌+◌, ◌-◌, ◌⊎◌, ℕ, zero, suc, arith, Bool, true, false, List, [], ◌∷◌, ◌++◌, length, map, min, reverse, take, drop, slice_get, unwrap_or, Option, Some, Result, Ok, Err, OnErr, refl, ap, ap₂, sym, ◌∙◌, subst, inl, inr, append_assoc, append-nil, length-append, take_all, take_at}
use Rattle.std.proofs.lemmas.List.{length-map, map_push, nil_from_length, reverse-append, same_from_push, take_min}
use native.Mathlib.Decide.{ℕ_discrete}
use Rattle.loom_objects.specs.declared.choice.Choice.{Choice}
use Rattle.loom_engine.specs.declared.rt.states.trails.Last.{Last}
use Rattle.loom_engine.specs.declared.rt.states.trails.Lead.{Lead}
use Rattle.loom_engine.specs.declared.rt.states.trails.Step.{Step}
use Rattle.loom_engine.specs.Covering.Between.{Passes}
use Rattle.loom_engine.specs.Covering.Trails.{AreGrafted, AreMoved, AreSteps, AreTrails, BeginsWith, IsCut, IsLast, IsLead, IsOneOrNone, KeepsLists, choices_to, list_at, lists_of, moved, moved_lead, moved_leads, walked}
use Rattle.loom_engine.proofs.Covering.Between.{within}

-- ---- lists

module _ {X : Type 0} where
  front_got : (xs ys : List X) (k : ℕ) → k < length xs → slice_get (xs ++ ys) k ≡ slice_get xs k
  front_got [] ys k l = absurd (omega (arith, l))
  front_got (x ∷ xs) ys zero l = refl
  front_got (x ∷ xs) ys (suc k) l = front_got xs ys k (omega (arith, l))

  got_between : (xs ys : List X) (x : X) → slice_get (xs ++ x ∷ ys) (length xs) ≡ Some x
  got_between [] ys x = refl
  got_between (y ∷ xs) ys x = got_between xs ys x

  -- what a list with one more has at a place
  got_more : (xs : List X) (y : X) (k : ℕ) (x : X) → slice_get (xs ++ y ∷ []) k ≡ Some x → (slice_get xs k ≡ Some x) ⊎ ((k ≡ length xs) × (y ≡ x))
  got_more [] y zero x e = inr (refl, cc e)
  got_more [] y (suc k) x e = absurd (cc e)
  got_more (z ∷ xs) y zero x e = inl e
  got_more (z ∷ xs) y (suc k) x e = by (got_more xs y k x e)
    where
      by : (slice_get xs k ≡ Some x) ⊎ ((k ≡ length xs) × (y ≡ x)) → (slice_get xs k ≡ Some x) ⊎ ((suc k ≡ suc (length xs)) × (y ≡ x))
      by (inl h) = inl h
      by (inr (i, h)) = inr (ap suc i, h)

  -- two lists that begin with as many
  same_fronts : (xs ys us vs : List X) → length xs ≡ length ys → xs ++ us ≡ ys ++ vs → xs ≡ ys
  same_fronts [] [] us vs l e = refl
  same_fronts [] (y ∷ ys) us vs l e = absurd (omega (arith, l))
  same_fronts (x ∷ xs) [] us vs l e = absurd (omega (arith, l))
  same_fronts (x ∷ xs) (y ∷ ys) us vs l e =
      let first : x ≡ y = cc e in
      let more : xs ++ us ≡ ys ++ vs = cc e in
      ap (λ (z : X). z ∷ xs) first ∙ ap (λ (zs : List X). y ∷ zs) (same_fronts xs ys us vs (omega (arith, l)) more)

  drop_here : (xs : List X) (k : ℕ) (x : X) → slice_get xs k ≡ Some x → drop k xs ≡ x ∷ drop (suc k) xs
  drop_here [] k x e = absurd (cc e)
  drop_here (y ∷ xs) zero x e = let same : y ≡ x = cc e in ap (λ (z : X). z ∷ xs) same
  drop_here (y ∷ xs) (suc k) x e = drop_here xs k x e

  pub take_on : (xs : List X) (k : ℕ) (x : X) → slice_get xs k ≡ Some x → take (suc k) xs ≡ take k xs ++ x ∷ []
  take_on [] k x e = absurd (cc e)
  take_on (y ∷ xs) zero x e = let same : y ≡ x = cc e in ap (λ (z : X). z ∷ []) same
  take_on (y ∷ xs) (suc k) x e = ap (λ (zs : List X). y ∷ zs) (take_on xs k x e)

  got_map : {Y : Type 0} (f : X → Y) (xs : List X) (k : ℕ) (x : X) → slice_get xs k ≡ Some x → slice_get (map f xs) k ≡ Some (f x)
  got_map f [] k x e = absurd (cc e)
  got_map f (y ∷ xs) zero x e = let same : y ≡ x = cc e in ap (λ (z : X). Some (f z)) same
  got_map f (y ∷ xs) (suc k) x e = got_map f xs k x e

-- what holds besides holds where there is an error
pub on_err : {A E : Type 0} (r : Result A E) (P : Type 0) → P → OnErr r P
on_err (Ok x) P p = tt
on_err (Err e) P p = p

-- ---- what steps lead to

walked_more : (lists : List (List Choice)) (steps : List Step) (step : Step) → walked lists (steps ++ step ∷ []) ≡ walked lists steps ++ (list_at (walked lists steps) step.before ++ step.choice ∷ []) ∷ []
walked_more lists [] step = refl
walked_more lists (first ∷ steps) step = walked_more (lists ++ (list_at lists first.before ++ first.choice ∷ []) ∷ []) steps step

walked_length : (lists : List (List Choice)) (steps : List Step) → length (walked lists steps) ≡ length lists + length steps
walked_length lists [] = omega arith
walked_length lists (first ∷ steps) =
    let one = list_at lists first.before ++ first.choice ∷ [] in
    omega (arith, walked_length (lists ++ one ∷ []) steps, length-append lists (one ∷ []))

walked_keeps : (lists : List (List Choice)) (steps : List Step) (k : ℕ) → k < length lists → slice_get (walked lists steps) k ≡ slice_get lists k
walked_keeps lists [] k l = refl
walked_keeps lists (first ∷ steps) k l =
    let one = list_at lists first.before ++ first.choice ∷ [] in
    walked_keeps (lists ++ one ∷ []) steps k (omega (arith, l, length-append lists (one ∷ []))) ∙ front_got lists (one ∷ []) k l

choices_none : (steps : List Step) → choices_to steps 0 ≡ []
unfolding choices_to
choices_none steps = ap (λ (o : Option (List Choice)). unwrap_or o []) (walked_keeps ([] ∷ []) steps 0 (omega arith))

module _ (steps : List Step) (step : Step) where
  -- with one step more
  choices_stay : (n : ℕ) → n ≤ length steps → choices_to (steps ++ step ∷ []) n ≡ choices_to steps n
  unfolding choices_to
  choices_stay n l =
      let lists = walked ([] ∷ []) steps in
      let one = list_at lists step.before ++ step.choice ∷ [] in
      let low : n < length lists = omega (arith, l, walked_length ([] ∷ []) steps) in
      ap (λ (o : Option (List Choice)). unwrap_or o []) (ap (λ (all : List (List Choice)). slice_get all n) (walked_more ([] ∷ []) steps step) ∙ front_got lists (one ∷ []) n low)

  choices_new : choices_to (steps ++ step ∷ []) (suc (length steps)) ≡ choices_to steps step.before ++ step.choice ∷ []
  unfolding choices_to
  choices_new =
      let lists = walked ([] ∷ []) steps in
      let one = list_at lists step.before ++ step.choice ∷ [] in
      let size : suc (length steps) ≡ length lists = omega (arith, walked_length ([] ∷ []) steps) in
      ap (λ (o : Option (List Choice)). unwrap_or o [])
      (ap (λ (all : List (List Choice)). slice_get all (suc (length steps))) (walked_more ([] ∷ []) steps step) ∙ ap (λ (n : ℕ). slice_get (lists ++ one ∷ []) n) size ∙ got_between lists [] one)

  pub steps_more : AreSteps steps → step.before ≤ length steps → AreSteps (steps ++ step ∷ [])
  steps_more well low = record { each = λ n s e. by n s (got_more steps step n s e) }
    where
      by : (n : ℕ) (s : Step) → (slice_get steps n ≡ Some s) ⊎ ((n ≡ length steps) × (step ≡ s))
          → (s.before ≤ n) × (choices_to (steps ++ step ∷ []) (suc n) ≡ choices_to (steps ++ step ∷ []) s.before ++ s.choice ∷ [])
      by n s (inl e) =
          let z = well.each n s e in
          let inside : n < length steps = within steps n s e in
          let first : s.before ≤ n = z.0 in
          let stays : choices_to (steps ++ step ∷ []) s.before ≡ choices_to steps s.before = choices_stay s.before (omega (arith, inside, first)) in
          (first, choices_stay (suc n) (omega (arith, inside)) ∙ z.1 ∙ ap (λ (c : List Choice). c ++ s.choice ∷ []) (sym stays))
      by n s (inr (last, same)) =
          let here : (step.before ≤ n) × (choices_to (steps ++ step ∷ []) (suc n) ≡ choices_to (steps ++ step ∷ []) step.before ++ step.choice ∷ []) = (
            omega (arith, low, last),
            ap (λ (k : ℕ). choices_to (steps ++ step ∷ []) (suc k)) last ∙ choices_new ∙ ap (λ (c : List Choice). c ++ step.choice ∷ []) (sym (choices_stay step.before low)),
          ) in
          subst (λ (s : Step). (s.before ≤ n) × (choices_to (steps ++ step ∷ []) (suc n) ≡ choices_to (steps ++ step ∷ []) s.before ++ s.choice ∷ [])) same here

pub steps_none : AreSteps []
steps_none = record { each = λ n step e. absurd (cc e) }

pub trails_none : AreTrails [] []
trails_none = record { well = steps_none; each = λ n lead e. absurd (cc e) }

pub keeps_all : (steps : List Step) → KeepsLists steps steps
keeps_all steps = record { longer = omega arith; same = λ n l. refl }

keeps_more : (old new : List Step) (step : Step) → KeepsLists old new → KeepsLists old (new ++ step ∷ [])
keeps_more old new step z =
    let longer : length old ≤ length new = z.longer in
    record { longer = omega (arith, longer, length-append new (step ∷ [])); same = λ n l. choices_stay new step n (omega (arith, l, longer)) ∙ z.same n l }

lead_kept : (old new : List Step) (lead : Lead) → KeepsLists old new → IsLead old lead → IsLead new lead
lead_kept old new lead z is =
    let longer : length old ≤ length new = z.longer in
    let inside : lead.last ≤ length old = is.within in
    record { within = omega (arith, longer, inside); counted = ap length (z.same lead.last is.within) ∙ is.counted }

lead_none : (steps : List Step) → IsLead steps (record { last = 0; len = 0 })
lead_none steps = record { within = omega arith; counted = ap length (choices_none steps) }

module _ (steps : List Step) (leads : List Lead) (all : AreTrails steps leads) where
  pub lead_of : (lead : Lead) → IsOneOrNone leads lead → IsLead steps lead
  lead_of lead (inl (n, e)) = all.each n lead e
  lead_of lead (inr same) = subst (IsLead steps) (sym same) (lead_none steps)

  pub trails_kept : (new : List Step) → KeepsLists steps new → AreSteps new → AreTrails new leads
  trails_kept new z well = record { well = well; each = λ n lead e. lead_kept steps new lead z (all.each n lead e) }

  pub trails_more : (lead : Lead) → IsLead steps lead → AreTrails steps (leads ++ lead ∷ [])
  trails_more lead is = record { well = all.well; each = λ n one e. by n one (got_more leads lead n one e) }
    where
      by : (n : ℕ) (one : Lead) → (slice_get leads n ≡ Some one) ⊎ ((n ≡ length leads) × (lead ≡ one)) → IsLead steps one
      by n one (inl e) = all.each n one e
      by n one (inr (last, same)) = subst (IsLead steps) same is

lists_stay : (old new : List Step) (leads : List Lead) → KeepsLists old new → ((n : ℕ) (lead : Lead) → slice_get leads n ≡ Some lead → IsLead old lead) → lists_of new leads ≡ lists_of old leads
lists_stay old new [] z each = refl
lists_stay old new (lead ∷ leads) z each =
    ap₂ (λ (c : List Choice) (cs : List (List Choice)). c ∷ cs) (z.same lead.last (each 0 lead refl).within) (lists_stay old new leads z (λ n one e. each (suc n) one e))

pub lists_kept : (old new : List Step) (leads : List Lead) → AreTrails old leads → KeepsLists old new → lists_of new leads ≡ lists_of old leads
lists_kept old new leads all z = lists_stay old new leads z all.each

-- with one list more
pub lists_more : (old new : List Step) (leads : List Lead) (lead : Lead) (made : List Choice) → AreTrails old leads → KeepsLists old new → choices_to new lead.last ≡ made → lists_of new (leads ++ lead ∷ []) ≡ lists_of old leads ++ made ∷ []
lists_more old new leads lead made all z is =
    map_push (λ (one : Lead). choices_to new one.last) leads lead ∙ ap (λ (cs : List (List Choice)). cs ++ choices_to new lead.last ∷ []) (lists_kept old new leads all z) ∙ ap (λ (c : List Choice). lists_of old leads ++ c ∷ []) is

pub lists_length : (steps : List Step) (leads : List Lead) → length (lists_of steps leads) ≡ length leads
lists_length steps leads = length-map leads (λ (lead : Lead). choices_to steps lead.last)

pub list_got : (steps : List Step) (leads : List Lead) (n : ℕ) (lead : Lead) → slice_get leads n ≡ Some lead → slice_get (lists_of steps leads) n ≡ Some (choices_to steps lead.last)
list_got steps leads n lead e = got_map (λ (one : Lead). choices_to steps one.last) leads n lead e

-- ---- the last one of the choices, and those before it

some_last : (steps : List Step) (last : ℕ) → 0 < length (choices_to steps last) → 0 < last
some_last steps zero l = absurd (omega (arith, l, ap length (choices_none steps)))
some_last steps (suc n) l = omega arith

module _ (steps : List Step) (lead : Lead) (is : IsLead steps lead) (some : 0 < lead.len) where
  pub lead_some : 0 < lead.last
  lead_some = let size : length (choices_to steps lead.last) ≡ lead.len = is.counted in some_last steps lead.last (omega (arith, some, size))

  pub last_within : lead.last - 1 < length steps
  last_within = let inside : lead.last ≤ length steps = is.within in omega (arith, lead_some, inside)

step_before : (steps : List Step) (last : ℕ) (step : Step) → AreSteps steps → 0 < last → slice_get steps (last - 1) ≡ Some step → (step.before < last) × (choices_to steps last ≡ choices_to steps step.before ++ step.choice ∷ [])
step_before steps zero step well some e = absurd (omega (arith, some))
step_before steps (suc n) step well some e =
    let i : suc n - 1 ≡ n = omega arith in
    let z = well.each n step (subst (λ (k : ℕ). slice_get steps k ≡ Some step) i e) in
    let low : step.before ≤ n = z.0 in
    (omega (arith, low), z.1)

pub last_is : (steps : List Step) (lead : Lead) (step : Step) → AreSteps steps → IsLead steps lead → 0 < lead.len → slice_get steps (lead.last - 1) ≡ Some step
    → IsLast steps lead (record { choice = step.choice; before = record { last = step.before; len = lead.len - 1 } })
last_is steps lead step well is some e =
    let z = step_before steps lead.last step well (lead_some steps lead is some) e in
    let low : step.before < lead.last = z.0 in
    let inside : lead.last ≤ length steps = is.within in
    let size : length (choices_to steps lead.last) ≡ lead.len = is.counted in
    record {
      before = record { within = omega (arith, low, inside); counted = omega (arith, some, size, ap length z.1, length-append (choices_to steps step.before) (step.choice ∷ [])) };
      shorter = omega (arith, some);
      whole = z.1;
    }

-- ---- back from the last choice

-- No choices are left where a list of none leads.
ended : (steps : List Step) (lead : Lead) → IsLead steps lead → lead.len ≡ 0 → choices_to steps lead.last ≡ []
ended steps lead is none = nil_from_length (choices_to steps lead.last) (is.counted ∙ none)

-- the choices up to a step, behind those before its last one
one_back : (steps : List Step) (lead : Lead) (last : Last) (all mid : List Choice) → IsLast steps lead last → all ≡ choices_to steps lead.last ++ mid → all ≡ choices_to steps last.before.last ++ last.choice ∷ mid
one_back steps lead last all mid is e = e ∙ ap (λ (c : List Choice). c ++ mid) is.whole ∙ append_assoc (choices_to steps last.before.last) (last.choice ∷ []) mid

-- so far from the last choice back the choices are made too
pub record Walking (steps : List Step) (made : List Choice) (lead at : Lead) : Type 0 where
  pub well : IsLead steps at
  pub mid : List Choice
  pub whole : choices_to steps lead.last ≡ choices_to steps at.last ++ mid
  pub rest : List Choice
  pub left : drop at.len made ≡ mid ++ rest

module _ (steps : List Step) (made : List Choice) where
  pub walking_starts : (lead : Lead) → IsLead steps lead → Walking steps made lead lead
  walking_starts lead is = record { well = is; mid = []; whole = sym (append-nil (choices_to steps lead.last)); rest = drop lead.len made; left = refl }

  module _ (lead at : Lead) (last : Last) (z : Walking steps made lead at) (is : IsLast steps at last) where
    pub walking_on : slice_get made last.before.len ≡ Some last.choice → Walking steps made lead last.before
    walking_on there = record {
      well = is.before;
      mid = last.choice ∷ z.mid;
      whole = one_back steps at last (choices_to steps lead.last) z.mid is z.whole;
      rest = z.rest;
      left = drop_here made last.before.len last.choice there ∙ ap (λ (n : ℕ). last.choice ∷ drop n made) is.shorter ∙ ap (λ (c : List Choice). last.choice ∷ c) z.left;
    }

    pub walking_refused : (slice_get made last.before.len ≡ Some last.choice → ⊥) → BeginsWith steps lead.last made → ⊥
    walking_refused none (rest, begins) =
        let c = choices_to steps last.before.last in
        let back = one_back steps at last (choices_to steps lead.last) z.mid is z.whole in
        let whole = begins ∙ ap (λ (l : List Choice). l ++ rest) back ∙ append_assoc c (last.choice ∷ z.mid) rest in
        none (ap (λ (n : ℕ). slice_get made n) (sym is.before.counted) ∙ ap (λ (l : List Choice). slice_get l (length c)) whole ∙ got_between c (z.mid ++ rest) last.choice)

  pub walking_ends : (lead at : Lead) → Walking steps made lead at → at.len ≡ 0 → BeginsWith steps lead.last made
  walking_ends lead at z none =
      let same : choices_to steps lead.last ≡ z.mid = z.whole ∙ ap (λ (c : List Choice). c ++ z.mid) (ended steps at z.well none) in
      let all : drop 0 made ≡ drop at.len made = ap (λ (n : ℕ). drop n made) (sym none) in
      (z.rest, all ∙ z.left ∙ ap (λ (c : List Choice). c ++ z.rest) (sym same))

  -- so far back those that were found are made too
  pub record Sharing (at found : Lead) : Type 0 where
    pub kept : IsLead steps found
    pub walking : Walking steps made found at

  pub sharing_starts : (lead : Lead) → IsLead steps lead → Sharing lead lead
  sharing_starts lead is = record { kept = is; walking = walking_starts lead is }

  pub sharing_on : (at found next : Lead) (last : Last) (stays : Bool) → Sharing at found → IsLast steps at last → (stays ≡ true → slice_get made last.before.len ≡ Some last.choice) → (stays ≡ true → next ≡ found) → (stays ≡ false → next ≡ last.before)
      → Sharing last.before next
  sharing_on at found next last true z is there same other = subst (Sharing last.before) (sym (same refl)) (record { kept = z.kept; walking = walking_on found at last z.walking is (there refl) })
  sharing_on at found next last false z is there same other = subst (Sharing last.before) (sym (other refl)) (sharing_starts last.before is.before)

-- so many are still to be left out
pub record Cutting (steps : List Step) (lead : Lead) (len : ℕ) (at : Lead) : Type 0 where
  pub well : IsLead steps at
  pub long : len ≤ at.len
  pub rest : List Choice
  pub whole : choices_to steps lead.last ≡ choices_to steps at.last ++ rest

module _ (steps : List Step) (lead : Lead) (len : ℕ) where
  pub cutting_starts : IsLead steps lead → len ≤ lead.len → Cutting steps lead len lead
  cutting_starts is long = record { well = is; long = long; rest = []; whole = sym (append-nil (choices_to steps lead.last)) }

  pub cutting_on : (at : Lead) (last : Last) → Cutting steps lead len at → IsLast steps at last → len < at.len → Cutting steps lead len last.before
  cutting_on at last z is more =
      let shorter : suc last.before.len ≡ at.len = is.shorter in
      record { well = is.before; long = omega (arith, more, shorter); rest = last.choice ∷ z.rest; whole = one_back steps at last (choices_to steps lead.last) z.rest is z.whole }

  pub cutting_ends : (at : Lead) → Cutting steps lead len at → at.len ≤ len → IsCut steps lead len at
  cutting_ends at z short = let long : len ≤ at.len = z.long in record { is_lead = z.well; counted = omega (arith, short, long); rest = z.rest; whole = z.whole }

-- so far back both lists have the same choices
pub record Comparing (steps : List Step) (one other at beside : Lead) : Type 0 where
  pub well : IsLead steps at
  pub too : IsLead steps beside
  pub same : at.len ≡ beside.len
  pub mid : List Choice
  pub whole : choices_to steps one.last ≡ choices_to steps at.last ++ mid
  pub whole_too : choices_to steps other.last ≡ choices_to steps beside.last ++ mid

module _ (steps : List Step) (one other : Lead) where
  pub comparing_starts : IsLead steps one → IsLead steps other → one.len ≡ other.len → Comparing steps one other one other
  comparing_starts is too same = record { well = is; too = too; same = same; mid = []; whole = sym (append-nil (choices_to steps one.last)); whole_too = sym (append-nil (choices_to steps other.last)) }

  module _ (at beside : Lead) (z : Comparing steps one other at beside) where
    pub comparing_meets : at.last ≡ beside.last → choices_to steps one.last ≡ choices_to steps other.last
    comparing_meets e = z.whole ∙ ap (λ (n : ℕ). choices_to steps n ++ z.mid) e ∙ sym z.whole_too

    pub comparing_ends : at.len ≡ 0 → choices_to steps one.last ≡ choices_to steps other.last
    comparing_ends none = z.whole ∙ ap (λ (c : List Choice). c ++ z.mid) (ended steps at z.well none ∙ sym (ended steps beside z.too (sym z.same ∙ none))) ∙ sym z.whole_too

    module _ (last other_last : Last) (is : IsLast steps at last) (it : IsLast steps beside other_last) where
      pub comparing_on : last.choice ≡ other_last.choice → Comparing steps one other last.before other_last.before
      comparing_on e =
          let same : at.len ≡ beside.len = z.same in
          let shorter : suc last.before.len ≡ at.len = is.shorter in
          let other_shorter : suc other_last.before.len ≡ beside.len = it.shorter in
          record {
            well = is.before;
            too = it.before;
            same = omega (arith, same, shorter, other_shorter);
            mid = last.choice ∷ z.mid;
            whole = one_back steps at last (choices_to steps one.last) z.mid is z.whole;
            whole_too = one_back steps beside other_last (choices_to steps other.last) z.mid it z.whole_too ∙ ap (λ (x : Choice). choices_to steps other_last.before.last ++ x ∷ z.mid) (sym e);
          }

      pub comparing_refused : (last.choice ≡ other_last.choice → ⊥) → choices_to steps one.last ≡ choices_to steps other.last → ⊥
      comparing_refused none e =
          let as_long = z.well.counted ∙ z.same ∙ sym z.too.counted in
          let fronts = same_fronts (choices_to steps at.last) (choices_to steps beside.last) z.mid z.mid as_long (sym z.whole ∙ e ∙ z.whole_too) in
          let both = same_from_push (choices_to steps last.before.last) (choices_to steps other_last.before.last) last.choice other_last.choice (sym is.whole ∙ fronts ∙ it.whole) in
          none both.1

-- the choices behind are listed, the last one first
pub record Gathering (steps : List Step) (lead at : Lead) (list : List Choice) : Type 0 where
  pub well : IsLead steps at
  pub whole : choices_to steps lead.last ≡ choices_to steps at.last ++ reverse list

module _ (steps : List Step) (lead : Lead) where
  pub gathering_starts : (list : List Choice) → IsLead steps lead → list ≡ [] → Gathering steps lead lead list
  gathering_starts list is none = record { well = is; whole = sym (append-nil (choices_to steps lead.last)) ∙ ap (λ (l : List Choice). choices_to steps lead.last ++ reverse l) (sym none) }

  pub gathering_on : (at : Lead) (last : Last) (list more : List Choice) → Gathering steps lead at list → IsLast steps at last → more ≡ list ++ last.choice ∷ [] → Gathering steps lead last.before more
  gathering_on at last list more z is e = record {
    well = is.before;
    whole = one_back steps at last (choices_to steps lead.last) (reverse list) is z.whole ∙ ap (λ (l : List Choice). choices_to steps last.before.last ++ l) (sym (reverse-append list (last.choice ∷ []))) ∙ ap (λ (l : List Choice). choices_to steps last.before.last ++ reverse l) (sym e);
  }

  pub gathering_ends : (at : Lead) (list : List Choice) → Gathering steps lead at list → at.len ≡ 0 → reverse list ≡ choices_to steps lead.last
  gathering_ends at list z none = sym (z.whole ∙ ap (λ (c : List Choice). c ++ reverse list) (ended steps at z.well none))

-- ---- how lists begin

module _ (steps : List Step) (one other : Lead) (is : IsLead steps one) where
  -- a shorter list begins with no longer one
  pub front_refused : IsLead steps other → other.len < one.len → BeginsWith steps one.last (choices_to steps other.last) → ⊥
  front_refused too less (rest, e) =
      let size : length (choices_to steps one.last) ≡ one.len = is.counted in
      let other_size : length (choices_to steps other.last) ≡ other.len = too.counted in
      omega (arith, less, size, other_size, ap length e, length-append (choices_to steps one.last) rest)

  module _ (cut : Lead) (z : IsCut steps other one.len cut) where
    pub front_begins : choices_to steps one.last ≡ choices_to steps cut.last → BeginsWith steps one.last (choices_to steps other.last)
    front_begins e = (z.rest, z.whole ∙ ap (λ (c : List Choice). c ++ z.rest) (sym e))

    pub front_same : BeginsWith steps one.last (choices_to steps other.last) → choices_to steps one.last ≡ choices_to steps cut.last
    front_same (rest, e) = same_fronts (choices_to steps one.last) (choices_to steps cut.last) rest z.rest (is.counted ∙ sym z.counted ∙ sym z.is_lead.counted) (sym e ∙ z.whole)

module _ (steps : List Step) (leads : List Lead) (lists : List (List Choice)) (are : lists_of steps leads ≡ lists) (number : ℕ) (lead : Lead) (at : slice_get leads number ≡ Some lead) where
  -- the list of this number
  pub list_there : slice_get lists number ≡ Some (choices_to steps lead.last)
  list_there = ap (λ (l : List (List Choice)). slice_get l number) (sym are) ∙ list_got steps leads number lead at

  pub passes_so : (made : List Choice) → BeginsWith steps lead.last made → Passes lists made number
  passes_so made (rest, e) = record { there = choices_to steps lead.last; rest = rest; led = list_there; begins = e }

  pub begins_so : (made : List Choice) → Passes lists made number → BeginsWith steps lead.last made
  begins_so made p = let same : p.there ≡ choices_to steps lead.last = cc (p.led, list_there) in (p.rest, p.begins ∙ ap (λ (c : List Choice). c ++ p.rest) same)

-- none is passed that isn't there
pub none_passed : (steps : List Step) (leads : List Lead) (lists : List (List Choice)) (made : List Choice) (number : ℕ) → lists_of steps leads ≡ lists → length leads ≤ number → Passes lists made number → ⊥
none_passed steps leads lists made number are high p =
    let size = ap length (sym are) ∙ lists_length steps leads in
    let low : number < length lists = within lists number p.there p.led in
    omega (arith, high, size, low)

-- ---- steps that are added

-- so many of the choices have steps
pub record Going (old new : List Step) (made : List Choice) (place last : ℕ) : Type 0 where
  pub well : AreSteps new
  pub keeps : KeepsLists old new
  pub inside : last ≤ length new
  pub here : choices_to new last ≡ take place made

module _ (old : List Step) (made : List Choice) where
  pub from_within : (from : Lead) → IsLead old from → BeginsWith old from.last made → from.len ≤ length made
  from_within from is (rest, e) =
      let size : length (choices_to old from.last) ≡ from.len = is.counted in
      omega (arith, size, ap length e, length-append (choices_to old from.last) rest)

  pub going_starts : (from : Lead) → AreSteps old → IsLead old from → BeginsWith old from.last made → Going old old made from.len from.last
  going_starts from well is (rest, e) = record {
    well = well;
    keeps = keeps_all old;
    inside = is.within;
    here = sym (ap (λ (l : List Choice). take from.len l) e ∙ take_at (choices_to old from.last) rest from.len is.counted);
  }

  pub going_on : (new more : List Step) (place next : ℕ) (step : Step) → Going old new made place step.before → slice_get made place ≡ Some step.choice → more ≡ new ++ step ∷ [] → next ≡ length more → Going old more made (suc place) next
  going_on new more place next step z there grown is =
      let long = length-append new (step ∷ []) in
      let size : next ≡ suc (length new) = let whole = is ∙ ap length grown in omega (arith, whole, long) in
      subst (λ (l : List Step). Going old l made (suc place) next) (sym grown) (record {
        well = steps_more new step z.well z.inside;
        keeps = keeps_more old new step z.keeps;
        inside = omega (arith, size, long);
        here = ap (choices_to (new ++ step ∷ [])) size ∙ choices_new new step ∙ ap (λ (c : List Choice). c ++ step.choice ∷ []) z.here ∙ sym (take_on made place step.choice there);
      })

  module _ (new : List Step) (place last : ℕ) (z : Going old new made place last) (all : place ≡ length made) where
    pub going_ends : choices_to new last ≡ made
    going_ends = let long : length made ≤ place = omega (arith, all) in z.here ∙ take_all place made long

    pub going_leads : IsLead new (record { last = last; len = length made })
    going_leads = record { within = z.inside; counted = ap length going_ends }

-- ---- steps behind others

moved_low : (offset n count : ℕ) → n ≤ count → moved offset n ≤ offset + count
moved_low offset zero count l = omega arith
moved_low offset (suc n) count l = omega (arith, l)

pub moved_on : (offset n : ℕ) → 0 < n → moved offset n ≡ n + offset
moved_on offset zero l = absurd (omega (arith, l))
moved_on offset (suc n) l = refl

-- so many of the other steps are there
pub record Grafting (old other : List Step) (number : ℕ) (new : List Step) : Type 0 where
  pub well : AreSteps new
  pub keeps : KeepsLists old new
  pub size : length new ≡ length old + number
  pub same : (n : ℕ) → n ≤ number → choices_to new (moved (length old) n) ≡ choices_to other n

module _ (old other : List Step) where
  pub grafting_starts : AreSteps old → Grafting old other 0 old
  grafting_starts well = record { well = well; keeps = keeps_all old; size = omega arith; same = first }
    where
      first : (n : ℕ) → n ≤ 0 → choices_to old (moved (length old) n) ≡ choices_to other n
      first zero l = choices_none old ∙ sym (choices_none other)
      first (suc n) l = absurd (omega (arith, l))

  pub grafting_on : (number : ℕ) (new more : List Step) (step added : Step) → Grafting old other number new → AreSteps other → slice_get other number ≡ Some step → added.before ≡ moved (length old) step.before → added.choice ≡ step.choice → more ≡ new ++ added ∷ []
      → Grafting old other (suc number) more
  grafting_on number new more step added z others there before choice grown = subst (Grafting old other (suc number)) (sym grown) (record {
    well = steps_more new added z.well (omega (arith, low, size));
    keeps = keeps_more old new added z.keeps;
    size = (let longer = length-append new (added ∷ []) in omega (arith, size, longer));
    same = λ n l. by n l (ℕ_discrete n (suc number));
  })
    where
      size : length new ≡ length old + number
      size = z.size

      behind : step.before ≤ number
      behind = (others.each number step there).0

      low : added.before ≤ length old + number
      low = subst (λ (n : ℕ). n ≤ length old + number) (sym before) (moved_low (length old) step.before number behind)

      here : choices_to (new ++ added ∷ []) (moved (length old) (suc number)) ≡ choices_to other (suc number)
      here =
          let last : moved (length old) (suc number) ≡ suc (length new) = omega (arith, size) in
          ap (choices_to (new ++ added ∷ [])) last
          ∙ choices_new new added
          ∙ ap (λ (n : ℕ). choices_to new n ++ added.choice ∷ []) before
          ∙ ap (λ (x : Choice). choices_to new (moved (length old) step.before) ++ x ∷ []) choice
          ∙ ap (λ (c : List Choice). c ++ step.choice ∷ []) (z.same step.before behind)
          ∙ sym (others.each number step there).1

      by : (n : ℕ) → n ≤ suc number → Dec (n ≡ suc number) → choices_to (new ++ added ∷ []) (moved (length old) n) ≡ choices_to other n
      by n l (yes e) = subst (λ (k : ℕ). choices_to (new ++ added ∷ []) (moved (length old) k) ≡ choices_to other k) (sym e) here
      by n l (no f) =
          let below : n ≤ number = omega (arith, l, f) in
          let inside : moved (length old) n ≤ length old + number = moved_low (length old) n number below in
          choices_stay new added (moved (length old) n) (omega (arith, inside, size)) ∙ z.same n below

  pub grafting_ends : (number : ℕ) (new : List Step) → Grafting old other number new → number ≡ length other → AreGrafted old other new
  grafting_ends number new z all = record { size = z.size ∙ ap (λ (n : ℕ). length old + n) all; same = λ n l. z.same n (omega (arith, l, all)) }

  module _ (new : List Step) (z : AreGrafted old other new) where
    moved_there : (lead : Lead) → IsLead other lead → IsLead new (moved_lead (length old) lead)
    moved_there lead is =
        let size : length new ≡ length old + length other = z.size in
        let inside : moved (length old) lead.last ≤ length old + length other = moved_low (length old) lead.last (length other) is.within in
        record { within = omega (arith, size, inside); counted = ap length (z.same lead.last is.within) ∙ is.counted }

    pub moved_all : (leads : List Lead) → AreTrails other leads → AreMoved new (length old) leads
    moved_all leads all n lead e = moved_there lead (all.each n lead e)

    moved_same : (leads : List Lead) → ((n : ℕ) (lead : Lead) → slice_get leads n ≡ Some lead → IsLead other lead) → lists_of new (moved_leads (length old) leads) ≡ lists_of other leads
    moved_same [] each = refl
    moved_same (lead ∷ leads) each =
        ap₂ (λ (c : List Choice) (cs : List (List Choice)). c ∷ cs) (z.same lead.last (each 0 lead refl).within) (moved_same leads (λ n one e. each (suc n) one e))

    pub lists_appended : (leads others added : List Lead) (count : ℕ) → AreTrails old leads → AreTrails other others → KeepsLists old new → lists_of new added ≡ lists_of new leads ++ take count (lists_of new (moved_leads (length old) others))
        → lists_of new added ≡ lists_of old leads ++ take count (lists_of other others)
    lists_appended leads others added count all them keeps is =
        is ∙ ap (λ (cs : List (List Choice)). cs ++ take count (lists_of new (moved_leads (length old) others))) (lists_kept old new leads all keeps)
        ∙ ap (λ (cs : List (List Choice)). lists_of old leads ++ take count cs) (moved_same others them.each)

-- so many of the other lists are there
pub record Putting (steps : List Step) (old other : List Lead) (offset number : ℕ) (leads : List Lead) : Type 0 where
  pub well : AreTrails steps leads
  pub lists : lists_of steps leads ≡ lists_of steps old ++ take number (lists_of steps (moved_leads offset other))

module _ (steps : List Step) (old other : List Lead) (offset : ℕ) where
  pub putting_starts : AreTrails steps old → Putting steps old other offset 0 old
  putting_starts well = record { well = well; lists = sym (append-nil (lists_of steps old)) }

  pub putting_on : (number : ℕ) (leads more : List Lead) (lead added : Lead) → Putting steps old other offset number leads → AreMoved steps offset other → slice_get other number ≡ Some lead → added ≡ moved_lead offset lead → more ≡ leads ++ added ∷ []
      → Putting steps old other offset (suc number) more
  putting_on number leads more lead added z are there is grown = subst (Putting steps old other offset (suc number)) (sym (grown ∙ ap (λ (l : Lead). leads ++ l ∷ []) is)) (record {
    well = trails_more steps leads z.well (moved_lead offset lead) (are number lead there);
    lists = map_push (λ (one : Lead). choices_to steps one.last) leads (moved_lead offset lead)
        ∙ ap (λ (cs : List (List Choice)). cs ++ choices_to steps (moved offset lead.last) ∷ []) z.lists
        ∙ append_assoc (lists_of steps old) (take number (lists_of steps (moved_leads offset other))) (choices_to steps (moved offset lead.last) ∷ [])
        ∙ ap (λ (cs : List (List Choice)). lists_of steps old ++ cs) (sym (take_on (lists_of steps (moved_leads offset other)) number (choices_to steps (moved offset lead.last)) next));
  })
    where
      next : slice_get (lists_of steps (moved_leads offset other)) number ≡ Some (choices_to steps (moved offset lead.last))
      next = list_got steps (moved_leads offset other) number (moved_lead offset lead) (got_map (moved_lead offset) other number lead there)

  pub putting_ends : (number count : ℕ) (leads : List Lead) → Putting steps old other offset number leads → number ≡ min count (length other)
      → lists_of steps leads ≡ lists_of steps old ++ take count (lists_of steps (moved_leads offset other))
  putting_ends number count leads z all =
      let lists = lists_of steps (moved_leads offset other) in
      let size : length lists ≡ length other = lists_length steps (moved_leads offset other) ∙ length-map other (moved_lead offset) in
      z.lists ∙ ap (λ (n : ℕ). lists_of steps old ++ take n lists) (all ∙ ap (min count) (sym size)) ∙ ap (λ (cs : List (List Choice)). lists_of steps old ++ cs) (take_min count lists)
