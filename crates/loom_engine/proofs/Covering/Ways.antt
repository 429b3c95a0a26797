-- Where each state of a check has a way to an end, each run has one.
use Rattle.std.proofs.Common.{◌≡◌, ◌⊎◌, ℕ, Bool, false, List, [], ◌∷◌, ◌++◌, Option, Some, None, Ok, refl, ap, sym, ◌∙◌, subst, inl, inr, append_assoc, append-nil}
use Rattle.loom_objects.specs.declared.choice.Choice.{Choice}
use Rattle.loom_objects.specs.Tree.Question.{Made, Among}
use Rattle.loom_engine.specs.Walk.Path.{Stored, choices}
use Rattle.loom_engine.specs.Walk.Driven.{IsOneOf}
use Rattle.loom_engine.proofs.Walk.Lists.{snoc_append}
use Rattle.loom_views.specs.declared.rt.failure.FailureKind.{FailureKind}
use Rattle.loom_engine.specs.Covering.World.{World, IsCalled, Ends, IsStopped}
use Rattle.loom_engine.specs.Covering.Sound.{OffersSame, MeetsSame, Unless, IsSound}
use Rattle.loom_engine.specs.Covering.Covered.{Remembers}
use Rattle.loom_engine.specs.Covering.Ways.{HasEnded, HaveWays, IsWay, to_end, to_state, CanEndLaw, ComesToEnd, WaysLaw}
use Rattle.loom_engine.proofs.Covering.Covered.{Reached, stopped, at_node, at_end, all_on, at_start, called_front, came_well, goes_on, not_over, not_same, path_called, same_some, unstopped}

-- a list with one more element parts before it, or at it
parts : (c before after : List Choice) (o x : Choice) → c ++ o ∷ [] ≡ before ++ x ∷ after → ((rest : List Choice) × (c ≡ before ++ x ∷ rest)) ⊎ ((before ≡ c) × (x ≡ o))
parts [] [] after o x e = inr (refl, cc e)
parts [] (y ∷ []) after o x e = absurd (cc e)
parts [] (y ∷ z ∷ before) after o x e = absurd (cc e)
parts (y ∷ c) [] after o x e = let i : y ≡ x = cc e in inl (c, ap (λ z. z ∷ c) i)
parts (y ∷ c) (z ∷ before) after o x e = go (parts c before after o x (cc e))
  where
    same : y ≡ z
    same = cc e

    go : ((rest : List Choice) × (c ≡ before ++ x ∷ rest)) ⊎ ((before ≡ c) × (x ≡ o)) → ((rest : List Choice) × (y ∷ c ≡ z ∷ before ++ x ∷ rest)) ⊎ ((z ∷ before ≡ y ∷ c) × (x ≡ o))
    go (inl (rest, i)) = inl (rest, ap (λ l. y ∷ l) i ∙ ap (λ a. a ∷ before ++ x ∷ rest) same)
    go (inr (i, j)) = inr (ap (λ l. z ∷ l) i ∙ ap (λ a. a ∷ c) (sym same), j)

called_more : {A : Type 0} (v : World A) (c : List Choice) (o : Choice) (n : Made) → IsCalled v c → v.node c ≡ Some n → Among o n.options → (n.exploring ≡ false → o ≡ n.default) → IsCalled v (c ++ o ∷ [])
called_more v c o n called at am only before x after e = go (parts c before after o x e)
  where
    go : ((rest : List Choice) × (c ≡ before ++ x ∷ rest)) ⊎ ((before ≡ c) × (x ≡ o)) → (k : Made) × (v.node before ≡ Some k) × Among x k.options × (k.exploring ≡ false → x ≡ k.default)
    go (inl (rest, i)) = called before x rest i
    go (inr (i, j)) = (n, ap v.node i ∙ at, subst (λ y. Among y n.options) (sym j) am, λ f. j ∙ only f)

module _ {A K : Type 0} (limits : FailureKind → Bool) (w v : World A) (key other : List Choice → K) (left : List (List Stored)) (runs : List (List Choice × A)) (ends : Ends w) (ends_too : Ends v) (sound : IsSound limits w v key other) (r : Remembers w key left runs) where
  -- on the way a run of v has failed by a limit
  abbrev Stops : List Choice → List Choice → Type 0
  Stops c way = (front back : List Choice) × (way ≡ front ++ back) × IsStopped v limits (c ++ front)

  -- what comes after one choice more
  abbrev Further : List Choice → List Choice → List Stored → List Choice → List Choice → Choice → Type 0
  Further rest more q b c o = choices q ≡ ((b ++ o ∷ []) ++ rest) ++ more → IsCalled v (c ++ o ∷ []) → key (b ++ o ∷ []) ≡ other (c ++ o ∷ [])
      → Stops (c ++ o ∷ []) rest ⊎ (IsCalled v ((c ++ o ∷ []) ++ rest) × (key ((b ++ o ∷ []) ++ rest) ≡ other ((c ++ o ∷ []) ++ rest)))

  -- v meets there what a run has met
  same_node : (b c : List Choice) (m : Made) → w.node b ≡ Some m → MeetsSame (w.node b) (v.node c) → (n : Made) × (v.node c ≡ Some n) × OffersSame m n
  same_node b c m at h = go (v.node c) refl
    where
      go : (y : Option Made) → v.node c ≡ y → (n : Made) × (v.node c ≡ Some n) × OffersSame m n
      go None e = absurd (not_over (w.node b) (v.node c) m at e h)
      go (Some n) e = (n, e, same_some (w.node b) (v.node c) m n at e h)

  walks : (rest more : List Choice) (q : List Stored) (b c : List Choice) → IsOneOf q left → choices q ≡ (b ++ rest) ++ more → IsCalled v c → key b ≡ other c
      → Stops c rest ⊎ (IsCalled v (c ++ rest) × (key (b ++ rest) ≡ other (c ++ rest)))
  walks [] more q b c i h called k = inr (subst (IsCalled v) (sym (append-nil c)) called, ap key (append-nil b) ∙ k ∙ ap other (sym (append-nil c)))
  walks (o ∷ rest) more q b c i h called k = meets (sound.same b c called_here called k) (λ f a e. walks rest more q (b ++ o ∷ []) (c ++ o ∷ []) i f a e)
    where
      here : choices q ≡ b ++ o ∷ (rest ++ more)
      here = h ∙ append_assoc b (o ∷ rest) more

      asked : (m : Made) × (w.node b ≡ Some m) × Among o m.options × (m.exploring ≡ false → o ≡ m.default)
      asked = path_called limits w v key other left runs ends ends_too sound r q i b o (rest ++ more) here

      called_here : IsCalled w b
      called_here = called_front w b (o ∷ (rest ++ more)) (subst (IsCalled w) here (path_called limits w v key other left runs ends ends_too sound r q i))

      further : choices q ≡ (b ++ o ∷ []) ++ (rest ++ more)
      further = here ∙ sym (snoc_append b o (rest ++ more))

      parted : choices q ≡ ((b ++ o ∷ []) ++ rest) ++ more
      parted = further ∙ sym (append_assoc (b ++ o ∷ []) rest more)

      called_next : IsCalled w (b ++ o ∷ [])
      called_next = called_front w (b ++ o ∷ []) (rest ++ more) (subst (IsCalled w) further (path_called limits w v key other left runs ends ends_too sound r q i))

      moved : Stops (c ++ o ∷ []) rest ⊎ (IsCalled v ((c ++ o ∷ []) ++ rest) × (key ((b ++ o ∷ []) ++ rest) ≡ other ((c ++ o ∷ []) ++ rest)))
          → Stops c (o ∷ rest) ⊎ (IsCalled v (c ++ o ∷ rest) × (key (b ++ o ∷ rest) ≡ other (c ++ o ∷ rest)))
      moved (inl (front, back, e, s)) = inl (o ∷ front, back, ap (λ l. o ∷ l) e, subst (IsStopped v limits) (snoc_append c o front) s)
      moved (inr (a, e)) = inr (subst (IsCalled v) (snoc_append c o rest) a, ap key (sym (snoc_append b o rest)) ∙ e ∙ ap other (snoc_append c o rest))

      goes : IsCalled v (c ++ o ∷ []) → Unless limits w v (b ++ o ∷ []) (c ++ o ∷ []) (key (b ++ o ∷ []) ≡ other (c ++ o ∷ []))
          → (key (b ++ o ∷ []) ≡ other (c ++ o ∷ []) → Stops (c ++ o ∷ []) rest ⊎ (IsCalled v ((c ++ o ∷ []) ++ rest) × (key ((b ++ o ∷ []) ++ rest) ≡ other ((c ++ o ∷ []) ++ rest))))
          → Stops c (o ∷ rest) ⊎ (IsCalled v (c ++ o ∷ rest) × (key (b ++ o ∷ rest) ≡ other (c ++ o ∷ rest)))
      goes a (inl s) ih = absurd (unstopped limits w v key other left runs ends ends_too sound r q i (b ++ o ∷ []) (rest ++ more) further s)
      goes a (inr (inl s)) ih = inl (o ∷ [], rest, refl, s)
      goes a (inr (inr e)) ih = moved (ih e)

      from_node : (n : Made) × (v.node c ≡ Some n) × OffersSame asked.0 n → Further rest more q b c o → Stops c (o ∷ rest) ⊎ (IsCalled v (c ++ o ∷ rest) × (key (b ++ o ∷ rest) ≡ other (c ++ o ∷ rest)))
      from_node (n, at, same) ih = with_called (called_more v c o n called at (subst (λ os. Among o os) same.0 asked.2) (λ f. asked.3 (same.1 ∙ f) ∙ same.2 f))
        where
          with_called : IsCalled v (c ++ o ∷ []) → Stops c (o ∷ rest) ⊎ (IsCalled v (c ++ o ∷ rest) × (key (b ++ o ∷ rest) ≡ other (c ++ o ∷ rest)))
          with_called a = goes a (sound.next b c o called_next a k) (λ e. ih parted a e)

      meets : Unless limits w v b c (MeetsSame (w.node b) (v.node c) × (w.outcome b ≡ v.outcome c)) → Further rest more q b c o → Stops c (o ∷ rest) ⊎ (IsCalled v (c ++ o ∷ rest) × (key (b ++ o ∷ rest) ≡ other (c ++ o ∷ rest)))
      meets (inl s) ih = absurd (goes_on w limits ends b asked.0 asked.1 s)
      meets (inr (inl s)) ih = inl ([], o ∷ rest, refl, subst (IsStopped v limits) (sym (append-nil c)) s)
      meets (inr (inr h)) ih = from_node (same_node b c asked.0 asked.1 h.0) ih

  at_its_end : (q : List Stored) (b c way : List Choice) → IsOneOf q left → choices q ≡ b ++ way → HasEnded w key left runs q → Stops c way ⊎ (IsCalled v (c ++ way) × (key (b ++ way) ≡ other (c ++ way)))
      → ComesToEnd limits v c way
  at_its_end q b c way i h ended (inl s) = inl s
  at_its_end q b c way i h ended (inr (called, k)) = go (sound.same (choices q) (c ++ way) (path_called limits w v key other left runs ends ends_too sound r q i) called (ap key h ∙ k))
    where
      go : Unless limits w v (choices q) (c ++ way) (MeetsSame (w.node (choices q)) (v.node (c ++ way)) × (w.outcome (choices q) ≡ v.outcome (c ++ way))) → ComesToEnd limits v c way
      go (inl s) = absurd (came_well w limits (choices q) ended.value ended.came s)
      go (inr (inl s)) = inl (way, [], sym (append-nil way), s)
      go (inr (inr h)) = inr (called, ended.value, sym h.1 ∙ ended.came)

  joins : (c rest on way : List Choice) → way ≡ rest ++ on → ComesToEnd limits v (c ++ rest) on → ComesToEnd limits v c way
  joins c rest on way e (inl (front, back, i, s)) = inl (rest ++ front, back, e ∙ ap (λ l. rest ++ l) i ∙ sym (append_assoc rest front back), subst (IsStopped v limits) (append_assoc c rest front) s)
  joins c rest on way e (inr (called, value, ok)) =
      let same : (c ++ rest) ++ on ≡ c ++ way = append_assoc c rest on ∙ ap (λ l. c ++ l) (sym e) in
      inr (subst (IsCalled v) same called, value, ap v.outcome (sym same) ∙ ok)

  pub by_way : (k : K) (way : List Choice) → IsWay w key left runs k way → (c : List Choice) → IsCalled v c → k ≡ other c → ComesToEnd limits v c way
  by_way k way (to_end _ _ q b i h same ended) c called e = at_its_end q b c way i h ended (walks way [] q b c i (h ∙ sym (append-nil (b ++ way))) called (same ∙ e))
  by_way k way (to_state _ _ q b rest more on i h same further j) c called e =
      go (walks rest more q b c i h called (same ∙ e)) (λ a f. by_way (key (b ++ rest)) on further (c ++ rest) a f)
    where
      go : Stops c rest ⊎ (IsCalled v (c ++ rest) × (key (b ++ rest) ≡ other (c ++ rest))) → (IsCalled v (c ++ rest) → key (b ++ rest) ≡ other (c ++ rest) → ComesToEnd limits v (c ++ rest) on) → ComesToEnd limits v c way
      go (inl (front, back, i, s)) ih = inl (front, back ++ on, j ∙ ap (λ l. l ++ on) i ∙ append_assoc front back on, s)
      go (inr (a, f)) ih = joins c rest on way j (ih a f)

  ways : HaveWays w key left runs → (c : List Choice) (n : Made) → IsCalled v c → v.node c ≡ Some n → (way : List Choice) × IsWay w key left runs (other c) way × ComesToEnd limits v c way
  ways have c n called at = go (all_on limits w v key other left runs ends ends_too sound r c [] called (at_start limits w v key other left runs ends ends_too sound r))
    where
      found : (b : List Choice) → key b ≡ other c → (way : List Choice) × IsWay w key left runs (key b) way → (way : List Choice) × IsWay w key left runs (other c) way × ComesToEnd limits v c way
      found b k (way, is) = let here : IsWay w key left runs (other c) way = subst (λ x. IsWay w key left runs x way) k is in (way, here, by_way (other c) way here c called refl)

      at_over : (q : List Stored) → Unless limits w v (choices q) c (MeetsSame (w.node (choices q)) (v.node c) × (w.outcome (choices q) ≡ v.outcome c)) → (value : A) → w.node (choices q) ≡ None → w.outcome (choices q) ≡ Some (Ok value) → ⊥
      at_over q (inl s) value none ok = came_well w limits (choices q) value ok s
      at_over q (inr (inl s)) value none ok = goes_on v limits ends_too c n at s
      at_over q (inr (inr h)) value none ok = not_same (w.node (choices q)) (v.node c) n none at h.0

      go : Reached limits w v key other left runs ends ends_too sound r c → (way : List Choice) × IsWay w key left runs (other c) way × ComesToEnd limits v c way
      go (stopped s) = absurd (goes_on v limits ends_too c n at s)
      go (at_node q b m i here k) = found b k (have q b m i here)
      go (at_end q value i none ok given k) = absurd (at_over q (sound.same (choices q) c (path_called limits w v key other left runs ends ends_too sound r q i) called k) value none ok)

pub ways_law : {A K : Type 0} → WaysLaw A K
ways_law limits w v key other left runs ends ends_too sound r have c n called at = ways limits w v key other left runs ends ends_too sound r have c n called at

-- ---- in each world by the same way

-- after called choices runs of two worlds are in the same state, or one has failed by a limit
module _ {A K : Type 0} (limits : FailureKind → Bool) (w v : World A) (key other : List Choice → K) (ends : Ends w) (ends_too : Ends v) (sound : IsSound limits w v key other) where
  -- where a run has been called on, it hasn't failed
  called_on : (u : World A) → Ends u → (b : List Choice) (o : Choice) (rest : List Choice) → IsCalled u (b ++ o ∷ rest) → IsStopped u limits b → ⊥
  called_on u over b o rest called s = let a = called b o rest refl in goes_on u limits over b a.0 a.1 s

  in_step : (rest c : List Choice) → IsCalled w (c ++ rest) → IsCalled v (c ++ rest) → Unless limits w v c c (key c ≡ other c) → Unless limits w v (c ++ rest) (c ++ rest) (key (c ++ rest) ≡ other (c ++ rest))
  in_step [] c a b u = subst (λ (l : List Choice). Unless limits w v l l (key l ≡ other l)) (sym (append-nil c)) u
  in_step (o ∷ rest) c a b (inl s) = absurd (called_on w ends c o rest a s)
  in_step (o ∷ rest) c a b (inr (inl s)) = absurd (called_on v ends_too c o rest b s)
  in_step (o ∷ rest) c a b (inr (inr k)) =
      let next : (c ++ o ∷ []) ++ rest ≡ c ++ o ∷ rest = snoc_append c o rest in
      let one : IsCalled w ((c ++ o ∷ []) ++ rest) = subst (IsCalled w) (sym next) a in
      let two : IsCalled v ((c ++ o ∷ []) ++ rest) = subst (IsCalled v) (sym next) b in
      subst (λ (l : List Choice). Unless limits w v l l (key l ≡ other l)) next
      (in_step rest (c ++ o ∷ []) one two (sound.next c c o (called_front w (c ++ o ∷ []) rest one) (called_front v (c ++ o ∷ []) rest two) k))

  pub states_same : (c : List Choice) → IsCalled w c → IsCalled v c → Unless limits w v c c (key c ≡ other c)
  states_same c a b = in_step c [] a b sound.start

pub can_end_law : {A K : Type 0} → CanEndLaw A K
can_end_law {A} {K} limits w worlds key keys left runs over overs sound sounds r have m c n called at =
    let z = ways limits w (worlds m) key (keys m) left runs over (overs m) (sound m) r have c n called at in
    (z.0, λ k there. by k z.0 z.1 there (states_same limits (worlds m) (worlds k) (keys m) (keys k) (overs m) (overs k) (sounds m k) c called there))
  where
    by : (k : ℕ) (way : List Choice) → IsWay w key left runs (keys m c) way → IsCalled (worlds k) c → Unless limits (worlds m) (worlds k) c c (keys m c ≡ keys k c) → ComesToEnd limits (worlds k) c way
    by k way is there (inl s) = absurd (goes_on (worlds m) limits (overs m) c n at s)
    by k way is there (inr (inl s)) = inl ([], way, refl, subst (IsStopped (worlds k) limits) (sym (append-nil c)) s)
    by k way is there (inr (inr e)) = by_way limits w (worlds k) key (keys k) left runs over (overs k) (sound k) r (keys m c) way is c there e
