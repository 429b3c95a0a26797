-- Runs that try each option, and end or meet a state that was noted, cover each run.
use Rattle.std.proofs.Common.{◌≡◌, ◌⊎◌, Bool, true, false, List, [], ◌∷◌, ◌++◌, Option, Some, None, Result, Ok, Err, refl, ap, sym, ◌∙◌, subst, inl, inr, append_assoc, append-nil}
use Rattle.loom_objects.specs.declared.choice.Choice.{Choice}
use Rattle.loom_objects.specs.Tree.Question.{Made, Among}
use Rattle.loom_engine.specs.Walk.Path.{Status, Closed, Skip, Pending, Active, Visited, Stored, choices, node_at, IsAtRest}
use Rattle.loom_engine.specs.Walk.Lists.{Begins}
use Rattle.loom_engine.specs.Walk.Driven.{Driven, last_run, one_run, IsOneOf, ToBeTried}
use Rattle.loom_engine.proofs.Walk.Lists.{node_chooses, chooses_node, snoc_append}
use Rattle.loom_engine.proofs.Walk.Driven.{driven_law}
use Rattle.loom_views.specs.declared.rt.failure.FailureKind.{FailureKind}
use Rattle.loom_engine.specs.Covering.World.{World, IsCalled, Ends, IsStopped, IsLimit}
use Rattle.loom_engine.specs.Covering.Sound.{OffersSame, MeetsSame, Unless, IsSound}
use Rattle.loom_engine.specs.Covering.Covered.{AreTried, IsGiven, IsEnd, ended, met, Remembers, Covers}

-- ---- paths that runs left

left_rests : (p : List Stored) (left : List (List Stored)) → Driven p left → (q : List Stored) → IsOneOf q left → (before : List Choice) (n : Stored) → node_at q before ≡ Some n → IsAtRest n
left_rests p left (last_run _ k l h) q (inl i) before n e = l.rest before n (ap (λ y. node_at y before) (sym i) ∙ e)
left_rests p left (last_run _ k l h) q (inr i) before n e = elim i [ ]
left_rests p left (one_run _ k later rest l h d) q (inl i) before n e = l.rest before n (ap (λ y. node_at y before) (sym i) ∙ e)
left_rests p left (one_run _ k later rest l h d) q (inr i) before n e = left_rests later rest d q i before n e

some_left : (p : List Stored) (left : List (List Stored)) → Driven p left → (q : List Stored) × IsOneOf q left
some_left p left (last_run _ q l h) = (q, inl refl)
some_left p left (one_run _ q later rest l h d) = (q, inl refl)

-- rounds one after another have tried what is to be tried
pub driven_tries : (left : List (List Stored)) → Driven [] left → AreTried left
driven_tries left d = record { some = some_left [] left d; rests = left_rests [] left d; tried = driven_law left d }

unfoldable pub Tries : List (List Stored) → List Choice → Choice → Type 0
Tries left before o = (x : List Stored) × IsOneOf x left × Begins (before ++ o ∷ []) (choices x)

-- ---- nodes that are the same

pub same_some : (x y : Option Made) (m n : Made) → x ≡ Some m → y ≡ Some n → MeetsSame x y → OffersSame m n
same_some None y m n e f h = absurd (cc e)
same_some (Some k) None m n e f h = absurd h
same_some (Some k) (Some l) m n e f h = let p : k ≡ m = cc e in let q : l ≡ n = cc f in subst (λ z. OffersSame m z) q (subst (λ z. OffersSame z l) p h)

pub not_same : (x y : Option Made) (n : Made) → x ≡ None → y ≡ Some n → MeetsSame x y → ⊥
not_same None None n e f h = cc f
not_same None (Some l) n e f h = h
not_same (Some k) y n e f h = cc e

pub not_over : (x y : Option Made) (m : Made) → x ≡ Some m → y ≡ None → MeetsSame x y → ⊥
not_over None y m e f h = cc e
not_over (Some k) None m e f h = h
not_over (Some k) (Some l) m e f h = cc f

module _ {A : Type 0} (w : World A) where
  pub called_front : (c e : List Choice) → IsCalled w (c ++ e) → IsCalled w c
  called_front c e h before o after g = h before o (after ++ e) (ap (λ t. t ++ e) g ∙ append_assoc before (o ∷ after) e)

  -- where a run meets a node, it hasn't failed
  pub goes_on : (limits : FailureKind → Bool) → Ends w → (c : List Choice) (n : Made) → w.node c ≡ Some n → IsStopped w limits c → ⊥
  goes_on limits ends c n e s = cc (ends c (Err s.0) s.1, e)

  pub came_well : (limits : FailureKind → Bool) (c : List Choice) (value : A) → w.outcome c ≡ Some (Ok value) → IsStopped w limits c → ⊥
  came_well limits c value e s = cc (s.1, e)

  stops_limit : (limits : FailureKind → Bool) (c : List Choice) (r : Result A FailureKind) → w.outcome c ≡ Some r → IsStopped w limits c → IsLimit limits r
  stops_limit limits c r e s = let f : Err s.0 ≡ r = cc (s.1, e) in subst (IsLimit limits) f s.2

module _ {A K : Type 0} (limits : FailureKind → Bool) (w v : World A) (key other : List Choice → K) (left : List (List Stored)) (runs : List (List Choice × A)) (ends : Ends w) (ends_too : Ends v) (sound : IsSound limits w v key other) (r : Remembers w key left runs) where
  -- what a run chose was called for
  pub path_called : (q : List Stored) → IsOneOf q left → IsCalled w (choices q)
  path_called q i before o after g =
      let z = chooses_node q before o after g in
      let rest = r.driven.rests q i before z.0 z.1 in
      (z.0.made, r.meets q i before z.0 z.1, subst (λ u. Among u z.0.made.options) z.2 (rest.closed z.0.present (λ e. cc (rest.active, e))), λ f. sym z.2 ∙ (rest.fixed f).0)

  pub node_called : (q : List Stored) → IsOneOf q left → (b : List Choice) (n : Stored) → node_at q b ≡ Some n → IsCalled w b
  node_called q i b n at = let a = node_chooses q b n at in called_front w b (n.present ∷ a.0) (subst (IsCalled w) a.1 (path_called q i))

  -- what may be chosen at a node that a run passed, some run chooses there
  pub tried : (q : List Stored) → IsOneOf q left → (b : List Choice) (k : Stored) (o : Choice) → node_at q b ≡ Some k → Among o k.made.options
      → (k.made.exploring ≡ false → o ≡ k.made.default) → Tries left b o
  unfolding Tries
  tried q i b k o at am only = go k.made.exploring refl
    where
      rest : IsAtRest k
      rest = r.driven.rests q i b k at

      to_be_tried : k.made.exploring ≡ true → (s : Status) → k.status o ≡ s → ToBeTried (k.status o)
      to_be_tried e Closed h = absurd (rest.opened o am h)
      to_be_tried e Skip h = absurd (r.tries q i b k o at e h)
      to_be_tried e Pending h = inl h
      to_be_tried e Active h = inr (inl h)
      to_be_tried e Visited h = inr (inr h)

      go : (x : Bool) → k.made.exploring ≡ x → (x : List Stored) × IsOneOf x left × Begins (b ++ o ∷ []) (choices x)
      go true e = r.driven.tried q i b k o at e (to_be_tried e (k.status o) refl)
      go false e =
          let a = node_chooses q b k at in
          let chosen : k.present ≡ o = (rest.fixed e).0 ∙ sym (only e) in
          (q, i, (a.0, a.1 ∙ ap (λ u. b ++ u ∷ a.0) chosen ∙ sym (snoc_append b o a.0)))

  -- no run that was made has failed by a limit
  pub unstopped : (x : List Stored) → IsOneOf x left → (d e : List Choice) → choices x ≡ d ++ e → IsStopped w limits d → ⊥
  unstopped x i d [] h s = at_the_end (r.ends x i)
    where
      here : IsStopped w limits (choices x)
      here = subst (IsStopped w limits) (sym (h ∙ append-nil d)) s

      at_the_end : IsEnd w key left runs x → ⊥
      at_the_end (ended value none came given) = came_well w limits (choices x) value came here
      at_the_end (met n at y b k j g same_key) = goes_on w limits ends (choices x) n at here
  unstopped x i d (a ∷ e) h s = let z = chooses_node x d a e h in goes_on w limits ends d z.0.made (r.meets x i d z.0 z.1) s

  -- After the choices c a run of v has failed by a limit; or some run that was made passes a node in the same state, or was over in
  -- the same state, and the visitor was given it.
  pub data Reached (c : List Choice) : Type 0 where
    stopped : IsStopped v limits c → Reached c
    at_node : (q : List Stored) (b : List Choice) (n : Stored) → IsOneOf q left → node_at q b ≡ Some n → key b ≡ other c → Reached c
    at_end : (q : List Stored) (value : A) → IsOneOf q left → w.node (choices q) ≡ None → w.outcome (choices q) ≡ Some (Ok value) → IsGiven (choices q) value runs
        → key (choices q) ≡ other c → Reached c

  begins_reached : (x : List Stored) → IsOneOf x left → (d e : List Choice) → choices x ≡ d ++ e → (c : List Choice) → key d ≡ other c → Reached c
  begins_reached x i d [] h c same_key = end_reached (r.ends x i)
    where
      at : choices x ≡ d
      at = h ∙ append-nil d

      end_reached : IsEnd w key left runs x → Reached c
      end_reached (ended value none came given) = at_end x value i none came given (ap key at ∙ same_key)
      end_reached (met n there y b k j node noted) = at_node y b k j node (noted ∙ ap key at ∙ same_key)
  begins_reached x i d (a ∷ e) h c same_key = let z = chooses_node x d a e h in at_node x d z.0 i z.1 same_key

  -- one choice more
  one_on : (c : List Choice) (o : Choice) (n : Made) → IsCalled v (c ++ o ∷ []) → v.node c ≡ Some n → Among o n.options → (n.exploring ≡ false → o ≡ n.default) → Reached c → Reached (c ++ o ∷ [])
  unfolding Tries
  one_on c o n called e am only (stopped s) = absurd (goes_on v limits ends_too c n e s)
  one_on c o n called e am only (at_end q value i none came given same_key) =
      absurd (go (sound.same (choices q) c (path_called q i) (called_front v c (o ∷ []) called) same_key))
    where
      go : Unless limits w v (choices q) c (MeetsSame (w.node (choices q)) (v.node c) × (w.outcome (choices q) ≡ v.outcome c)) → ⊥
      go (inl s) = came_well w limits (choices q) value came s
      go (inr (inl s)) = goes_on v limits ends_too c n e s
      go (inr (inr h)) = not_same (w.node (choices q)) (v.node c) n none e h.0
  one_on c o n called e am only (at_node q b k i at same_key) = go (sound.same b c (node_called q i b k at) (called_front v c (o ∷ []) called) same_key)
    where
      next : (x : List Stored) × IsOneOf x left × Begins (b ++ o ∷ []) (choices x) → Reached (c ++ o ∷ [])
      next (x, j, begins) = on (sound.next b c o (called_front w (b ++ o ∷ []) begins.0 (subst (IsCalled w) begins.1 (path_called x j))) called same_key)
        where
          on : Unless limits w v (b ++ o ∷ []) (c ++ o ∷ []) (key (b ++ o ∷ []) ≡ other (c ++ o ∷ [])) → Reached (c ++ o ∷ [])
          on (inl s) = absurd (unstopped x j (b ++ o ∷ []) begins.0 begins.1 s)
          on (inr (inl s)) = stopped s
          on (inr (inr h)) = begins_reached x j (b ++ o ∷ []) begins.0 begins.1 (c ++ o ∷ []) h

      go : Unless limits w v b c (MeetsSame (w.node b) (v.node c) × (w.outcome b ≡ v.outcome c)) → Reached (c ++ o ∷ [])
      go (inl s) = absurd (goes_on w limits ends b k.made (r.meets q i b k at) s)
      go (inr (inl s)) = absurd (goes_on v limits ends_too c n e s)
      go (inr (inr h)) =
          let same : OffersSame k.made n = same_some (w.node b) (v.node c) k.made n (r.meets q i b k at) e h.0 in
          next (tried q i b k o at (subst (λ os. Among o os) (sym same.0) am) (λ f. let g : n.exploring ≡ false = sym same.1 ∙ f in only g ∙ sym (same.2 g)))

  pub all_on : (more c : List Choice) → IsCalled v (c ++ more) → Reached c → Reached (c ++ more)
  all_on [] c h d = subst Reached (sym (append-nil c)) d
  all_on (o ∷ more) c h d =
      let a = h c o more refl in
      let next : (c ++ o ∷ []) ++ more ≡ c ++ o ∷ more = snoc_append c o more in
      let called : IsCalled v ((c ++ o ∷ []) ++ more) = subst (IsCalled v) (sym next) h in
      subst Reached next (all_on more (c ++ o ∷ []) called (one_on c o a.0 (called_front v (c ++ o ∷ []) more called) a.1 a.2 a.3 d))

  pub at_start : Reached []
  at_start = go r.driven.some sound.start
    where
      go : (q : List Stored) × IsOneOf q left → Unless limits w v [] [] (key [] ≡ other []) → Reached []
      go (q, i) (inl s) = absurd (unstopped q i [] (choices q) refl s)
      go (q, i) (inr (inl s)) = stopped s
      go (q, i) (inr (inr h)) = begins_reached q i [] (choices q) refl [] h

  covers : Covers limits w v runs
  covers c x called came = go (all_on c [] called at_start)
    where
      go : Reached c → IsLimit limits x ⊎ ((made : List Choice) × (value : A) × IsGiven made value runs × (w.outcome made ≡ Some (Ok value)) × (x ≡ Ok value))
      go (stopped s) = inl (stops_limit v limits c x came s)
      go (at_node q b k i at same_key) = by (sound.same b c (node_called q i b k at) called same_key)
        where
          by : Unless limits w v b c (MeetsSame (w.node b) (v.node c) × (w.outcome b ≡ v.outcome c)) → IsLimit limits x ⊎ ((made : List Choice) × (value : A) × IsGiven made value runs × (w.outcome made ≡ Some (Ok value)) × (x ≡ Ok value))
          by (inl s) = absurd (goes_on w limits ends b k.made (r.meets q i b k at) s)
          by (inr (inl s)) = inl (stops_limit v limits c x came s)
          by (inr (inr h)) = absurd (not_over (w.node b) (v.node c) k.made (r.meets q i b k at) (ends_too c x came) h.0)
      go (at_end q value i none ok given same_key) = by (sound.same (choices q) c (path_called q i) called same_key)
        where
          by : Unless limits w v (choices q) c (MeetsSame (w.node (choices q)) (v.node c) × (w.outcome (choices q) ≡ v.outcome c)) → IsLimit limits x ⊎ ((made : List Choice) × (value : A) × IsGiven made value runs × (w.outcome made ≡ Some (Ok value)) × (x ≡ Ok value))
          by (inl s) = absurd (came_well w limits (choices q) value ok s)
          by (inr (inl s)) = inl (stops_limit v limits c x came s)
          by (inr (inr h)) = inr (choices q, value, given, ok, cc (ok, h.1, came))

-- With sound keys the runs of such a search cover each run, and none fails but by a limit. The search is of w, and covers w itself,
-- and each v whose runs have the same states: so it may be of few operations, and cover runs of many.
abbrev pub CoverLaw : Type 0 → Type 0 → Type 0
CoverLaw A K = (limits : FailureKind → Bool) (w v : World A) (key other : List Choice → K) (left : List (List Stored)) (runs : List (List Choice × A)) → Ends w → Ends v
    → IsSound limits w v key other → Remembers w key left runs → Covers limits w v runs

pub cover_law : {A K : Type 0} → CoverLaw A K
cover_law limits w v key other left runs ends ends_too sound r = covers limits w v key other left runs ends ends_too sound r
