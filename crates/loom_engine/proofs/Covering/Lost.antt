-- Where each run that passes a lost state comes to a lost state, no run that goes on from one ends.
use Rattle.std.proofs.Common.{◌≡◌, Bool, false, List, [], ◌∷◌, ◌++◌, Some, Ok, refl, ap, sym, ◌∙◌, subst, inl, inr, append_assoc, append-nil}
use Rattle.loom_objects.specs.declared.choice.Choice.{Choice}
use Rattle.loom_objects.specs.Tree.Question.{Made, Among}
use Rattle.loom_engine.specs.Walk.Path.{Stored, choices, node_at}
use Rattle.loom_engine.specs.Walk.Driven.{IsOneOf}
use Rattle.loom_engine.specs.Walk.Lists.{Begins}
use Rattle.loom_engine.proofs.Walk.Lists.{chooses_node, snoc_append}
use Rattle.loom_views.specs.declared.rt.failure.FailureKind.{FailureKind}
use Rattle.loom_engine.specs.Covering.World.{World, IsCalled, Ends, IsStopped}
use Rattle.loom_engine.specs.Covering.Sound.{OffersSame, MeetsSame, Unless, IsSound}
use Rattle.loom_engine.specs.Covering.Covered.{Remembers}
use Rattle.loom_engine.specs.Covering.UnderWay.{HasNode}
use Rattle.loom_engine.proofs.Covering.Covered.{Tries, called_front, came_well, goes_on, node_called, not_over, path_called, same_some, tried, unstopped}
use Rattle.loom_engine.proofs.Covering.Ways.{states_same}

-- There is a node of these runs after choices that are lost, and each run that passes it ends in the state after other such choices.
pub record AreLost {K : Type 0} (key : List Choice → K) (left : List (List Stored)) (IsLost : List Choice → Type 0) : Type 0 where
  pub nodes : (c : List Choice) → IsLost c → (q : List Stored) × IsOneOf q left × HasNode q c
  pub met : (q : List Stored) (c : List Choice) → IsOneOf q left → IsLost c → Begins c (choices q) → (d : List Choice) × IsLost d × (key (choices q) ≡ key d)

module _ {A K : Type 0} (limits : FailureKind → Bool) (w v : World A) (key other : List Choice → K) (left : List (List Stored)) (runs : List (List Choice × A)) (ends : Ends w) (ends_too : Ends v) (sound : IsSound limits w v key other) (r : Remembers w key left runs)
    (IsLost : List Choice → Type 0) (lost : AreLost key left IsLost) where
  -- After the choices e a run of v has failed by a limit; or some run that was made passes a lost state, and later a node in the state that
  -- v is in.
  data Astray (e : List Choice) : Type 0 where
    stopped : IsStopped v limits e → Astray e
    at_node : (q : List Stored) (c b : List Choice) (n : Stored) → IsOneOf q left → IsLost c → Begins c b → node_at q b ≡ Some n → key b ≡ other e → Astray e

  begins_more : (c b : List Choice) (o : Choice) → Begins c b → Begins c (b ++ o ∷ [])
  begins_more c b o (rest, e) = (rest ++ o ∷ [], ap (λ (l : List Choice). l ++ o ∷ []) e ∙ append_assoc c rest (o ∷ []))

  begins_itself : (c : List Choice) → Begins c c
  begins_itself c = ([], sym (append-nil c))

  -- a run that was made goes on, or was given up in another lost state
  goes_astray : (x : List Stored) (c d rest : List Choice) → IsOneOf x left → IsLost c → Begins c d → choices x ≡ d ++ rest → (e : List Choice) → key d ≡ other e → Astray e
  goes_astray x c d [] i is begins h e same =
      let at : choices x ≡ d = h ∙ append-nil d in
      let z = lost.met x c i is (subst (Begins c) (sym at) begins) in
      let n = lost.nodes z.0 z.1 in
      at_node n.0 z.0 z.0 n.2.node n.1 z.1 (begins_itself z.0) n.2.at (sym z.2 ∙ ap key at ∙ same)
  goes_astray x c d (a ∷ rest) i is begins h e same = let z = chooses_node x d a rest h in at_node x c d z.0 i is begins z.1 same

  one_on : (e : List Choice) (o : Choice) (n : Made) → IsCalled v (e ++ o ∷ []) → v.node e ≡ Some n → Among o n.options → (n.exploring ≡ false → o ≡ n.default) → Astray e → Astray (e ++ o ∷ [])
  unfolding Tries
  one_on e o n called at am only (stopped s) = absurd (goes_on v limits ends_too e n at s)
  one_on e o n called at am only (at_node q c b k i is begins here same_key) =
      go (sound.same b e (node_called limits w v key other left runs ends ends_too sound r q i b k here) (called_front v e (o ∷ []) called) same_key)
    where
      next : (x : List Stored) × IsOneOf x left × Begins (b ++ o ∷ []) (choices x) → Astray (e ++ o ∷ [])
      next (x, j, more) = on (sound.next b e o (called_front w (b ++ o ∷ []) more.0 (subst (IsCalled w) more.1 (path_called limits w v key other left runs ends ends_too sound r x j))) called same_key)
        where
          on : Unless limits w v (b ++ o ∷ []) (e ++ o ∷ []) (key (b ++ o ∷ []) ≡ other (e ++ o ∷ [])) → Astray (e ++ o ∷ [])
          on (inl s) = absurd (unstopped limits w v key other left runs ends ends_too sound r x j (b ++ o ∷ []) more.0 more.1 s)
          on (inr (inl s)) = stopped s
          on (inr (inr h)) = goes_astray x c (b ++ o ∷ []) more.0 j is (begins_more c b o begins) more.1 (e ++ o ∷ []) h

      go : Unless limits w v b e (MeetsSame (w.node b) (v.node e) × (w.outcome b ≡ v.outcome e)) → Astray (e ++ o ∷ [])
      go (inl s) = absurd (goes_on w limits ends b k.made (r.meets q i b k here) s)
      go (inr (inl s)) = absurd (goes_on v limits ends_too e n at s)
      go (inr (inr h)) =
          let same : OffersSame k.made n = same_some (w.node b) (v.node e) k.made n (r.meets q i b k here) at h.0 in
          next (tried limits w v key other left runs ends ends_too sound r q i b k o here (subst (λ os. Among o os) (sym same.0) am) (λ f. let g : n.exploring ≡ false = sym same.1 ∙ f in only g ∙ sym (same.2 g)))

  all_astray : (more e : List Choice) → IsCalled v (e ++ more) → Astray e → Astray (e ++ more)
  all_astray [] e h d = subst Astray (sym (append-nil e)) d
  all_astray (o ∷ more) e h d =
      let a = h e o more refl in
      let next : (e ++ o ∷ []) ++ more ≡ e ++ o ∷ more = snoc_append e o more in
      let called : IsCalled v ((e ++ o ∷ []) ++ more) = subst (IsCalled v) (sym next) h in
      subst Astray next (all_astray more (e ++ o ∷ []) called (one_on e o a.0 (called_front v (e ++ o ∷ []) more called) a.1 a.2 a.3 d))

  begins_astray : (c : List Choice) → IsLost c → IsCalled v c → Astray c
  begins_astray c is called = by (lost.nodes c is)
    where
      by : (q : List Stored) × IsOneOf q left × HasNode q c → Astray c
      by (q, i, has) = go (states_same limits w v key other ends ends_too sound c (node_called limits w v key other left runs ends ends_too sound r q i c has.node has.at) called)
        where
          go : Unless limits w v c c (key c ≡ other c) → Astray c
          go (inl s) = absurd (goes_on w limits ends c has.node.made (r.meets q i c has.node has.at) s)
          go (inr (inl s)) = stopped s
          go (inr (inr h)) = at_node q c c has.node i is (begins_itself c) has.at h

  pub never_ends : (c more : List Choice) (value : A) → IsLost c → IsCalled v (c ++ more) → v.outcome (c ++ more) ≡ Some (Ok value) → ⊥
  never_ends c more value is called came = by (all_astray more c called (begins_astray c is (called_front v c more called)))
    where
      by : Astray (c ++ more) → ⊥
      by (stopped s) = came_well v limits (c ++ more) value came s
      by (at_node q d b n i lost_too begins at same_key) = go (sound.same b (c ++ more) (node_called limits w v key other left runs ends ends_too sound r q i b n at) called same_key)
        where
          go : Unless limits w v b (c ++ more) (MeetsSame (w.node b) (v.node (c ++ more)) × (w.outcome b ≡ v.outcome (c ++ more))) → ⊥
          go (inl s) = goes_on w limits ends b n.made (r.meets q i b n at) s
          go (inr (inl s)) = came_well v limits (c ++ more) value came s
          go (inr (inr h)) = not_over (w.node b) (v.node (c ++ more)) n.made (r.meets q i b n at) (ends_too (c ++ more) (Ok value) came) h.0
