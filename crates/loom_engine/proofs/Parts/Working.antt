-- A run of a part.
use Rattle.std.proofs.Common.{◌≡◌, ◌⊎◌, true, ◌&&◌, List, [], ◌∷◌, ◌++◌, length, Some, None, refl, ap, sym, ◌∙◌, subst, inl, inr, append_assoc}
use Rattle.loom_objects.specs.declared.choice.Choice.{Choice}
use Rattle.loom_engine.specs.Walk.Machine.{Machine, run}
use Rattle.loom_engine.specs.Walk.Sound.{IsMachine}
use Rattle.loom_engine.specs.Walk.Runs.{Alternative, Reachable, by_alternative}
use Rattle.loom_engine.specs.Walk.Path.{Pending, Stored, node_at, IsResting, mark, after_run, next, by_path}
use Rattle.loom_engine.specs.Walk.Walks.{run_of}
use Rattle.loom_engine.specs.Walk.Lists.{Member, IsOnce}
use Rattle.loom_engine.proofs.Walk.Statuses.{kept_pending, nothing_pending}
use Rattle.loom_engine.proofs.Walk.After.{IsAfter, after_run_is}
use Rattle.loom_engine.proofs.Walk.Resting.{after_resting}
use Rattle.loom_engine.proofs.Walk.Stepping.{Steps, step_some, step_none}
use Rattle.loom_engine.proofs.Walk.Together.{TwoBeginnings, within, past, two_beginnings}
use Rattle.loom_engine.specs.Parts.Cuts.{Part, IsIn, AreNotes, IsBelow}
use Rattle.loom_engine.proofs.Parts.Lists.{bases, in_base}
use Rattle.loom_engine.proofs.Parts.Holds.{Done, is_made, is_path, Known, is_done, is_open, is_noted, Keeps, IsNote, Holds, one_base, none_past}
use Rattle.loom_engine.proofs.Parts.Rounds.{run_on, run_in, calls_after}
use Rattle.loom_engine.proofs.Parts.Nexts.{pending_next, keeps_next}

module _ (m : Machine) (w : IsMachine m) (made : List (List Choice)) (b : List Choice) (p : List Stored) (parts : List Part) (issued notes more : List (List Choice))
    (h : Holds m made (record { base = b; path = p } ∷ parts) issued notes) (list : AreNotes m b (run_of m p) issued notes more) where
  here : Keeps m made issued (Done m made (record { base = b; path = p } ∷ parts)) b p
  here = h.kept (record { base = b; path = p }) (inl refl)

  a : IsAfter m p (after_run m p) (run_of m p)
  a = after_run_is m w p

  rest : IsResting m (after_run m p)
  rest = after_resting m w p (after_run m p) (run_of m p) here.part.resting a

  begins : (e : List Choice) × (run_of m p ≡ b ++ e)
  begins = run_in m w made issued (Done m made (record { base = b; path = p } ∷ parts)) b p here (after_run m p) (run_of m p) a rest

  reached : Reachable m (run_of m p)
  reached = here.rest (run_of m p) by_path

  -- the run isn't one of another part
  clash : (x : Part) → IsIn x parts → (f : List Choice) → run_of m p ≡ x.base ++ f → ⊥
  clash x i f g =
      let same_base : b ≡ x.base = one_base m made issued (Done m made (record { base = b; path = p } ∷ parts)) b x.base p x.path here (h.kept x (inr i)) begins.0 f (sym begins.1 ∙ g) in
      h.bases_once.0 (subst (λ t. Member t (bases parts)) (sym same_base) (in_base x parts i))

  other_keeps : (D : List Choice → Type 0) → ((x : List Choice) → Done m made (record { base = b; path = p } ∷ parts) x → D x) → (x : Part) → IsIn x parts
      → Keeps m (run_of m p ∷ made) issued D x.base x.path
  other_keeps D old x i = record {
    part = k.part;
    fixed = k.fixed;
    frontier = k.frontier;
    tried = λ before n g f j y l c e t. elim l [
      | inl u ↦ absurd (clash x i (f ++ c ∷ e) (sym u ∙ t ∙ ap (λ z. z ++ c ∷ e) j ∙ append_assoc x.base f (c ∷ e)))
      | inr u ↦ k.tried before n g f j y u c e t
    ];
    new = λ y l e t. elim l [
      | inl u ↦ let z = k.part.begins in absurd (clash x i (z.0 ++ e) (sym u ∙ t ∙ ap (λ z. z ++ e) z.1 ∙ append_assoc x.base z.0 e))
      | inr u ↦ k.new y u e t
    ];
    had = λ before n g f j o t. old (run m (before ++ o ∷ [])) (k.had before n g f j o t);
    skipped = k.skipped;
    rest = k.rest;
  }
    where
      k : Keeps m made issued (Done m made (record { base = b; path = p } ∷ parts)) x.base x.path
      k = h.kept x (inr i)

  old_done : (later : List Part) → ((x : Part) → IsIn x parts → IsIn x later) → (x : List Choice) → Done m made (record { base = b; path = p } ∷ parts) x → Done m (run_of m p ∷ made) later x
  old_done later stay x (is_made j) = is_made (inr j)
  old_done later stay x (is_path y (inl e) f) = is_made (inl (f ∙ ap (λ (z : Part). run_of m z.path) e))
  old_done later stay x (is_path y (inr i) f) = is_path y (stay y i) f

  done_reached : (x : List Choice) → Done m made (record { base = b; path = p } ∷ parts) x → Reachable m x
  done_reached x (is_made j) = h.sound x j
  done_reached x (is_path y i f) = subst (Reachable m) (sym f) ((h.kept y i).rest (run_of m y.path) by_path)

  holds_round : (later : List Part) → ((x : Part) → IsIn x parts → IsIn x later)
      → ((x : Part) → IsIn x later → Keeps m (run_of m p ∷ made) issued (Done m (run_of m p ∷ made) later) x.base x.path)
      → IsOnce (bases later)
      → ((before : List Choice) (x : Stored) (o : Choice) → node_at (after_run m p) before ≡ Some x → x.made.exploring ≡ true → x.status o ≡ Pending
      → Known m (run_of m p ∷ made) later more (run m (before ++ o ∷ [])))
      → Holds m (run_of m p ∷ made) later issued more
  holds_round later stay keeps bases_once pending = record {
    kept = keeps;
    bases_once = bases_once;
    passed = passed;
    noted = λ k j. elim (list.only k j) [ inl i ↦ h.noted k i | inr i ↦ new_note k i ];
    closed = h.closed;
    once = (
      (λ j. let z = run_on m w made issued (Done m made (record { base = b; path = p } ∷ parts)) b p here (after_run m p) (run_of m p) a rest in here.new (run_of m p) j z.0 z.1),
      h.once,
    );
    sound = λ x j. elim j [ inl e ↦ subst (Reachable m) (sym e) reached | inr i ↦ h.sound x i ];
    issued_had = λ k j. old_done later stay (run m k) (h.issued_had k j);
    every = λ before c n o i g ex ev am. elim (h.every before c n o i g ex ev am) [ inl j ↦ inl j | inr j ↦ elim (list.old (before ++ o ∷ []) j) [ inl l ↦ inr l | inr l ↦ inl l ] ];
    calls = λ r j before o alt. elim j [ inl e ↦ own r e before o alt | inr i ↦ old_known (run m (before ++ o ∷ [])) (h.calls r i before o alt) ];
    begun = old_done later stay (run m []) h.begun;
  }
    where
      passed : (x : List Choice) → Member x (run_of m p ∷ made) → (before : List Choice) (c : Choice) (e : List Choice) (o : Choice) → x ≡ before ++ c ∷ e
          → Member (before ++ o ∷ []) issued → Member (before ++ c ∷ []) issued
      passed x (inl j) before c e o k l = go (two_beginnings b begins.0 before c e (sym begins.1 ∙ sym j ∙ k))
        where
          go : TwoBeginnings b before c → Member (before ++ c ∷ []) issued
          go (past f i) = here.fixed before c f i
          go (within f i) =
              absurd (none_past m made issued (Done m made (record { base = b; path = p } ∷ parts)) b p here f o
              (subst (λ t. Member t issued) (ap (λ t. t ++ o ∷ []) i ∙ append_assoc b f (o ∷ [])) l))
      passed x (inr j) before c e o k l = h.passed x j before c e o k l

      new_note : (k : List Choice) → ((before : List Choice) × (o : Choice) × (k ≡ before ++ o ∷ []) × IsBelow before b × (Member k issued ⊎ Alternative m (run_of m p) before o)) → IsNote m issued k
      new_note k z =
          record {
            before = z.0;
            option = z.1;
            other = z.3.0;
            splits = z.2;
            trunk = here.fixed z.0 z.3.0 z.3.1 z.3.2;
            reachable = elim z.4 [ inl i ↦ done_reached (run m k) (h.issued_had k i) | inr i ↦ subst (λ t. Reachable m (run m t)) (sym z.2) (by_alternative (run_of m p) z.0 z.1 reached i) ];
          }

      old_known : (x : List Choice) → Known m made (record { base = b; path = p } ∷ parts) notes x → Known m (run_of m p ∷ made) later more x
      old_known x (is_done d) = is_done (old_done later stay x d)
      old_known x (is_open y before n o (inl e) g ex s k) =
          subst (Known m (run_of m p ∷ made) later more) (sym k)
          (pending before (mark m (run_of m p) (length before) n) o (a.kept before n (sym (ap (λ (z : Part). node_at z.path before) e) ∙ g)) ex
          (kept_pending (m.reduce && m.marks (run_of m p) (length before) o) (n.status o) s))
      old_known x (is_open y before n o (inr i) g ex s k) = is_open y before n o (stay y i) g ex s k
      old_known x (is_noted k j e) = elim (list.old k j) [
        | inl i ↦ is_noted k i e
        | inr i ↦ is_done (subst (Done m (run_of m p ∷ made) later) (sym e) (old_done later stay (run m k) (h.issued_had k i)))
      ]

      own : (r : List Choice) → r ≡ run_of m p → (before : List Choice) (o : Choice) → Alternative m r before o → Known m (run_of m p ∷ made) later more (run m (before ++ o ∷ []))
      own r e before o alt =
          calls_after m w made issued (Done m made (record { base = b; path = p } ∷ parts)) b p here (after_run m p) (run_of m p) a rest notes more list h.every
          (Known m (run_of m p ∷ made) later more)
          (is_done (is_made (inl refl)))
          (λ x d. is_done (old_done later stay x d))
          pending
          (λ k j. is_noted k j refl)
          (λ k j. is_done (old_done later stay (run m k) (h.issued_had k j)))
          before o (subst (λ t. Alternative m t before o) e alt)

  pub after_last : next m p ≡ None → Holds m (run_of m p ∷ made) parts issued more
  after_last none =
      holds_round parts (λ x i. i) (other_keeps (Done m (run_of m p ∷ made) parts) (old_done parts (λ x i. i))) h.bases_once.1
      (λ before x o g ex s. absurd (nothing_pending x (rest.rest before x g) (step_none (after_run m p) none before x g) ex o s))

  pub after_one : (p' : List Stored) → next m p ≡ Some p' → Holds m (run_of m p ∷ made) (record { base = b; path = p' } ∷ parts) issued more
  unfolding Steps
  after_one p' some = go (step_some (after_run m p) p' some)
    where
      later : List Part
      later = record { base = b; path = p' } ∷ parts

      go : Steps (after_run m p) p' → Holds m (run_of m p ∷ made) (record { base = b; path = p' } ∷ parts) issued more
      go (branch, n, o, s) =
          holds_round (record { base = b; path = p' } ∷ parts) (λ x i. inr i) keeps h.bases_once
          (pending_next m w made issued (Done m made (record { base = b; path = p } ∷ parts)) b p here (after_run m p) (run_of m p) a rest p' branch n o s
          (Known m (run_of m p ∷ made) (record { base = b; path = p' } ∷ parts) more)
          (is_done (is_path (record { base = b; path = p' }) (inl refl) refl))
          (λ before y c g ex t. is_open (record { base = b; path = p' }) before y c (inl refl) g ex t refl))
        where
          keeps : (x : Part) → IsIn x (record { base = b; path = p' } ∷ parts)
              → Keeps m (run_of m p ∷ made) issued (Done m (run_of m p ∷ made) (record { base = b; path = p' } ∷ parts)) x.base x.path
          keeps x (inl e) =
              subst (λ (y : Part). Keeps m (run_of m p ∷ made) issued (Done m (run_of m p ∷ made) (record { base = b; path = p' } ∷ parts)) y.base y.path) (sym e)
              (keeps_next m w made issued (Done m made (record { base = b; path = p } ∷ parts)) b p here (after_run m p) (run_of m p) a rest p' branch n o s here.part.resting
              (Done m (run_of m p ∷ made) (record { base = b; path = p' } ∷ parts)) (is_made (inl refl)) (old_done (record { base = b; path = p' } ∷ parts) (λ y i. inr i))
              (is_path (record { base = b; path = p' }) (inl refl) refl))
          keeps x (inr i) =
              other_keeps (Done m (run_of m p ∷ made) (record { base = b; path = p' } ∷ parts)) (old_done (record { base = b; path = p' } ∷ parts) (λ y j. inr j)) x i
