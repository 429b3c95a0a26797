-- A noted option becomes a part, or was handed out before; and the parts change their order.
use Rattle.std.proofs.Common.{◌≡◌, ◌⊎◌, Bool, true, false, List, [], ◌∷◌, ◌++◌, Some, refl, ap, sym, ◌∙◌, subst, inl, inr, append_assoc, append-nil}
use Rattle.loom_objects.specs.declared.choice.Choice.{Choice}
use Rattle.loom_objects.specs.Tree.Question.{Made, Among}
use Rattle.loom_engine.specs.Walk.Machine.{Machine, run, is_thread}
use Rattle.loom_engine.specs.Walk.Sound.{IsMachine}
use Rattle.loom_engine.specs.Walk.Runs.{Reachable, by_alternative as by_other}
use Rattle.loom_engine.specs.Walk.Path.{Skip, Stored, choices, node_at, Rest, by_path, by_pending, by_alternative}
use Rattle.loom_engine.specs.Walk.Lists.{Member}
use Rattle.loom_engine.proofs.Walk.Lists.{node_chooses, not_longer, cancel_front, snoc_append}
use Rattle.loom_engine.specs.Parts.Cuts.{Part, IsIn, IsBelow, IsPart, IsWithout}
use Rattle.loom_engine.proofs.Parts.Lists.{LastOption, is_last, is_before, last_option, same_options, not_nothing, bases, base_in, turned, turned_back, once_turned}
use Rattle.loom_engine.proofs.Parts.Holds.{Done, is_made, is_path, Known, is_done, is_open, is_noted, Keeps, IsNote, Holds, keeps_wider}

module _ (m : Machine) (w : IsMachine m) (made : List (List Choice)) (k : List Choice) (p : List Stored) (parts : List Part) (issued notes less : List (List Choice))
    (h : Holds m made parts issued notes) (is_note : Member k notes) (unissued : Member k issued → ⊥) (part : IsPart m k p) (ends : choices p ≡ k) (without : IsWithout k notes less) where
  note : IsNote m issued k
  note = h.noted k is_note

  done_on : (x : List Choice) → Done m made parts x → Done m made (record { base = k; path = p } ∷ parts) x
  done_on x (is_made j) = is_made j
  done_on x (is_path y i f) = is_path y (inr i) f

  it_is_next : Done m made (record { base = k; path = p } ∷ parts) (run m k)
  it_is_next = is_path (record { base = k; path = p }) (inl refl) (ap (run m) (sym ends))

  -- none of its nodes is above its floor
  is_below : (before : List Choice) (n : Stored) → node_at p before ≡ Some n → IsBelow before k
  is_below before n g = let z = node_chooses p before n g in (n.present, z.0, sym ends ∙ z.1)

  none_above : (before : List Choice) (n : Stored) → node_at p before ≡ Some n → (f : List Choice) → before ≡ k ++ f → ⊥
  none_above before n g f i =
      let z = is_below before n g in
      not_nothing f z.0 z.1 (cancel_front k [] (f ++ z.0 ∷ z.1) (append-nil k ∙ z.2 ∙ ap (λ t. t ++ z.0 ∷ z.1) i ∙ append_assoc k f (z.0 ∷ z.1)))

  fixed : (before : List Choice) (c : Choice) (e : List Choice) → k ≡ before ++ c ∷ e → Member (before ++ c ∷ []) (k ∷ issued)
  fixed before c e i = go (last_option note.before note.option before c e (sym note.splits ∙ i))
    where
      go : LastOption note.before note.option before c e → Member (before ++ c ∷ []) (k ∷ issued)
      go (is_last f g l) = inl (cc (f, g, note.splits))
      go (is_before f g l) =
          inr (h.closed before c (f ++ note.other ∷ []) (subst (λ t. Member t issued) (ap (λ t. t ++ note.other ∷ []) g ∙ append_assoc before (c ∷ f) (note.other ∷ [])) note.trunk))

  past_note : (e : List Choice) → k ++ e ≡ note.before ++ note.option ∷ e
  past_note e = ap (λ t. t ++ e) note.splits ∙ snoc_append note.before note.option e

  frontier : (o : Choice) (e : List Choice) → Member (k ++ o ∷ e) (k ∷ issued) → ⊥
  frontier o e i = elim i [
    | inl j ↦ not_longer k o e (sym j)
    | inr j ↦ unissued (subst (λ t. Member t issued) (sym note.splits) (h.closed note.before note.option (o ∷ e) (subst (λ t. Member t issued) (past_note (o ∷ e)) j)))
  ]

  keeps_new : Keeps m made (k ∷ issued) (Done m made (record { base = k; path = p } ∷ parts)) k p
  keeps_new = record {
    part = part;
    fixed = fixed;
    frontier = frontier;
    tried = λ before n g f i x j c e l. absurd (none_above before n g f i);
    new = λ x j e i.
        unissued (subst (λ t. Member t issued) (sym note.splits) (h.passed x j note.before note.option e note.other (i ∙ ap (λ t. t ++ e) ends ∙ past_note e) note.trunk));
    had = λ before n g f i o t. absurd (none_above before n g f i);
    skipped = skipped;
    rest = rest;
  }
    where
      skipped : (before : List Choice) (n : Stored) (o : Choice) → node_at p before ≡ Some n → n.status o ≡ Skip → m.every before ≡ true → ⊥
      skipped before n o g s ev = by_kind (is_thread n.made.default) refl
        where
          by_kind : (b : Bool) → is_thread n.made.default ≡ b → ⊥
          by_kind true t = (part.sealed before n o g (is_below before n g) (w.full before n.made (part.resting.meets before n g) ev t).1).1 s
          by_kind false t = (part.resting.rest before n g).values t o s

      rest : (x : List Choice) → Rest m p x → Reachable m x
      rest x by_path = subst (λ t. Reachable m (run m t)) (sym ends) note.reachable
      rest x (by_pending before n o g ex s) = absurd ((part.sealed before n o g (is_below before n g) ex).0 s)
      rest x (by_alternative r before o d alt out) = by_other r before o (rest r d) alt

  other_kept : (x : Part) → IsIn x parts → Keeps m made (k ∷ issued) (Done m made (record { base = k; path = p } ∷ parts)) x.base x.path
  other_kept x i =
      keeps_wider m made issued (k ∷ issued) (Done m made parts) (Done m made (record { base = k; path = p } ∷ parts)) x.base x.path (h.kept x i) (λ j g. inr g) others done_on
    where
      others : (o : Choice) (e : List Choice) → Member (x.base ++ o ∷ e) (k ∷ issued) → ⊥
      others o e j = elim j [ inl l ↦ go (last_option note.before note.option x.base o e (sym note.splits ∙ sym l)) | inr l ↦ (h.kept x i).frontier o e l ]
        where
          go : LastOption note.before note.option x.base o e → ⊥
          go (is_last f g l) = (h.kept x i).frontier note.other [] (subst (λ t. Member (t ++ note.other ∷ []) issued) (sym f) note.trunk)
          go (is_before f g l) =
              (h.kept x i).frontier o (f ++ note.other ∷ []) (subst (λ t. Member t issued) (ap (λ t. t ++ note.other ∷ []) g ∙ append_assoc x.base (o ∷ f) (note.other ∷ [])) note.trunk)

  known_on : (x : List Choice) → Known m made parts notes x → Known m made (record { base = k; path = p } ∷ parts) less x
  known_on x (is_done d) = is_done (done_on x d)
  known_on x (is_open y before n o i g ex s l) = is_open y before n o (inr i) g ex s l
  known_on x (is_noted j i e) = elim ((without j).0 i) [
    | inl f ↦ is_done (subst (Done m made (record { base = k; path = p } ∷ parts)) (sym (e ∙ ap (run m) f)) it_is_next)
    | inr f ↦ is_noted j f e
  ]

  pub after_hand : Holds m made (record { base = k; path = p } ∷ parts) (k ∷ issued) less
  after_hand = record {
    kept = kept;
    bases_once = (once, h.bases_once);
    passed = passed;
    noted = λ j i. old_note j (h.noted j ((without j).1 (inr i)));
    closed = λ before c e i. elim i [ inl j ↦ fixed before c e (sym j) | inr j ↦ inr (h.closed before c e j) ];
    once = h.once;
    sound = h.sound;
    issued_had = λ j i. elim i [ inl e ↦ subst (λ t. Done m made (record { base = k; path = p } ∷ parts) (run m t)) (sym e) it_is_next | inr e ↦ done_on (run m j) (h.issued_had j e) ];
    every = every;
    calls = λ r j before o alt. known_on (run m (before ++ o ∷ [])) (h.calls r j before o alt);
    begun = done_on (run m []) h.begun;
  }
    where
      kept : (x : Part) → IsIn x (record { base = k; path = p } ∷ parts) → Keeps m made (k ∷ issued) (Done m made (record { base = k; path = p } ∷ parts)) x.base x.path
      kept x (inl e) = subst (λ (y : Part). Keeps m made (k ∷ issued) (Done m made (record { base = k; path = p } ∷ parts)) y.base y.path) (sym e) keeps_new
      kept x (inr i) = other_kept x i

      once : Member k (bases parts) → ⊥
      once i =
          let z = base_in k parts i in
          unissued (subst (λ t. Member t issued) (sym note.splits) ((h.kept z.0 z.1).fixed note.before note.option [] (sym z.2 ∙ note.splits)))

      passed : (x : List Choice) → Member x made → (before : List Choice) (c : Choice) (e : List Choice) (o : Choice) → x ≡ before ++ c ∷ e → Member (before ++ o ∷ []) (k ∷ issued)
          → Member (before ++ c ∷ []) (k ∷ issued)
      passed x j before c e o i l = elim l [
        | inl f ↦ (let z = same_options before note.before o note.option (f ∙ note.splits) in inr (h.passed x j before c e note.other i (subst (λ t. Member (t ++ note.other ∷ []) issued) (sym z.0) note.trunk)))
        | inr f ↦ inr (h.passed x j before c e o i f)
      ]

      old_note : (j : List Choice) → IsNote m issued j → IsNote m (k ∷ issued) j
      old_note j i = record { before = i.before; option = i.option; other = i.other; splits = i.splits; trunk = inr i.trunk; reachable = i.reachable }

      every : (before : List Choice) (c : Choice) (n : Made) (o : Choice) → Member (before ++ c ∷ []) (k ∷ issued) → m.node before ≡ Some n → n.exploring ≡ true → m.every before ≡ true
          → Among o n.options → Member (before ++ o ∷ []) (k ∷ issued) ⊎ Member (before ++ o ∷ []) less
      every before c n o i g ex ev am = go (elim i [
        | inl f ↦ (let z = same_options before note.before c note.option (f ∙ note.splits) in h.every before note.other n o (subst (λ t. Member (t ++ note.other ∷ []) issued) (sym z.0) note.trunk) g ex ev am)
        | inr f ↦ h.every before c n o f g ex ev am
      ])
        where
          go : Member (before ++ o ∷ []) issued ⊎ Member (before ++ o ∷ []) notes → Member (before ++ o ∷ []) (k ∷ issued) ⊎ Member (before ++ o ∷ []) less
          go (inl f) = inl (inr f)
          go (inr f) = elim ((without (before ++ o ∷ [])).0 f) [ inl l ↦ inl (inl l) | inr l ↦ inr l ]

-- a note of what was handed out is dropped
pub after_drop : (m : Machine) (made : List (List Choice)) (k : List Choice) (parts : List Part) (issued notes less : List (List Choice)) → Holds m made parts issued notes → Member k issued
    → IsWithout k notes less → Holds m made parts issued less
after_drop m made k parts issued notes less h was_issued without = record {
  kept = h.kept;
  bases_once = h.bases_once;
  passed = h.passed;
  noted = λ j i. h.noted j ((without j).1 (inr i));
  closed = h.closed;
  once = h.once;
  sound = h.sound;
  issued_had = h.issued_had;
  every = λ before c n o i g ex ev am. every before o (h.every before c n o i g ex ev am);
  calls = λ r j before o alt. known (run m (before ++ o ∷ [])) (h.calls r j before o alt);
  begun = h.begun;
}
  where
    every : (before : List Choice) (o : Choice) → Member (before ++ o ∷ []) issued ⊎ Member (before ++ o ∷ []) notes → Member (before ++ o ∷ []) issued ⊎ Member (before ++ o ∷ []) less
    every before o (inl i) = inl i
    every before o (inr i) = elim ((without (before ++ o ∷ [])).0 i) [ inl e ↦ inl (subst (λ t. Member t issued) (sym e) was_issued) | inr e ↦ inr e ]

    known : (x : List Choice) → Known m made parts notes x → Known m made parts less x
    known x (is_done d) = is_done d
    known x (is_open y before n o i g ex s l) = is_open y before n o i g ex s l
    known x (is_noted j i e) = elim ((without j).0 i) [ inl f ↦ is_done (subst (Done m made parts) (sym (e ∙ ap (run m) f)) (h.issued_had k was_issued)) | inr f ↦ is_noted j f e ]

-- another part comes to the front
pub after_turn : (m : Machine) (made : List (List Choice)) (front back : List Part) (q : Part) (issued notes : List (List Choice)) → Holds m made (front ++ q ∷ back) issued notes
    → Holds m made (q ∷ front ++ back) issued notes
after_turn m made front back q issued notes h = record {
  kept = λ x i. let k = h.kept x (turned x q front back i) in keeps_wider m made issued issued (Done m made (front ++ q ∷ back)) (Done m made (q ∷ front ++ back)) x.base x.path k (λ j g. g) k.frontier done;
  bases_once = once_turned q front back h.bases_once;
  passed = h.passed;
  noted = h.noted;
  closed = h.closed;
  once = h.once;
  sound = h.sound;
  issued_had = λ k i. done (run m k) (h.issued_had k i);
  every = h.every;
  calls = λ r j before o alt. known (run m (before ++ o ∷ [])) (h.calls r j before o alt);
  begun = done (run m []) h.begun;
}
  where
    done : (x : List Choice) → Done m made (front ++ q ∷ back) x → Done m made (q ∷ front ++ back) x
    done x (is_made j) = is_made j
    done x (is_path y i f) = is_path y (turned_back y q front back i) f

    known : (x : List Choice) → Known m made (front ++ q ∷ back) notes x → Known m made (q ∷ front ++ back) notes x
    known x (is_done d) = is_done (done x d)
    known x (is_open y before n o i g ex s l) = is_open y before n o (turned_back y q front back i) g ex s l
    known x (is_noted k j e) = is_noted k j e
