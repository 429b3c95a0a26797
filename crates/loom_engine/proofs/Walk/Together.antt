-- Rounds make walk lists: the runs that share a beginning stand together.
use Rattle.std.proofs.Common.{◌≡◌, ◌⊎◌, ◌↔◌, false, List, [], ◌∷◌, ◌++◌, Some, None, refl, ap, sym, ◌∙◌, subst, inl, inr, append_assoc}
use Rattle.loom_objects.specs.declared.choice.Choice.{Choice}
use Rattle.loom_engine.specs.Walk.Choices.{same}
use Rattle.loom_engine.specs.Walk.Machine.{Machine}
use Rattle.loom_engine.specs.Walk.Sound.{IsMachine}
use Rattle.loom_engine.specs.Walk.Path.{Stored, choices, IsResting, next, after_run, choose, Rest, by_path}
use Rattle.loom_engine.specs.Walk.Walks.{run_of, Rounds, stay, go_on, Completes, last_round, one_round, LeavesRest, StoppedLaw, CompleteLaw, JoinLaw}
use Rattle.loom_engine.specs.Walk.Lists.{Member, IsOnce, Begins, Each, StandTogether}
use Rattle.loom_engine.proofs.Walk.Lists.{node_chooses}
use Rattle.loom_engine.proofs.Walk.After.{after_run_is}
use Rattle.loom_engine.proofs.Walk.Resting.{after_resting}
use Rattle.loom_engine.proofs.Walk.Stepping.{Steps, step_some}
use Rattle.loom_engine.proofs.Walk.Left.{taken_visited, never_again, run_begins}
use Rattle.loom_engine.proofs.Walk.Round.{round_law}

-- two beginnings of one run: the one is a beginning of the other, or goes on past it
pub data TwoBeginnings (s branch : List Choice) (c : Choice) : Type 0 where
  within : (f : List Choice) → branch ≡ s ++ f → TwoBeginnings s branch c
  past : (f : List Choice) → s ≡ branch ++ c ∷ f → TwoBeginnings s branch c

pub two_beginnings : (s e branch : List Choice) (c : Choice) (after : List Choice) → s ++ e ≡ branch ++ c ∷ after → TwoBeginnings s branch c
two_beginnings [] e branch c after h = within branch refl
two_beginnings (x ∷ s) e [] c after h = past s (cc h)
two_beginnings (x ∷ s) e (b ∷ branch) c after h =
    let first : x ≡ b = cc h in
    let tail : s ++ e ≡ branch ++ c ∷ after = cc h in
    elim (two_beginnings s e branch c after tail) [ within f g ↦ within f (cc (first, g)) | past f g ↦ past f (cc (first, g)) ]

pub begins_or_not : (s x : List Choice) → Dec (Begins s x)
begins_or_not [] x = yes (x, refl)
begins_or_not (c ∷ s) [] = no (λ b. cc (b.1))
begins_or_not (c ∷ s) (d ∷ x) = go (same c d) (begins_or_not s x)
  where
    go : Dec (c ≡ d) → Dec (Begins s x) → Dec (Begins (c ∷ s) (d ∷ x))
    go (yes e) (yes b) = yes (b.0, cc (e, b.1))
    go (yes e) (no f) = no (λ b. f (b.0, cc (b.1)))
    go (no f) b = no (λ g. f (cc (g.1)))

pub each_of : (P : List Choice → Type 0) (list : List (List Choice)) → ((x : List Choice) → Member x list → P x) → Each P list
each_of P [] h = tt
each_of P (x ∷ list) h = (h x (inl refl), each_of P list (λ y g. h y (inr g)))

-- the runs that begin so stand at the front
pub record AtFront (s : List Choice) (list : List (List Choice)) : Type 0 where
  middle : List (List Choice)
  back : List (List Choice)
  splits : list ≡ middle ++ back
  all_middle : Each (Begins s) middle
  not_back : Each (λ x. Begins s x → ⊥) back

-- one round of a path at rest, whose next path is p'
pub record IsRound (m : Machine) (p p' : List Stored) : Type 0 where
  branch : List Choice
  taken : Choice
  chosen : Choice
  rest : List Choice
  resting : IsResting m p'
  leads : run_of m p ≡ branch ++ taken ∷ rest
  next_leads : choices p' ≡ branch ++ chosen ∷ []
  never : (x : List Choice) → Rest m p' x → (e : List Choice) → x ≡ branch ++ taken ∷ e → ⊥
  parts : (x : List Choice) → Rest m p x ↔ ((x ≡ run_of m p) ⊎ Rest m p' x)
  apart : Rest m p' (run_of m p) → ⊥

pub round_is : (m : Machine) (p p' : List Stored) → IsMachine m → IsResting m p → next m p ≡ Some p' → IsRound m p p'
unfolding Steps
round_is m p p' w rest h = go (step_some (after_run m p) p' h) (subst (λ u. LeavesRest m p u) h (round_law m p w rest))
  where
    go : Steps (after_run m p) p' → LeavesRest m p (Some p') → IsRound m p p'
    go (branch, n, o, s) law =
        let a = after_run_is m w p in
        let after = after_resting m w p (after_run m p) (run_of m p) rest a in
        let b = node_chooses (after_run m p) branch n s.at in
        record {
          branch = branch;
          taken = n.present;
          chosen = o;
          rest = b.0;
          resting = law.0;
          leads = sym a.whole ∙ b.1;
          next_leads = s.chosen;
          never = λ x d e g. never_again m w p' law.0 branch (choose n o) n.present s.here (taken_visited m w p (after_run m p) (run_of m p) a after p' branch n o s) x d e g;
          parts = law.1;
          apart = law.2;
        }

pub complete_members : (m : Machine) (p : List Stored) (list : List (List Choice)) → IsMachine m → IsResting m p → Completes m p list → (x : List Choice) → Rest m p x ↔ Member x list
complete_members m p list w rest (last_round _ f h) x =
    let law : LeavesRest m p None = subst (λ u. LeavesRest m p u) h (round_law m p w rest) in
    ((λ d. inl ((law x).0 d)), λ d. elim d [ inl e ↦ (law x).1 e | inr e ↦ elim e [ ] ])
complete_members m p list w rest (one_round _ p' list' f h c) x =
    let i = round_is m p p' w rest h in
    let ih = complete_members m p' list' w i.resting c x in (
      (λ d. elim ((i.parts x).0 d) [ inl e ↦ inl e | inr e ↦ inr (ih.0 e) ]),
      λ d. elim d [ inl e ↦ (i.parts x).1 (inl e) | inr e ↦ (i.parts x).1 (inr (ih.1 e)) ],
    )

pub complete_once : (m : Machine) (p : List Stored) (list : List (List Choice)) → IsMachine m → IsResting m p → Completes m p list → IsOnce list
complete_once m p list w rest (last_round _ f h) = ((λ e. e), tt)
complete_once m p list w rest (one_round _ p' list' f h c) =
    let i = round_is m p p' w rest h in
    ((λ e. i.apart ((complete_members m p' list' w i.resting c (run_of m p)).1 e)), complete_once m p' list' w i.resting c)

pub complete_sound : (m : Machine) (p : List Stored) (list : List (List Choice)) → Completes m p list → (x : List Choice) → Member x list → m.fails x ≡ false
complete_sound m p list (last_round _ f h) x g = elim g [ inl e ↦ ap m.fails e ∙ f | inr e ↦ elim e [ ] ]
complete_sound m p list (one_round _ p' list' f h c) x g = elim g [ inl e ↦ ap m.fails e ∙ f | inr e ↦ complete_sound m p' list' c x e ]

-- the runs that share a beginning with the first one stand at the front
complete_front : (m : Machine) (p : List Stored) (list : List (List Choice)) → IsMachine m → IsResting m p → Completes m p list → (s : List Choice) → Begins s (run_of m p) → AtFront s list
complete_front m p list w rest (last_round _ f h) s b = record { middle = run_of m p ∷ []; back = []; splits = refl; all_middle = (b, tt); not_back = tt }
complete_front m p list w rest (one_round _ p' list' f h c) s b =
    go (two_beginnings s b.0 i.branch i.taken i.rest (sym b.1 ∙ i.leads)) (λ g. complete_front m p' list' w i.resting c s g)
  where
    i : IsRound m p p'
    i = round_is m p p' w rest h

    z : (e : List Choice) × (run_of m p' ≡ choices p' ++ e)
    z = run_begins m w (choices p')

    go : TwoBeginnings s i.branch i.taken → (Begins s (run_of m p') → AtFront s list') → AtFront s (run_of m p ∷ list')
    go (within e g) ih =
        let t = ih (
          e ++ i.chosen ∷ z.0,
          z.1 ∙ ap (λ u. u ++ z.0) (i.next_leads ∙ ap (λ u. u ++ i.chosen ∷ []) g ∙ append_assoc s e (i.chosen ∷ [])) ∙ append_assoc s (e ++ i.chosen ∷ []) z.0 ∙ ap (λ u. s ++ u) (append_assoc e (i.chosen ∷ []) z.0),
        ) in
        record { middle = run_of m p ∷ t.middle; back = t.back; splits = ap (λ u. run_of m p ∷ u) t.splits; all_middle = (b, t.all_middle); not_back = t.not_back }
    go (past e g) ih =
        record {
          middle = run_of m p ∷ [];
          back = list';
          splits = refl;
          all_middle = (b, tt);
          not_back = each_of (λ x. Begins s x → ⊥) list' (λ x k d.
              i.never x ((complete_members m p' list' w i.resting c x).1 k) (e ++ d.0) (d.1 ∙ ap (λ u. u ++ d.0) g ∙ append_assoc i.branch (i.taken ∷ e) d.0));
        }

pub complete_together : (m : Machine) (p : List Stored) (list : List (List Choice)) → IsMachine m → IsResting m p → Completes m p list → (s : List Choice) → StandTogether s list
complete_together m p list w rest (last_round _ f h) s = go (begins_or_not s (run_of m p))
  where
    go : Dec (Begins s (run_of m p)) → StandTogether s (run_of m p ∷ [])
    go (yes b) = record { front = []; middle = run_of m p ∷ []; back = []; splits = refl; not_front = tt; all_middle = (b, tt); not_back = tt }
    go (no b) = record { front = run_of m p ∷ []; middle = []; back = []; splits = refl; not_front = (b, tt); all_middle = tt; not_back = tt }
complete_together m p list w rest (one_round _ p' list' f h c) s =
    go (begins_or_not s (run_of m p)) (complete_together m p' list' w (round_is m p p' w rest h).resting c s)
  where
    go : Dec (Begins s (run_of m p)) → StandTogether s list' → StandTogether s (run_of m p ∷ list')
    go (yes b) ih =
        let t = complete_front m p (run_of m p ∷ list') w rest (one_round p p' list' f h c) s b in
        record { front = []; middle = t.middle; back = t.back; splits = t.splits; not_front = tt; all_middle = t.all_middle; not_back = t.not_back }
    go (no b) ih =
        record { front = run_of m p ∷ ih.front; middle = ih.middle; back = ih.back; splits = ap (λ u. run_of m p ∷ u) ih.splits; not_front = (b, ih.not_front); all_middle = ih.all_middle; not_back = ih.not_back }

pub complete_law : CompleteLaw
complete_law m p list w rest c = (
  record { members = complete_members m p list w rest c; once = complete_once m p list w rest c; together = complete_together m p list w rest c },
  λ x d. complete_sound m p list c x ((complete_members m p list w rest c x).0 d),
)

-- rounds that go on where others stopped
pub resumed : (m : Machine) (p p' : List Stored) (list more : List (List Choice)) → Rounds m p list p' → Completes m p' more → Completes m p (list ++ more)
resumed m p p' list more (stay _) c = c
resumed m p p' list more (go_on _ q _ list' f h d) c = one_round p q (list' ++ more) f h (resumed m q p' list' more d c)

rounds_joined : (m : Machine) (p p' last : List Stored) (list more : List (List Choice)) → Rounds m p list p' → Rounds m p' more last → Rounds m p (list ++ more) last
rounds_joined m p p' last list more (stay _) c = c
rounds_joined m p p' last list more (go_on _ q _ list' f h d) c = go_on p q last (list' ++ more) f h (rounds_joined m q p' last list' more d c)

pub join_law : JoinLaw
join_law m p p' list more d = ((λ last e. rounds_joined m p p' last list more d e), λ e. resumed m p p' list more d e)

stopped_resting : (m : Machine) (p p' : List Stored) (list : List (List Choice)) → IsMachine m → IsResting m p → Rounds m p list p' → IsResting m p'
stopped_resting m p p' list w rest (stay _) = rest
stopped_resting m p p' list w rest (go_on _ q _ list' f h d) = stopped_resting m q p' list' w (round_is m p q w rest h).resting d

stopped_parts : (m : Machine) (p p' : List Stored) (list : List (List Choice)) → IsMachine m → IsResting m p → Rounds m p list p' → (x : List Choice) → Rest m p x ↔ (Member x list ⊎ Rest m p' x)
stopped_parts m p p' list w rest (stay _) x = ((λ d. inr d), λ d. elim d [ inl e ↦ elim e [ ] | inr e ↦ e ])
stopped_parts m p p' list w rest (go_on _ q _ list' f h d) x =
    let i = round_is m p q w rest h in
    let ih = stopped_parts m q p' list' w i.resting d x in (
      (λ g. elim ((i.parts x).0 g) [ inl e ↦ inl (inl e) | inr e ↦ elim (ih.0 e) [ inl k ↦ inl (inr k) | inr k ↦ inr k ] ]),
      λ g. elim g [ inl e ↦ elim e [ inl k ↦ (i.parts x).1 (inl k) | inr k ↦ (i.parts x).1 (inr (ih.1 (inl k))) ] | inr e ↦ (i.parts x).1 (inr (ih.1 (inr e))) ],
    )

stopped_apart : (m : Machine) (p p' : List Stored) (list : List (List Choice)) → IsMachine m → IsResting m p → Rounds m p list p' → (x : List Choice) → Member x list → Rest m p' x → ⊥
stopped_apart m p p' list w rest (stay _) x g d = elim g [ ]
stopped_apart m p p' list w rest (go_on _ q _ list' f h d) x g k =
    let i = round_is m p q w rest h in
    elim g [
      | inl e ↦ i.apart (subst (Rest m q) e ((stopped_parts m q p' list' w i.resting d x).1 (inr k)))
      | inr e ↦ stopped_apart m q p' list' w i.resting d x e k
    ]

stopped_sound : (m : Machine) (p p' : List Stored) (list : List (List Choice)) → Rounds m p list p' → Each (λ x. m.fails x ≡ false) list
stopped_sound m p p' list (stay _) = tt
stopped_sound m p p' list (go_on _ q _ list' f h d) = (f, stopped_sound m q p' list' d)

pub stopped_law : StoppedLaw
stopped_law m p p' list w rest d =
    record {
      resting = stopped_resting m p p' list w rest d;
      parts = stopped_parts m p p' list w rest d;
      apart = stopped_apart m p p' list w rest d;
      sound = stopped_sound m p p' list d;
      next_run = (stopped_parts m p p' list w rest d (run_of m p')).1 (inr by_path);
      resumed = λ more c. (complete_law m p (list ++ more) w rest (resumed m p p' list more d c)).0;
    }
