-- What holds of each search in parts.
use Rattle.std.proofs.Common.{◌≡◌, List, [], ◌∷◌, ◌++◌, refl, sym, subst, inl, inr}
use Rattle.loom_objects.specs.declared.choice.Choice.{Choice}
use Rattle.loom_engine.specs.Walk.Machine.{Machine, run}
use Rattle.loom_engine.specs.Walk.Sound.{IsMachine}
use Rattle.loom_engine.specs.Walk.Runs.{Reachable, by_default, by_alternative}
use Rattle.loom_engine.specs.Walk.Path.{node_at}
use Rattle.loom_engine.specs.Walk.Lists.{Member}
use Rattle.loom_engine.proofs.Walk.Round.{fresh_law}
use Rattle.loom_engine.specs.Parts.Cuts.{Part, IsIn, Search, begin, turn, one_run, last_run, raise, hand_out, drop_note, WholeLaw, SearchLaw}
use Rattle.loom_engine.proofs.Parts.Lists.{not_nothing}
use Rattle.loom_engine.proofs.Parts.Holds.{Done, is_made, is_path, Known, is_done, is_open, is_noted, Keeps, Holds}
use Rattle.loom_engine.proofs.Parts.Working.{after_last, after_one}
use Rattle.loom_engine.proofs.Parts.Raising.{after_raise}
use Rattle.loom_engine.proofs.Parts.Handing.{after_hand, after_drop, after_turn}

holds_first : (m : Machine) → IsMachine m → Holds m [] (record { base = []; path = [] } ∷ []) [] []
unfolding node_at
holds_first m w = record {
  kept = kept;
  bases_once = ((λ i. i), tt);
  passed = λ x j. absurd j;
  noted = λ k j. absurd j;
  closed = λ before c e j. absurd j;
  once = tt;
  sound = λ x j. absurd j;
  issued_had = λ k j. absurd j;
  every = λ before c n o i. absurd i;
  calls = λ r j. absurd j;
  begun = is_path (record { base = []; path = [] }) (inl refl) refl;
}
  where
    first : Keeps m [] [] (Done m [] (record { base = []; path = [] } ∷ [])) [] []
    first = record {
      part = record { resting = (fresh_law m w).0; begins = ([], refl); sealed = λ before n o h. absurd (cc h) };
      fixed = λ before c e i. absurd (not_nothing before c e i);
      frontier = λ o e i. i;
      tried = λ before n h. absurd (cc h);
      new = λ x j. absurd j;
      had = λ before n h. absurd (cc h);
      skipped = λ before n o h. absurd (cc h);
      rest = λ x d. ((fresh_law m w).1 x).0 d;
    }

    kept : (q : Part) → IsIn q (record { base = []; path = [] } ∷ []) → Keeps m [] [] (Done m [] (record { base = []; path = [] } ∷ [])) q.base q.path
    kept q (inl e) = subst (λ (y : Part). Keeps m [] [] (Done m [] (record { base = []; path = [] } ∷ [])) y.base y.path) (sym e) first
    kept q (inr i) = absurd i

pub search_holds : (m : Machine) (made : List (List Choice)) (parts : List Part) (issued notes : List (List Choice)) → IsMachine m → Search m made parts issued notes
    → Holds m made parts issued notes
search_holds m made parts issued notes w begin = holds_first m w
search_holds m made parts issued notes w (turn _ front back q _ _ s) = after_turn m made front back q issued notes (search_holds m made (front ++ q ∷ back) issued notes w s)
search_holds m made parts issued notes w (one_run made' b p p' parts' _ notes' _ s n l) =
    after_one m w made' b p parts' issued notes' notes (search_holds m made' (record { base = b; path = p } ∷ parts') issued notes' w s) l p' n
search_holds m made parts issued notes w (last_run made' b p _ _ notes' _ s n l) =
    after_last m w made' b p parts issued notes' notes (search_holds m made' (record { base = b; path = p } ∷ parts) issued notes' w s) l n
search_holds m made parts issued notes w (raise _ b p n parts' issued' notes' taken opened s at t u) =
    after_raise m made b p n parts' issued' notes' taken opened (search_holds m made (record { base = b; path = p } ∷ parts') issued' notes' w s) at t u
search_holds m made parts issued notes w (hand_out _ k p parts' issued' notes' _ s i j part ends without) =
    after_hand m w made k p parts' issued' notes' notes (search_holds m made parts' issued' notes' w s) i j part ends without
search_holds m made parts issued notes w (drop_note _ k _ _ notes' _ s i without) =
    after_drop m made k parts issued notes' notes (search_holds m made parts issued notes' w s) i without

-- when nothing is listed, what is known was made
done_made : (m : Machine) (made : List (List Choice)) (x : List Choice) → Done m made [] x → Member x made
done_made m made x (is_made j) = j
done_made m made x (is_path q i f) = absurd i

known_made : (m : Machine) (made : List (List Choice)) (x : List Choice) → Known m made [] [] x → Member x made
known_made m made x (is_done d) = done_made m made x d
known_made m made x (is_open q before n o i g ex s l) = absurd i
known_made m made x (is_noted k i e) = absurd i

all_made : (m : Machine) (made issued : List (List Choice)) → Holds m made [] issued [] → (x : List Choice) → Reachable m x → Member x made
all_made m made issued h x by_default = done_made m made (run m []) h.begun
all_made m made issued h x (by_alternative r before o d alt) = known_made m made (run m (before ++ o ∷ [])) (h.calls r (all_made m made issued h r d) before o alt)

pub search_law : SearchLaw
search_law m made parts issued notes w s = (h.once, h.sound, λ e f x. ((λ d. all_made m made issued (none e f) x d), λ j. h.sound x j))
  where
    h : Holds m made parts issued notes
    h = search_holds m made parts issued notes w s

    none : parts ≡ [] → notes ≡ [] → Holds m made [] issued []
    none e f = subst (λ t. Holds m made [] issued t) f (subst (λ t. Holds m made t issued notes) e h)

pub whole_law : WholeLaw
whole_law m b r issued notes whole = record {
  only = λ k i. inl i;
  old = λ k i. inl i;
  each = λ before o low alt ev. elim alt.called [ inl e ↦ absurd (cc (e, ev)) | inr e ↦ (let z = e.0 in absurd (cc (z, whole))) ];
}
