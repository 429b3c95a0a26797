-- A tree of runs is a machine for walks.
use Rattle.std.proofs.Common.{◌≡◌, ◌⊎◌, ℕ, zero, suc, ◌+◌, ◌≤◌, Bool, true, false, ◌&&◌, ◌||◌, not, List, [], ◌∷◌, ◌++◌, length, map, Option, Some, None, refl, ap, subst, inl, inr, arith, append_assoc}
use Rattle.std.specs.Prelude.{slice_get, cond, IsSomeAnd}
use Rattle.loom_objects.specs.declared.choice.Choice.{Choice}
use Rattle.loom_objects.specs.declared.choice.Choice.TheVariants.{Thread, Load}
use Rattle.loom_objects.specs.declared.rt.schedule.Ability.{Ability}
use Rattle.loom_objects.specs.declared.rt.schedule.Ability.TheVariants.{Able, Yielding, Unable}
use Rattle.loom_objects.specs.Tree.Question.{Made, Among, Question, WhichThread, WhichStore, WhetherSpurious, able_threads, thread_options, made_of}
use Rattle.loom_objects.specs.Tree.Sound.{IsSound, IsSoundDefault}
use Rattle.loom_engine.specs.Walk.Machine.{is_thread}
use Rattle.loom_engine.specs.Walk.Choices.{among, pick}
use Rattle.loom_objects.specs.Tree.Tree.{Tree, Gives, Fails, Closes, Asks}
use Rattle.loom_engine.specs.Trees.Outcomes.{met, passed}
use Rattle.loom_engine.specs.Trees.Sound.{IsSoundTree}
use Rattle.loom_engine.specs.Trees.Meeting.{Settings, Marking, marked_too, marks_of, no_marks, every_at, every_met, is_below, count}
use Rattle.loom_engine.specs.Trees.Machines.{IsMarking, MachineLaw}

-- ---- questions

pub able_among : (abilities : List Ability) (i k j : ℕ) → j ≡ k + i → slice_get abilities i ≡ Some Able → Among (Thread (Some j)) (able_threads k abilities)
able_among [] i k j e h = absurd (cc h)
able_among (Able ∷ rest) zero k j e h = (let f : j ≡ k = omega arith in inl (ap (λ n. Thread (Some n)) f))
able_among (Yielding ∷ rest) zero k j e h = absurd (cc h)
able_among (Unable ∷ rest) zero k j e h = absurd (cc h)
able_among (Able ∷ rest) (suc i) k j e h = inr (able_among rest i (suc k) j (omega arith) h)
able_among (Yielding ∷ rest) (suc i) k j e h = able_among rest i (suc k) j (omega arith) h
able_among (Unable ∷ rest) (suc i) k j e h = able_among rest i (suc k) j (omega arith) h

able_few : (abilities : List Ability) (k : ℕ) → length (able_threads k abilities) ≤ length abilities
able_few [] k = omega arith
able_few (Able ∷ rest) k = (let h = able_few rest (suc k) in omega arith)
able_few (Yielding ∷ rest) k = (let h = able_few rest (suc k) in omega arith)
able_few (Unable ∷ rest) k = (let h = able_few rest (suc k) in omega arith)

slots_few : (slots : List ℕ) → length (map (λ slot. Load slot) slots) ≡ length slots
slots_few [] = refl
slots_few (slot ∷ slots) = ap suc (slots_few slots)

thread_default : (default : Option ℕ) (abilities : List Ability) → IsSoundDefault default abilities → Among (Thread default) (thread_options default abilities)
thread_default None abilities h = inl refl
thread_default (Some k) abilities h = able_among abilities k 0 k (omega arith) h

thread_few : (default : Option ℕ) (abilities : List Ability) → length abilities ≤ 5 → length (thread_options default abilities) ≤ 7
thread_few None abilities h = omega arith
thread_few (Some k) abilities h = omega (arith, able_few abilities 0)

pub sound_default : (question : Question) → IsSound question → Among (made_of question).default (made_of question).options
sound_default (WhichThread exploring standing) h = thread_default standing.default standing.abilities h.0
sound_default (WhichStore exploring lowest others) h = inl refl
sound_default (WhetherSpurious exploring) h = inl refl

pub sound_few : (question : Question) → IsSound question → length (made_of question).options ≤ 7
sound_few (WhichThread exploring standing) h = thread_few standing.default standing.abilities h.1
sound_few (WhichStore exploring lowest others) h = omega (arith, slots_few others)
sound_few (WhetherSpurious exploring) h = omega arith

-- ---- every option

full_by : (thread reduce exploring below : Bool) → cond thread (not reduce && exploring && below) true ≡ true → thread ≡ true → (reduce ≡ false) × (exploring ≡ true)
full_by false reduce exploring below h e = absurd (cc e)
full_by true true exploring below h e = absurd (cc h)
full_by true false false below h e = absurd (cc h)
full_by true false true below h e = (refl, refl)

values_by : (thread other : Bool) → thread ≡ false → cond thread other true ≡ true
values_by true other h = absurd (cc h)
values_by false other h = refl

every_full : (s : Settings) (passes : List (Made × Choice)) (o : Option Made) (n : Made) → o ≡ Some n → every_met s passes o ≡ true → is_thread n.default ≡ true → (s.reduce ≡ false) × (n.exploring ≡ true)
every_full s passes None n e h f = absurd (cc e)
every_full s passes (Some k) n e h f =
    let same : k ≡ n = cc e in
    let g : every_at s passes n ≡ true = subst (λ (x : Made). every_at s passes x ≡ true) same h in
    full_by (is_thread n.default) s.reduce n.exploring (is_below s.bound (count passes)) g f

every_values : (s : Settings) (passes : List (Made × Choice)) (o : Option Made) (n : Made) → o ≡ Some n → is_thread n.default ≡ false → every_met s passes o ≡ true
every_values s passes None n e f = absurd (cc e)
every_values s passes (Some k) n e f =
    let same : n ≡ k = cc e in
    subst (λ (x : Made). every_at s passes x ≡ true) same (values_by (is_thread n.default) (not s.reduce && n.exploring && is_below s.bound (count passes)) f)

-- the question that is asked there
pub record Asked (n : Made) : Type 0 where
  pub question : Question
  pub sound : IsSound question
  pub makes : made_of question ≡ n

module _ {A : Type 0} where
  pub met_ends : (tree : Tree A) (room : ℕ) (c : List Choice) → room ≤ length c → met room tree c ≡ None
  met_ends (Gives value) room c h = refl
  met_ends (Fails failure) room c h = refl
  met_ends (Closes rest) room c h = refl
  met_ends (Asks question branch) zero c h = refl
  met_ends (Asks question branch) (suc room) [] h = absurd (omega arith)
  met_ends (Asks question branch) (suc room) (x ∷ c) h = go (among x (made_of question).options) (met_ends (branch x) room c (omega arith))
    where
      go : (d : Dec (Among x (made_of question).options)) → met room (branch x) c ≡ None → pick d (met room (branch x) c) None ≡ None
      go (yes a) ih = ih
      go (no f) ih = refl

  pub met_asked : (tree : Tree A) (room : ℕ) (c : List Choice) (n : Made) → IsSoundTree tree → met room tree c ≡ Some n → Asked n
  met_asked (Gives value) room c n sound h = absurd (cc h)
  met_asked (Fails failure) room c n sound h = absurd (cc h)
  met_asked (Closes rest) room c n sound h = absurd (cc h)
  met_asked (Asks question branch) zero c n sound h = absurd (cc h)
  met_asked (Asks question branch) (suc room) [] n sound h = record { question = question; sound = sound.0; makes = cc h }
  met_asked (Asks question branch) (suc room) (x ∷ c) n sound h =
      go (among x (made_of question).options) h (λ a e. met_asked (branch x) room c n (sound.1 x a) e)
    where
      go : (d : Dec (Among x (made_of question).options)) → pick d (met room (branch x) c) None ≡ Some n
          → (Among x (made_of question).options → met room (branch x) c ≡ Some n → Asked n) → Asked n
      go (yes a) e ih = ih a e
      go (no f) e ih = absurd (cc e)

  -- what is passed on the way to a node, and with it
  pub met_passed : (tree : Tree A) (room : ℕ) (before : List Choice) (x : Choice) (after : List Choice) (n : Made) → met room tree before ≡ Some n
      → slice_get (passed tree (before ++ x ∷ after)) (length before) ≡ Some (n, x)
  met_passed (Gives value) room before x after n h = absurd (cc h)
  met_passed (Fails failure) room before x after n h = absurd (cc h)
  met_passed (Closes rest) room before x after n h = absurd (cc h)
  met_passed (Asks question branch) zero before x after n h = absurd (cc h)
  met_passed (Asks question branch) (suc room) [] x after n h = (let e : made_of question ≡ n = cc h in ap (λ (y : Made). Some (y, x)) e)
  met_passed (Asks question branch) (suc room) (y ∷ before) x after n h =
      go (among y (made_of question).options) h (λ e. met_passed (branch y) room before x after n e)
    where
      go : (d : Dec (Among y (made_of question).options)) → pick d (met room (branch y) before) None ≡ Some n
          → (met room (branch y) before ≡ Some n → slice_get (passed (branch y) (before ++ x ∷ after)) (length before) ≡ Some (n, x))
          → slice_get (passed (branch y) (before ++ x ∷ after)) (length before) ≡ Some (n, x)
      go (yes a) e ih = ih e
      go (no f) e ih = absurd (cc e)

-- ---- marks

abbrev Explores : List (Made × Choice) → ℕ → Type 0
Explores passes k = IsSomeAnd (slice_get passes k) (λ pass. pass.0.exploring ≡ true)

explores_on : (passes more : List (Made × Choice)) (k : ℕ) → Explores passes k → Explores (passes ++ more) k
explores_on [] more k h = absurd h
explores_on (pass ∷ passes) more zero h = h
explores_on (pass ∷ passes) more (suc k) h = explores_on passes more k h

either_true : (a b : Bool) → (a || b) ≡ true → (a ≡ true) ⊎ (b ≡ true)
either_true true b h = inl refl
either_true false b h = inr h

module _ {A : Type 0} (adds : Marking) (fair : IsMarking adds) where
  -- a mark was there before, or is at a node that explores
  marks_explore : (tree : Tree A) (marks : ℕ → Choice → Bool) (passes : List (Made × Choice)) (c : List Choice) (k : ℕ) (o : Choice)
      → marks_of adds marks passes tree c k o ≡ true → (marks k o ≡ true) ⊎ Explores (passes ++ passed tree c) k
  marks_explore (Gives value) marks passes c k o h = inl h
  marks_explore (Fails failure) marks passes c k o h = inl h
  marks_explore (Closes rest) marks passes c k o h = inl h
  marks_explore (Asks question branch) marks passes [] k o h = elim (either_true (adds passes question k o) (marks k o) h) [
    | inl e ↦ inr (explores_on passes [] k (fair passes question k o e))
    | inr e ↦ inl e
  ]
  marks_explore (Asks question branch) marks passes (x ∷ c) k o h =
      go (marks_explore (branch x) (marked_too (adds passes question) marks) (passes ++ (made_of question, x) ∷ []) c k o h)
    where
      go : (marked_too (adds passes question) marks k o ≡ true) ⊎ Explores ((passes ++ (made_of question, x) ∷ []) ++ passed (branch x) c) k
          → (marks k o ≡ true) ⊎ Explores (passes ++ (made_of question, x) ∷ passed (branch x) c) k
      go (inl e) = elim (either_true (adds passes question k o) (marks k o) e) [
        | inl f ↦ inr (explores_on passes ((made_of question, x) ∷ passed (branch x) c) k (fair passes question k o f))
        | inr f ↦ inl f
      ]
      go (inr e) = inr (subst (λ l. Explores l k) (append_assoc passes ((made_of question, x) ∷ []) (passed (branch x) c)) e)

  pub marked_explores : (s : Settings) (tree : Tree A) (before : List Choice) (x : Choice) (after : List Choice) (n : Made) (o : Choice)
      → met s.max_branches tree before ≡ Some n → marks_of adds no_marks [] tree (before ++ x ∷ after) (length before) o ≡ true → n.exploring ≡ true
  marked_explores s tree before x after n o h e = elim (marks_explore tree no_marks [] (before ++ x ∷ after) (length before) o e) [
    | inl f ↦ absurd (cc f)
    | inr f ↦ subst (λ (y : Option (Made × Choice)). IsSomeAnd y (λ pass. pass.0.exploring ≡ true)) (met_passed tree s.max_branches before x after n h) f
  ]

module _ {A : Type 0} where
  pub machine_law : MachineLaw A
  machine_law s adds tree sound fair = record {
    ends = λ c h. met_ends tree s.max_branches c h;
    default = λ c n h. let a = met_asked tree s.max_branches c n sound h in subst (λ (y : Made). Among y.default y.options) a.makes (sound_default a.question a.sound);
    few = λ c n h. let a = met_asked tree s.max_branches c n sound h in subst (λ (y : Made). length y.options ≤ 7) a.makes (sound_few a.question a.sound);
    full = λ c n h e f. every_full s (passed tree c) (met s.max_branches tree c) n h e f;
    values = λ c n h f. every_values s (passed tree c) (met s.max_branches tree c) n h f;
    marked = λ before c after n o h e. marked_explores adds fair s tree before c after n o h e;
  }
