-- A path that is to follow choices makes the replayed run, and has its outcome.
use Rattle.std.proofs.Common.{◌≡◌, ◌⊎◌, ℕ, zero, suc, ◌+◌, ◌<◌, ◌≤◌, Bool, List, [], ◌∷◌, ◌++◌, length, Some, None, refl, ap, ap₂, sym, ◌∙◌, subst, inl, inr, arith, append-nil, length-append}
use Rattle.std.specs.Prelude.{slice_get, cond, Result, Ok, Err}
use Rattle.std.proofs.lemmas.Option.{slice_get_past}
use Rattle.loom_objects.specs.declared.choice.Choice.{Choice}
use Rattle.loom_objects.specs.Tree.Question.{Made, Among, Question, made_of}
use Rattle.loom_objects.specs.Tree.Tree.{Tree, Gives, Fails, Closes, Asks}
use Rattle.loom_views.specs.declared.rt.failure.FailureKind.{FailureKind}
use Rattle.loom_views.specs.declared.rt.failure.FailureKind.TheVariants.{NotDeterministic, TooManyBranches}
use Rattle.loom_engine.specs.Walk.Machine.{run}
use Rattle.loom_engine.specs.Walk.Choices.{among, pick}
use Rattle.loom_engine.specs.Walk.Path.{Stored, choices, fresh}
use Rattle.loom_engine.specs.Walk.Lists.{IsAllowed}
use Rattle.loom_engine.specs.Trees.Outcomes.{met, outcome}
use Rattle.loom_engine.specs.Trees.Sound.{IsQuiet, IsSoundTree}
use Rattle.loom_engine.specs.Trees.Meeting.{Settings, Marking, machine_of, every_at}
use Rattle.loom_engine.specs.Trees.Drive.{Trail, passes_of, Answer, new_node, made_at, branch, drive, drive_on}
use Rattle.loom_engine.specs.Trees.Check.{following}
use Rattle.loom_engine.specs.Trees.Replay.{before, replayed}
use Rattle.loom_engine.specs.Trees.Replays.{ReplayFollowsLaw, AllowedReplayLaw}
use Rattle.loom_engine.specs.Trees.Reports.{RefusedReplayLaw}
use Rattle.loom_engine.specs.Trees.Sound.{IsFair}
use Rattle.loom_engine.proofs.Walk.Lists.{choices_append, snoc_append}
use Rattle.loom_engine.proofs.Trees.Machines.{sound_default}
use Rattle.loom_engine.proofs.Trees.Driving.{pick_yes, choices_size}
use Rattle.loom_engine.proofs.Trees.Replaying.{passed_to, get_at, at_present, made_by, full_by, used_by, backtracked, replay_law}
use Rattle.loom_engine.proofs.Trees.Checking.{quiet_none}
use Rattle.loom_engine.proofs.Trees.Given.{nothing_after, refuses, not_used}

-- ---- the drive

module _ {A : Type 0} (s : Settings) (adds : Marking) (root : Tree A) (c : List Choice) where
  -- after these choices the drive makes the choices that the replayed run makes, and has its outcome
  record Replays (from : List Choice) (r : List Choice × Result A FailureKind) (d : Result A FailureKind × Trail) : Type 0 where
    comes : d.0 ≡ r.1
    made : choices d.1.nodes ≡ from ++ r.0
    all_passed : d.1.position ≡ length d.1.nodes

  ends_at : (nodes : List Stored) (o : Result A FailureKind) → Replays (choices nodes) ([], o) (o, passed_to c nodes)
  ends_at nodes o = record { comes = refl; made = sym (append-nil (choices nodes)); all_passed = refl }

  -- one choice more
  chooses : (nodes : List Stored) (n : Stored) (x : Choice) (r : List Choice × Result A FailureKind) (d : Result A FailureKind × Trail) → n.present ≡ x
      → Replays (choices (nodes ++ n ∷ [])) r d → Replays (choices nodes) (before x r) d
  chooses nodes n x r d e z = record {
    comes = z.comes;
    made = z.made ∙ ap (λ l. l ++ r.0) (choices_append nodes (n ∷ [])) ∙ snoc_append (choices nodes) n.present r.0 ∙ ap (λ y. choices nodes ++ y ∷ r.0) e;
    all_passed = z.all_passed;
  }

  -- the same at choices that are equal
  from_same : (a b : List Choice) (r : List Choice × Result A FailureKind) (d : Result A FailureKind × Trail) → a ≡ b → Replays a r d → Replays b r d
  from_same a b r d e z = subst (λ l. Replays l r d) e z

  -- past the choices that were given
  abbrev GoesOn : Tree A → Type 0
  GoesOn sub = (room : ℕ) (nodes : List Stored) → room + length nodes ≡ s.max_branches → length c ≤ length nodes
      → Replays (choices nodes) (replayed room sub []) (drive s adds sub (passed_to c nodes))

  asks_on : (question : Question) (branches : Choice → Tree A) (room : ℕ) (nodes : List Stored) → room + length nodes ≡ s.max_branches → length c ≤ length nodes
      → ((x : Choice) → GoesOn (branches x))
      → Replays (choices nodes) (replayed room (Asks question branches) []) (drive_on (λ choice after. drive s adds (branches choice) after) (branch s (passed_to c nodes) question))
  asks_on question branches zero nodes size past ih =
      let full : s.max_branches ≤ length nodes = omega arith in
      subst (λ (y : Answer). Replays (choices nodes) ([], Err TooManyBranches) (drive_on (λ choice after. drive s adds (branches choice) after) y)) (sym (full_by s c nodes question full))
      (ends_at nodes (Err TooManyBranches))
  asks_on question branches (suc room) nodes size past ih =
      let n = made_of question in
      let within : length nodes < s.max_branches = omega arith in
      let none : slice_get c (length nodes) ≡ None = slice_get_past c (length nodes) past in
      let x : Stored = fresh (every_at s (passes_of (passed_to c nodes)) n) n in
      let r = replayed room (branches n.default) [] in
      let longer : length (nodes ++ x ∷ []) ≡ suc (length nodes) = omega (arith, length-append nodes (x ∷ [])) in
      subst (λ (y : Answer). Replays (choices nodes) (before n.default r) (drive_on (λ choice after. drive s adds (branches choice) after) y)) (sym (made_by s c nodes question None x within none refl))
      (chooses nodes x n.default r _ refl (ih n.default room (nodes ++ x ∷ []) (omega arith) (omega arith)))

  goes_on : (sub : Tree A) → GoesOn sub
  goes_on (Gives value) room nodes size past = ends_at nodes (Ok value)
  goes_on (Fails failure) room nodes size past = ends_at nodes (Err failure)
  goes_on (Closes later) room nodes size past =
      subst (λ (b : Bool). Replays (choices nodes) (replayed room later []) (cond b (drive s adds later (passed_to c nodes)) (Err NotDeterministic, passed_to c nodes))) (sym (used_by c nodes past))
      (goes_on later room nodes size past)
  goes_on (Asks question branches) room nodes size past =
      let b = backtracked s adds root c nodes question in
      let same_size : length b.0 ≡ length nodes = omega (arith, ap length b.2, choices_size b.0, choices_size nodes) in
      subst (λ (path : Trail). Replays (choices nodes) (replayed room (Asks question branches) []) (drive_on (λ choice after. drive s adds (branches choice) after) (branch s path question))) (sym b.1)
      (from_same (choices b.0) (choices nodes) _ _ b.2 (asks_on question branches room b.0 (omega arith) (omega arith) (λ x. goes_on (branches x))))

  -- while choices are left
  abbrev Takes : Tree A → Type 0
  Takes sub = (room : ℕ) (nodes : List Stored) (rest : List Choice) → room + length nodes ≡ s.max_branches → c ≡ choices nodes ++ rest
      → Replays (choices nodes) (replayed room sub rest) (drive s adds sub (passed_to c nodes))

  none_left : (sub : Tree A) (room : ℕ) (nodes : List Stored) → room + length nodes ≡ s.max_branches → c ≡ choices nodes ++ []
      → Replays (choices nodes) (replayed room sub []) (drive s adds sub (passed_to c nodes))
  none_left sub room nodes size given =
      goes_on sub room nodes size (omega (arith, ap length (given ∙ append-nil (choices nodes)), choices_size nodes))

  takes_next : (question : Question) (branches : Choice → Tree A) (room : ℕ) (nodes : List Stored) (x : Choice) (rest : List Choice) → room + length nodes ≡ s.max_branches
      → c ≡ choices nodes ++ x ∷ rest → ((y : Choice) → Takes (branches y))
      → Replays (choices nodes) (replayed room (Asks question branches) (x ∷ rest)) (drive_on (λ choice after. drive s adds (branches choice) after) (branch s (passed_to c nodes) question))
  takes_next question branches zero nodes x rest size given ih =
      let full : s.max_branches ≤ length nodes = omega arith in
      subst (λ (y : Answer). Replays (choices nodes) ([], Err TooManyBranches) (drive_on (λ choice after. drive s adds (branches choice) after) y)) (sym (full_by s c nodes question full))
      (ends_at nodes (Err TooManyBranches))
  takes_next question branches (suc room) nodes x rest size given ih =
      go (among x n.options)
    where
      n : Made
      n = made_of question

      within : length nodes < s.max_branches
      within = omega arith

      read : slice_get c (length nodes) ≡ Some x
      read = ap₂ (λ (l : List Choice) (i : ℕ). slice_get l i) given (sym (choices_size nodes)) ∙ get_at (choices nodes) x rest

      each : Bool
      each = every_at s (passes_of (passed_to c nodes)) n

      k : Stored
      k = made_at each n x

      go : (d : Dec (Among x n.options))
          → Replays (choices nodes) (pick d (before x (replayed room (branches x) rest)) ([], Err NotDeterministic))
          (drive_on (λ choice after. drive s adds (branches choice) after) (branch s (passed_to c nodes) question))
      go (no f) =
          subst (λ (y : Answer). Replays (choices nodes) ([], Err NotDeterministic) (drive_on (λ choice after. drive s adds (branches choice) after) y))
          (sym (refuses s adds root c nodes question x within read f)) (ends_at nodes (Err NotDeterministic))
      go (yes option) =
          let new : new_node each n (Some x) ≡ Some k = pick_yes (among x n.options) _ _ option in
          let said : branch s (passed_to c nodes) question ≡ (Ok x, passed_to c (nodes ++ k ∷ [])) =
          made_by s c nodes question (Some x) k within read new ∙ ap (λ (y : Choice). (Ok y, passed_to c (nodes ++ k ∷ []))) (at_present each n x) in
          let r = replayed room (branches x) rest in
          let longer : length (nodes ++ k ∷ []) ≡ suc (length nodes) = omega (arith, length-append nodes (k ∷ [])) in
          let left : c ≡ choices (nodes ++ k ∷ []) ++ rest =
          given ∙ sym (snoc_append (choices nodes) x rest) ∙ ap (λ l. l ++ rest) (sym (choices_append nodes (k ∷ []) ∙ ap (λ y. choices nodes ++ y ∷ []) (at_present each n x))) in
          subst (λ (y : Answer). Replays (choices nodes) (before x r) (drive_on (λ choice after. drive s adds (branches choice) after) y)) (sym said)
          (chooses nodes k x r _ (at_present each n x) (ih x room (nodes ++ k ∷ []) rest (omega arith) left))

  takes : (sub : Tree A) → Takes sub
  takes sub room nodes [] size given = none_left sub room nodes size given
  takes (Gives value) room nodes (x ∷ rest) size given = ends_at nodes (Ok value)
  takes (Fails failure) room nodes (x ∷ rest) size given = ends_at nodes (Err failure)
  takes (Closes later) room nodes (x ∷ rest) size given =
      let shorter : length nodes < length c = omega (arith, ap length given, length-append (choices nodes) (x ∷ rest), choices_size nodes) in
      subst (λ (b : Bool). Replays (choices nodes) ([], Err NotDeterministic) (cond b (drive s adds later (passed_to c nodes)) (Err NotDeterministic, passed_to c nodes)))
      (sym (not_used s adds root c nodes shorter)) (ends_at nodes (Err NotDeterministic))
  takes (Asks question branches) room nodes (x ∷ rest) size given =
      let b = backtracked s adds root c nodes question in
      let same_size : length b.0 ≡ length nodes = omega (arith, ap length b.2, choices_size b.0, choices_size nodes) in
      subst (λ (path : Trail). Replays (choices nodes) (replayed room (Asks question branches) (x ∷ rest)) (drive_on (λ choice after. drive s adds (branches choice) after) (branch s path question))) (sym b.1)
      (from_same (choices b.0) (choices nodes) _ _ b.2
      (takes_next question branches room b.0 x rest (omega arith) (given ∙ ap (λ l. l ++ x ∷ rest) (sym b.2)) (λ y. takes (branches y))))

module _ {A : Type 0} where
  pub replay_follows_law : ReplayFollowsLaw A
  replay_follows_law s adds tree given =
      let z = takes s adds tree given tree s.max_branches [] given (omega arith) refl in
      let d = drive s adds tree (following given) in
      record { path = d.1; drives = ap (λ (o : Result A FailureKind). (o, d.1)) z.comes; made = z.made; all_passed = z.all_passed }

  -- what a path that was to follow choices has made and come to is the replay
  pub replayed_as : (s : Settings) (adds : Marking) (tree : Tree A) (given : List Choice) (o : Result A FailureKind) (path : Trail)
      → drive s adds tree (following given) ≡ (o, path) → (replayed s.max_branches tree given ≡ (choices path.nodes, o)) × (path.position ≡ length path.nodes)
  replayed_as s adds tree given o path h =
      let z = replay_follows_law s adds tree given in
      let r = replayed s.max_branches tree given in
      let e : (r.1, z.path) ≡ (o, path) = sym z.drives ∙ h in
      let same : r.1 ≡ o = ap (λ (d : Result A FailureKind × Trail). d.0) e in
      let there : z.path ≡ path = ap (λ (d : Result A FailureKind × Trail). d.1) e in (
        ap₂ (λ (l : List Choice) (y : Result A FailureKind). (l, y)) (sym z.made ∙ ap (λ (y : Trail). choices y.nodes) there) same,
        subst (λ (y : Trail). y.position ≡ length y.nodes) there z.all_passed,
      )

-- ---- allowed choices

module _ {A : Type 0} where
  -- where nothing is asked
  quiet_replay : (sub : Tree A) (room : ℕ) (c : List Choice) (o : Result A FailureKind) → IsQuiet sub → outcome room sub c ≡ Some o → replayed room sub c ≡ (c, o)
  quiet_replay (Gives value) room [] o q h = ap (λ (y : Result A FailureKind). ([], y)) (cc h)
  quiet_replay (Gives value) room (x ∷ c) o q h = absurd (cc h)
  quiet_replay (Fails failure) room [] o q h = ap (λ (y : Result A FailureKind). ([], y)) (cc h)
  quiet_replay (Fails failure) room (x ∷ c) o q h = absurd (cc h)
  quiet_replay (Closes rest) room [] o q h = quiet_replay rest room [] o q h
  quiet_replay (Closes rest) room (x ∷ c) o q h = absurd (quiet_none rest room x c o q h)
  quiet_replay (Asks question branches) room c o q h = absurd q

  -- the choices of a whole run replay to it
  pub whole_replay : (sub : Tree A) (room : ℕ) (c : List Choice) (o : Result A FailureKind) → IsSoundTree sub → outcome room sub c ≡ Some o → replayed room sub c ≡ (c, o)
  whole_replay (Gives value) room c o sound h = quiet_replay (Gives value) room c o tt h
  whole_replay (Fails failure) room c o sound h = quiet_replay (Fails failure) room c o tt h
  whole_replay (Closes rest) room c o sound h = quiet_replay (Closes rest) room c o sound h
  whole_replay (Asks question branches) zero [] o sound h = ap (λ (y : Result A FailureKind). ([], y)) (cc h)
  whole_replay (Asks question branches) zero (x ∷ c) o sound h = absurd (cc h)
  whole_replay (Asks question branches) (suc room) [] o sound h = absurd (cc h)
  whole_replay (Asks question branches) (suc room) (x ∷ c) o sound h =
      go (among x (made_of question).options) h (λ a e. whole_replay (branches x) room c o (sound.1 x a) e)
    where
      go : (d : Dec (Among x (made_of question).options)) → pick d (outcome room (branches x) c) None ≡ Some o
          → (Among x (made_of question).options → outcome room (branches x) c ≡ Some o → replayed room (branches x) c ≡ (c, o))
          → pick d (before x (replayed room (branches x) c)) ([], Err NotDeterministic) ≡ (x ∷ c, o)
      go (yes a) e ih = ap (before x) (ih a e)
      go (no f) e ih = absurd (cc e)

  pub allowed_replay_law : AllowedReplayLaw A
  allowed_replay_law s adds tree given sound marking = (by_allowed, λ o h. whole_replay tree s.max_branches given o sound h)
    where
      by_allowed : IsAllowed (machine_of s adds tree) given
          → ((replayed s.max_branches tree given).0 ≡ run (machine_of s adds tree) given)
          × (outcome s.max_branches tree (run (machine_of s adds tree) given) ≡ Some (replayed s.max_branches tree given).1)
      by_allowed allowed =
          let f = replay_follows_law s adds tree given in
          let r = replay_law s adds tree given sound marking allowed in (
            sym f.made ∙ ap (λ (d : Result A FailureKind × Trail). choices d.1.nodes) (sym f.drives) ∙ r.0,
            r.1 ∙ ap (λ (d : Result A FailureKind × Trail). Some d.0) f.drives,
          )

-- ---- refused choices

module _ {A : Type 0} where
  -- a run that takes defaults alone refuses nothing
  quiet_fair : (sub : Tree A) (room : ℕ) → IsQuiet sub → IsFair sub → (replayed room sub []).1 ≡ Err NotDeterministic → ⊥
  quiet_fair (Gives value) room q fair h = cc h
  quiet_fair (Fails failure) room q fair h = fair (cc h)
  quiet_fair (Closes rest) room q fair h = quiet_fair rest room q fair h
  quiet_fair (Asks question branches) room q fair h = absurd q

  defaults_fair : (sub : Tree A) (room : ℕ) → IsSoundTree sub → IsFair sub → (replayed room sub []).1 ≡ Err NotDeterministic → ⊥
  defaults_fair (Gives value) room sound fair h = cc h
  defaults_fair (Fails failure) room sound fair h = fair (cc h)
  defaults_fair (Closes rest) room sound fair h = quiet_fair rest room sound fair h
  defaults_fair (Asks question branches) zero sound fair h = cc h
  defaults_fair (Asks question branches) (suc room) sound fair h =
      let option = sound_default question sound.0 in
      defaults_fair (branches (made_of question).default) room (sound.1 (made_of question).default option) (fair (made_of question).default option) h

  -- where a list of choices is refused by a tree
  record RefusedBy (room : ℕ) (sub : Tree A) (c made : List Choice) : Type 0 where
    choice : Choice
    rest : List Choice
    splits : c ≡ made ++ choice ∷ rest
    allowed : (front : List Choice) (o : Choice) (after : List Choice) → made ≡ front ++ o ∷ after → (n : Made) × (met room sub front ≡ Some n) × Among o n.options
    refused : (met room sub made ≡ None) ⊎ ((n : Made) × (met room sub made ≡ Some n) × (Among choice n.options → ⊥))

  refused_by : (sub : Tree A) (room : ℕ) (c : List Choice) → IsSoundTree sub → IsFair sub → (replayed room sub c).1 ≡ Err NotDeterministic → RefusedBy room sub c (replayed room sub c).0
  refused_by sub room [] sound fair h = absurd (defaults_fair sub room sound fair h)
  refused_by (Gives value) room (x ∷ c) sound fair h = absurd (cc h)
  refused_by (Fails failure) room (x ∷ c) sound fair h = absurd (fair (cc h))
  refused_by (Closes later) room (x ∷ c) sound fair h = record {
    choice = x;
    rest = c;
    splits = refl;
    allowed = λ front o after e. absurd (nothing_after front o after e);
    refused = inl refl;
  }
  refused_by (Asks question branches) zero (x ∷ c) sound fair h = absurd (cc h)
  refused_by (Asks question branches) (suc room) (x ∷ c) sound fair h =
      go (among x (made_of question).options) h (λ a e. refused_by (branches x) room c (sound.1 x a) (fair x a) e)
    where
      first : (made : List Choice) → RefusedBy room (branches x) c made → Among x (made_of question).options → RefusedBy (suc room) (Asks question branches) (x ∷ c) (x ∷ made)
      first made z a = record {
        choice = z.choice;
        rest = z.rest;
        splits = ap (λ l. x ∷ l) z.splits;
        allowed = allowed;
        refused = elim z.refused [ inl e ↦ inl (met_on made ∙ e) | inr e ↦ inr (e.0, met_on made ∙ e.1, e.2) ];
      }
        where
          met_on : (l : List Choice) → met (suc room) (Asks question branches) (x ∷ l) ≡ met room (branches x) l
          met_on l = pick_yes (among x (made_of question).options) _ _ a

          allowed : (front : List Choice) (o : Choice) (after : List Choice) → x ∷ made ≡ front ++ o ∷ after
              → (n : Made) × (met (suc room) (Asks question branches) front ≡ Some n) × Among o n.options
          allowed [] o after e = (made_of question, refl, subst (λ y. Among y (made_of question).options) (cc e) a)
          allowed (y ∷ front) o after e =
              let same : x ≡ y = cc e in
              let w = z.allowed front o after (cc e) in
              (w.0, ap (λ b. met (suc room) (Asks question branches) (b ∷ front)) (sym same) ∙ met_on front ∙ w.1, w.2)

      go : (d : Dec (Among x (made_of question).options)) → (pick d (before x (replayed room (branches x) c)) ([], Err NotDeterministic)).1 ≡ Err NotDeterministic
          → (Among x (made_of question).options → (replayed room (branches x) c).1 ≡ Err NotDeterministic → RefusedBy room (branches x) c (replayed room (branches x) c).0)
          → RefusedBy (suc room) (Asks question branches) (x ∷ c) (pick d (before x (replayed room (branches x) c)) ([], Err NotDeterministic)).0
      go (yes a) e ih = first (replayed room (branches x) c).0 (ih a e) a
      go (no f) e ih = record {
        choice = x;
        rest = c;
        splits = refl;
        allowed = λ front o after g. absurd (nothing_after front o after g);
        refused = inr (made_of question, refl, f);
      }

  pub refused_replay_law : RefusedReplayLaw A
  refused_replay_law s adds tree given sound fair h =
      let z = refused_by tree s.max_branches given sound fair h in
      record { choice = z.choice; rest = z.rest; splits = z.splits; allowed = z.allowed; refused = z.refused }
