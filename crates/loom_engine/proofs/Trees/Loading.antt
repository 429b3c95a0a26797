-- A path that was loaded: its first run meets its nodes, or parts from them.
use Rattle.std.proofs.Common.{◌≡◌, ◌≢◌, ℕ, zero, suc, ◌+◌, ◌<◌, ◌≤◌, Bool, true, false, ◌&&◌, List, [], ◌∷◌, ◌++◌, length, map, take, Some, None, refl, ap, ap₂, sym, ◌∙◌, subst, arith, append-nil, length-append}
use Rattle.std.specs.Prelude.{cond, nat_le, Result, Ok, Err}
use Rattle.loom_objects.specs.declared.choice.Choice.{Choice}
use Rattle.loom_objects.specs.Tree.Question.{Made, Among, Question, made_of}
use Rattle.loom_engine.specs.Walk.Machine.{Machine}
use Rattle.loom_engine.specs.Walk.Choices.{pick}
use Rattle.loom_engine.specs.Walk.Path.{Stored, choices, fresh}
use Rattle.loom_engine.specs.Walk.UnderWay.{IsUnderWay, begins, follows, makes, IsPartedAt}
use Rattle.loom_engine.proofs.Walk.Lists.{choices_append}
use Rattle.loom_engine.proofs.Walk.UnderWay.{over_law, parted}
use Rattle.loom_views.specs.declared.rt.failure.FailureKind.{FailureKind}
use Rattle.loom_views.specs.declared.rt.failure.FailureKind.TheVariants.{NotDeterministic}
use Rattle.loom_engine.specs.Trees.Comparing.{same_made}
use Rattle.loom_objects.specs.Tree.Tree.{Tree, Gives, Fails, Closes, Asks}
use Rattle.loom_engine.specs.Trees.Outcomes.{outcome, passed}
use Rattle.loom_engine.specs.Trees.Sound.{IsSoundTree}
use Rattle.loom_engine.specs.Trees.Meeting.{Settings, Marking, marked_too, no_marks, machine_of, every_at, every_met}
use Rattle.loom_engine.specs.Trees.Machines.{IsMarking}
use Rattle.loom_engine.specs.Trees.Drive.{Trail, pass_of, Answer, branch_at, branch, marked, backtrack, drive, drive_on, at_start, is_used_up}
use Rattle.loom_engine.specs.Trees.Check.{FirstRun, told_apart, all_met, fails_early, FirstRunLaw}
use Rattle.loom_engine.specs.Trees.Sound.{IsClosing}
use Rattle.loom_engine.proofs.Trees.Machines.{sound_default, machine_law}
use Rattle.loom_engine.proofs.Trees.Driving.{at_here, take_front, get_next, node_next, one_on, trail, passes_here, branch_stored, branch_new, AllOffer, offers_from, rest_offers, Split, split_marked, More, more_marks, marks_early, passes_size, passes_append, choices_size, Here, here_start, here_on}

branch_strange : (s : Settings) (front : List Stored) (n : Stored) (rest : List Stored) (question : Question) → (n.made ≡ made_of question → ⊥)
    → branch s (at_here front (n ∷ rest)) question ≡ (Err NotDeterministic, at_here front (n ∷ rest))
branch_strange s front n rest question f =
    ap (branch_at s (at_here front (n ∷ rest)) question) (get_next front n rest) ∙ go (same_made n.made (made_of question))
  where
    go : (d : Dec (n.made ≡ made_of question))
        → ◌≡◌ {A = Answer} (pick d (Ok n.present, record (at_here front (n ∷ rest)) { position = length front + 1 }) (Err NotDeterministic, at_here front (n ∷ rest)))
        (Err NotDeterministic, at_here front (n ∷ rest))
    go (yes e) = absurd (f e)
    go (no g) = refl

not_used : (front : List Stored) (n : Stored) (rest : List Stored) → is_used_up (at_here front (n ∷ rest)) ≡ false
not_used front n rest =
    let e = length-append front (n ∷ rest) in
    let f : nat_le (length (front ++ n ∷ rest)) (length front) ≡ false = grind arith in
    ap (λ (b : Bool). b && nat_le 0 (length front)) f

module _ {A : Type 0} (s : Settings) (adds : Marking) (root : Tree A) (sound : IsSoundTree root) (fair : IsMarking adds) (p : List Stored) where
  abbrev m : Machine
  m = machine_of s adds root

  -- how the run comes out
  data Comes (d : Result A FailureKind × Trail) : Type 0 where
    strange : (front rest : List Stored) → IsPartedAt m p (choices front) → d ≡ (Err NotDeterministic, at_here front rest) → Comes d
    whole : (left : List Stored) (marks : ℕ → Choice → Bool) → IsUnderWay m p (choices left) marks left → m.node (choices left) ≡ None → Comes d
    early : (front rest : List Stored) (failure : FailureKind) → IsPartedAt m p (choices front) → d ≡ (Err failure, at_here front rest)
        → outcome s.max_branches root (choices front) ≡ Some (Err failure) → Comes d

  abbrev Goes : Tree A → Type 0
  Goes sub = (room : ℕ) (front rest : List Stored) (t acc : ℕ → Choice → Bool)
      → Here s adds root room sub (choices front) (map pass_of front) acc → IsUnderWay m p (choices front) t (front ++ rest)
      → ((k : ℕ) (o : Choice) → t k o ≡ (s.reduce && acc k o)) → AllOffer rest → IsSoundTree sub → IsClosing sub → length rest ≤ room → Comes (drive s adds sub (at_here front rest))

  over_here : (front : List Stored) (t : ℕ → Choice → Bool) (d : Result A FailureKind × Trail) → IsUnderWay m p (choices front) t (front ++ []) → m.node (choices front) ≡ None → Comes d
  over_here front t d way over = whole front t (subst (λ q. IsUnderWay m p (choices front) t q) (append-nil front) way) over

  -- where the path's next node isn't the one that the run meets
  parted_here : (front rest : List Stored) (n : Stored) (t : ℕ → Choice → Bool) → IsUnderWay m p (choices front) t (front ++ n ∷ rest) → m.node (choices front) ≢ Some n.made → IsPartedAt m p (choices front)
  parted_here front rest n t way other = parted m p (front ++ n ∷ rest) (choices front) t n way (node_next front n rest) other

  goes_by : (question : Question) (branches : Choice → Tree A) (room : ℕ) (front : List Stored) (n : Stored) (rest : List Stored) (t acc : ℕ → Choice → Bool)
      → Here s adds root room (Asks question branches) (choices front) (map pass_of front) acc → IsUnderWay m p (choices front) t (front ++ n ∷ rest)
      → ((k : ℕ) (o : Choice) → t k o ≡ (s.reduce && marked_too (adds (map pass_of front) question) acc k o)) → AllOffer (n ∷ rest) → IsSoundTree (Asks question branches)
      → IsClosing (Asks question branches) → length (n ∷ rest) ≤ room
      → ((x : Choice) → Goes (branches x)) → Dec (n.made ≡ made_of question)
      → Comes (drive_on (λ choice after. drive s adds (branches choice) after) (branch s (at_here front (n ∷ rest)) question))
  unfolding AllOffer
  goes_by question branches zero front n rest t acc here way same offer wise shut fit ih d = absurd (omega (arith, fit))
  goes_by question branches (suc room) front n rest t acc here way same offer wise shut fit ih (no f) =
      subst (λ (y : Answer). Comes (drive_on (λ choice after. drive s adds (branches choice) after) y)) (sym (branch_strange s front n rest question f))
      (strange front (n ∷ rest) (parted_here front rest n t way (λ e. f (cc (e, some)))) refl)
    where
      some : m.node (choices front) ≡ Some (made_of question)
      some = ap m.node (sym (append-nil (choices front))) ∙ here.node []
  goes_by question branches (suc room) front n rest t acc here way same offer wise shut fit ih (yes is) =
      let some : m.node (choices front) ≡ Some (made_of question) = ap m.node (sym (append-nil (choices front))) ∙ here.node [] in
      let found : m.node (choices front) ≡ Some n.made = some ∙ ap Some (sym is) in
      let option : Among n.present (made_of question).options = subst (λ (y : Made). Among n.present y.options) is offer.0 in
      let chosen : choices (front ++ n ∷ []) ≡ choices front ++ n.present ∷ [] = choices_append front (n ∷ []) in
      let passing : map pass_of (front ++ n ∷ []) ≡ map pass_of front ++ (made_of question, n.present) ∷ [] =
      passes_append front n ∙ ap (λ (y : Made). map pass_of front ++ (y, n.present) ∷ []) is in
      let here_next = here_on s adds root room question branches (choices front) (map pass_of front) acc n.present here option in
      let here_there = subst (λ c. Here s adds root room (branches n.present) c (map pass_of (front ++ n ∷ [])) (marked_too (adds (map pass_of front) question) acc)) (sym chosen)
      (subst (λ l. Here s adds root room (branches n.present) (choices front ++ n.present ∷ []) l (marked_too (adds (map pass_of front) question) acc)) (sym passing) here_next) in
      let way_next : IsUnderWay m p (choices front ++ n.present ∷ []) t (front ++ n ∷ rest) = follows (choices front) t (front ++ n ∷ rest) n way (node_next front n rest) found in
      let way_there : IsUnderWay m p (choices (front ++ n ∷ [])) t ((front ++ n ∷ []) ++ rest) =
      subst (λ c. IsUnderWay m p c t ((front ++ n ∷ []) ++ rest)) (sym chosen) (subst (λ q. IsUnderWay m p (choices front ++ n.present ∷ []) t q) (sym (one_on front n rest)) way_next) in
      subst (λ (y : Answer). Comes (drive_on (λ choice after. drive s adds (branches choice) after) y)) (sym (branch_stored s front n rest question is))
      (ih n.present room (front ++ n ∷ []) rest t (marked_too (adds (map pass_of front) question) acc) here_there way_there same offer.1 (wise.1 n.present option) (shut n.present) (omega (arith, fit)))

  adds_by : (question : Question) (branches : Choice → Tree A) (room : ℕ) (front : List Stored) (t acc : ℕ → Choice → Bool)
      → Here s adds root room (Asks question branches) (choices front) (map pass_of front) acc → IsUnderWay m p (choices front) t (front ++ [])
      → ((k : ℕ) (o : Choice) → t k o ≡ (s.reduce && marked_too (adds (map pass_of front) question) acc k o)) → IsSoundTree (Asks question branches) → IsClosing (Asks question branches)
      → ((x : Choice) → Goes (branches x))
      → Comes (drive_on (λ choice after. drive s adds (branches choice) after) (branch s (at_here front []) question))
  unfolding AllOffer
  adds_by question branches zero front t acc here way same wise shut ih =
      over_here front t _ way (ap m.node (sym (append-nil (choices front))) ∙ here.node [])
  adds_by question branches (suc room) front t acc here way same wise shut ih =
      let n = made_of question in
      let all : choices front ++ [] ≡ choices front = append-nil (choices front) in
      let within : length front < s.max_branches = omega (arith, here.size, choices_size front) in
      let some : m.node (choices front) ≡ Some n = ap m.node (sym all) ∙ here.node [] in
      let passes : passed root (choices front) ≡ map pass_of front = ap (passed root) (sym all) ∙ here.passing [] ∙ append-nil (map pass_of front) in
      let each : m.every (choices front) ≡ every_at s (map pass_of front) n = ap₂ (every_met s) passes some in
      let x : Stored = fresh (every_at s (map pass_of front) n) n in
      let option : Among n.default n.options = sound_default question wise.0 in
      let chosen : choices (front ++ x ∷ []) ≡ choices front ++ n.default ∷ [] = choices_append front (x ∷ []) in
      let passing : map pass_of (front ++ x ∷ []) ≡ map pass_of front ++ (n, n.default) ∷ [] = passes_append front x in
      let here_next = here_on s adds root room question branches (choices front) (map pass_of front) acc n.default here option in
      let here_there = subst (λ c. Here s adds root room (branches n.default) c (map pass_of (front ++ x ∷ [])) (marked_too (adds (map pass_of front) question) acc)) (sym chosen)
      (subst (λ l. Here s adds root room (branches n.default) (choices front ++ n.default ∷ []) l (marked_too (adds (map pass_of front) question) acc)) (sym passing) here_next) in
      let way_next : IsUnderWay m p (choices front ++ n.default ∷ []) t ((front ++ []) ++ fresh (m.every (choices front)) n ∷ []) =
      makes (choices front) t (front ++ []) n way (ap choices (sym (append-nil front))) some in
      let joined : (front ++ []) ++ fresh (m.every (choices front)) n ∷ [] ≡ (front ++ x ∷ []) ++ [] =
      ap₂ (λ (l : List Stored) (b : Bool). l ++ fresh b n ∷ []) (append-nil front) each ∙ sym (append-nil (front ++ x ∷ [])) in
      let way_there : IsUnderWay m p (choices (front ++ x ∷ [])) t ((front ++ x ∷ []) ++ []) =
      subst (λ c. IsUnderWay m p c t ((front ++ x ∷ []) ++ [])) (sym chosen) (subst (λ q. IsUnderWay m p (choices front ++ n.default ∷ []) t q) joined way_next) in
      subst (λ (y : Answer). Comes (drive_on (λ choice after. drive s adds (branches choice) after) y)) (sym (branch_new s front question within))
      (ih n.default room (front ++ x ∷ []) [] t (marked_too (adds (map pass_of front) question) acc) here_there way_there same tt (wise.1 n.default option) (shut n.default) (omega arith))

  asks_by : (question : Question) (branches : Choice → Tree A) (room : ℕ) (front rest : List Stored) (t acc : ℕ → Choice → Bool)
      → Here s adds root room (Asks question branches) (choices front) (map pass_of front) acc → IsUnderWay m p (choices front) t (front ++ rest)
      → ((k : ℕ) (o : Choice) → t k o ≡ (s.reduce && marked_too (adds (map pass_of front) question) acc k o)) → AllOffer rest → IsSoundTree (Asks question branches)
      → IsClosing (Asks question branches) → length rest ≤ room → ((x : Choice) → Goes (branches x))
      → Comes (drive_on (λ choice after. drive s adds (branches choice) after) (branch s (at_here front rest) question))
  asks_by question branches room front [] t acc here way same offer wise shut fit ih = adds_by question branches room front t acc here way same wise shut ih
  asks_by question branches room front (n ∷ rest) t acc here way same offer wise shut fit ih =
      goes_by question branches room front n rest t acc here way same offer wise shut fit ih (same_made n.made (made_of question))

  marks_by : (question : Question) (branches : Choice → Tree A) (room : ℕ) (front rest : List Stored) (t acc : ℕ → Choice → Bool)
      → Here s adds root room (Asks question branches) (choices front) (map pass_of front) acc → IsUnderWay m p (choices front) t (front ++ rest)
      → ((k : ℕ) (o : Choice) → t k o ≡ (s.reduce && acc k o)) → AllOffer rest → IsSoundTree (Asks question branches) → IsClosing (Asks question branches) → length rest ≤ room
      → ((x : Choice) → Goes (branches x))
      → Comes (drive s adds (Asks question branches) (at_here front rest))
  marks_by question branches room front rest t acc here way same offer wise shut fit ih =
      go (split_marked s.reduce (adds (map pass_of front) question) front rest offer)
      (more_marks m p (choices front) (front ++ rest) s.reduce (adds (map pass_of front) question) t acc way same
      (λ k o h. omega (arith, marks_early adds fair (map pass_of front) question k o h, passes_size front)))
    where
      go : Split front rest (marked s.reduce (adds (map pass_of front) question) (front ++ rest))
          → More m p (choices front) (marked s.reduce (adds (map pass_of front) question) (front ++ rest)) s.reduce (marked_too (adds (map pass_of front) question) acc)
          → Comes (drive s adds (Asks question branches) (at_here front rest))
      go z y =
          let there : backtrack s adds (at_here front rest) question ≡ at_here z.first z.others =
          ap₂ (λ (l : List (Made × Choice)) (k : ℕ). trail (marked s.reduce (adds l question) (front ++ rest)) k) (passes_here front rest) (sym z.size)
          ∙ ap (λ l. trail l (length z.first)) z.joined in
          let here_there = subst (λ c. Here s adds root room (Asks question branches) c (map pass_of z.first) acc) (sym z.same_choices)
          (subst (λ l. Here s adds root room (Asks question branches) (choices front) l acc) (sym z.same_passes) here) in
          let way_there = subst (λ c. IsUnderWay m p c y.marks (z.first ++ z.others)) (sym z.same_choices)
          (subst (λ q. IsUnderWay m p (choices front) y.marks q) z.joined y.way) in
          let same_there : (k : ℕ) (o : Choice) → y.marks k o ≡ (s.reduce && marked_too (adds (map pass_of z.first) question) acc k o) =
          (λ k o. y.same k o ∙ ap (λ (l : List (Made × Choice)). s.reduce && marked_too (adds l question) acc k o) (sym z.same_passes)) in
          subst (λ (path : Trail). Comes (drive_on (λ choice after. drive s adds (branches choice) after) (branch s path question))) (sym there)
          (asks_by question branches room z.first z.others y.marks acc here_there way_there same_there z.offer wise shut (omega (arith, fit, z.rest_size)) ih)

  comes : (sub : Tree A) → Goes sub
  comes (Gives value) room front rest t acc here way same offer wise shut fit = absurd shut
  comes (Fails failure) room front [] t acc here way same offer wise shut fit = over_here front t _ way (ap m.node (sym (append-nil (choices front))) ∙ here.node [])
  comes (Fails failure) room front (n ∷ rest) t acc here way same offer wise shut fit =
      early front (n ∷ rest) failure (parted_here front rest n t way (λ e. cc (e, ended))) refl (ap (outcome s.max_branches root) (sym (append-nil (choices front))) ∙ here.ending [])
    where
      ended : m.node (choices front) ≡ None
      ended = ap m.node (sym (append-nil (choices front))) ∙ here.node []
  comes (Closes later) room front [] t acc here way same offer wise shut fit = over_here front t _ way (ap m.node (sym (append-nil (choices front))) ∙ here.node [])
  comes (Closes later) room front (n ∷ rest) t acc here way same offer wise shut fit =
      strange front (n ∷ rest) (parted_here front rest n t way (λ e. cc (e, ended)))
      (ap (λ (b : Bool). cond b (drive s adds later (at_here front (n ∷ rest))) (Err NotDeterministic, at_here front (n ∷ rest))) (not_used front n rest))
    where
      ended : m.node (choices front) ≡ None
      ended = ap m.node (sym (append-nil (choices front))) ∙ here.node []
  comes (Asks question branches) room front rest t acc here way same offer wise shut fit =
      marks_by question branches room front rest t acc here way same offer wise shut fit (λ x. comes (branches x))

module _ {A : Type 0} where
  pub first_run_law : FirstRunLaw A
  first_run_law s adds tree p sound fair shut rests fit =
      go (comes s adds tree sound fair p tree s.max_branches [] p (λ k o. false) no_marks (here_start s adds tree) begins
      (λ k o. no_and s.reduce) (offers_from p (λ before n e. rest_offers n (rests before n e))) sound shut fit)
    where
      no_and : (b : Bool) → false ≡ (b && false)
      no_and true = refl
      no_and false = refl

      d : Result A FailureKind × Trail
      d = drive s adds tree (at_start p)

      -- the choices that were passed
      front_is : (o : Result A FailureKind) (front rest : List Stored) → d ≡ (o, at_here front rest) → choices (take d.1.position d.1.nodes) ≡ choices front
      front_is o front rest e = ap (λ (y : Result A FailureKind × Trail). choices (take y.1.position y.1.nodes)) e ∙ ap choices (take_front front rest)

      go : Comes s adds tree sound fair p d → FirstRun s adds tree p d
      go (strange front rest apart e) =
          told_apart (subst (IsPartedAt (machine_of s adds tree) p) (sym (front_is (Err NotDeterministic) front rest e)) apart) (ap (λ (y : Result A FailureKind × Trail). y.0) e)
      go (whole left marks way over) =
          all_met (record { meets = (over_law (machine_of s adds tree) p left (choices left) marks (machine_law s adds tree sound fair) way over refl).0; rest = rests })
      go (early front rest failure apart e g) =
          let same = front_is (Err failure) front rest e in
          fails_early (subst (IsPartedAt (machine_of s adds tree) p) (sym same) apart) failure (ap (λ (y : Result A FailureKind × Trail). y.0) e)
          (ap (outcome s.max_branches tree) same ∙ g)
