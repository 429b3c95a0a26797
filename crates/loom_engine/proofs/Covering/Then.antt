-- A path drives through one tree that is cut and then through another.
use Rattle.std.proofs.Common.{◌≡◌, ◌≤◌, ◌<◌, ◌+◌, ℕ, zero, suc, arith, add-one, Bool, true, false, cond, List, [], ◌∷◌, ◌++◌, take, length, Option, Some, None, Result, Ok, Err, slice_get, nat_lt, refl, ap, ◌∙◌, subst}
use Rattle.loom_objects.specs.declared.choice.Choice.{Choice}
use Rattle.loom_objects.specs.Tree.Question.{Question, made_of}
use Rattle.loom_objects.specs.Tree.Tree.{Tree, Gives, Fails, Closes, Asks, ◌>>=◌}
use Rattle.loom_engine.specs.Walk.Choices.{pick}
use Rattle.loom_engine.specs.Walk.Path.{Stored, choices, node_at}
use Rattle.loom_engine.specs.Trees.Comparing.{same_made}
use Rattle.loom_engine.specs.Trees.Meeting.{Marking, whole_search, every_at}
use Rattle.loom_engine.specs.Trees.Drive.{Trail, Answer, drive, drive_on, branch, branch_at, lengthen, follow, new_node, is_used_up, passes_of}
use Rattle.loom_engine.proofs.Walk.Lists.{choices_append, node_on}
use Rattle.loom_engine.proofs.Walk.After.{append_there}
use Rattle.loom_views.specs.declared.rt.failure.FailureKind.{FailureKind}
use Rattle.loom_views.specs.declared.rt.failure.FailureKind.TheVariants.{NotDeterministic, TooManyBranches}
use Rattle.loom_engine.specs.Covering.Cut.{cut, passed, onward, ThenLaw}

-- ---- a path passes one node

take_at : (xs : List Stored) (i : ℕ) (n : Stored) → slice_get xs i ≡ Some n → (take (suc i) xs ≡ take i xs ++ n ∷ []) × (i < length xs)
take_at [] i n h = absurd (cc h)
take_at (x ∷ xs) zero n h = (ap (λ y. y ∷ []) (cc h), omega arith)
take_at (x ∷ xs) (suc i) n h = let z = take_at xs i n h in (ap (λ l. x ∷ l) z.0, omega (arith, z.1))

take_end : (xs : List Stored) (i : ℕ) (n : Stored) → slice_get xs i ≡ None → i ≤ length xs → (take (suc i) (xs ++ n ∷ []) ≡ take i xs ++ n ∷ []) × (suc i ≤ length (xs ++ n ∷ []))
take_end [] zero n h l = (refl, omega arith)
take_end [] (suc i) n h l = absurd (omega (arith, l))
take_end (x ∷ xs) zero n h l = absurd (cc h)
take_end (x ∷ xs) (suc i) n h l = let z = take_end xs i n h (omega arith) in (ap (λ l. x ∷ l) z.0, omega (arith, z.1))

placed : (xs : List Stored) (i : ℕ) (n : Stored) → slice_get xs i ≡ Some n → node_at xs (choices (take i xs)) ≡ Some n
unfolding node_at
placed [] i n h = absurd (cc h)
placed (x ∷ xs) zero n h = h
placed (x ∷ xs) (suc i) n h = node_on x xs x.present (choices (take i xs)) refl ∙ placed xs i n h

placed_end : (xs : List Stored) (i : ℕ) (n : Stored) → slice_get xs i ≡ None → i ≤ length xs → node_at (xs ++ n ∷ []) (choices (take i xs)) ≡ Some n
unfolding node_at
placed_end [] zero n h l = refl
placed_end [] (suc i) n h l = absurd (omega (arith, l))
placed_end (x ∷ xs) zero n h l = absurd (cc h)
placed_end (x ∷ xs) (suc i) n h l = node_on x (xs ++ n ∷ []) x.present (choices (take i xs)) refl ∙ placed_end xs i n h (omega arith)

-- The path has passed one choice more, at a node that is where it was, and is passed no further than it goes. What was in
-- it is there still.
pub record Passes (path : Trail) (choice : Choice) (mid : Trail) : Type 0 where
  pub choices : passed mid ≡ passed path ++ choice ∷ []
  pub within : mid.position ≤ length mid.nodes
  pub node : Stored
  pub at : node_at mid.nodes (passed path) ≡ Some node
  pub kept : (b : List Choice) (k : Stored) → node_at path.nodes b ≡ Some k → node_at mid.nodes b ≡ Some k

one_more : (path : Trail) (mid : Trail) (n : Stored) → take mid.position mid.nodes ≡ take path.position path.nodes ++ n ∷ [] → mid.position ≤ length mid.nodes
    → node_at mid.nodes (passed path) ≡ Some n → ((b : List Choice) (k : Stored) → node_at path.nodes b ≡ Some k → node_at mid.nodes b ≡ Some k) → Passes path n.present mid
one_more path mid n h l at kept = record { choices = ap choices h ∙ choices_append (take path.position path.nodes) (n ∷ []); within = l; node = n; at = at; kept = kept }

-- where a path answers so
abbrev pub GoesOn : Trail → Answer → Type 0
GoesOn path (Ok choice, mid) = Passes path choice mid
GoesOn path (Err failure, mid) = Unit {0}

follows_on : (path : Trail) (question : Question) (n : Stored) → slice_get path.nodes path.position ≡ Some n → GoesOn path (follow path question n)
follows_on path question n h = go (same_made n.made (made_of question))
  where
    z : (take (suc path.position) path.nodes ≡ take path.position path.nodes ++ n ∷ []) × (path.position < length path.nodes)
    z = take_at path.nodes path.position n h

    go : (d : Dec (n.made ≡ made_of question)) → GoesOn path (pick d (Ok n.present, record path { position = path.position + 1 }) (Err NotDeterministic, path))
    go (yes e) = one_more path (record path { position = path.position + 1 }) n (ap (λ k. take k path.nodes) (add-one path.position) ∙ z.0) (omega (arith, z.1)) (placed path.nodes path.position n h) (λ b k e. e)
    go (no f) = tt

lengthens_on : (path : Trail) (x : Option Stored) → slice_get path.nodes path.position ≡ None → path.position ≤ length path.nodes → GoesOn path (lengthen path x)
lengthens_on path None h l = tt
lengthens_on path (Some n) h l =
    let z = take_end path.nodes path.position n h l in
    one_more path (record path { nodes = path.nodes ++ n ∷ []; position = path.position + 1 }) n (ap (λ k. take k (path.nodes ++ n ∷ [])) (add-one path.position) ∙ z.0) (omega (arith, z.1)) (placed_end path.nodes path.position n h l) (λ b k e. append_there path.nodes (n ∷ []) b k e)

pub answers_on : (room : ℕ) (path : Trail) (question : Question) → path.position ≤ length path.nodes → GoesOn path (branch (whole_search room) path question)
answers_on room path question l = go (slice_get path.nodes path.position) refl
  where
    makes_on : slice_get path.nodes path.position ≡ None → (b : Bool) (x : Option Stored) → GoesOn path (cond b (lengthen path x) (Err TooManyBranches, path))
    makes_on h true x = lengthens_on path x h l
    makes_on h false x = tt

    go : (x : Option Stored) → slice_get path.nodes path.position ≡ x → GoesOn path (branch_at (whole_search room) path question x)
    go None h = makes_on h (nat_lt path.position room) (new_node (every_at (whole_search room) (passes_of path) (made_of question)) (made_of question) (slice_get path.given path.position))
    go (Some n) h = follows_on path question n h

-- ---- one question

module _ {A : Type 0} (room : ℕ) (adds : Marking) (stop : List Choice → Bool) (c : List Choice) (question : Question) (branches : Choice → Tree A) (path mid : Trail) where
  pub asked : (x : Choice) → stop c ≡ false → branch (whole_search room) path question ≡ (Ok x, mid)
      → drive (whole_search room) adds (cut stop c (Asks question branches)) path ≡ drive (whole_search room) adds (cut stop (c ++ x ∷ []) (branches x)) mid
  asked x h e = go (stop c) h
    where
      go : (b : Bool) → b ≡ false → drive (whole_search room) adds (cond b (Gives None) (Asks question (λ y. cut stop (c ++ y ∷ []) (branches y)))) path
          ≡ drive (whole_search room) adds (cut stop (c ++ x ∷ []) (branches x)) mid
      go true g = absurd (cc g)
      go false g = ap (drive_on (λ y after. drive (whole_search room) adds (cut stop (c ++ y ∷ []) (branches y)) after)) e

  pub refused : (failure : FailureKind) → stop c ≡ false → branch (whole_search room) path question ≡ (Err failure, mid)
      → drive (whole_search room) adds (cut stop c (Asks question branches)) path ≡ (Err failure, mid)
  refused failure h e = go (stop c) h
    where
      go : (b : Bool) → b ≡ false → drive (whole_search room) adds (cond b (Gives None) (Asks question (λ y. cut stop (c ++ y ∷ []) (branches y)))) path ≡ (Err failure, mid)
      go true g = absurd (cc g)
      go false g = ap (drive_on (λ y after. drive (whole_search room) adds (cut stop (c ++ y ∷ []) (branches y)) after)) e

  pub cut_here : stop c ≡ true → drive (whole_search room) adds (cut stop c (Asks question branches)) path ≡ (Ok None, path)
  cut_here h = go (stop c) h
    where
      go : (b : Bool) → b ≡ true → drive (whole_search room) adds (cond b (Gives None) (Asks question (λ y. cut stop (c ++ y ∷ []) (branches y)))) path ≡ (Ok None, path)
      go true g = refl
      go false g = absurd (cc g)

-- ---- one tree and then the other

module _ {A B : Type 0} (room : ℕ) (adds : Marking) (stop : List Choice → Bool) (next : A → Tree B) where
  Goes : Tree A → Type 0
  Goes t = (path : Trail) → path.position ≤ length path.nodes
      → drive (whole_search room) adds (cut stop (passed path) (t >>= next)) path ≡ onward room adds stop next (drive (whole_search room) adds (cut stop (passed path) t) path)

  closes_on : (b : Bool) (path : Trail) (d : Result (Option A) FailureKind × Trail) (e : Result (Option B) FailureKind × Trail) → e ≡ onward room adds stop next d
      → cond b e (Err NotDeterministic, path) ≡ onward room adds stop next (cond b d (Err NotDeterministic, path))
  closes_on true path d e h = h
  closes_on false path d e h = refl

  asks_on : (branches : Choice → Tree A) (path : Trail) (answer : Answer) → GoesOn path answer
      → ((x : Choice) (mid : Trail) → mid.position ≤ length mid.nodes
      → drive (whole_search room) adds (cut stop (passed mid) (branches x >>= next)) mid ≡ onward room adds stop next (drive (whole_search room) adds (cut stop (passed mid) (branches x)) mid))
      → drive_on (λ x mid. drive (whole_search room) adds (cut stop (passed path ++ x ∷ []) (branches x >>= next)) mid) answer
      ≡ onward room adds stop next (drive_on (λ x mid. drive (whole_search room) adds (cut stop (passed path ++ x ∷ []) (branches x)) mid) answer)
  asks_on branches path (Ok x, mid) p ih =
      let Same : List Choice → Type 0 =
      λ c. drive (whole_search room) adds (cut stop c (branches x >>= next)) mid ≡ onward room adds stop next (drive (whole_search room) adds (cut stop c (branches x)) mid) in
      subst Same p.choices (ih x mid p.within)
  asks_on branches path (Err failure, mid) p ih = refl

  goes : (t : Tree A) → Goes t
  unfolding Goes
  goes (Gives a) path l = refl
  goes (Fails failure) path l = refl
  goes (Closes rest) path l =
      closes_on (is_used_up path) path (drive (whole_search room) adds (cut stop (passed path) rest) path) (drive (whole_search room) adds (cut stop (passed path) (rest >>= next)) path) (goes rest path l)
  goes (Asks question branches) path l = go (stop (passed path)) (λ x mid h. goes (branches x) mid h)
    where
      go : (b : Bool)
          → ((x : Choice) (mid : Trail) → mid.position ≤ length mid.nodes
          → drive (whole_search room) adds (cut stop (passed mid) (branches x >>= next)) mid ≡ onward room adds stop next (drive (whole_search room) adds (cut stop (passed mid) (branches x)) mid))
          → drive (whole_search room) adds (cond b (Gives None) (Asks question (λ x. cut stop (passed path ++ x ∷ []) (branches x >>= next)))) path
          ≡ onward room adds stop next (drive (whole_search room) adds (cond b (Gives None) (Asks question (λ x. cut stop (passed path ++ x ∷ []) (branches x)))) path)
      go true ih = refl
      go false ih = asks_on branches path (branch (whole_search room) path question) (answers_on room path question l) ih

pub then_law : {A B : Type 0} → ThenLaw A B
unfolding Goes
then_law room adds stop t next path l = goes room adds stop next t path l
