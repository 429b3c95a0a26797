-- Rounds of a covering check that goes on from a path, with those of the checks before it.
use Rattle.std.proofs.Common.{◌≡◌, ◌≤◌, ◌⊎◌, ℕ, zero, suc, arith, List, [], ◌∷◌, ◌++◌, length, Option, Some, None, Result, Ok, ap, sym, ◌∙◌, inl, inr, append-nil}
use Rattle.std.specs.List.{Contains}
use Rattle.loom_objects.specs.declared.choice.Choice.{Choice}
use Rattle.loom_objects.specs.Tree.Tree.{Tree}
use Rattle.loom_views.specs.declared.rt.failure.FailureKind.{FailureKind}
use Rattle.loom_engine.specs.Trees.Drive.{Trail}
use Rattle.loom_engine.specs.Trees.Machines.{IsMarking}
use Rattle.loom_engine.specs.Trees.Marks.{marking}
use Rattle.loom_engine.specs.Trees.Meeting.{whole_search}
use Rattle.loom_engine.specs.Trees.Resuming.{HasDefaults}
use Rattle.loom_engine.specs.Trees.Sound.{EndsUnchosen, IsSoundTree}
use Rattle.loom_engine.specs.Walk.Path.{IsAtRest, Stored, choices, node_at, step}
use Rattle.loom_engine.specs.Walk.Driven.{IsLeftBy, IsOneOf}
use Rattle.loom_engine.specs.Walk.Lists.{Begins}
use Rattle.loom_engine.specs.Path.WellFormed.{AreAtRest}
use Rattle.loom_engine.specs.Covering.Table.{HasState, IsAlong, Notes, notes_more, notes_none}
use Rattle.loom_engine.specs.Covering.UnderWay.{HasNode}
use Rattle.loom_engine.proofs.Covering.Closing.{IsOff, below_off, node_kept, node_stepped, off_apart, off_kept, off_stepped}
use Rattle.loom_engine.proofs.Covering.Cut.{later_rests, round}
use Rattle.loom_engine.proofs.Covering.Lost.{AreLost}
use Rattle.loom_engine.proofs.Covering.Rounds.{left_there, notes_rest}
use Rattle.loom_engine.proofs.Covering.UnderWay.{node_within}
use Rattle.loom_engine.proofs.Trees.Reporting.{search_law}
use Rattle.loom_engine.proofs.Walk.Lists.{chooses_node, node_chooses}
use Rattle.loom_engine.proofs.Walk.Stepping.{IsStep, Steps, step_some}
use Rattle.loom.proofs.ModelLemmas.CoverDefaults.{after_step}
use Rattle.loom.proofs.Saving.Resting.{all_resting}

-- ---- lists

module _ {X : Type 0} where
  pub has_before : (xs ys : List X) (x : X) → Contains xs x → Contains (xs ++ ys) x
  has_before [] ys x (k, l, e) = absurd (omega (arith, l))
  has_before (y ∷ xs) ys x (zero, l, e) = (0, omega arith, e)
  has_before (y ∷ xs) ys x (suc k, l, e) = let z = has_before xs ys x (k, omega (arith, l), e) in (suc z.0, omega (arith, z.1), z.2)

  pub has_behind : (xs ys : List X) (x : X) → Contains ys x → Contains (xs ++ ys) x
  has_behind [] ys x h = h
  has_behind (y ∷ xs) ys x h = let z = has_behind xs ys x h in (suc z.0, omega (arith, z.1), z.2)

  pub has_either : (xs ys : List X) (x : X) → Contains (xs ++ ys) x → Contains xs x ⊎ Contains ys x
  has_either [] ys x h = inr h
  has_either (y ∷ xs) ys x (zero, l, e) = inl (0, omega arith, e)
  has_either (y ∷ xs) ys x (suc k, l, e) = further (has_either xs ys x (k, omega (arith, l), e))
    where
      further : Contains xs x ⊎ Contains ys x → Contains (y ∷ xs) x ⊎ Contains ys x
      further (inl (j, m, f)) = inl (suc j, omega (arith, m), f)
      further (inr h) = inr h

pub one_behind : (x : List Stored) (xs ys : List (List Stored)) → IsOneOf x ys → IsOneOf x (xs ++ ys)
one_behind x [] ys i = i
one_behind x (y ∷ xs) ys i = inr (one_behind x xs ys i)

one_either : (x : List Stored) (xs ys : List (List Stored)) → IsOneOf x (xs ++ ys) → IsOneOf x xs ⊎ IsOneOf x ys
one_either x [] ys i = inr i
one_either x (y ∷ xs) ys (inl i) = inl (inl i)
one_either x (y ∷ xs) ys (inr i) = further (one_either x xs ys i)
  where
    further : IsOneOf x xs ⊎ IsOneOf x ys → IsOneOf x (y ∷ xs) ⊎ IsOneOf x ys
    further (inl j) = inl (inr j)
    further (inr j) = inr j

-- ---- what was left lies off the path that comes next

-- what runs chose that were left is before a node of the path, or off it
abbrev pub LieOff : List (List Stored) → List Stored → Type 0
LieOff left p = (q : List Stored) → IsOneOf q left → (c rest : List Choice) → choices q ≡ c ++ rest → HasNode p c ⊎ IsOff p c

module _ (p q on : List Stored) (left_by : IsLeftBy p q) (branch : List Choice) (n : Stored) (o : Choice) (s : IsStep q on branch n o) where
  kept_so : (c : List Choice) → HasNode p c ⊎ IsOff p c → HasNode on c ⊎ IsOff on c
  kept_so c (inl node) = node_stepped q on branch n o s c (node_kept p q left_by c node)
  kept_so c (inr off) = inr (off_stepped q on branch n o s c (off_kept p q left_by c off))

  made_so : (c rest : List Choice) → choices q ≡ c ++ rest → HasNode on c ⊎ IsOff on c
  made_so c [] e = let b = node_chooses q branch n s.at in inr (below_off q on branch n o s c b.0 (sym (e ∙ append-nil c) ∙ b.1))
  made_so c (x ∷ rest) e = let z = chooses_node q c x rest e in node_stepped q on branch n o s c (record { node = z.0; at = z.1 })

-- they still do after a run and a step
pub off_still : (left : List (List Stored)) (p q on : List Stored) → IsLeftBy p q → step q ≡ Some on → LieOff left p → LieOff left on
unfolding Steps
off_still left p q on left_by steps off x i c rest e = by (step_some q on steps)
  where
    by : Steps q on → HasNode on c ⊎ IsOff on c
    by (branch, n, o, s) = kept_so p q on left_by branch n o s c (off x i c rest e)

-- and so does the run
pub off_more : (left : List (List Stored)) (p q on : List Stored) → IsLeftBy p q → step q ≡ Some on → LieOff left p → LieOff (left ++ q ∷ []) on
unfolding Steps
off_more left p q on left_by steps off x i c rest e = which (one_either x left (q ∷ []) i)
  where
    last : Steps q on → x ≡ q → HasNode on c ⊎ IsOff on c
    last (branch, n, o, s) same = made_so p q on left_by branch n o s c rest (ap choices (sym same) ∙ e)

    which : IsOneOf x left ⊎ IsOneOf x (q ∷ []) → HasNode on c ⊎ IsOff on c
    which (inl j) = off_still left p q on left_by steps off x j c rest e
    which (inr (inl same)) = last (step_some q on steps) same
    which (inr (inr j)) = absurd j

-- a run reaches none of the choices before a later node of its path that an earlier run made
pub off_new : (left : List (List Stored)) (p q : List Stored) → IsLeftBy p q → ((b : List Choice) (n : Stored) → node_at q b ≡ Some n → IsAtRest n) → LieOff left p → (c : List Choice) → HasNode q c → length p ≤ length c
    → (x : List Stored) → IsOneOf x left → Begins c (choices x) → ⊥
off_new left p q left_by rests off c here long x i (rest, e) = by (off x i c rest e)
  where
    by : HasNode p c ⊎ IsOff p c → ⊥
    by (inl node) = let l = node_within p c node.node node.at in omega (arith, l, long)
    by (inr is) = let a = node_chooses q c here.node here.at in off_apart q rests c (here.node.present ∷ a.0) (off_kept p q left_by c is) a.1

-- what is lost of some runs is lost of all, if the others pass none of it
pub lost_among : {K : Type 0} (key : List Choice → K) (others left : List (List Stored)) (IsLost : List Choice → Type 0) → AreLost key left IsLost
    → ((c : List Choice) → IsLost c → (x : List Stored) → IsOneOf x others → Begins c (choices x) → ⊥) → AreLost key (others ++ left) IsLost
lost_among key others left IsLost lost apart = record {
  nodes = λ c is. let n = lost.nodes c is in (n.0, one_behind n.0 others left n.1, n.2);
  met = λ q c i is begins. which q c is begins (one_either q others left i);
}
  where
    which : (q : List Stored) (c : List Choice) → IsLost c → Begins c (choices q) → IsOneOf q others ⊎ IsOneOf q left → (d : List Choice) × IsLost d × (key (choices q) ≡ key d)
    which q c is begins (inl i) = absurd (apart c is q i begins)
    which q c is begins (inr i) = lost.met q c i is begins

-- ---- rounds

module _ {A K : Type 0} (room : ℕ) (tree : Tree A) (sound : IsSoundTree tree) (fair : IsMarking (marking None)) (key : List Choice → K) where
  -- a table that has more cuts a run as well
  pub with_table : (old more new : List K) (p : List Stored) (came : Result (Option A) FailureKind) (path : Trail) → ((s : K) → Contains old s → Contains more s)
      → IsAlong room (marking None) tree key old p came path new → IsAlong room (marking None) tree key more p came path (more ++ new)
  with_table old more new p came path sub is = record {
    stop = is.stop;
    past = is.past;
    stops = λ c h. wider (key c) (is.stops c h);
    notes = λ ended e s h. which ended e s (has_either more new s h);
    comes = is.comes;
  }
    where
      wider : (s : K) → Contains old s ⊎ HasState key path.nodes s → Contains more s ⊎ HasState key path.nodes s
      wider s (inl h) = inl (sub s h)
      wider s (inr h) = inr h

      which : (ended : Option A) → came ≡ Ok ended → (s : K) → Contains more s ⊎ Contains new s → Contains more s ⊎ HasState key path.nodes s
      which ended e s (inl h) = inl h
      which ended e s (inr h) = wider s (is.notes ended e s h)

  -- what was left by such rounds lies off the path that comes next
  pub notes_off : (table : List K) (left : List (List Stored)) (given : List (List Choice × A)) (p : List Stored) → Notes room (marking None) tree key table left given p → LieOff left p
  notes_off [] [] [] [] notes_none = λ q i. absurd i
  notes_off table left given p (notes_more old _ front first q _ came path notes along next) =
      off_more front q path.nodes p (left_there room (marking None) tree sound fair key old table front first q notes came path along) next (notes_off old front first q notes)

  module _ (shut : EndsUnchosen tree) where
    no_defaults : HasDefaults []
    unfolding node_at
    no_defaults before n h = absurd (cc h)

    -- and each node of that has a default
    pub notes_defaults : (table : List K) (left : List (List Stored)) (given : List (List Choice × A)) (p : List Stored) → Notes room (marking None) tree key table left given p → HasDefaults p
    notes_defaults [] [] [] [] notes_none = no_defaults
    notes_defaults table left given p (notes_more old _ front first q _ came path notes along next) =
        let r = round room (marking None) tree sound fair along.stop q (Ok came) path (notes_rest room (marking None) tree sound fair key old front first q notes) along.past along.comes in
        after_step (whole_search room) (marking None) tree (search_law (whole_search room) tree sound) shut path.nodes p r.rests (later_rests room (marking None) tree sound fair path.nodes p r.rests next) (step_some path.nodes p next)

    -- so it is one with which a check may go on
    pub notes_well : (table : List K) (left : List (List Stored)) (given : List (List Choice × A)) (p : List Stored) → Notes room (marking None) tree key table left given p → AreAtRest p
    notes_well table left given p notes = all_resting p (notes_rest room (marking None) tree sound fair key table left given p notes).rest (notes_defaults table left given p notes)
