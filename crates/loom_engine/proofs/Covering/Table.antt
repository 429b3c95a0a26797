-- Rounds with a table are a check whose runs are cut off at states of its own nodes.
use Rattle.std.proofs.Common.{◌⊎◌, ℕ, arith, List, [], ◌∷◌, ◌++◌, Option, Ok, refl, inl, inr}
use Rattle.std.specs.List.{Contains}
use Rattle.loom_objects.specs.declared.choice.Choice.{Choice}
use Rattle.loom_objects.specs.Tree.Tree.{Tree}
use Rattle.loom_engine.specs.Walk.Path.{Stored, choices}
use Rattle.loom_engine.specs.Walk.Driven.{IsOneOf}
use Rattle.loom_engine.specs.Trees.Meeting.{Marking}
use Rattle.loom_engine.specs.Trees.Drive.{Trail}
use Rattle.loom_engine.specs.Covering.Cut.{Begun, IsNoted, IsStop, last_check, none_yet, one_more, with_run}
use Rattle.loom_engine.specs.Covering.Table.{HasState, IsAlong, Notes, TableLaw, notes_more, notes_none}
use Rattle.loom_engine.proofs.Covering.Joined.{in_front, joined}

at_last : (x : List Stored) (xs : List (List Stored)) → IsOneOf x (xs ++ x ∷ [])
at_last x [] = inl refl
at_last x (y ∷ xs) = inr (at_last x xs)

module _ {A K : Type 0} (room : ℕ) (adds : Marking) (tree : Tree A) (key : List Choice → K) where
  -- the table has states of these paths' nodes alone
  abbrev Holds : List K → List (List Stored) → Type 0
  Holds table left = (s : K) → Contains table s → (y : List Stored) × IsOneOf y left × HasState key y s

  module _ (old new : List K) (left : List (List Stored)) (p : List Stored) (came : Option A) (path : Trail) (holds : Holds old left) (along : IsAlong room adds tree key old p (Ok came) path new) where
    among : (s : K) → Contains old s ⊎ HasState key path.nodes s → (y : List Stored) × IsOneOf y (left ++ path.nodes ∷ []) × HasState key y s
    among s (inl t) = let y = holds s t in (y.0, in_front y.0 left (path.nodes ∷ []) y.1, y.2)
    among s (inr h) = (path.nodes, at_last path.nodes left, h)

    is_stop : IsStop key (left ++ path.nodes ∷ []) p along.stop
    is_stop = record { past = along.past; noted = λ c h. noted c (among (key c) (along.stops c h)) }
      where
        noted : (c : List Choice) → (y : List Stored) × IsOneOf y (left ++ path.nodes ∷ []) × HasState key y (key c) → IsNoted key (left ++ path.nodes ∷ []) c
        noted c (y, i, (b, n, at, e)) = (y, i, b, n, at, e)

    holds_more : Holds new (left ++ path.nodes ∷ [])
    holds_more s t = among s (along.notes came refl s t)

  record Known (table : List K) (left : List (List Stored)) (runs : List (List Choice × A)) (p : List Stored) : Type 0 where
    begun : Begun room adds tree key left runs p
    holds : Holds table left

  known : (table : List K) (left : List (List Stored)) (runs : List (List Choice × A)) (p : List Stored) → Notes room adds tree key table left runs p → Known table left runs p
  known [] [] [] [] notes_none = record { begun = none_yet; holds = λ s t. absurd (nothing s t) }
    where
      nothing : (s : K) → Contains [] s → ⊥
      nothing s (k, l, e) = omega arith
  known table left runs p (notes_more old _ front first q _ came path notes along next) = go (known old front first q notes)
    where
      go : Known old front first q → Known table (front ++ path.nodes ∷ []) (first ++ with_run (choices path.nodes) came []) p
      go k = record {
        begun = one_more front first q p along.stop came path k.begun (is_stop old table front q came path k.holds along) along.comes next;
        holds = holds_more old table front q came path k.holds along;
      }

pub table_law : {A K : Type 0} → TableLaw A K
table_law room adds tree key old new left runs p came path notes along none =
    let k = known room adds tree key old left runs p notes in
    joined room adds tree key (left ++ path.nodes ∷ []) left runs p k.begun (λ y i. in_front y left (path.nodes ∷ []) i) (path.nodes ∷ []) (with_run (choices path.nodes) came [])
    (last_check p along.stop came path (is_stop room adds tree key old new left p came path k.holds along) along.comes none)
