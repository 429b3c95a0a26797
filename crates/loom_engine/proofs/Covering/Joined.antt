-- The rounds of a search that remembers states, and those of one that goes on with what is left.
use Rattle.std.proofs.Common.{◌≡◌, Bool, List, [], ◌∷◌, ◌++◌, Option, Some, None, ap, sym, ◌∙◌, subst, refl, inl, inr, append_assoc, ℕ}
use Rattle.loom_objects.specs.declared.choice.Choice.{Choice}
use Rattle.loom_objects.specs.Tree.Tree.{Tree}
use Rattle.loom_engine.specs.Walk.Path.{Stored, choices}
use Rattle.loom_engine.specs.Walk.Driven.{IsOneOf}
use Rattle.loom_engine.specs.Trees.Meeting.{Marking}
use Rattle.loom_engine.specs.Covering.Cut.{with_run, IsStop, Checks, last_check, one_check, Begun, none_yet, one_more, JoinedLaw}

pub in_front : (x : List Stored) (xs ys : List (List Stored)) → IsOneOf x xs → IsOneOf x (xs ++ ys)
in_front x [] ys i = absurd i
in_front x (y ∷ xs) ys (inl i) = inl i
in_front x (y ∷ xs) ys (inr i) = inr (in_front x xs ys i)

with_more : {A : Type 0} (c : List Choice) (came : Option A) (runs : List (List Choice × A)) → with_run c came runs ≡ with_run c came [] ++ runs
with_more c None runs = refl
with_more c (Some value) runs = refl

module _ {A K : Type 0} (room : ℕ) (adds : Marking) (tree : Tree A) (key : List Choice → K) where
  stop_more : (some all : List (List Stored)) (p : List Stored) (stop : List Choice → Bool) → ((y : List Stored) → IsOneOf y some → IsOneOf y all) → IsStop key some p stop → IsStop key all p stop
  stop_more some all p stop sub s = record { past = s.past; noted = λ c h. let z = s.noted c h in (z.0, sub z.0 z.1, z.2, z.3, z.4, z.5) }

  checks_more : (some all : List (List Stored)) → ((y : List Stored) → IsOneOf y some → IsOneOf y all) → (p : List Stored) (left : List (List Stored)) (runs : List (List Choice × A))
      → Checks room adds tree key some p left runs → Checks room adds tree key all p left runs
  checks_more some all sub p left runs (last_check _ stop came path s h none) = last_check p stop came path (stop_more some all p stop sub s) h none
  checks_more some all sub p left runs (one_check _ later stop came path rest more s h next checks) =
      one_check p later stop came path rest more (stop_more some all p stop sub s) h next (checks_more some all sub later rest more checks)

  pub joined : (all left : List (List Stored)) (runs : List (List Choice × A)) (p : List Stored) → Begun room adds tree key left runs p → ((y : List Stored) → IsOneOf y left → IsOneOf y all)
      → (rest : List (List Stored)) (more : List (List Choice × A)) → Checks room adds tree key all p rest more → Checks room adds tree key all [] (left ++ rest) (runs ++ more)
  joined all left runs p none_yet sub rest more c = c
  joined all left runs p (one_more front first old _ stop came path b s h next) sub rest more c =
      subst (λ l. Checks room adds tree key all [] l ((first ++ with_run (choices path.nodes) came []) ++ more)) (sym (append_assoc front (path.nodes ∷ []) rest))
      (subst (λ r. Checks room adds tree key all [] (front ++ path.nodes ∷ rest) r)
      (ap (λ r. first ++ r) (with_more (choices path.nodes) came more) ∙ sym (append_assoc first (with_run (choices path.nodes) came []) more))
      (joined all front first old b (λ y i. sub y (in_front y front (path.nodes ∷ []) i)) (path.nodes ∷ rest) (with_run (choices path.nodes) came more)
      (one_check old p stop came path rest more (stop_more (front ++ path.nodes ∷ []) all old stop sub s) h next c)))

pub joined_law : {A K : Type 0} → JoinedLaw A K
joined_law room adds tree key left rest known runs more p begun sub checks =
    joined room adds tree key (left ++ rest) left runs p begun (λ y i. in_front y left rest i) rest more (checks_more room adds tree key known (left ++ rest) sub p rest more checks)
