-- Where marks are made.
use Rattle.std.proofs.Common.{◌≡◌, ◌≢◌, ℕ, Bool, true, false, not, ◌&&◌, ◌||◌, eqb, List, [], ◌∷◌, Option, Some, None, refl, ap, sym, ◌∙◌, arith}
use Rattle.std.specs.Prelude.{slice_get, IsSomeAnd}
use Rattle.std.proofs.lemmas.Bool.{and_parts}
use Rattle.loom_objects.specs.declared.choice.Choice.{Choice}
use Rattle.loom_objects.specs.declared.choice.Choice.TheVariants.{Thread}
use Rattle.loom_objects.specs.Tree.Question.{Made}
use Rattle.loom_engine.specs.Walk.Choices.{same, pick}
use Rattle.loom_engine.specs.Trees.Meeting.{count, front_of}
use Rattle.loom_engine.specs.Trees.Marks.{is_disabled, adds_there, adds_any, added_at, is_in, unordered_in, is_off_bound}
use Rattle.loom_engine.specs.Trees.Machines.{MarkingLaw}

there_explores : (x : Option (Made × Choice)) (t : ℕ) (o : Choice) → adds_there x t o ≡ true → IsSomeAnd x (λ pass. pass.0.exploring ≡ true)
there_explores None t o h = absurd (cc h)
there_explores (Some pass) t o h = (and_parts pass.0.exploring (is_disabled pass.0 t || pick (same o (Thread (Some t))) true false) h).0

any_explores : (bound : Option ℕ) (passes : List (Made × Choice)) (k : ℕ) (o : Choice) (pairs : List (ℕ × ℕ)) → adds_any bound passes k o pairs ≡ true
    → IsSomeAnd (slice_get passes k) (λ pass. pass.0.exploring ≡ true)
any_explores bound passes k o [] h = absurd (cc h)
any_explores bound passes k o (pair ∷ pairs) h = go (is_in k (added_at bound passes pair.0)) (adds_there (slice_get passes k) pair.1 o) refl h (any_explores bound passes k o pairs)
  where
    go : (a b : Bool) → adds_there (slice_get passes k) pair.1 o ≡ b → ((a && b) || adds_any bound passes k o pairs) ≡ true
        → (adds_any bound passes k o pairs ≡ true → IsSomeAnd (slice_get passes k) (λ pass. pass.0.exploring ≡ true))
        → IsSomeAnd (slice_get passes k) (λ pass. pass.0.exploring ≡ true)
    go true true e f ih = there_explores (slice_get passes k) pair.1 o e
    go true false e f ih = ih f
    go false b e f ih = ih f

off_bound : (o : Option ℕ) (b n : ℕ) → o ≡ Some b → is_off_bound o n ≡ true → n ≢ b
off_bound None b n e h = absurd (cc e)
off_bound (Some c) b n e h = λ f.
    let g : c ≡ b = cc e in
    let k : n ≡ c = f ∙ sym g in
    let l : not (eqb n c) ≡ true = h in
    let q : eqb n c ≡ true = grind arith in
    let r : false ≡ true = sym (ap not q) ∙ l in
    cc r

pub marking_law : MarkingLaw
marking_law bound = (
  λ passes question k o h. any_explores bound passes k o (unordered_in question)
      (and_parts (is_off_bound bound (count (front_of k passes))) (adds_any bound passes k o (unordered_in question)) h).1,
  λ b e passes question k o h. off_bound bound b (count (front_of k passes)) e
      (and_parts (is_off_bound bound (count (front_of k passes))) (adds_any bound passes k o (unordered_in question)) h).0,
)
