-- The nearest schedule that explores, looked for from a place down.
use Rattle.std.proofs.Common.{◌≡◌, ◌≤◌, ◌<◌, ◌-◌, ℕ, zero, suc, true, false, List, [], ◌∷◌, length, map, take, get_or, Bool, Option, Some, None, refl, ap, subst, sym, ◌∙◌, arith}
use Rattle.std.specs.Prelude.{cond, slice_get}
use Rattle.loom_objects.specs.declared.choice.Choice.{Choice}
use Rattle.loom_objects.specs.Tree.Question.{Made, made_of}
use Rattle.loom_objects.specs.Tree.Stores.{asked_store, slots}
use Rattle.loom_engine.specs.Walk.Machine.{is_thread}
use Rattle.loom_engine.specs.Trees.Drive.{pass_of}
use Rattle.loom_engine.specs.Walk.Path.{Stored}
use Rattle.loom_engine.specs.Trees.Marks.{Place, schedules_down, from_exploring}
use Rattle.loom_engine.specs.declared.rt.path.node.Node.{Node}
use Rattle.loom_engine.specs.declared.rt.path.node.Node.TheVariants as node
use Rattle.loom_engine.specs.declared.rt.path.node.Schedule.{Schedule}
use Rattle.loom_engine.specs.Path.Nodes.{seen}
use Rattle.loom_engine.specs.Path.Nearest.{IsNearest, passes_in}
use Rattle.loom_engine.specs.Path.Nodes.{stored}
use Rattle.loom_engine.specs.Path.Tallies.{AreNoted, place_of}
use Rattle.loom_engine.proofs.Nodes.Marking.Places.{at_schedule, down_more, past_fixed, past_other}

pub got_node : (nodes : List Node) (k : ℕ) (n d : Node) → k < length nodes → get_or nodes k d ≡ n → slice_get nodes k ≡ Some n
got_node [] k n d h e = absurd (omega arith)
got_node (x ∷ nodes) zero n d h e = ap Some e
got_node (x ∷ nodes) (suc k) n d h e = got_node nodes k n d (omega arith) e

-- the first so many nodes

pub front_length : (nodes : List Node) (n : ℕ) → n ≤ length nodes → length (take n nodes) ≡ n
front_length nodes zero h = refl
front_length [] (suc n) h = absurd (omega arith)
front_length (x ∷ nodes) (suc n) h = ap suc (front_length nodes n (omega arith))

pub front_got : (nodes : List Node) (n i : ℕ) (x : Node) → i < n → x ≡ get_or nodes i x → get_or (take n nodes) i x ≡ x
front_got nodes zero i x h e = absurd (omega arith)
front_got [] (suc n) i x h e = refl
front_got (y ∷ nodes) (suc n) zero x h e = sym e
front_got (y ∷ nodes) (suc n) (suc i) x h e = front_got nodes n i x (omega arith) e

pub passed_at : (nodes : List Node) (i : ℕ) (n d : Node) → i < length nodes → get_or nodes i d ≡ n → slice_get (passes_in nodes) i ≡ Some (pass_of (seen n))
passed_at [] i n d h e = absurd (omega arith)
passed_at (x ∷ nodes) zero n d h e = ap (λ (m : Node). Some (pass_of (seen m))) e
passed_at (x ∷ nodes) (suc i) n d h e = passed_at nodes i n d (omega arith) e

pub is_no_thread : (n : Node) → ((s : Schedule) → n ≡ node.Schedule s → ⊥) → is_thread (seen n).made.default ≡ false
is_no_thread (node.Schedule s) f = absurd (f s refl)
is_no_thread (node.Load l) f = go (slots l.readable)
  where
    go : (k : List ℕ) → is_thread (made_of (asked_store l.exploring k)).default ≡ false
    go [] = refl
    go (x ∷ k) = refl
is_no_thread (node.Spurious s) f = refl

module _ (nodes : List Node) (place left : ℕ) (d : Node) (some : 0 < left) (within : left ≤ length nodes)
    (same : from_exploring (schedules_down 0 (suc place) (passes_in nodes) []) ≡ from_exploring (schedules_down 0 left (passes_in nodes) [])) where
  there : (n : Node) → get_or nodes (left - 1) d ≡ n → slice_get (passes_in nodes) (left - 1) ≡ Some (pass_of (seen n))
  there n e = passed_at nodes (left - 1) n d (omega arith) e

  one_less : from_exploring (schedules_down 0 (suc place) (passes_in nodes) []) ≡ from_exploring (schedules_down 0 (suc (left - 1)) (passes_in nodes) [])
  one_less = let g : left ≡ suc (left - 1) = omega arith in same ∙ ap (λ j. from_exploring (schedules_down 0 j (passes_in nodes) [])) g

  pub explores_here : (s : Schedule) → get_or nodes (left - 1) d ≡ node.Schedule s → s.exploring ≡ true → IsNearest (passes_in nodes) place (Some (left - 1))
  explores_here s e x = at_schedule place (left - 1) (passes_in nodes) (pass_of (seen (node.Schedule s))) (there (node.Schedule s) e) refl x one_less

  pub goes_past : (s : Schedule) → get_or nodes (left - 1) d ≡ node.Schedule s → s.exploring ≡ false
      → from_exploring (schedules_down 0 (suc place) (passes_in nodes) []) ≡ from_exploring (schedules_down 0 (left - 1) (passes_in nodes) [])
  goes_past s e x = past_fixed place (left - 1) (passes_in nodes) (pass_of (seen (node.Schedule s))) (there (node.Schedule s) e) x one_less

  pub goes_past_other : ((s : Schedule) → get_or nodes (left - 1) d ≡ node.Schedule s → ⊥)
      → from_exploring (schedules_down 0 (suc place) (passes_in nodes) []) ≡ from_exploring (schedules_down 0 (left - 1) (passes_in nodes) [])
  goes_past_other f =
      past_other place (left - 1) (passes_in nodes) (pass_of (seen (get_or nodes (left - 1) d))) (there (get_or nodes (left - 1) d) refl)
      (is_no_thread (get_or nodes (left - 1) d) f) one_less

-- ---- what a schedule notes

abbrev in_front : ℕ → Made × Choice → List Place → List Place
in_front k pass places = (k, pass.0, pass.1) ∷ places

-- past the last node there is none
down_none : (i k : ℕ) (passes : List (Made × Choice)) (found : List Place) → slice_get passes k ≡ None → schedules_down i (suc k) passes found ≡ schedules_down i k passes found
down_none i zero [] found h = refl
down_none i (suc k) [] found h = refl
down_none i zero (p ∷ passes) found h = absurd (cc h)
down_none i (suc k) (p ∷ passes) found h = down_none (suc i) k passes (cond (is_thread p.0.default) (in_front i p found) found) h

-- only the first so many nodes count
down_all : (i k : ℕ) (u : List Stored) (found : List Place) → schedules_down i k (map pass_of (take k u)) found ≡ schedules_down i k (map pass_of u) found
down_all i zero u found = refl
down_all i (suc k) [] found = refl
down_all i (suc k) (x ∷ u) found = down_all (suc i) k u (cond (is_thread x.made.default) (in_front i (pass_of x) found) found)

-- the schedule at this place is the first of these, with those before it
abbrev IsFirst : List (Made × Choice) → ℕ → List Place → Type 0
IsFirst passes k places = (pass : Made × Choice) × (slice_get passes k ≡ Some pass) × (is_thread pass.0.default ≡ true) × (places ≡ (k, pass.0, pass.1) ∷ schedules_down 0 k passes [])

module _ (left : ℕ) (passes : List (Made × Choice)) (k : ℕ) (again : place_of (from_exploring (schedules_down 0 left passes [])) ≡ Some k → IsFirst passes k (from_exploring (schedules_down 0 left passes []))) where
  abbrev before : List Place
  before = schedules_down 0 left passes []

  abbrev more : List Place
  more = schedules_down 0 (suc left) passes []

  no_more : from_exploring more ≡ from_exploring before → place_of (from_exploring more) ≡ Some k → IsFirst passes k (from_exploring more)
  no_more same e = subst (IsFirst passes k) (sym same) (again (ap place_of (sym same) ∙ e))

  explores_or : (pass : Made × Choice) → slice_get passes left ≡ Some pass → is_thread pass.0.default ≡ true → (b : Bool) → from_exploring more ≡ cond b (in_front left pass before) (from_exploring before)
      → place_of (from_exploring more) ≡ Some k → IsFirst passes k (from_exploring more)
  explores_or pass h t true same e =
      let here : left ≡ k = cc (same, e) in
      subst (λ j. IsFirst passes j (from_exploring more)) here (pass, h, t, same)
  explores_or pass h t false same e = no_more same e

  schedule_or : (pass : Made × Choice) → slice_get passes left ≡ Some pass → (t : Bool) → is_thread pass.0.default ≡ t → place_of (from_exploring more) ≡ Some k → IsFirst passes k (from_exploring more)
  schedule_or pass h true t e = explores_or pass h t pass.0.exploring (ap from_exploring (down_more left passes pass h ∙ ap (λ b. cond b (in_front left pass before) before) t)) e
  schedule_or pass h false t e = no_more (ap from_exploring (down_more left passes pass h ∙ ap (λ b. cond b (in_front left pass before) before) t)) e

  found_on : (o : Option (Made × Choice)) → slice_get passes left ≡ o → place_of (from_exploring more) ≡ Some k → IsFirst passes k (from_exploring more)
  found_on None h e = no_more (ap from_exploring (down_none 0 left passes [] h)) e
  found_on (Some pass) h e = schedule_or pass h (is_thread pass.0.default) refl e

-- the first that explores is there
found_at : (left : ℕ) (passes : List (Made × Choice)) (k : ℕ) → place_of (from_exploring (schedules_down 0 left passes [])) ≡ Some k → IsFirst passes k (from_exploring (schedules_down 0 left passes []))
found_at zero passes k e = absurd (cc e)
found_at (suc left) passes k e = found_on left passes k (λ g. found_at left passes k g) (slice_get passes left) refl e

none_first : (places : List Place) → place_of places ≡ None → places ≡ []
none_first [] e = refl
none_first (c ∷ places) e = absurd (cc e)

-- where a schedule doesn't explore, the nearest before it is what it notes
pub nearest_noted : (nodes : List Node) (place j : ℕ) (s : Schedule) → slice_get nodes j ≡ Some (node.Schedule s) → AreNoted nodes
    → from_exploring (schedules_down 0 (suc place) (passes_in nodes) []) ≡ from_exploring (schedules_down 0 j (passes_in nodes) []) → (o : Option ℕ) → s.nearest ≡ o → IsNearest (passes_in nodes) place o
nearest_noted nodes place j s there noted same o is = by_note o (ap (λ l. place_of (from_exploring l)) (sym (down_all 0 j (stored nodes) [])) ∙ sym (noted j (node.Schedule s) there).2 ∙ is)
  where
    by_note : (o : Option ℕ) → place_of (from_exploring (schedules_down 0 j (passes_in nodes) [])) ≡ o → IsNearest (passes_in nodes) place o
    by_note None e = same ∙ none_first (from_exploring (schedules_down 0 j (passes_in nodes) [])) e
    by_note (Some k) e = let f = found_at j (passes_in nodes) k e in (f.0, f.1, f.2, same ∙ f.3)

-- the nodes that were passed
pub passes_taken : (k : ℕ) (nodes : List Node) → passes_in (take k nodes) ≡ map pass_of (take k (stored nodes))
passes_taken zero nodes = refl
passes_taken (suc k) [] = refl
passes_taken (suc k) (x ∷ nodes) = ap (λ l. pass_of (seen x) ∷ l) (passes_taken k nodes)
