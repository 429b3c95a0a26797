-- What schedules note of the nodes before them, as one node more is passed.
use Rattle.std.proofs.Common.{◌≡◌, ℕ, zero, suc, ◌+◌, ◌≤◌, Bool, true, false, ◌&&◌, List, [], ◌∷◌, ◌++◌, length, take, Option, Some, None, refl, ap, sym, ◌∙◌, arith}
use Rattle.std.specs.Prelude.{slice_get, cond}
use Rattle.std.specs.Option.{option_map}
use Rattle.loom_objects.specs.declared.choice.Choice.{Choice}
use Rattle.loom_objects.specs.declared.choice.Choice.TheVariants.{Thread}
use Rattle.loom_objects.specs.Tree.Question.{Made}
use Rattle.loom_engine.specs.Walk.Machine.{is_thread}
use Rattle.loom_engine.specs.Walk.Choices.{same, pick}
use Rattle.loom_engine.specs.Trees.Marks.{Place, from_exploring, schedules_down, switching}
use Rattle.loom_engine.specs.Trees.Meeting.{Tally, start, preempts, tally_thread, tally_one, tally, count}
use Rattle.loom_engine.proofs.Trees.Counting.{tally_more}
use Rattle.loom_engine.specs.declared.rt.path.node.Tally.{Tally as Kept}
use Rattle.loom_engine.specs.Path.Tallies.{first_of, last_switch, last_exploring, place_of, goes_over, Tallies}

-- ---- the schedules among so many nodes

-- the node in front of these, if it is a schedule
abbrev pub in_front : ℕ → Made × Choice → List Place → List Place
in_front i pass found = cond (is_thread pass.0.default) ((i, pass.0, pass.1) ∷ found) found

-- one node further down stands that node in front, if it is a schedule
pub down_next : (i k : ℕ) (passes : List (Made × Choice)) (found : List Place) (pass : Made × Choice) → slice_get passes k ≡ Some pass
    → schedules_down i (suc k) passes found ≡ in_front (i + k) pass (schedules_down i k passes found)
down_next i k [] found pass h = absurd (cc h)
down_next i zero (p ∷ passes) found pass h =
    let e : p ≡ pass = cc h in
    let start : i ≡ i + 0 = omega arith in
    ap (λ (x : Made × Choice). in_front i x found) e ∙ ap (λ j. in_front j pass found) start
down_next i (suc k) (p ∷ passes) found pass h =
    let e : suc i + k ≡ i + suc k = omega arith in
    down_next (suc i) k passes (in_front i p found) pass h ∙ ap (λ j. in_front j pass (schedules_down (suc i) k passes (in_front i p found))) e

-- and past the last node nothing more
pub down_past : (i k : ℕ) (passes : List (Made × Choice)) (found : List Place) → length passes ≤ k → schedules_down i (suc k) passes found ≡ schedules_down i k passes found
down_past i zero [] found h = refl
down_past i (suc k) [] found h = refl
down_past i zero (p ∷ passes) found h = absurd (omega arith)
down_past i (suc k) (p ∷ passes) found h = down_past (suc i) k passes (in_front i p found) (omega arith)

-- only the first so many nodes count
pub down_front : (i k : ℕ) (passes : List (Made × Choice)) (found : List Place) → schedules_down i k (take k passes) found ≡ schedules_down i k passes found
down_front i zero passes found = refl
down_front i (suc k) [] found = refl
down_front i (suc k) (p ∷ passes) found = down_front (suc i) k passes (in_front i p found)

pub down_append : (i k : ℕ) (passes more : List (Made × Choice)) (found : List Place) → k ≤ length passes → schedules_down i k (passes ++ more) found ≡ schedules_down i k passes found
down_append i zero passes more found h = refl
down_append i (suc k) [] more found h = absurd (omega arith)
down_append i (suc k) (p ∷ passes) more found h = down_append (suc i) k passes more (in_front i p found) (omega arith)

-- ---- what the last schedule chose

pub last_of : List Place → Option Choice
last_of [] = None
last_of (c ∷ places) = Some c.2

last_down : (t : Tally) (i : ℕ) (passes : List (Made × Choice)) (found : List Place) → t.last ≡ last_of found → (tally t passes).last ≡ last_of (schedules_down i (length passes) passes found)
unfolding last_of
last_down t i [] found h = h
last_down t i (p ∷ passes) found h = last_down (tally_one t p) (suc i) passes (in_front i p found) (go (is_thread p.0.default))
  where
    go : (b : Bool) → (cond b (tally_thread t p.0.default p.1) t).last ≡ last_of (cond b ((i, p.0, p.1) ∷ found) found)
    go true = refl
    go false = h

-- the tally's last choice is that of the schedule in front
pub tally_last : (passes : List (Made × Choice)) → (tally start passes).last ≡ last_of (schedules_down 0 (length passes) passes [])
unfolding last_of
tally_last passes = last_down start 0 passes [] refl

-- ---- where the run went over to another thread

-- with one schedule more
pub switching_more : (c : Place) (places : List Place) → first_of (switching (c ∷ places)) ≡ cond (c.1.exploring && goes_over (last_of places) c.2) (Some c.0) (first_of (switching places))
unfolding last_of
switching_more c [] = go c.1.exploring
  where
    go : (b : Bool) → first_of (cond b (c.0 ∷ []) []) ≡ cond (b && true) (Some c.0) None
    go true = refl
    go false = refl
switching_more c (p ∷ places) = go (c.1.exploring && pick (same c.2 p.2) false true)
  where
    go : (b : Bool) → first_of (cond b (c.0 ∷ []) (switching (p ∷ places))) ≡ cond b (Some c.0) (first_of (switching (p ∷ places)))
    go true = refl
    go false = refl

end_there : (passes : List (Made × Choice)) (k : ℕ) (pass : Made × Choice) → length passes ≡ k → slice_get (passes ++ pass ∷ []) k ≡ Some pass
end_there [] zero pass h = refl
end_there [] (suc k) pass h = absurd (omega arith)
end_there (p ∷ passes) zero pass h = absurd (omega arith)
end_there (p ∷ passes) (suc k) pass h = end_there passes k pass (omega arith)

module _ (k : ℕ) (passes : List (Made × Choice)) (pass : Made × Choice) (size : length passes ≡ k) where
  down_end : schedules_down 0 (suc k) (passes ++ pass ∷ []) [] ≡ in_front k pass (schedules_down 0 k passes [])
  down_end =
      let place : 0 + k ≡ k = omega arith in
      down_next 0 k (passes ++ pass ∷ []) [] pass (end_there passes k pass size)
      ∙ ap (λ j. in_front j pass (schedules_down 0 k (passes ++ pass ∷ []) [])) place
      ∙ ap (λ l. in_front k pass l) (down_append 0 k passes (pass ∷ []) [] (omega arith))

  -- a schedule more
  pub switch_more : is_thread pass.0.default ≡ true
      → last_switch (suc k) (passes ++ pass ∷ []) ≡ cond (pass.0.exploring && goes_over (tally start passes).last pass.1) (Some k) (last_switch k passes)
  switch_more t =
      let here : Place = (k, pass.0, pass.1) in
      let before : List Place = schedules_down 0 k passes [] in
      let last : last_of before ≡ (tally start passes).last = ap (λ j. last_of (schedules_down 0 j passes [])) (sym size) ∙ sym (tally_last passes) in
      ap (λ l. first_of (switching l)) down_end
      ∙ ap (λ b. first_of (switching (cond b (here ∷ before) before))) t
      ∙ switching_more here before
      ∙ ap (λ (o : Option Choice). cond (pass.0.exploring && goes_over o pass.1) (Some k) (first_of (switching before))) last

  -- another node more
  pub switch_same : is_thread pass.0.default ≡ false → last_switch (suc k) (passes ++ pass ∷ []) ≡ last_switch k passes
  switch_same t =
      ap (λ l. first_of (switching l)) down_end
      ∙ ap (λ b. first_of (switching (cond b ((k, pass.0, pass.1) ∷ schedules_down 0 k passes []) (schedules_down 0 k passes [])))) t

  -- the nearest that explores, with a schedule more
  pub exploring_more : is_thread pass.0.default ≡ true → last_exploring (suc k) (passes ++ pass ∷ []) ≡ cond pass.0.exploring (Some k) (last_exploring k passes)
  exploring_more t =
      let before : List Place = schedules_down 0 k passes [] in
      ap (λ l. place_of (from_exploring l)) down_end
      ∙ ap (λ b. place_of (from_exploring (cond b ((k, pass.0, pass.1) ∷ before) before))) t
      ∙ go before pass.0.exploring
    where
      go : (before : List Place) (b : Bool) → place_of (cond b ((k, pass.0, pass.1) ∷ before) (from_exploring before)) ≡ cond b (Some k) (place_of (from_exploring before))
      go before true = refl
      go before false = refl

  -- with another node more
  pub exploring_same : is_thread pass.0.default ≡ false → last_exploring (suc k) (passes ++ pass ∷ []) ≡ last_exploring k passes
  exploring_same t =
      ap (λ l. place_of (from_exploring l)) down_end
      ∙ ap (λ b. place_of (from_exploring (cond b ((k, pass.0, pass.1) ∷ schedules_down 0 k passes []) (schedules_down 0 k passes [])))) t

-- ---- the count

one_more : (t : Tally) (pass : Made × Choice) → (tally_one t pass).next ≤ suc t.next
one_more t pass = go (is_thread pass.0.default) (preempts t.last pass.0.default pass.1)
  where
    go : (b c : Bool) → (cond b (record { next = cond c (suc t.next) t.next; last = Some pass.1 }) t).next ≤ suc t.next
    go true true = omega arith
    go true false = omega arith
    go false c = omega arith

count_from : (t : Tally) (passes : List (Made × Choice)) → (tally t passes).next ≤ t.next + length passes
count_from t [] = omega arith
count_from t (p ∷ passes) = omega (arith, count_from (tally_one t p) passes, one_more t p)

-- a run counts no more preemptions than it passes nodes
pub count_within : (passes : List (Made × Choice)) → count passes ≤ length passes
count_within passes = omega (arith, count_from start passes)

-- ---- the tally that is kept

module _ (k : ℕ) (passes : List (Made × Choice)) (pass : Made × Choice) (size : length passes ≡ k) (old : Kept) (held : Tallies k passes old) where
  -- a schedule is passed
  pub tallied : (new : Kept) → is_thread pass.0.default ≡ true
      → new.preemptions ≡ cond (preempts (option_map Thread old.last) pass.0.default pass.1) (suc old.preemptions) old.preemptions
      → option_map Thread new.last ≡ Some pass.1
      → new.switch ≡ cond (pass.0.exploring && goes_over (option_map Thread old.last) pass.1) (Some k) old.switch
      → new.nearest ≡ cond pass.0.exploring (Some k) old.nearest
      → Tallies (suc k) (passes ++ pass ∷ []) new
  tallied new t counted last switched explored =
      let more : tally start (passes ++ pass ∷ []) ≡ tally_thread (tally start passes) pass.0.default pass.1 =
      tally_more start passes pass ∙ ap (λ b. cond b (tally_thread (tally start passes) pass.0.default pass.1) (tally start passes)) t in (
        counted
            ∙ ap (λ (o : Option Choice). cond (preempts o pass.0.default pass.1) (suc old.preemptions) old.preemptions) held.1
            ∙ ap (λ n. cond (preempts (tally start passes).last pass.0.default pass.1) (suc n) n) held.0
            ∙ sym (ap (λ (u : Tally). u.next) more),
        last ∙ sym (ap (λ (u : Tally). u.last) more),
        switched
            ∙ ap (λ (o : Option Choice). cond (pass.0.exploring && goes_over o pass.1) (Some k) old.switch) held.1
            ∙ ap (λ (o : Option ℕ). cond (pass.0.exploring && goes_over (tally start passes).last pass.1) (Some k) o) held.2
            ∙ sym (switch_more k passes pass size t),
        explored ∙ ap (λ (o : Option ℕ). cond pass.0.exploring (Some k) o) held.3 ∙ sym (exploring_more k passes pass size t),
      )

  -- what is no schedule changes nothing
  pub untallied : is_thread pass.0.default ≡ false → Tallies (suc k) (passes ++ pass ∷ []) old
  untallied t =
      let more : tally start (passes ++ pass ∷ []) ≡ tally start passes =
      tally_more start passes pass ∙ ap (λ b. cond b (tally_thread (tally start passes) pass.0.default pass.1) (tally start passes)) t in (
        held.0 ∙ sym (ap (λ (u : Tally). u.next) more),
        held.1 ∙ sym (ap (λ (u : Tally). u.last) more),
        held.2 ∙ sym (switch_same k passes pass size t),
        held.3 ∙ sym (exploring_same k passes pass size t),
      )
