-- What a check by several workers has found, turn after turn.
use Rattle.std.proofs.Common.{◌≡◌, ◌≤◌, ◌+◌, ℕ, List, ◌++◌, Some, sym, subst, arith}
use Rattle.std.specs.declared.time.Duration.{Duration}
use Rattle.loom_objects.specs.declared.choice.Choice.{Choice}
use Rattle.loom_objects.specs.Tree.Tree.{Tree}
use Rattle.loom_engine.specs.Walk.Machine.{Machine}
use Rattle.loom_engine.specs.Walk.Sound.{IsMachine}
use Rattle.loom_engine.specs.Runs.Sound.{IsRunTree}
use Rattle.loom_engine.specs.Trees.Outcomes.{choices_made}
use Rattle.loom_engine.specs.Parts.Keeping.{IsAt, HasMadeAll, Cuts}
use Rattle.loom_engine.specs.declared.rt.parts.Parts.{Parts}
use Rattle.loom.specs.declared.model.builder.Builder.{Builder}
use Rattle.loom.specs.declared.model.Limit.{Limit}
use Rattle.loom.specs.declared.model.Limit.TheVariants.{Permutations, Duration as Lasting}
use Rattle.loom.specs.declared.runner.parallel.Found.TheVariants.{Complete, Stopped, Failed}
use Rattle.loom.specs.declared.runner.parallel.round.Lost.{Lost}
use Rattle.loom.specs.declared.runner.parallel.round.Turn.{Turn}
use Rattle.loom.specs.Model.Fresh.{machine}
use Rattle.loom.specs.Model.Loop.{HasReached}
use Rattle.loom.specs.Model.Settings.{most_runs, search_of}
use Rattle.loom.specs.Runner.Parallel.{FailsSo, HasGoneOn, StopsBy, Finds}
use Rattle.loom.specs.Runner.Workers.{TakesTurn}
use Rattle.loom.proofs.RunnerLemmas.Turns.{whole_ends}
use Rattle.loom.proofs.RunnerLemmas.Workers.{made_both, is_machine, gone_further, gone_elsewhere}

module _ {G V D : Type 0} (takes : V → List Choice → D → V → Type 0) (is_new : V → Type 0) (joins : G → V → G → Type 0) (b : Builder) (tree : Tree D) (sound : IsRunTree tree) (before : Parts) (old : G) where
  -- the search has gone on so far
  abbrev pub HasCome : Parts → G → ℕ → Type 0
  HasCome parts later count = (made : List (List Choice)) → IsAt (machine (search_of b) tree) made before → HasGoneOn takes is_new joins b tree made old later parts count

  -- a turn more
  pub come_further : (mid parts : Parts) (middle later : G) (count : ℕ) (turn : Turn) → HasCome mid middle count → TakesTurn takes is_new joins b tree mid parts middle later turn
      → HasCome parts later (count + turn.runs)
  come_further mid parts middle later count turn h t made at =
      let g = h made at in
      gone_further takes is_new joins b tree made old middle later mid parts count turn.runs g (t (choices_made g.runs ++ made) g.comes).gone

  -- and its parts are cut
  pub come_cut : (parts after : Parts) (later : G) (count : ℕ) → HasCome parts later count → Cuts parts after → HasCome after later count
  come_cut parts after later count h cut made at =
      gone_elsewhere takes is_new joins b tree made old later parts after count (h made at) (λ all here. cut (machine (search_of b) tree) all (is_machine b tree sound) here)

  module _ (answered : Duration → Type 0) where
    pub finds_complete : (parts : Parts) (later : G) (count : ℕ) → count ≤ most_runs b → HasCome parts later count
        → ((m : Machine) (made : List (List Choice)) → IsMachine m → IsAt m made parts → HasMadeAll m made) → Finds takes is_new joins b tree answered before parts old later (Complete count)
    finds_complete parts later count few h all = (
      few,
      λ made at.
          let g = h made at in
          let whole = all (machine (search_of b) tree) (choices_made g.runs ++ made) (is_machine b tree sound) g.comes in
          record { gone = g; all = whole; none_fails = λ none x r. whole_ends (search_of b).max_branches tree g.runs made x g.are_runs none ((whole.1 x).0 r) },
    )

    stops : (count : ℕ) (limit : Limit) → count ≤ most_runs b → HasReached answered b count (Some limit) → StopsBy answered b (Stopped count limit)
    stops count Permutations few r = omega (arith, few, r)
    stops count Lasting few r = (r.1, r.0)

    pub finds_stopped : (parts : Parts) (later : G) (count : ℕ) (limit : Limit) → count ≤ most_runs b → HasCome parts later count → HasReached answered b count (Some limit)
        → Finds takes is_new joins b tree answered before parts old later (Stopped count limit)
    finds_stopped parts later count limit few h r = (stops count limit few r, h)

    pub finds_failed : (mid parts : Parts) (middle later : G) (count : ℕ) (turn : Turn) (lost : Lost) → count + turn.runs ≤ most_runs b → HasCome mid middle count
        → TakesTurn takes is_new joins b tree mid parts middle later turn → turn.lost ≡ Some lost
        → Finds takes is_new joins b tree answered before parts old later (Failed (count + turn.runs) lost.failure lost.choices)
    unfolding gone_further
    finds_failed mid parts middle later count turn lost few h t e = (
      few,
      λ made at.
          let g = h made at in
          let z = t (choices_made g.runs ++ made) g.comes in
          record {
            gone = gone_further takes is_new joins b tree made old middle later mid parts count turn.runs g z.gone;
            so = subst (λ (all : List (List Choice)). FailsSo b tree all lost.failure.kind lost.choices.items) (sym (made_both z.gone.runs g.runs made)) (z.lost lost e);
          },
    )
