-- Each alternative was tried, where nothing is left to try.
use Rattle.std.proofs.Common.{◌≡◌, ◌⊎◌, Bool, List, [], ◌∷◌, ◌++◌, Option, Some, None, refl, ap, sym, ◌∙◌, subst, inl, inr, false}
use Rattle.std.specs.Prelude.{IsSomeAnd}
use Rattle.loom_objects.specs.declared.choice.Choice.{Choice}
use Rattle.loom_engine.specs.Walk.Driven.{Driven, last_run, one_run, IsOneOf}
use Rattle.loom_engine.specs.Walk.Lists.{Begins}
use Rattle.loom_engine.specs.Walk.Path.{Skip, Visited, Stored, choices, node_at, after_run}
use Rattle.loom_engine.specs.Walk.Runs.{Alternative}
use Rattle.loom_engine.specs.Trees.Marks.{marking}
use Rattle.loom_engine.specs.Trees.Meeting.{Settings}
use Rattle.loom_engine.specs.Path.Route.{Route, at_rest, stored}
use Rattle.loom_engine.specs.declared.rt.execution.Limits.{Limits}
use Rattle.loom.specs.Runner.Chains.{Run, choices_of, tree_of, machine, Follow, IsAmong}
use Rattle.loom.specs.Runner.Laws.{AllTriedFrom, AlternativesLaw, HadTried, IsTried}
use Rattle.loom.proofs.RunnerLemmas.Tried.{Tries, each_tried}
use Rattle.loom.proofs.RunnerLemmas.Trying.{IsSkipped, IsToBeTried, alternative_tried, skips_own}
use Rattle.loom.proofs.RunnerLemmas.Following.{IsFine, IsKnown, read_fine, begins_fine, each_known, is_machine, rests, chosen_so, left_so, left_by}

-- the path's node says that the option was tried
abbrev HasVisited : List Stored → List Choice → Choice → Type 0
HasVisited p before o = (n : Stored) × (node_at p before ≡ Some n) × (n.status o ≡ Visited)

module _ {D : Type 0} where
  -- the paths that the runs left, the oldest first, in front of others
  onto : List (Run D) → List (List Stored) → List (List Stored)
  onto [] paths = paths
  onto (r ∷ runs) paths = onto runs (stored r.now.route.nodes ∷ paths)

  behind : (runs : List (Run D)) (paths : List (List Stored)) (x : List Stored) → IsOneOf x paths → IsOneOf x (onto runs paths)
  unfolding onto
  behind [] paths x h = h
  behind (r ∷ runs) paths x h = behind runs (stored r.now.route.nodes ∷ paths) x (inr h)

  among_paths : (runs : List (Run D)) (paths : List (List Stored)) (r : Run D) → IsAmong r runs → IsOneOf (stored r.now.route.nodes) (onto runs paths)
  unfolding onto
  among_paths [] paths r h = absurd h
  among_paths (x ∷ runs) paths r (inl e) = behind runs (stored x.now.route.nodes ∷ paths) (stored r.now.route.nodes) (inl (ap (λ (y : Run D). stored y.now.route.nodes) e))
  among_paths (x ∷ runs) paths r (inr h) = among_paths runs (stored x.now.route.nodes ∷ paths) r h

  Left : List (Run D) → List Stored → Type 0
  Left runs x = (r : Run D) × IsAmong r runs × (x ≡ stored r.now.route.nodes)

  one_of_runs : (runs : List (Run D)) (paths : List (List Stored)) (x : List Stored) → IsOneOf x (onto runs paths) → Left runs x ⊎ IsOneOf x paths
  unfolding onto Left
  one_of_runs [] paths x h = inr h
  one_of_runs (r ∷ runs) paths x h = go (one_of_runs runs (stored r.now.route.nodes ∷ paths) x h)
    where
      go : (((y : Run D) × IsAmong y runs × (x ≡ stored y.now.route.nodes)) ⊎ IsOneOf x (stored r.now.route.nodes ∷ paths))
          → ((y : Run D) × IsAmong y (r ∷ runs) × (x ≡ stored y.now.route.nodes)) ⊎ IsOneOf x paths
      go (inl (y, a, e)) = inl (y, inr a, e)
      go (inr (inl e)) = inl (r, inl refl, e)
      go (inr (inr z)) = inr z

  module _ (limits : Limits) (s : Settings) (explores : Bool) (start : Route) (good : IsFine s explores start) where
    driven_from : (runs : List (Run D)) (later : Route) → Follow limits start runs (Some later) → (paths : List (List Stored)) → Driven (stored later.nodes) paths → Driven (stored start.nodes) (onto runs paths)
    unfolding onto
    driven_from [] later h paths d = let same : later ≡ start = cc h in subst (λ (t : Route). Driven (stored t.nodes) paths) same d
    driven_from (r ∷ runs) later (before, ended, goes) paths d =
        driven_from runs r.began before (stored r.now.route.nodes ∷ paths)
        (one_run (stored r.began.nodes) (stored r.now.route.nodes) (stored later.nodes) paths (left_by s explores limits r (begins_fine s explores limits start good runs r.began before) ended) goes.0 d)

    all_driven : (runs : List (Run D)) → Follow limits start runs None → Driven (stored start.nodes) (onto runs [])
    unfolding onto
    all_driven [] h = absurd (cc h)
    all_driven (r ∷ runs) (before, ended, goes) =
        driven_from runs r.began before (stored r.now.route.nodes ∷ [])
        (last_run (stored r.began.nodes) (stored r.now.route.nodes) (left_by s explores limits r (begins_fine s explores limits start good runs r.began before) ended) goes)

    tried : (runs : List (Run D)) → Follow limits start runs None → (r : Run D) → IsAmong r runs → IsKnown s explores limits start good (IsSkipped s (stored start.nodes)) r
        → (before : List Choice) (o : Choice) → Alternative (machine limits s r) (choices_of r) before o → IsTried runs before o ⊎ HadTried s start.nodes before o
    unfolding Left
    tried runs h r among known before o alt =
        by_path (alternative_tried s (marking s.bound) (tree_of limits r) (IsSkipped s (stored start.nodes)) (is_machine s explores limits r known.fine) (stored r.began.nodes) (rests s explores limits r known.fine known.ended) known.only before o
        (subst (λ (c : List Choice). Alternative (machine limits s r) c before o) (chosen_so s explores limits r known.fine known.ended) alt))
      where
        q : List Stored
        q = after_run (machine limits s r) (stored r.began.nodes)

        left_is : stored r.now.route.nodes ≡ q
        left_is = left_so s explores limits r known.fine known.ended

        says : (n : Stored) → node_at (stored start.nodes) before ≡ Some n → ((n.status o ≡ Visited) ⊎ ((s.reduce ≡ false) × (n.status o ≡ Skip))) → HadTried s start.nodes before o
        says n at so = subst (λ (x : Option Stored). IsSomeAnd x (λ (y : Stored). (y.status o ≡ Visited) ⊎ ((s.reduce ≡ false) × (y.status o ≡ Skip)))) (sym at) so

        by_run : Tries (onto runs []) before o → IsTried runs before o
        by_run made = go (one_of_runs runs [] made.0 made.1)
          where
            go : (((y : Run D) × IsAmong y runs × (made.0 ≡ stored y.now.route.nodes)) ⊎ ⊥) → IsTried runs before o
            go (inr z) = absurd z
            go (inl (y, a, e)) =
                let k = each_known s explores limits start good (IsSkipped s (stored start.nodes)) (skips_own s (stored start.nodes) good.well.rest) runs None h y a in
                let same : choices made.0 ≡ choices_of y = ap choices (e ∙ left_so s explores limits y k.fine k.ended) ∙ sym (chosen_so s explores limits y k.fine k.ended) in
                (y, a, subst (Begins (before ++ o ∷ [])) same made.2)

        by_walk : HasVisited (stored start.nodes) before o ⊎ Tries (onto runs []) before o → IsTried runs before o ⊎ HadTried s start.nodes before o
        by_walk (inl z) = inr (says z.0 z.1 (inl z.2))
        by_walk (inr z) = inl (by_run z)

        by_path : IsToBeTried s (marking s.bound) (tree_of limits r) (IsSkipped s (stored start.nodes)) q before o ⊎ IsSkipped s (stored start.nodes) before o → IsTried runs before o ⊎ HadTried s start.nodes before o
        by_path (inr z) = inr (says z.0 z.1 (inr (z.2, z.3)))
        by_path (inl z) =
            by_walk (each_tried (HasVisited (stored start.nodes)) (stored start.nodes) (onto runs []) (all_driven runs h) (λ b n c at e. (n, at, e)) (stored r.now.route.nodes) (among_paths runs [] r among) before z.node o
            (ap (λ (l : List Stored). node_at l before) left_is ∙ z.at) z.exploring z.tried)

    pub all_tried : (runs : List (Run D)) → Follow limits start runs None → AllTriedFrom limits s start.nodes runs
    all_tried runs h r among before o alt =
        tried runs h r among (each_known s explores limits start good (IsSkipped s (stored start.nodes)) (skips_own s (stored start.nodes) good.well.rest) runs None h r among) before o alt

pub alternatives_law : {D : Type 0} → AlternativesLaw D
alternatives_law limits s explores text path runs reads h = all_tried limits s explores (at_rest s explores path) (read_fine s explores text path reads) runs h
