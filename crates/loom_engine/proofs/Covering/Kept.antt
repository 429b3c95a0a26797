-- What is kept of a run at a branch point tells its state.
use Rattle.std.proofs.Common.{◌≡◌, ◌⊎◌, ℕ, Bool, true, false, zero, suc, arith, List, [], ◌∷◌, length, Some, refl, ap, sym, ◌∙◌, subst}
use Rattle.std.specs.List.{Contains}
use Rattle.std.specs.Prelude.{slice_get}
use Rattle.loom_views.specs.InOrder.{IsInOrder}
use Rattle.loom_views.specs.Sight.{Sight as SightOfPoints, seen}
use Rattle.loom_views.specs.Views.{Points, opening as first_points}
use Rattle.loom_views.specs.declared.rt.views.Views.{Views}
use Rattle.loom_views.proofs.Sight.Shown.{shown_law}
use Rattle.loom_objects.specs.Dependence.Order.{Order}
use Rattle.loom_objects.specs.Dependence.Shown.{Keeps}
use Rattle.loom_objects.specs.declared.operation.Lazy.{Lazy}
use Rattle.loom_objects.specs.declared.rt.dependence.Dependence.{Dependence}
use Rattle.loom_objects.specs.declared.rt.exploring.Exploring.{Exploring}
use Rattle.loom_objects.specs.declared.rt.exploring.Exploring.TheVariants.{On}
use Rattle.loom_objects.specs.declared.rt.object.Object.{Object}
use Rattle.loom_objects.specs.declared.rt.thread.Thread.{Thread}
use Rattle.loom_objects.specs.Exploring.{is_on}
use Rattle.loom_objects.specs.Scene.Stage.{world_of}
use Rattle.loom_objects.specs.World.{World}
use Rattle.loom_engine.specs.declared.rt.states.State.{State as Kept}
use Rattle.loom_engine.specs.Runs.Machine.{further_branches}
use Rattle.loom_engine.specs.declared.rt.execution.Progress.{Progress}
use Rattle.loom_engine.specs.Covering.Kept.{HasScene, IsKeptOf, Key, KeptLaw, state_in}
use Rattle.loom_engine.specs.Covering.Points.{Sight, yields_seen}
use Rattle.loom_engine.specs.Covering.Sight.{seen_by}
use Rattle.loom_engine.specs.Covering.States.{State, state_of}

-- as many threads have counts as an order has, whichever is kept
kept_count : (is_ordered : Bool) (o : Order) (d : Dependence) → Keeps is_ordered o d → length o.threads ≡ length d.threads
kept_count true o d h = h.count
kept_count false o d h = h.count

module _ {D : Type 0} where
  -- what is seen of a world that explores
  looked : Bool → World D → SightOfPoints ⊎ Points → Sight D (SightOfPoints ⊎ Points)
  looked never w points = record { rest = record w { points = first_points; active = 0; steps_left = 0; yields = yields_seen never w.yields }; points = points }

  looks_so : (never : Bool) (w : World D) → seen_by never true w ≡ looked never w (seen w.points)
  unfolding looked
  looks_so true w = refl
  looks_so false w = refl

module _ {D S : Type 0} where
  -- the state, by what is kept and what is seen of the points
  told : Kept D S → SightOfPoints ⊎ Points → State S (Sight D (SightOfPoints ⊎ Points))
  told kept points =
      record {
        bodies = kept.bodies;
        seen = record {
          rest = record { threads = kept.threads; objects = kept.objects; points = first_points; lazies = kept.lazies; active = 0; yields = kept.yields; steps_left = 0; max_threads = kept.max_threads };
          points = points;
        };
        exploring = On;
        more = further_branches;
        ordered = kept.ordered;
      }

  with_exploring : Bool → State S (Sight D (SightOfPoints ⊎ Points)) → Exploring → World D → State S (Sight D (SightOfPoints ⊎ Points))
  with_exploring never s exploring w = record s { exploring = exploring; seen = seen_by never (is_on exploring) w }

  tells : (never : Bool) (kept : Kept D S) (key : Key D S) (is : IsKeptOf never kept key) → key ≡ (Some (told kept (seen is.moment.course.world.points)), [])
  unfolding told looked with_exploring
  tells never kept key is =
      let s = state_of (seen_by never) is.moment in
      let w = is.moment.course.world in
      let on : s ≡ with_exploring never s On w = ap (λ (x : Exploring). with_exploring never s x w) is.explores in
      let rest : w ≡ world_of w.points is.run.state.steps_left is.run.state.scene = is.shown.world.rest in
      let seen_so : s ≡ record s { exploring = On; seen = looked never (world_of w.points is.run.state.steps_left is.run.state.scene) (seen w.points) } =
      on
      ∙ ap (λ (x : Sight D (SightOfPoints ⊎ Points)). record s { exploring = On; seen = x }) (looks_so never w)
      ∙ ap (λ (v : World D). record s { exploring = On; seen = looked never v (seen w.points) }) rest in
      let more_so : s ≡ record s { exploring = On; more = further_branches; seen = looked never (world_of w.points is.run.state.steps_left is.run.state.scene) (seen w.points) } =
      seen_so ∙ ap (λ (n : ℕ). record s { exploring = On; more = n; seen = looked never (world_of w.points is.run.state.steps_left is.run.state.scene) (seen w.points) }) is.first in
      let ordered_so : s ≡ told (state_in never is.run is.moment.bodies is.views) (seen w.points) =
      more_so
      ∙ ap (λ (n : ℕ). record s { exploring = On; more = further_branches; ordered = n; seen = looked never (world_of w.points is.run.state.steps_left is.run.state.scene) (seen w.points) }) (kept_count is.path.search.reduce is.moment.course.order is.run.dependence is.shown.order) in
      is.state ∙ ap (λ (x : State S (Sight D (SightOfPoints ⊎ Points))). (Some x, [])) (ordered_so ∙ ap (λ (k : Kept D S). told k (seen w.points)) (sym is.copied))

  seen_same : (never : Bool) (kept : Kept D S) (one other : Key D S) (is : IsKeptOf never kept one) (too : IsKeptOf never kept other) → seen is.moment.course.world.points ≡ seen too.moment.course.world.points
  seen_same never kept one other is too =
      let views : too.views ≡ is.views = ap (λ (k : Kept D S). k.views) (sym too.copied ∙ is.copied) in
      shown_law is.moment.course.world.points too.moment.course.world.points is.run.state.scene.views too.run.state.scene.views is.views is.led too.led is.shown.world.views too.shown.world.views is.order
      (subst (λ (v : Views). IsInOrder too.run.state.scene.views v) views too.order)

pub kept_law : {D S : Type 0} → KeptLaw D S
kept_law never kept one other is too =
    tells never kept one is ∙ ap (λ (x : SightOfPoints ⊎ Points). (Some (told kept x), [])) (seen_same never kept one other is too) ∙ sym (tells never kept other too)

-- where all parts of it are those of the run, it is the state of the run
pub is_state_in : {D S : Type 0} (never : Bool) (kept : Kept D S) (run : Progress D) (bodies : List S) (views : Views) → HasScene kept run.state.scene → kept.views ≡ views → kept.yields ≡ yields_seen never run.state.scene.yields → kept.ordered ≡ length run.dependence.threads → kept.bodies ≡ bodies → kept ≡ state_in never run bodies views
is_state_in {D} {S} never kept run bodies views has order yielded count same =
    let s = run.state.scene in
    let y : List ℕ = yields_seen never s.yields in
    let one : kept ≡ record kept { threads = s.threads } = ap (λ (l : List (Thread D)). record kept { threads = l }) has.threads in
    let two : kept ≡ record kept { threads = s.threads; objects = s.objects } = one ∙ ap (λ (l : List (Object D)). record kept { threads = s.threads; objects = l }) has.objects in
    let three : kept ≡ record kept { threads = s.threads; objects = s.objects; views = views } = two ∙ ap (λ (v : Views). record kept { threads = s.threads; objects = s.objects; views = v }) order in
    let four : kept ≡ record kept { threads = s.threads; objects = s.objects; views = views; lazies = s.lazies } =
    three ∙ ap (λ (l : List (Lazy D)). record kept { threads = s.threads; objects = s.objects; views = views; lazies = l }) has.lazies in
    let five : kept ≡ record kept { threads = s.threads; objects = s.objects; views = views; lazies = s.lazies; max_threads = s.max_threads } =
    four ∙ ap (λ (n : ℕ). record kept { threads = s.threads; objects = s.objects; views = views; lazies = s.lazies; max_threads = n }) has.max_threads in
    let six : kept ≡ record kept { threads = s.threads; objects = s.objects; views = views; lazies = s.lazies; max_threads = s.max_threads; yields = y } =
    five ∙ ap (λ (l : List ℕ). record kept { threads = s.threads; objects = s.objects; views = views; lazies = s.lazies; max_threads = s.max_threads; yields = l }) yielded in
    let seven : kept ≡ record kept { threads = s.threads; objects = s.objects; views = views; lazies = s.lazies; max_threads = s.max_threads; yields = y; ordered = length run.dependence.threads } =
    six ∙ ap (λ (n : ℕ). record kept { threads = s.threads; objects = s.objects; views = views; lazies = s.lazies; max_threads = s.max_threads; yields = y; ordered = n }) count in
    seven ∙ ap (λ (l : List S). let k : Kept D S = record kept { threads = s.threads; objects = s.objects; views = views; lazies = s.lazies; max_threads = s.max_threads; yields = y; ordered = length run.dependence.threads; bodies = l } in k) same

-- a list has what is at one of its places
pub has_at : {X : Type 0} (xs : List X) (k : ℕ) (x : X) → slice_get xs k ≡ Some x → Contains xs x
has_at [] k x e = absurd (cc e)
has_at (y ∷ xs) zero x e = (0, omega arith, cc e)
has_at (y ∷ xs) (suc k) x e = let z = has_at xs k x e in (suc z.0, omega (arith, z.1), z.2)
