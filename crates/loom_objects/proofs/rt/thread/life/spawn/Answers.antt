use Rattle.std.proofs.Common.{◌≡◌, ◌∙◌, ap, arith, length, rules, subst, sym, true}
use Rattle.std.specs.Prelude.{nat_lt}
use Rattle.loom_views.specs.Views.{ShowsViews, points_after_spawn, points_with_point}
use Rattle.loom_objects.specs.Scene.Stage.{Stage}
use Rattle.loom_objects.specs.World.{child_thread}
use Rattle.loom_objects.proofs.Scene.Showing.{leads_by}
use Rattle.loom_objects.proofs.rt.thread.life.spawn.Goals as goal

pub returns : goal.returns
returns g c = λ p left shown.
    let old = c.args.scene.now in
    let moved = leads_by (λ q. points_after_spawn q old.active) old.views c.spawn_view.new.self.views c.in_default.ensures.shown p shown in
    let room : nat_lt (length old.threads) old.max_threads ≡ true = grind arith in
    let count : c.thread_count-count.result ≡ length old.threads = c.thread_count-count.ensures.count in
    let at : c.in_ok-notifier.notifier ≡ length c.spawn_view.new.self.objects = cc (c.in_ok-notifier.ensures.number) in
    let number : c.in_ok-notifier.notifier ≡ length old.objects = at ∙ ap (λ (s : Stage g.row.D.Denot). length s.objects) c.spawn_view.ensures.rest in
    let child : c.child-thread.result ≡ child_thread c.args.name (length old.objects) = c.child-thread.ensures ∙ ap (child_thread c.args.name) number in
    let same : c.add_thread.new.self.views ≡ c.add.new.self.views = ap (λ (s : Stage g.row.D.Denot). s.views) c.in_ok-add_thread.ensures in
    let after : ShowsViews (points_with_point moved.0) c.add_thread.new.self.views = subst (ShowsViews (points_with_point moved.0)) (sym same) (c.in_ok-notifier.ensures.views moved.0 moved.2) in
    rw (room, moved.1) (search rules)
