use Rattle.std.proofs.Common.{◌≡◌, length, rules, sym, ap, subst}
use Rattle.loom_views.specs.Views.{ShowsViews, points_with_stamp}
use Rattle.loom_objects.specs.Scene.Stage.{Stage}
use Rattle.loom_objects.proofs.rt.locals.make_lazy.Goals as goal

pub returns : goal.returns
returns g c = λ p left shown.
    let number = c.in_ok-stamp.ensures.number p shown in
    let stamp : c.in_ok-stamp.stamp ≡ length p.stamps = cc in
    let stamped = c.in_ok-stamp.ensures.views p shown in
    let same : c.add_lazy.new.self.views ≡ c.add_stamp.new.self.views = ap (λ (s : Stage g.row.D.Denot). s.views) c.in_ok-add_lazy.ensures in
    let released = c.release_to_stamp.ensures.views (points_with_stamp p) (subst (ShowsViews (points_with_stamp p)) (sym same) stamped) in
    search rules
