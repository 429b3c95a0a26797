use Rattle.std.proofs.Common.{◌≡◌, ap, rules, Err}
use Rattle.loom_objects.specs.Rules.Atomic.{updates}
use Rattle.loom_objects.specs.Scene.Stage.{Stage}
use Rattle.loom_objects.proofs.Sync.Slots.{writes_on, write_fails}
use Rattle.loom_objects.proofs.rt.atomic.update.Goals as goal

pub returns : goal.returns
returns g c =
    writes_on (updates c.args.number c.args.change c.args.order c.args.slot) c.args.scene.now c.update_read.new.self _ c.args.number c.args.slot c.in_ok-read.read
    (ap (λ (s : Stage g.row.D.Denot). s.active) c.in_ok-read.ensures.rest) c.in_ok-read.ensures.shown
    c.fit-value.result c.args.order _ c.in_ok-update_write.ensures.shown (λ p left got put a b d. search rules)

pub returns-in_err-update_write : goal.returns-in_err-update_write
returns-in_err-update_write g c =
    let e : c.from_residual-in_err-update_write.result ≡ Err c.in_err-update_write.field-0.0 = search rules in
    rw e (write_fails (updates c.args.number c.args.change c.args.order c.args.slot) c.args.scene.now c.update_read.new.self c.update_write.new.self c.args.number c.args.slot c.in_ok-read.read
    (ap (λ (s : Stage g.row.D.Denot). s.active) c.in_ok-read.ensures.rest) c.in_ok-read.ensures.shown
    c.fit-value.result c.args.order c.in_err-update_write.field-0.0 c.update_write.new.self.views c.in_err-update_write.ensures.shown (λ p left got a b d. search rules))
