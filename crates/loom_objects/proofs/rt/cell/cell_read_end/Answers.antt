use Rattle.std.proofs.Common.{◌≡◌, ap, rules, sym}
use Rattle.std.specs.Prelude.{Ok}
use Rattle.loom_views.specs.Views.{points_after_read}
use Rattle.loom_objects.specs.Rules.Cell.{cell_read_end}
use Rattle.loom_objects.specs.Scene.Lookup.{cell_at}
use Rattle.loom_objects.specs.Scene.Stage.{Stage}
use Rattle.loom_objects.proofs.Scene.Showing.{gives_by, leads_by}
use Rattle.loom_objects.proofs.rt.cell.cell_read_end.Goals as goal

pub returns : goal.returns
returns g c =
    let cell = c.in_ok-cell.cell.now in
    let there : cell_at c.args.number c.read_cell.new.self.objects ≡ Ok cell = rw c.in_ok-read_cell.ensures.rest (sym c.in_ok-cell.ensures) in
    let kept = (c.in_ok-keep_reads.ensures cell there).1 in
    gives_by (cell_read_end c.args.number) c.args.scene.now c.keep_reads.new.scene c.read_cell.new.self.views _
    (leads_by (λ p. points_after_read p c.args.scene.now.active c.args.number) _ _ c.in_ok-read_cell.ensures.shown) _ (ap (λ (s : Stage g.row.D.Denot). s.views) kept) (λ p q left e. search (kept, rules))

pub returns-in_err-keep_reads : goal.returns-in_err-keep_reads
returns-in_err-keep_reads g c =
    let cell = c.in_ok-cell.cell.now in
    let there : cell_at c.args.number c.read_cell.new.self.objects ≡ Ok cell = rw c.in_ok-read_cell.ensures.rest (sym c.in_ok-cell.ensures) in
    let none = (c.in_err-keep_reads.ensures cell there).0 in
    absurd (cc)
