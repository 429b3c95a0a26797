use Rattle.std.proofs.Common.{◌≡◌, arith, rules}
use Rattle.std.specs.Prelude.{◌-◌, ◌^◌, true, nat_lt}
use Rattle.loom_views.specs.declared.rt.failure.FailureKind.TheVariants.{Misuse}
use Rattle.loom_objects.specs.Rules.Cell.{cell_read}
use Rattle.loom_objects.proofs.Cells.Going.{copies, fails_outside}
use Rattle.loom_objects.proofs.Cells.Opening.{read_opened, read_refused, reads_on}
use Rattle.loom_objects.proofs.rt.cell.cell_read.Goals as goal

pub returns-in_err-open_read : goal.returns-in_err-open_read
returns-in_err-open_read g c =
    fails_outside (cell_read c.args.number) _ _ c.in_err-open_read.field-0.0 _ (search rules)
    (read_refused c.args.number (reads_on c.args.number c.args.scene.now.active) c.args.scene.now c.open_read.new.scene c.in_err-open_read.field-0.0 c.in_err-open_read.ensures.does)

pub returns-in_err-value : goal.returns-in_err-value
returns-in_err-value g c =
    fails_outside (cell_read c.args.number) _ _ Misuse _ (search rules)
    (λ p left shown. let o = read_opened c.args.number (reads_on c.args.number c.args.scene.now.active) c.args.scene.now c.open_read.new.scene c.in_ok-open_read.ensures.does c.open_read.ensures.rest p left shown in rw o.1 (search rules))

pub returns-then-count : goal.returns-then-count
returns-then-count g c = λ p left shown. let o = read_opened c.args.number (reads_on c.args.number c.args.scene.now.active) c.args.scene.now c.open_read.new.scene c.in_ok-open_read.ensures.does c.open_read.ensures.rest p left shown in rw o.1 (search rules)

pub returns : goal.returns
returns g c =
    copies (cell_read c.args.number) _ _ c.reading-entry.result _ c.reading-entry.ensures
    (λ p left shown. let room : nat_lt c.reads_open-count.result (2 ^ 64 - 1) ≡ true = grind arith in let o = read_opened c.args.number (reads_on c.args.number c.args.scene.now.active) c.args.scene.now c.open_read.new.scene c.in_ok-open_read.ensures.does c.open_read.ensures.rest p left shown in rw o.1 (search rules))
