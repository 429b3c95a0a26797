use Rattle.std.proofs.Common.{◌≤◌, length, ap, ◌∙◌, arith, Some}
use Rattle.loom_views.proofs.Atomic.Table.Moves.{stamp-moved, stamp-no_place, stamp-no_stamp}
use Rattle.loom_views.proofs.rt.views.Views.stamp.Goals as goal
use Rattle.loom_views.proofs.rt.views.Views.stamp.Goals.{then-place-len-via-then-place-len, then-place-len-via-else-place-len+then-stamp-len}

pub returns-then-place-len : goal.returns-then-place-len
returns-then-place-len c = λ p z.
    elim c.then-place-len.branch [
      | then-place-len-via-then-place-len w ↦ let past : length c.args.self.now.places ≤ c.args.place = omega arith in stamp-no_place p c.args.self.now c.args.place c.args.stamp past z
      | then-place-len-via-else-place-len+then-stamp-len w ↦ let past : length c.args.self.now.stamps ≤ c.args.stamp = omega arith in stamp-no_stamp p c.args.self.now c.args.place c.args.stamp past z
    ]

pub returns-in-Point : goal.returns-in-Point
returns-in-Point c = λ p z. stamp-moved p c.args.self.now c.args.place c.args.stamp c.in-Point.sync (c.at.ensures ∙ ap Some c.in-Point.is) (omega arith) z
