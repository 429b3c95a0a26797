use Rattle.std.proofs.Common.{inr, refl}
use Rattle.std.specs.Fn.{CalledAtMut}
use Rattle.loom.proofs.Closures.Refusing.{handed_on}
use Rattle.loom.proofs.Closures.Shortening.{first_fails, first_not_tried, first_under_way}
use Rattle.loom.proofs.runner.shortening.shorten_along.Goals as goal

pub returns-in_err-end-clause-errors : goal.returns-in_err-end-clause-errors
returns-in_err-end-clause-errors g c =
    handed_on c.from_residual.result c.in_err-end.field-0.0 _ c.from_residual.ensures.1
    (first_not_tried (CalledAtMut g.F.FnMut) c.args.builder.now c.args.closure.now c.try_run.new.closure c.args.choices.now c.args.path.now c.requires.follows c.none-last.result 1 c.in_err-end.field-0.0 c.none-last.ensures
    c.in_err-end.ensures.errors)

pub returns-in-Ok-shorten_from-clause-shortens : goal.returns-in-Ok-shorten_from-clause-shortens
returns-in-Ok-shorten_from-clause-shortens g c =
    let given = c.in-Ok.ensures.items_if_clones_equal (λ x y h. h) in (
      first_fails (CalledAtMut g.F.FnMut) c.args.builder.now c.args.closure.now c.try_run.new.closure c.args.choices.now c.args.path.now c.requires.follows c.try_run.new.last c.in_ok-end.end c.in-Some.first _ c.in-Some.is
          c.in_ok-end.ensures.tries c.in-Ok-shorten_from.ensures.kind,
      c.in-Ok-shorten_from.ensures.found c.args.closure.now (first_under_way (CalledAtMut g.F.FnMut) c.args.builder.now c.args.closure.now c.try_run.new.closure c.args.choices.now c.args.path.now c.requires.follows
          c.try_run.new.last c.in_ok-end.end c.in-Some.first _ c.in-Some.is c.in_ok-end.ensures.tries refl given),
    )

pub returns-clause-errors : goal.returns-clause-errors
returns-clause-errors g c =
    let given = c.in-Ok.ensures.items_if_clones_equal (λ x y h. h) in
    inr (c.in-Err.ensures.errors c.args.closure.now (first_under_way (CalledAtMut g.F.FnMut) c.args.builder.now c.args.closure.now c.try_run.new.closure c.args.choices.now c.args.path.now c.requires.follows
    c.try_run.new.last c.in_ok-end.end c.in-Some.first _ c.in-Some.is c.in_ok-end.ensures.tries refl given))
