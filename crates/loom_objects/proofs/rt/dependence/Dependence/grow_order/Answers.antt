use Rattle.std.proofs.Common.{◌∙◌}
use Rattle.loom_objects.proofs.Dependence.Grown.{grown-kept}
use Rattle.loom_objects.proofs.rt.dependence.Dependence.grow_order.Goals as goal

pub returns-clause-grown : goal.returns-clause-grown
returns-clause-grown c = λ o z.
    let added = rw c.add_threads.ensures.kept at c.add_objects.ensures.added in
    grown-kept c.add_objects.result o c.args.self.now c.args.parent c.args.threads c.args.objects c.add_objects.new.self.threads c.add_objects.new.self.last
    (c.add_objects.ensures.kept ∙ c.in_ok-add_threads.ensures.added) added z
