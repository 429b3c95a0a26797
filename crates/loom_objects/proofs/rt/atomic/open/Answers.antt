use Rattle.std.proofs.Common.{◌≡◌, ◌∙◌, Ok, ap, sym, refl, rules, true}
use Rattle.loom_objects.specs.declared.rt.run.Resumed.TheVariants.{Load}
use Rattle.loom_objects.specs.Rules.Atomic.{opens, some_slot}
use Rattle.loom_objects.specs.Rules.Moves.{an_atomic}
use Rattle.loom_objects.specs.Scene.Stage.{Stage, world_of}
use Rattle.loom_objects.proofs.Scene.Showing.{gives_by}
use Rattle.loom_objects.proofs.Sync.Accessing.{Opens, leads_to_offers, offers_kept, opens_as, some_is}
use Rattle.loom_objects.proofs.rt.atomic.open.Goals as goal

pub returns-clause-does : goal.returns-clause-does
returns-clause-does g c =
    let stays : c.raise.new.self.active ≡ c.args.scene.now.active = ap (λ (s : Stage g.row.D.Denot). s.active) c.in_ok-raise.ensures.rest in
    let some : some_slot c.in_ok-readable.readable ≡ true = some_is c.in_ok-readable.readable (search rules) in
    gives_by (opens c.args.number c.args.reader c.args.access) c.args.scene.now c.raise.new.self c.raise.new.self.views
    (Opens c.args.number c.args.scene.now.active c.raise.new.self.active stays c.args.reader c.in_ok-readable.readable c.args.scene.now.views c.raise.new.self.views c.in_ok-readable.ensures)
    (leads_to_offers c.args.number c.args.scene.now.active c.raise.new.self.active stays c.args.reader c.in_ok-readable.readable c.args.scene.now.views c.raise.new.self.views c.in_ok-readable.ensures c.in_ok-raise.ensures.shown)
    _ refl (λ p q left way.
    let at : an_atomic c.args.number (world_of p left c.args.scene.now) ≡ Ok c.in_ok-atomic.field-0.now = search rules in
    opens_as c.args.number c.args.reader c.args.access (world_of p left c.args.scene.now) q c.in_ok-atomic.field-0.now way.1.0 c.in_ok-readable.readable way.0 at way.1.1 way.1.2 some
    ∙ ap (λ (s : Stage g.row.D.Denot). Ok (Load (record { access = c.args.access; readable = c.in_ok-readable.readable }), world_of q left s)) (sym c.in_ok-raise.ensures.rest))

pub returns-clause-kept : goal.returns-clause-kept
returns-clause-kept g c =
    let stays : c.raise.new.self.active ≡ c.args.scene.now.active = ap (λ (s : Stage g.row.D.Denot). s.active) c.in_ok-raise.ensures.rest in
    offers_kept c.args.number c.args.scene.now.active c.raise.new.self.active stays c.args.reader c.in_ok-readable.readable c.args.scene.now.views c.raise.new.self.views c.in_ok-readable.ensures c.args.access (search rules)
