use Rattle.std.proofs.Common.{◌≡◌, ◌==◌, ◌∙◌, ap, rules, true, Err}
use Rattle.std.proofs.lemmas.Bool.{eq-eqb}
use Rattle.loom_views.specs.Changes.{fit}
use Rattle.loom_objects.specs.Rules.Atomic.{exchanges}
use Rattle.loom_objects.specs.Scene.Stage.{Stage}
use Rattle.loom_objects.proofs.Sync.Slots.{writes_on, write_fails, ends_there, exchange_fails}
use Rattle.loom_objects.proofs.rt.atomic.exchange.Goals as goal

pub returns-then-read-fit : goal.returns-then-read-fit
returns-then-read-fit g c =
    ends_there (exchanges c.args.number c.args.exchange c.args.slot) c.args.scene.now c.update_read.new.self c.end_exchange.new.scene c.args.number c.args.slot c.in_ok-read.read
    (ap (λ (s : Stage g.row.D.Denot). s.active) c.in_ok-read.ensures.rest) c.in_ok-read.ensures.shown
    c.args.exchange.failure _ c.end_exchange.ensures.views (λ p left got a b. search rules)

pub returns : goal.returns
returns g c =
    let same : (c.in_ok-read.read == fit c.in_ok-numbers.field-0.now.numbers c.args.exchange.expected) ≡ true = eq-eqb c.in_ok-read.read (fit c.in_ok-numbers.field-0.now.numbers c.args.exchange.expected) (c.if-read-fit.false ∙ c.fit.ensures) in
    writes_on (exchanges c.args.number c.args.exchange c.args.slot) c.args.scene.now c.update_read.new.self _ c.args.number c.args.slot c.in_ok-read.read
    (ap (λ (s : Stage g.row.D.Denot). s.active) c.in_ok-read.ensures.rest) c.in_ok-read.ensures.shown
    c.fit-new.result c.args.exchange.success _ c.in_ok-update_write.ensures.shown (λ p left got put a b d. search rules)

pub returns-in_err-update_write : goal.returns-in_err-update_write
returns-in_err-update_write g c =
    let same : (c.in_ok-read.read == fit c.in_ok-numbers.field-0.now.numbers c.args.exchange.expected) ≡ true = eq-eqb c.in_ok-read.read (fit c.in_ok-numbers.field-0.now.numbers c.args.exchange.expected) (c.if-read-fit.false ∙ c.fit.ensures) in
    let e : c.from_residual-in_err-update_write.result ≡ Err c.in_err-update_write.field-0.0 = search rules in
    rw e (write_fails (exchanges c.args.number c.args.exchange c.args.slot) c.args.scene.now c.update_read.new.self c.update_write.new.self c.args.number c.args.slot c.in_ok-read.read
    (ap (λ (s : Stage g.row.D.Denot). s.active) c.in_ok-read.ensures.rest) c.in_ok-read.ensures.shown
    c.fit-new.result c.args.exchange.success c.in_err-update_write.field-0.0 c.update_write.new.self.views c.in_err-update_write.ensures.shown
    (λ p left got a b d. exchange_fails c.args.number c.args.exchange c.args.slot _ c.in_ok-numbers.field-0.now got c.fit-new.result c.in_err-update_write.field-0.0 (search rules) a (rw (← b) same) c.fit-new.ensures d))
