use Rattle.std.proofs.Common.{◌≡◌, ℕ, subst, rules, Result, Ok, Err}
use Rattle.loom_objects.specs.declared.operation.AtomicOp.TheVariants.{CompareExchange}
use Rattle.loom_objects.specs.declared.operation.Exchange.{Exchange}
use Rattle.loom_objects.specs.declared.operation.Reply.{Reply}
use Rattle.loom_objects.specs.declared.operation.Reply.TheVariants.{Exchanged, Value}
use Rattle.loom_objects.specs.Rules.Atomic.{exchanges, either_way, swap_of}
use Rattle.loom_objects.specs.Scene.Stage.{DoesAt}
use Rattle.loom_objects.proofs.Sync.Accessing.{tells}
use Rattle.loom_objects.proofs.rt.atomic.read.Goals as goal

pub returns-in-Load : goal.returns-in-Load
returns-in-Load g c = rw c.in-Load.is c.load.ensures

pub returns-in-Update : goal.returns-in-Update
returns-in-Update g c = rw c.in-Update.is c.update.ensures

pub returns-in_ok-answer-in-CompareExchange : goal.returns-in_ok-answer-in-CompareExchange
returns-in_ok-answer-in-CompareExchange g c =
    rw c.in-CompareExchange.is
    (tells {B = Reply g.row.D.Denot} Exchanged (CompareExchange c.in-CompareExchange.number c.in-CompareExchange.attempt) c.args.slot (exchanges c.in-CompareExchange.number c.in-CompareExchange.attempt c.args.slot) c.args.scene.now c.exchange.new.scene (Ok c.in_ok-answer-in-CompareExchange.answer) c.in_ok-answer-in-CompareExchange.ensures)

pub returns-in_err-answer-in-CompareExchange : goal.returns-in_err-answer-in-CompareExchange
returns-in_err-answer-in-CompareExchange g c =
    let e : c.from_residual.result ≡ Err c.in_err-answer-in-CompareExchange.field-0.0 = search rules in
    rw (e, c.in-CompareExchange.is)
    (tells {B = Reply g.row.D.Denot} Exchanged (CompareExchange c.in-CompareExchange.number c.in-CompareExchange.attempt) c.args.slot (exchanges c.in-CompareExchange.number c.in-CompareExchange.attempt c.args.slot) c.args.scene.now c.exchange.new.scene (Err c.in_err-answer-in-CompareExchange.field-0.0) c.in_err-answer-in-CompareExchange.ensures)

pub returns-in_ok-answer-in-CompareAndSwap : goal.returns-in_ok-answer-in-CompareAndSwap
returns-in_ok-answer-in-CompareAndSwap g c =
    let swap = swap_of c.in-CompareAndSwap.expected c.in-CompareAndSwap.new c.in-CompareAndSwap.order in
    let does = subst (λ (e : Exchange). DoesAt (CompareExchange c.in-CompareAndSwap.number e) c.args.slot (exchanges c.in-CompareAndSwap.number e c.args.slot) c.args.scene.now (Ok c.in_ok-answer-in-CompareAndSwap.answer) c.exchange-in-CompareAndSwap.new.scene)
    c.swap_of.ensures c.in_ok-answer-in-CompareAndSwap.ensures in
    rw (c.in-CompareAndSwap.is, c.either_way.ensures)
    (tells {B = Reply g.row.D.Denot} (λ (answer : Result ℕ ℕ). Value (either_way answer)) (CompareExchange c.in-CompareAndSwap.number swap) c.args.slot (exchanges c.in-CompareAndSwap.number swap c.args.slot) c.args.scene.now c.exchange-in-CompareAndSwap.new.scene (Ok c.in_ok-answer-in-CompareAndSwap.answer) does)

pub returns-in_err-answer-in-CompareAndSwap : goal.returns-in_err-answer-in-CompareAndSwap
returns-in_err-answer-in-CompareAndSwap g c =
    let swap = swap_of c.in-CompareAndSwap.expected c.in-CompareAndSwap.new c.in-CompareAndSwap.order in
    let does = subst (λ (e : Exchange). DoesAt (CompareExchange c.in-CompareAndSwap.number e) c.args.slot (exchanges c.in-CompareAndSwap.number e c.args.slot) c.args.scene.now (Err c.in_err-answer-in-CompareAndSwap.field-0.0) c.exchange-in-CompareAndSwap.new.scene)
    c.swap_of.ensures c.in_err-answer-in-CompareAndSwap.ensures in
    let e : c.from_residual-in_err-answer-in-CompareAndSwap.result ≡ Err c.in_err-answer-in-CompareAndSwap.field-0.0 = search rules in
    rw (e, c.in-CompareAndSwap.is)
    (tells {B = Reply g.row.D.Denot} (λ (answer : Result ℕ ℕ). Value (either_way answer)) (CompareExchange c.in-CompareAndSwap.number swap) c.args.slot (exchanges c.in-CompareAndSwap.number swap c.args.slot) c.args.scene.now c.exchange-in-CompareAndSwap.new.scene (Err c.in_err-answer-in-CompareAndSwap.field-0.0) does)
