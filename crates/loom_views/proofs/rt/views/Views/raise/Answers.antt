use Rattle.std.proofs.Common.{◌≡◌, ◌≢◌, ℕ, ◌<◌, ◌≤◌, false, Err, length, get_or, refl, sym, ◌∙◌, arith}
use Rattle.std.specs.Prelude.{nat_lt}
use Rattle.std.proofs.lemmas.Bool.{OnTrue_at, true≢false, le-ltb}
use Rattle.loom_views.specs.declared.rt.failure.FailureKind.TheVariants.{TooManyVersions}
use Rattle.loom_views.specs.declared.rt.synchronize.ThreadViews.{ThreadViews}
use Rattle.loom_views.specs.declared.rt.views.Views.{Views}
use Rattle.loom_views.specs.Graph.{Graph, raised, IsPresent}
use Rattle.loom_views.specs.ThreadViews.{ThreadPoints, ShowsThread}
use Rattle.loom_views.specs.Views.{Points, ShowsViews, MovesAs, points_after_raise}
use Rattle.loom_views.proofs.Atomic.Table.Carried.{found}
use Rattle.loom_views.proofs.Atomic.Table.Moves.{raise-moved}
use Rattle.loom_views.proofs.rt.views.Views.raise.Goals as goal

raise-refused : (p : Points) (v : Views) (t : ℕ) (d : ThreadViews) → t < v.count → t < 5 → ShowsViews p v → ((g : Graph) (own : ThreadPoints) → IsPresent g t own.present → ShowsThread g t own (get_or v.threads t d) → 65534 ≤ length (raised g t)) → MovesAs (points_after_raise p t) (Err TooManyVersions) v
raise-refused p v t d l m z full =
    let f = found p v t d l m z in
    let e : nat_lt (length (raised p.graph t)) 65534 ≡ false = le-ltb (length (raised p.graph t)) 65534 (full p.graph f.own f.present f.shown) in
    rw (f.is, e) refl

pub returns-then-not-raise-clause-shown : goal.returns-then-not-raise-clause-shown
returns-then-not-raise-clause-shown c = λ p z. raise-refused p c.args.self.now c.args.thread c.index-self-thread.result c.if-thread-self.false c.if-thread-ge-MAX_THREADS.false z
    (λ g own i s.
    let full : length (raised g c.args.thread) ≡ 65534 = (c.raise.ensures.room g own i s).0 c.if-not-raise.true in
    omega arith)

pub returns-clause-shown : goal.returns-clause-shown
returns-clause-shown c = λ p z. raise-moved p c.args.self.now c.args.thread c.index-self-thread.result c.if-thread-self.false c.if-thread-ge-MAX_THREADS.false z c.raise.new.self
    (λ g own h s. OnTrue_at c.if-not-raise.false (c.raise.ensures.shown g own h s))
    (λ g own i s.
    let counted : length (raised g c.args.thread) ≤ 65534 = c.raise.ensures.counted g own i s in
    let room : length (raised g c.args.thread) ≢ 65534 = λ f. true≢false (sym c.if-not-raise.false ∙ (c.raise.ensures.room g own i s).1 f) in
    omega arith)
