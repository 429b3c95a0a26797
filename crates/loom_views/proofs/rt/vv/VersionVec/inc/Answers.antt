use Rattle.std.proofs.Common.{rules, ◌+◌, set, sym, ap, ◌∙◌, arith}
use Rattle.loom_views.specs.Lanes.{counts_in, lane}
use Rattle.loom_views.proofs.Views.Lanes.{counts_set, set_kept, counts-at}
use Rattle.loom_views.proofs.rt.vv.VersionVec.inc.Goals as goal

pub invariant_of-self : goal.invariant_of-self
invariant_of-self c =
    let raised_in = c.raised-self-inside in
    set_kept c.self.inside.word raised_in.result c.args.thread (lane c.self.inside.word c.args.thread + 1) c.self.invariant (omega arith) c.requires (omega (arith, c.if-get-lt-MAX_VERSION.true, c.get.ensures)) raised_in.ensures.raised raised_in.ensures.others

pub returns-then-get-lt-MAX_VERSION-clause-raised : goal.returns-then-get-lt-MAX_VERSION-clause-raised
returns-then-get-lt-MAX_VERSION-clause-raised c =
    let word = c.self.inside.word in
    let raised_in = c.raised-self-inside in
    rw (← c.self.view_is) (counts_set word raised_in.result c.args.thread (lane word c.args.thread + 1) c.requires raised_in.ensures.raised raised_in.ensures.others
    ∙ ap (λ n. set (counts_in word) c.args.thread (n + 1)) (sym (counts-at word c.args.thread c.requires)))

pub returns-else-get-lt-MAX_VERSION-clause-raised : goal.returns-else-get-lt-MAX_VERSION-clause-raised
returns-else-get-lt-MAX_VERSION-clause-raised c = tt

pub returns-else-get-lt-MAX_VERSION-clause-full : goal.returns-else-get-lt-MAX_VERSION-clause-full
returns-else-get-lt-MAX_VERSION-clause-full c = search rules
