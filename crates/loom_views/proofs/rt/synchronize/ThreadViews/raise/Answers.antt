use Rattle.std.proofs.Common.{◌≡◌, ◌≤◌, false, subst}
use Rattle.std.specs.Prelude.{◌↔◌}
use Rattle.std.proofs.lemmas.Bool.{OnTrue_from, OnTrue_at}
use Rattle.loom_views.proofs.Views.ThreadMoves.{raise-shown, own-version}
use Rattle.loom_views.proofs.rt.synchronize.ThreadViews.raise.Goals as goal

pub returns-clause-shown : goal.returns-clause-shown
returns-clause-shown c = λ g p ch h. OnTrue_from c.inc.result _ (λ e. rw (OnTrue_at e c.inc.ensures.raised) (raise-shown g c.args.thread p c.args.self.now c.requires ch h))

pub returns-clause-room : goal.returns-clause-room
returns-clause-room c = λ g p i h.
    let own = own-version g c.args.thread p.present c.args.self.now.present c.requires i h.present in
    subst (λ n. (c.inc.result ≡ false) ↔ (n ≡ 65534)) own c.inc.ensures.full

pub returns-clause-counted : goal.returns-clause-counted
returns-clause-counted c = λ g p i h.
    let own = own-version g c.args.thread p.present c.args.self.now.present c.requires i h.present in
    subst (λ n. n ≤ 65534) own c.inc.ensures.counted
