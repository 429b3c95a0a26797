use Rattle.std.proofs.Common.{ℕ, List, sym, ◌∙◌, ap, subst}
use Rattle.std.specs.declared.sync.atomic.Ordering.TheVariants.{Release}
use Rattle.loom_views.specs.declared.rt.atomic.State.{State}
use Rattle.loom_views.specs.Atomic.History.{new_step}
use Rattle.loom_views.specs.Atomic.Ring.{state_made, state_blank}
use Rattle.loom_views.specs.Atomic.Shown.{ShowsScene}
use Rattle.loom_views.proofs.Atomic.Accesses.{new-shown}
use Rattle.loom_views.proofs.rt.atomic.State.new.Goals as goal

pub returns : goal.returns
returns c = λ g p h i th.
    let made = c.push.ensures
    ∙ ap (λ (state : State). state_made state c.args.thread c.args.views.now c.new.result c.args.value Release) c.blank-state.ensures.blank
    ∙ ap (λ (sync : List ℕ). state_made (state_blank c.args.views.now.present c.blank-state.result.stores) c.args.thread c.args.views.now sync c.args.value Release) c.new.ensures in
    subst (λ (state : State). ShowsScene c.args.thread (new_step c.args.thread g p c.args.value) c.args.views.now state) (sym made)
    (new-shown c.args.thread g p c.args.views.now c.blank-state.result.stores c.args.value c.requires c.blank-state.ensures.ring h i th)
