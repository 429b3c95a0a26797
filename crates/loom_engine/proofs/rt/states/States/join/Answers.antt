use Rattle.std.proofs.Common.{◌≡◌, ◌++◌, take, ap, ◌∙◌}
use Rattle.loom_engine.specs.Covering.Kept.{Noted}
use Rattle.loom_engine.proofs.Covering.Adding.{joined_states}
use Rattle.loom_engine.proofs.rt.states.States.join.Goals as goal

pub returns : goal.returns
returns g c = λ never key left one other.
    let count = c.min-count.result in
    let view = c.self.view_is in
    let other_view = c.other.view_is in
    let others : c.from_vec.result ≡ take count c.args.other.states = c.from_vec.ensures ∙ c.truncate.ensures.items ∙ ap (take count) (c.into_vec-states.ensures ∙ ap (λ (n : Noted _ _). n.states) other_view) in
    let states : c.append-2.new.self ≡ c.args.self.now.states ++ take count c.args.other.states = c.in_ok-append-2.ensures ∙ ap (λ xs. xs ++ c.from_vec.result) (ap (λ (n : Noted _ _). n.states) view) ∙ ap (λ xs. c.args.self.now.states ++ xs) others in
    let led_by : c.append.new.self ≡ c.args.self.now.led_by ++ take count c.args.other.led_by =
    c.in_ok-append.ensures ∙ ap (λ xs. xs ++ take count c.other.inside.led_by) (ap (λ (n : Noted _ _). n.led_by) view) ∙ ap (λ xs. c.args.self.now.led_by ++ take count xs) (ap (λ (n : Noted _ _). n.led_by) other_view) in
    joined_states never key left c.args.self.now c.args.other count c.append-2.new.self c.append.new.self c.self.inside.never_switches one other states led_by (ap (λ (n : Noted _ _). n.never) view)
