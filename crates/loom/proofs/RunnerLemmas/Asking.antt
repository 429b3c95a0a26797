use Rattle.std.proofs.Common.{◌≡◌, true, cond, List, [], ◌∷◌, ◌++◌, ap, ◌∙◌, Option, Some, None, inl, inr}
use Rattle.std.specs.Prelude.{⊤}
use Rattle.loom_objects.specs.declared.operation.Request.{Request}
use Rattle.loom_objects.specs.declared.operation.Reply.{Reply}
use Rattle.loom.specs.declared.runner.stop.Stop.{Stop}
use Rattle.loom.specs.declared.runner.stop.Stop.TheVariants.{Failure, Memory, Refused}
use Rattle.loom.specs.declared.runner.history.event.Entry.{Entry}
use Rattle.loom.specs.Runner.Histories.{entry}
use Rattle.loom.specs.Runner.Handle.{Teller, ByStop, all_answered, failing, handed, with_open}
use Rattle.loom.specs.Runner.Asking.{Stops}
use Rattle.loom.proofs.RunnerLemmas.Remembering.{answered_reply}

module _ {D A : Type 0} (held : Reply D → Option A) (op : Request D ⊤) (old : List (Entry D)) (new : Teller D) where
  -- the operation was answered by a stop, or an earlier one was
  pub stops_at_call : (stop : Stop) → ByStop stop (new.told ≡ with_open old (handed op)) (new.starved ≡ true) → Stops held op old new stop
  stops_at_call (Failure f) e = inl e
  stops_at_call Refused e = inl e
  stops_at_call Memory e = e

  -- its reply holds no answer, and `fail` was answered by a stop
  pub stops_at_fail : (stop : Stop) (reply : Reply D) (mid : List (Entry D)) → all_answered old ≡ true → mid ≡ old ++ entry op (Some reply) ∷ [] → held reply ≡ None
      → ByStop stop (new.told ≡ with_open mid failing) (new.starved ≡ true) → Stops held op old new stop
  stops_at_fail stop reply mid live grown none by = go stop by
    where
      grows : with_open mid failing ≡ (old ++ entry op (Some reply) ∷ []) ++ entry failing None ∷ []
      grows =
          let mid_live : all_answered mid ≡ true = ap all_answered grown ∙ (answered_reply old op reply ∙ live) in
          ap (λ b. cond b (mid ++ entry failing None ∷ []) mid) mid_live ∙ ap (λ xs. xs ++ entry failing None ∷ []) grown

      go : (t : Stop) → ByStop t (new.told ≡ with_open mid failing) (new.starved ≡ true) → Stops held op old new t
      go (Failure f) e = inr (record { reply = reply; holds_none = none; live = live; told = e ∙ grows })
      go Refused e = inr (record { reply = reply; holds_none = none; live = live; told = e ∙ grows })
      go Memory e = e
