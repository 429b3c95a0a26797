-- A path that begins as another one did drives so through a tree that is cut, as far as both are the same.
use Rattle.std.proofs.Common.{◌≡◌, ◌≤◌, ◌⊎◌, ℕ, Bool, true, false, cond, List, [], ◌∷◌, ◌++◌, length, take, Option, None, Result, Ok, Err, ap, ap₂, sym, ◌∙◌, inl, inr, append-nil, append_assoc}
use Rattle.loom_views.specs.declared.rt.failure.FailureKind.{FailureKind}
use Rattle.loom_objects.specs.declared.choice.Choice.{Choice}
use Rattle.loom_objects.specs.Tree.Question.{Question}
use Rattle.loom_objects.specs.Tree.Tree.{Tree, Gives, Fails, Closes, Asks, ◌>>=◌}
use Rattle.loom_engine.specs.Trees.Meeting.{Marking, whole_search}
use Rattle.loom_engine.specs.Trees.Drive.{Answer, Trail, branch, drive, drive_on, is_used_up}
use Rattle.loom_engine.specs.Trees.Retracing.{BeginsWith, standing_at}
use Rattle.loom_engine.specs.Covering.Cut.{cut, passed}
use Rattle.loom_engine.specs.Covering.UnderWay.{IsOpen}
use Rattle.loom_engine.proofs.Covering.Parts.{ClosesGive, not_both, same_path, same_value}
use Rattle.loom_engine.proofs.Covering.Then as then
use Rattle.loom_engine.proofs.Trees.Retracing.{Answers, asks_again, given_behind, keeps, used_by}
use Rattle.loom_engine.proofs.Trees.Retracing as again

module _ {A B : Type 0} (room : ℕ) (adds : Marking) (stop : List Choice → Bool) (P : A → Type 0) (next : A → Tree B) (x : A) (after : Trail) where
  -- It passes these choices more; and where it isn't cut on the way, each path that begins so drives so again.
  pub record Cuts (c : List Choice) (t : Tree A) (path : Trail) : Type 0 where
    pub between : List Choice
    pub passes : passed after ≡ c ++ between
    pub again : IsOpen stop (passed after) → (q : Trail) → BeginsWith (take after.position after.nodes) q.nodes
        → drive (whole_search room) adds (cut stop c (t >>= next)) (standing_at path.position q) ≡ drive (whole_search room) adds (cut stop (passed after) (next x)) (standing_at after.position q)

  cuts_there : (c : List Choice) (a : A) (path : Trail) → c ≡ passed path → a ≡ x → path ≡ after → Cuts c (Gives a) path
  cuts_there c a path here is at = record {
    between = [];
    passes = sym (append-nil c ∙ here ∙ ap passed at);
    again = λ shut q b.
        ap (λ (l : List Choice). drive (whole_search room) adds (cut stop l (next a)) (standing_at path.position q)) (here ∙ ap passed at)
        ∙ ap₂ (λ (v : A) (k : ℕ). drive (whole_search room) adds (cut stop (passed after) (next v)) (standing_at k q)) is (ap (λ (p : Trail). p.position) at);
  }

  opened : (b : Bool) (question : Question) (c : List Choice) (branches : Choice → Tree B) (q : Trail) (d : Result (Option B) FailureKind × Trail) → b ≡ false
      → drive (whole_search room) adds (Asks question (λ y. cut stop (c ++ y ∷ []) (branches y))) q ≡ d
      → drive (whole_search room) adds (cond b (Gives None) (Asks question (λ y. cut stop (c ++ y ∷ []) (branches y)))) q ≡ d
  opened true question c branches q d e f = absurd (cc e)
  opened false question c branches q d e f = f

  cuts_one : (c : List Choice) (question : Question) (branches : Choice → Tree A) (path mid : Trail) (o : Choice) → Answers path question o mid
      → again.Keeps room adds x after mid → Cuts (c ++ o ∷ []) (branches o) mid → Cuts c (Asks question branches) path
  cuts_one c question branches path mid o a k r = record {
    between = o ∷ r.between;
    passes = r.passes ∙ append_assoc c (o ∷ []) r.between;
    again = λ shut q b.
        opened (stop c) question c (λ y. branches y >>= next) (standing_at path.position q) _ (shut c o r.between (r.passes ∙ append_assoc c (o ∷ []) r.between))
        (ap (drive_on (λ y later. drive (whole_search room) adds (cut stop (c ++ y ∷ []) (branches y >>= next)) later)) (asks_again room adds x after question path mid o a k q b)
        ∙ r.again shut q b);
  }

  -- unless the run has ended
  pub cuts : (t : Tree A) (c : List Choice) (path : Trail) → path.position ≤ length path.nodes → c ≡ passed path → ClosesGive P t → drive (whole_search room) adds t path ≡ (Ok x, after) → P x ⊎ Cuts c t path
  cuts (Gives a) c path l here h e = inr (cuts_there c a path here (same_value a x path after e) (same_path a x path after e))
  cuts (Fails kind) c path l here h e = absurd (not_both kind x path after e)
  cuts (Closes rest) c path l here h e =
      inl (given_behind room adds x after P rest path h (used_by room adds x after (is_used_up path) path (drive (whole_search room) adds rest path) e))
  cuts (Asks question branches) c path l here h e =
      by (branch (whole_search room) path question) (again.answers_on (whole_search room) path question l) (then.answers_on room path question l) e
      (λ o mid m there d. cuts (branches o) (c ++ o ∷ []) mid m there (h o) d)
    where
      by : (answer : Answer) → again.GoesOn path question answer → then.GoesOn path answer → drive_on (λ o mid. drive (whole_search room) adds (branches o) mid) answer ≡ (Ok x, after)
          → ((o : Choice) (mid : Trail) → mid.position ≤ length mid.nodes → c ++ o ∷ [] ≡ passed mid → drive (whole_search room) adds (branches o) mid ≡ (Ok x, after) → P x ⊎ Cuts (c ++ o ∷ []) (branches o) mid)
          → P x ⊎ Cuts c (Asks question branches) path
      by (Err kind, mid) a p d ih = absurd (not_both kind x mid after d)
      by (Ok o, mid) a p d ih = on (ih o mid a.within (ap (λ (l : List Choice). l ++ o ∷ []) here ∙ sym p.choices) d)
        where
          on : P x ⊎ Cuts (c ++ o ∷ []) (branches o) mid → P x ⊎ Cuts c (Asks question branches) path
          on (inl q) = inl q
          on (inr r) = inr (cuts_one c question branches path mid o a (keeps room adds x after (branches o) mid a.within d) r)
