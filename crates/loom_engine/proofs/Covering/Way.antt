-- A path on its way through a tree that may be cut: its outcome there is the whole run's.
use Rattle.std.proofs.Common.{◌≡◌, ◌≤◌, ◌⊎◌, ℕ, arith, Bool, true, false, cond, List, [], ◌∷◌, ◌++◌, length, take, Option, Some, None, Result, Ok, Err, refl, ap, sym, ◌∙◌, subst, inl, inr, append-nil, append_assoc}
use Rattle.std.proofs.lemmas.List.{length-take-le}
use Rattle.loom_views.specs.declared.rt.failure.FailureKind.{FailureKind}
use Rattle.loom_views.specs.declared.rt.failure.FailureKind.TheVariants.{NotDeterministic}
use Rattle.loom_objects.specs.declared.choice.Choice.{Choice}
use Rattle.loom_objects.specs.Tree.Question.{Question}
use Rattle.loom_objects.specs.Tree.Tree.{Tree, Gives, Fails, Closes, Asks, ◌>>=◌}
use Rattle.loom_engine.specs.Walk.Choices.{pick}
use Rattle.loom_engine.specs.Walk.Path.{Stored}
use Rattle.loom_engine.specs.Trees.Comparing.{same_choices}
use Rattle.loom_engine.specs.Trees.Meeting.{Marking, whole_search}
use Rattle.loom_engine.specs.Trees.Drive.{Answer, Trail, at_start, branch, drive, drive_on, is_used_up}
use Rattle.loom_engine.specs.Trees.Retracing.{standing_at}
use Rattle.loom_engine.specs.Runs.Body.{Meaning}
use Rattle.loom_engine.specs.Covering.Cut.{cut, onward, passed}
use Rattle.loom_engine.specs.Covering.Moments.{Stand, stand_after}
use Rattle.loom_engine.specs.Covering.UnderWay.{IsOpen, LeadsUncut, Way}
use Rattle.loom_engine.proofs.Covering.Nodes.{nodes_law}
use Rattle.loom_engine.proofs.Covering.Parts.{ClosesGive, not_both, same_path}
use Rattle.loom_engine.proofs.Covering.Retraced.{Cuts, cuts}
use Rattle.loom_engine.proofs.Covering.Then.{GoesOn, Passes, answers_on, asked, cut_here, then_law}
use Rattle.loom_engine.proofs.Covering.Turns.{stand_append}
use Rattle.loom_engine.proofs.Trees.Binding.{drive_fails, drive_then}
use Rattle.loom_engine.proofs.Trees.Retracing.{Keeps, begins_less, keeps}
use Rattle.loom_engine.proofs.Walk.Lists.{not_longer}

-- ---- tests of choices

-- nowhere
abbrev pub never : List Choice → Bool
never c = false

-- just after these choices
abbrev pub just_at : List Choice → List Choice → Bool
just_at d c = pick (same_choices d c) true false

pub it_is : (d : List Choice) → just_at d d ≡ true
it_is d = by (same_choices d d)
  where
    by : (x : Dec (d ≡ d)) → pick x true false ≡ true
    by (yes e) = refl
    by (no f) = absurd (f refl)

pub it_was : (d c : List Choice) → just_at d c ≡ true → d ≡ c
it_was d c h = by (same_choices d c) h
  where
    by : (x : Dec (d ≡ c)) → pick x true false ≡ true → d ≡ c
    by (yes e) g = e
    by (no f) g = absurd (cc g)

pub open_before : (d : List Choice) → IsOpen (just_at d) d
open_before d b o rest e = by (same_choices d b)
  where
    by : (x : Dec (d ≡ b)) → pick x true false ≡ false
    by (yes f) = absurd (not_longer b o rest (sym f ∙ e))
    by (no f) = refl

open_sooner : (stop : List Choice → Bool) (c between d : List Choice) → d ≡ c ++ between → IsOpen stop d → IsOpen stop c
open_sooner stop c between d e h b o rest f = h b o (rest ++ between) (e ∙ ap (λ l. l ++ between) f ∙ append_assoc b (o ∷ rest) between)

-- ---- a tree that isn't cut on the way

abbrev pub some_of : {A : Type 0} → Result A FailureKind × Trail → Result (Option A) FailureKind × Trail
some_of (Ok a, path) = (Ok (Some a), path)
some_of (Err kind, path) = (Err kind, path)

module _ {A : Type 0} (room : ℕ) (adds : Marking) where
  never_closes : (b : Bool) (path : Trail) (d : Result A FailureKind × Trail) (e : Result (Option A) FailureKind × Trail) → e ≡ some_of d
      → cond b e (Err NotDeterministic, path) ≡ some_of (cond b d (Err NotDeterministic, path))
  never_closes true path d e h = h
  never_closes false path d e h = refl

  never_asks : (c : List Choice) (branches : Choice → Tree A) (answer : Answer)
      → ((o : Choice) (mid : Trail) → drive (whole_search room) adds (cut never (c ++ o ∷ []) (branches o)) mid ≡ some_of (drive (whole_search room) adds (branches o) mid))
      → drive_on (λ o mid. drive (whole_search room) adds (cut never (c ++ o ∷ []) (branches o)) mid) answer ≡ some_of (drive_on (λ o mid. drive (whole_search room) adds (branches o) mid) answer)
  never_asks c branches (Ok o, mid) ih = ih o mid
  never_asks c branches (Err kind, mid) ih = refl

  pub never_cut : (t : Tree A) (c : List Choice) (path : Trail) → drive (whole_search room) adds (cut never c t) path ≡ some_of (drive (whole_search room) adds t path)
  never_cut (Gives a) c path = refl
  never_cut (Fails kind) c path = refl
  never_cut (Closes rest) c path =
      never_closes (is_used_up path) path (drive (whole_search room) adds rest path) (drive (whole_search room) adds (cut never c rest) path) (never_cut rest c path)
  never_cut (Asks question branches) c path = never_asks c branches (branch (whole_search room) path question) (λ o mid. never_cut (branches o) (c ++ o ∷ []) mid)

  module _ (x : A) (after : Trail) where
    -- The path goes through the tree to a value; and so it does where the tree is cut, but nowhere on the way.
    pub record Through (t : Tree A) (path : Trail) : Type 0 where
      pub between : List Choice
      pub passes : passed after ≡ passed path ++ between
      pub within : after.position ≤ length after.nodes
      pub uncut : (stop : List Choice → Bool) → IsOpen stop (passed after) → drive (whole_search room) adds (cut stop (passed path) t) path ≡ (Ok (Some x), after)

    closes_so : (b : Bool) (path : Trail) (d : Result A FailureKind × Trail) (e : Result (Option A) FailureKind × Trail) → cond b d (Err NotDeterministic, path) ≡ (Ok x, after)
        → e ≡ (Ok (Some x), after) → cond b e (Err NotDeterministic, path) ≡ (Ok (Some x), after)
    closes_so true path d e h g = g
    closes_so false path d e h g = absurd (not_both NotDeterministic x path after h)

    used_so : (b : Bool) (path : Trail) (d : Result A FailureKind × Trail) → cond b d (Err NotDeterministic, path) ≡ (Ok x, after) → d ≡ (Ok x, after)
    used_so true path d e = e
    used_so false path d e = absurd (not_both NotDeterministic x path after e)

    through_closes : (rest : Tree A) (path : Trail) → drive (whole_search room) adds (Closes rest) path ≡ (Ok x, after) → Through rest path → Through (Closes rest) path
    through_closes rest path e r = record {
      between = r.between;
      passes = r.passes;
      within = r.within;
      uncut = λ stop open_. closes_so (is_used_up path) path (drive (whole_search room) adds rest path) (drive (whole_search room) adds (cut stop (passed path) rest) path) e (r.uncut stop open_);
    }

    through_asks : (question : Question) (branches : Choice → Tree A) (path mid : Trail) (o : Choice) → branch (whole_search room) path question ≡ (Ok o, mid) → Passes path o mid → Through (branches o) mid
        → Through (Asks question branches) path
    through_asks question branches path mid o e p r =
        let passes : passed after ≡ passed path ++ o ∷ r.between = r.passes ∙ ap (λ l. l ++ r.between) p.choices ∙ append_assoc (passed path) (o ∷ []) r.between in
        record {
          between = o ∷ r.between;
          passes = passes;
          within = r.within;
          uncut = λ stop open_.
              asked room adds stop (passed path) question branches path mid o (open_ (passed path) o r.between passes) e
              ∙ ap (λ (c : List Choice). drive (whole_search room) adds (cut stop c (branches o)) mid) (sym p.choices) ∙ r.uncut stop open_;
        }

    pub through : (t : Tree A) (path : Trail) → path.position ≤ length path.nodes → drive (whole_search room) adds t path ≡ (Ok x, after) → Through t path
    through (Gives a) path l e =
        let at : path ≡ after = same_path a x path after e in
        record {
          between = [];
          passes = ap passed (sym at) ∙ sym (append-nil (passed path));
          within = subst (λ (p : Trail). p.position ≤ length p.nodes) at l;
          uncut = λ stop open_. ap some_of e;
        }
    through (Fails kind) path l e = absurd (not_both kind x path after e)
    through (Closes rest) path l e = through_closes rest path e (through rest path l (used_so (is_used_up path) path (drive (whole_search room) adds rest path) e))
    through (Asks question branches) path l e = by (branch (whole_search room) path question) refl (answers_on room path question l) e (λ o mid m d. through (branches o) mid m d)
      where
        by : (answer : Answer) → branch (whole_search room) path question ≡ answer → GoesOn path answer → drive_on (λ o mid. drive (whole_search room) adds (branches o) mid) answer ≡ (Ok x, after)
            → ((o : Choice) (mid : Trail) → mid.position ≤ length mid.nodes → drive (whole_search room) adds (branches o) mid ≡ (Ok x, after) → Through (branches o) mid) → Through (Asks question branches) path
        by (Ok o, mid) h p d ih = through_asks question branches path mid o h p (ih o mid p.within d)
        by (Err kind, mid) h p d ih = absurd (not_both kind x mid after d)

-- ---- a run on its way

module _ {R D S : Type 0} (room : ℕ) (adds : Marking) (next : Meaning D S) (tree : Tree R) (first : Stand D S) (p : List Stored) where
  abbrev IsWay : Trail → Tree R → Stand D S → Type 0
  IsWay path ahead stand = Way room adds next tree first p path ahead stand

  -- it begins so
  pub way_begins : (stand : Stand D S) → first ≡ stand → IsWay (at_start p) tree stand
  way_begins stand e = record { within = omega arith; cuts = λ stop open_. refl; leads = λ stop open_ q b. refl; stays = λ b n at. at; stands = e }

  -- it goes through the first part of what is ahead, and the run hasn't ended
  module _ {A : Type 0} (P : A → Type 0) (t : Tree A) (f : A → Tree R) (a : A) (path after : Trail) (stand : Stand D S) (w : IsWay path (t >>= f) stand) (closes : ClosesGive P t) (is_open : P a → ⊥)
      (e : drive (whole_search room) adds t path ≡ (Ok a, after)) where
    leads_on : LeadsUncut room adds tree (take after.position after.nodes) (f a)
    leads_on stop open_ q b = by (cuts room adds stop P f a after t (passed path) path w.within refl closes e)
      where
        k : Keeps room adds a after path
        k = keeps room adds a after t path w.within e

        by : P a ⊎ Cuts room adds stop P f a after (passed path) t path
            → drive (whole_search room) adds (cut stop [] tree) (standing_at 0 q) ≡ drive (whole_search room) adds (cut stop (passed after) (f a)) (standing_at (length (take after.position after.nodes)) q)
        by (inl h) = absurd (is_open h)
        by (inr r) =
            w.leads stop (open_sooner stop (passed path) r.between (passed after) r.passes open_) q (begins_less path.position after.position path.nodes after.nodes q.nodes k.further k.kept b)
            ∙ ap (λ (i : ℕ). drive (whole_search room) adds (cut stop (passed path) (t >>= f)) (standing_at i q)) (length-take-le path.position path.nodes w.within)
            ∙ r.again open_ q b
            ∙ ap (λ (i : ℕ). drive (whole_search room) adds (cut stop (passed after) (f a)) (standing_at i q)) (sym (length-take-le after.position after.nodes k.within))

    pub way_on : (later : Stand D S) (between : List Choice) → passed after ≡ passed path ++ between → stand_after next stand between ≡ later → IsWay after (f a) later
    way_on later between passes goes =
        let r = through room adds a after t path w.within e in
        record {
          within = r.within;
          cuts = λ stop open_.
              w.cuts stop (open_sooner stop (passed path) r.between (passed after) r.passes open_)
              ∙ then_law room adds stop t f path w.within ∙ ap (onward room adds stop f) (r.uncut stop open_);
          leads = leads_on;
          stays = λ b n at. (nodes_law {A = A} room adds).stay t path after a w.within e b n (w.stays b n at);
          stands = ap (stand_after next first) passes ∙ stand_append next first (passed path) between ∙ ap (λ (s : Stand D S). stand_after next s between) w.stands ∙ goes;
        }

  pub way_same : (path : Trail) (ahead same : Tree R) (stand alike : Stand D S) → IsWay path ahead stand → ahead ≡ same → stand ≡ alike → IsWay path same alike
  way_same path ahead same stand alike w e f = subst (λ (t : Tree R). IsWay path t alike) e (subst (λ (s : Stand D S). IsWay path ahead s) f w)

  -- there it fails
  pub way_fails : {A : Type 0} (t : Tree A) (f : A → Tree R) (kind : FailureKind) (path after : Trail) (stand : Stand D S) → IsWay path (t >>= f) stand
      → drive (whole_search room) adds t path ≡ (Err kind, after) → drive (whole_search room) adds (cut never [] tree) (at_start p) ≡ (Err kind, after)
  way_fails t f kind path after stand w e =
      w.cuts never (λ b o rest e. refl) ∙ never_cut room adds (t >>= f) (passed path) path ∙ ap some_of (drive_fails (whole_search room) adds t f path after kind e)

  -- there it ends
  pub way_ends : {A : Type 0} (t : Tree A) (f : A → Tree R) (a : A) (value : R) (path after : Trail) (stand : Stand D S) → IsWay path (t >>= f) stand
      → drive (whole_search room) adds t path ≡ (Ok a, after) → f a ≡ Gives value → drive (whole_search room) adds (cut never [] tree) (at_start p) ≡ (Ok (Some value), after)
  way_ends t f a value path after stand w e g =
      w.cuts never (λ b o rest e. refl) ∙ never_cut room adds (t >>= f) (passed path) path
      ∙ ap some_of (drive_then (whole_search room) adds t f path after a e ∙ ap (λ (u : Tree R). drive (whole_search room) adds u after) g)

  -- there it is cut off
  pub way_stops : (question : Question) (branches : Choice → Tree R) (path : Trail) (stand : Stand D S) → IsWay path (Asks question branches) stand
      → drive (whole_search room) adds (cut (just_at (passed path)) [] tree) (at_start p) ≡ (Ok None, path)
  way_stops question branches path stand w =
      w.cuts (just_at (passed path)) (open_before (passed path)) ∙ cut_here room adds (just_at (passed path)) (passed path) question branches path path (it_is (passed path))
