-- A turn of several workers that cover a body: some of its parts are given back, and the others are still out.
use Rattle.std.proofs.Common.{◌≡◌, ◌⊎◌, ◌<◌, ◌≤◌, ◌+◌, ◌*◌, ◌^◌, ℕ, suc, inl, inr, true, false, Bool, List, [], ◌∷◌, ◌++◌, length, length-append, Some, None, refl, ap, sym, ◌∙◌, subst, arith, append_assoc, append-nil}
use Rattle.std.specs.Prelude.{Result, Ok, Err, IfOk, slice_get, slice_index_or}
use Rattle.std.proofs.Math.Nat.{suc-mul, mul-le-mul_right}
use Rattle.std.specs.declared.time.Duration.{Duration}
use Rattle.loom_objects.specs.declared.choice.Choice.{Choice}
use Rattle.loom_engine.specs.Path.Nodes.{stored}
use Rattle.loom_engine.specs.Parts.Keeping.{GivesBack, KeepsOthers, keys, views}
use Rattle.loom_engine.specs.Runs.Body.{Meaning}
use Rattle.loom_engine.specs.Trees.Marks.{marking}
use Rattle.loom_engine.specs.Walk.Driven.{IsOneOf}
use Rattle.loom_engine.specs.Walk.Lists.{IsOnce, Member}
use Rattle.loom_engine.specs.Walk.Path.{Stored}
use Rattle.loom_engine.specs.declared.rt.parts.Part.{Part as Kept}
use Rattle.loom_engine.specs.declared.rt.parts.Parts.{Parts}
use Rattle.loom_engine.specs.Covering.Covered.{IsEnd}
use Rattle.loom_engine.specs.Covering.Kept.{Noted}
use Rattle.loom_engine.specs.Covering.Spread.{HasSpread, IsFull, IsSpread, IsTableOf, LeadSo, SpreadsBack, SpreadsOn}
use Rattle.loom_engine.specs.Covering.World.{world_of}
use Rattle.loom_engine.proofs.Covering.Adding.{table_none, table_wider}
use Rattle.loom_engine.proofs.Covering.Spread.{holds}
use Rattle.loom_engine.proofs.Covering.Spreading.{end_wider, given_back, given_front, spread_body_law, spread_law}
use Rattle.loom_engine.proofs.Trees.Marks.{marking_law}
use Rattle.loom.specs.declared.model.builder.Builder.{Builder}
use Rattle.loom.specs.declared.model.Limit.{Limit}
use Rattle.loom.specs.declared.model.Limit.TheVariants.{Permutations, Duration as Lasting}
use Rattle.loom.specs.declared.model.cover.Covered.TheVariants.{Complete, Stopped, Failed as HasFailed}
use Rattle.loom.specs.declared.model.cover.part.PartCovered.{PartCovered}
use Rattle.loom.specs.declared.model.cover.part.PartCovered.TheVariants.{Made, Failed}
use Rattle.loom.specs.declared.model.error.CheckError.{CheckError}
use Rattle.loom.specs.declared.runner.parallel.covering.CoverTurn.{CoverTurn}
use Rattle.loom.specs.declared.runner.parallel.covering.PartDone.{PartDone}
use Rattle.loom.specs.declared.runner.parallel.round.Job.{Job}
use Rattle.loom.specs.declared.runner.parallel.round.Lost.{Lost}
use Rattle.loom.specs.Model.Covered.{IsCovered, state_so}
use Rattle.loom.specs.Model.CoverParts.{FailsBy, HaveMade, HaveSpreadTo, IsGoing, body_runs, cover_machine}
use Rattle.loom.specs.Model.Loop.{HasReached}
use Rattle.loom.specs.Model.Settings.{explores, most_runs}
use Rattle.loom.specs.Runner.Parallel.{AreJoined, none, one_more}
use Rattle.loom.specs.Runner.Covering.{AreAtMost, AreCovered, AreOut, CameTo, Finds, HasGoneOn, HasRoom, HasTaken, IsAtMost, IsCoveredBy, IsOut, IsTaken, StopsBy, TakesBack, TakesTurn, bases, unnoted}
use Rattle.loom.specs.Runner.Workers.{AreHandedOut}
use Rattle.loom.proofs.RunnerLemmas.Workers.{apart, joined_both}

-- ---- lists

one_front : (x : List Stored) (xs ys : List (List Stored)) → IsOneOf x xs → IsOneOf x (xs ++ ys)
one_front x [] ys i = absurd i
one_front x (y ∷ xs) ys (inl e) = inl e
one_front x (y ∷ xs) ys (inr i) = inr (one_front x xs ys i)

one_behind : (x : List Stored) (xs ys : List (List Stored)) → IsOneOf x ys → IsOneOf x (xs ++ ys)
one_behind x [] ys i = i
one_behind x (y ∷ xs) ys i = inr (one_behind x xs ys i)

one_either : (x : List Stored) (xs ys : List (List Stored)) → IsOneOf x (xs ++ ys) → IsOneOf x xs ⊎ IsOneOf x ys
one_either x [] ys i = inr i
one_either x (y ∷ xs) ys (inl e) = inl (inl e)
one_either x (y ∷ xs) ys (inr i) = elim (one_either x xs ys i) [ inl j ↦ inl (inr j) | inr j ↦ inr j ]

-- ---- worked on

pub covered_each : {V D S : Type 0} (takes : V → List Choice → D → V → Type 0) (b : Builder) (next : Meaning D S) (body : S) (known : Noted D S) (jobs : List (Job V)) (list : List (PartDone D S V)) → length list ≡ length jobs
    → ((i : ℕ) (d : PartDone D S V) → i < length jobs → (job : Job V) × ((other : Job V) → slice_index_or jobs i other ≡ job) × IsCoveredBy takes b next body known job (slice_index_or list i d))
    → AreCovered takes b next body known jobs list
covered_each takes b next body known [] [] e f = tt
covered_each takes b next body known [] (x ∷ list) e f = absurd (omega arith)
covered_each takes b next body known (j ∷ jobs) [] e f = absurd (omega arith)
covered_each takes b next body known (j ∷ jobs) (x ∷ list) e f = (
  (let z = f 0 x (omega arith) in subst (λ (y : Job _). IsCoveredBy takes b next body known y x) (sym (z.1 j)) z.2),
  covered_each takes b next body known jobs list (omega arith) (λ i d l. f (suc i) d (omega (arith, l))),
)

pub most_each : {D S V : Type 0} (most : ℕ) (list : List (PartDone D S V)) → ((i : ℕ) (d : PartDone D S V) → i < length list → IsAtMost most (slice_index_or list i d).worked) → AreAtMost most list
most_each most [] f = tt
most_each most (x ∷ list) f = (f 0 x (omega arith), most_each most list (λ i d l. f (suc i) d (omega (arith, l))))

module _ {V D S : Type 0} (takes : V → List Choice → D → V → Type 0) (is_new : V → Type 0) (b : Builder) (next : Meaning D S) (body : S) (known : Noted D S) where
  pub outs : (all : List Kept) (number : ℕ) (jobs : List (Job V)) (list : List (PartDone D S V)) → AreHandedOut is_new all number jobs → AreCovered takes b next body known jobs list → AreOut takes is_new b next body known all list
  outs all number [] [] h w = tt
  outs all number [] (x ∷ list) h w = absurd w
  outs all number (j ∷ jobs) [] h w = absurd w
  outs all number (j ∷ jobs) (x ∷ list) h w = (
    record { number = number; part = h.0.0; job = j; stands = h.0.1; copied = h.0.2; unused = h.1; worked = w.0 },
    outs all (suc number) jobs list h.2 w.1,
  )

  -- the base of one of them is that of a part from this number on
  record HasBase (all : List Kept) (number : ℕ) (base : List Choice) : Type 0 where
    place : ℕ
    part : Kept
    past : number ≤ place
    stands : slice_get all place ≡ Some part
    same : base ≡ part.base.items

  based : (all : List Kept) (number : ℕ) (jobs : List (Job V)) (list : List (PartDone D S V)) → AreHandedOut is_new all number jobs → AreCovered takes b next body known jobs list → (x : List Choice) → Member x (bases list) → HasBase all number x
  based all number [] [] h w x i = absurd i
  based all number [] (y ∷ list) h w x i = absurd w
  based all number (j ∷ jobs) [] h w x i = absurd w
  based all number (j ∷ jobs) (y ∷ list) h w x (inl e) = record { place = number; part = h.0.0; past = omega arith; stands = h.0.1; same = e ∙ w.0.0 ∙ h.0.2.0 }
  based all number (j ∷ jobs) (y ∷ list) h w x (inr i) =
      let z = based all (suc number) jobs list h.2 w.1 x i in
      let l = z.past in
      record { place = z.place; part = z.part; past = omega (arith, l); stands = z.stands; same = z.same }

  -- no two have one base, where no two parts of the list have
  pub bases_apart : (all : List Kept) → ((i j : ℕ) (q d : Kept) → slice_get all i ≡ Some q → slice_get all j ≡ Some d → i < j → q.base.items ≡ d.base.items → ⊥) → (number : ℕ) (jobs : List (Job V)) (list : List (PartDone D S V))
      → AreHandedOut is_new all number jobs → AreCovered takes b next body known jobs list → IsOnce (bases list)
  bases_apart all once number [] [] h w = tt
  bases_apart all once number [] (x ∷ list) h w = absurd w
  bases_apart all once number (j ∷ jobs) [] h w = absurd w
  bases_apart all once number (j ∷ jobs) (x ∷ list) h w = (
    (λ i.
        let z = based all (suc number) jobs list h.2 w.1 x.part.base.items i in
        let l = z.past in
        once number z.place h.0.0 z.part h.0.1 z.stands (omega (arith, l)) (sym (w.0.0 ∙ h.0.2.0) ∙ z.same)),
    bases_apart all once (suc number) jobs list h.2 w.1,
  )

  -- the last one is taken
  out_front : (all : List Kept) (list : List (PartDone D S V)) (x : PartDone D S V) → AreOut takes is_new b next body known all (list ++ x ∷ []) → AreOut takes is_new b next body known all list × IsOut takes is_new b next body known all x
  out_front all [] x h = (tt, h.0)
  out_front all (y ∷ list) x h = let z = out_front all list x h.1 in ((h.0, z.0), z.1)

  same_base : (all : List Kept) (x : PartDone D S V) (o : IsOut takes is_new b next body known all x) → x.part.base.items ≡ o.part.base.items
  same_base all x o = let w = o.worked in let c = o.copied in w.0 ∙ c.0

  still_out : (old later : List Kept) (base : List Choice) → KeepsOthers old base later → (list : List (PartDone D S V)) → (Member base (bases list) → ⊥) → AreOut takes is_new b next body known old list
      → AreOut takes is_new b next body known later list
  still_out old later base keeps [] none_has h = tt
  still_out old later base keeps (x ∷ list) none_has h = (
    (let o = h.0 in
        let z = keeps o.number o.part o.stands (λ e. none_has (inl (sym e ∙ sym (same_base old x o)))) in
        record { number = z.0; part = o.part; job = o.job; stands = z.1; copied = o.copied; unused = o.unused; worked = o.worked }),
    still_out old later base keeps list (λ i. none_has (inr i)) h.1,
  )

member_front : {D S V : Type 0} (list : List (PartDone D S V)) (x : PartDone D S V) (base : List Choice) → Member base (bases list) → Member base (bases (list ++ x ∷ []))
member_front [] x base h = absurd h
member_front (y ∷ list) x base (inl e) = inl e
member_front (y ∷ list) x base (inr h) = inr (member_front list x base h)

member_last : {D S V : Type 0} (list : List (PartDone D S V)) (x : PartDone D S V) → Member x.part.base.items (bases (list ++ x ∷ []))
member_last [] x = inl refl
member_last (y ∷ list) x = inr (member_last list x)

once_front : {D S V : Type 0} (list : List (PartDone D S V)) (x : PartDone D S V) → IsOnce (bases (list ++ x ∷ [])) → IsOnce (bases list) × (Member x.part.base.items (bases list) → ⊥)
once_front [] x h = (tt, λ i. i)
once_front (y ∷ list) x h = let z = once_front list x h.1 in (
  ((λ i. h.0 (member_front list x y.part.base.items i)), z.0),
  λ i. elim i [ inl e ↦ h.0 (subst (λ (base : List Choice). Member base (bases (list ++ x ∷ []))) e (member_last list x)) | inr j ↦ z.1 j ],
)

most_front : {D S V : Type 0} (most : ℕ) (list : List (PartDone D S V)) (x : PartDone D S V) → AreAtMost most (list ++ x ∷ []) → AreAtMost most list × IsAtMost most x.worked
most_front most [] x h = (tt, h.0)
most_front most (y ∷ list) x h = let z = most_front most list x h.1 in ((h.0, z.0), z.1)

-- ---- a turn under way

module _ {G V D S : Type 0} (takes : V → List Choice → D → V → Type 0) (is_new : V → Type 0) (joins : G → V → G → Type 0) (b : Builder) (next : Meaning D S) (body : S) (given : List (List Choice × D)) (old : G) (before : Parts)
    (known : Noted D S) (start : HaveSpreadTo b next body before known given) where
  -- some parts are given back, with the paths that their runs left; the others are out
  pub record IsTaking (parts : Parts) (mid : G) (noted : Noted D S) (turn : CoverTurn) (rest : List (PartDone D S V)) : Type 0 where
    pub made : List (List Choice × D)
    pub more : List (List Stored)
    pub joined : AreJoined takes is_new joins old made mid
    pub counted : length made ≡ turn.runs
    pub come : HasSpread b.max_branches (marking None) (body_runs b next body) (state_so b next body start.never) (more ++ start.left) (made ++ given) parts
    pub table : IsTableOf start.never (state_so b next body start.never) (more ++ start.left) noted
    pub out : AreOut takes is_new b next body known parts.list.items rest
    pub once : IsOnce (bases rest)
    pub lost : (lost : Lost) → turn.lost ≡ Some lost → FailsBy b next body lost.failure.kind lost.choices.items

  pub taking_start : (turn : CoverTurn) (list : List (PartDone D S V)) → turn.runs ≡ 0 → turn.lost ≡ None → AreOut takes is_new b next body known before.list.items list → IsOnce (bases list) → IsTaking before old known turn list
  taking_start turn list no_runs no_lost out once = record {
    made = [];
    more = [];
    joined = none;
    counted = sym no_runs;
    come = start.come;
    table = start.table;
    out = out;
    once = once;
    lost = λ lost e. absurd (cc (e, no_lost));
  }

  module _ (parts : Parts) (mid : G) (noted : Noted D S) (turn : CoverTurn) (rest : List (PartDone D S V)) (x : PartDone D S V) (h : IsTaking parts mid noted turn (rest ++ x ∷ [])) where
    split : AreOut takes is_new b next body known parts.list.items rest × IsOut takes is_new b next body known parts.list.items x
    split = out_front takes is_new b next body known parts.list.items rest x h.out

    split_once : IsOnce (bases rest) × (Member x.part.base.items (bases rest) → ⊥)
    split_once = once_front rest x h.once

    out : IsOut takes is_new b next body known parts.list.items x
    out = split.1

    -- how its part was when it was taken
    path_so : stored out.job.part.path.nodes ≡ stored out.part.path.nodes
    path_so = let c = out.copied in ap (λ r. stored r.nodes) c.1

    base_so : out.job.part.base.items ≡ out.part.base.items
    base_so = let c = out.copied in c.0

    going : IsGoing b next body known (unnoted known.never) (stored out.job.part.path.nodes) start.never start.left
    going = record {
      full = subst (IsFull (cover_machine b next body)) (sym path_so) ((spread_law (cover_machine b next body) (h.more ++ start.left) parts h.come.spread).0 out.number out.part out.stands);
      known_so = start.table;
      noted_so = table_none start.never (state_so b next body start.never) start.left known.never start.table.same;
    }

    -- nothing was left of it
    taking_nothing : IsTaking parts mid noted turn rest
    taking_nothing = record { made = h.made; more = h.more; joined = h.joined; counted = h.counted; come = h.come; table = h.table; out = split.0; once = split_once.0; lost = h.lost }

    -- it is given back
    module _ (later : G) (after : Parts) (now : Noted D S) (then : CoverTurn) (count met : ℕ)
        (g : HaveMade takes out.job.visitor x.visitor b next body (length out.job.part.base.items) (stored out.job.part.path.nodes) start.never start.left x.states count met x.part.is_done (stored x.part.path.nodes)) where
      all_left : (g.left ++ h.more) ++ start.left ≡ g.left ++ (h.more ++ start.left)
      all_left = append_assoc g.left h.more start.left

      all_given : (g.given ++ h.made) ++ given ≡ g.given ++ (h.made ++ given)
      all_given = append_assoc g.given h.made given

      ends_so : (q : List Stored) → IsOneOf q (g.left ++ (h.more ++ start.left)) → IsEnd (world_of (body_runs b next body)) (state_so b next body start.never) (g.left ++ (h.more ++ start.left)) (g.given ++ (h.made ++ given)) q
      ends_so q i = elim (one_either q g.left (h.more ++ start.left) i) [
        | inl j ↦
            end_wider (world_of (body_runs b next body)) (state_so b next body start.never) (g.left ++ start.left) (g.left ++ (h.more ++ start.left)) g.given (g.given ++ (h.made ++ given))
            (λ y k. elim (one_either y g.left start.left k) [ inl l ↦ one_front y g.left (h.more ++ start.left) l | inr l ↦ one_behind y g.left (h.more ++ start.left) (one_behind y h.more start.left l) ])
            (λ c value k. given_front c value g.given (h.made ++ given) k) q (g.ends q j)
        | inr j ↦
            end_wider (world_of (body_runs b next body)) (state_so b next body start.never) (h.more ++ start.left) (g.left ++ (h.more ++ start.left)) (h.made ++ given) (g.given ++ (h.made ++ given))
            (λ y k. one_behind y g.left (h.more ++ start.left) k) (λ c value k. given_back c value g.given (h.made ++ given) k) q (h.come.ends q j)
      ]

      spread_so : (answer : Bool) → GivesBack parts x.part after answer → SpreadsBack parts x.part after answer → IsSpread (cover_machine b next body) (g.left ++ (h.more ++ start.left)) after
      spread_so false gives back = absurd (gives.1 out.number (out.part, out.stands, sym (same_base takes is_new b next body known parts.list.items x out)))
      spread_so true gives back =
          back (cover_machine b next body) (h.more ++ start.left) g.left out.number out.part h.come.spread out.stands (sym (same_base takes is_new b next body known parts.list.items x out))
          (subst (λ (p : List Stored). LeadSo (cover_machine b next body) (length out.part.base.items) p g.left x.part.is_done (stored x.part.path.nodes)) path_so
          (subst (λ (base : List Choice). LeadSo (cover_machine b next body) (length base) (stored out.job.part.path.nodes) g.left x.part.is_done (stored x.part.path.nodes)) base_so g.lead))

      taking_back : (answer : Bool) → GivesBack parts x.part after answer → SpreadsBack parts x.part after answer → KeepsOthers parts.list.items x.part.base.items after.list.items → joins mid x.visitor later
          → (IsTableOf start.never (state_so b next body start.never) (g.left ++ (h.more ++ start.left)) noted → IsTableOf start.never (state_so b next body start.never) (g.left ++ (h.more ++ start.left)) x.states → IsTableOf start.never (state_so b next body start.never) (g.left ++ (h.more ++ start.left)) now)
          → then.runs ≡ turn.runs + count → then.lost ≡ turn.lost → IsTaking after later now then rest
      taking_back answer gives back keeps joined adds sum same = record {
        made = g.given ++ h.made;
        more = g.left ++ h.more;
        joined = joined_both takes is_new joins old mid later h.made g.given h.joined
            (subst (λ (l : List (List Choice × D)). AreJoined takes is_new joins mid l later) (append-nil g.given) (one_more [] g.given mid later out.job.visitor x.visitor none out.unused g.was_given joined));
        counted = (let l = length-append g.given h.made in let c = g.counted in let e = h.counted in omega (arith, l, c, e, sum));
        come = record {
          spread = subst (λ (l : List (List Stored)). IsSpread (cover_machine b next body) l after) (sym all_left) (spread_so answer gives back);
          ends = subst (λ (l : List (List Stored)). (q : List Stored) → IsOneOf q l → IsEnd (world_of (body_runs b next body)) (state_so b next body start.never) l ((g.given ++ h.made) ++ given) q) (sym all_left)
              (subst (λ (r : List (List Choice × D)). (q : List Stored) → IsOneOf q (g.left ++ (h.more ++ start.left)) → IsEnd (world_of (body_runs b next body)) (state_so b next body start.never) (g.left ++ (h.more ++ start.left)) r q) (sym all_given) ends_so);
        };
        table = subst (λ (l : List (List Stored)). IsTableOf start.never (state_so b next body start.never) l now) (sym all_left)
            (adds (table_wider start.never (state_so b next body start.never) (h.more ++ start.left) (g.left ++ (h.more ++ start.left)) noted (λ y i. one_behind y g.left (h.more ++ start.left) i) h.table)
            (table_wider start.never (state_so b next body start.never) (g.left ++ start.left) (g.left ++ (h.more ++ start.left)) x.states
            (λ y k. elim (one_either y g.left start.left k) [ inl l ↦ one_front y g.left (h.more ++ start.left) l | inr l ↦ one_behind y g.left (h.more ++ start.left) (one_behind y h.more start.left l) ]) g.table));
        out = still_out takes is_new b next body known parts.list.items after.list.items x.part.base.items keeps rest split_once.1 split.0;
        once = split_once.0;
        lost = λ lost e. h.lost lost (sym same ∙ e);
      }

    -- a run of it failed
    taking_lost : (then : CoverTurn) (count met : ℕ) (this : Lost) → x.worked ≡ Ok (Failed count met this.failure this.choices) → then.runs ≡ turn.runs → (then.lost ≡ turn.lost) ⊎ (then.lost ≡ Some this) → IsTaking parts mid noted then rest
    taking_lost then count met this came runs which = record {
      made = h.made;
      more = h.more;
      joined = h.joined;
      counted = h.counted ∙ sym runs;
      come = h.come;
      table = h.table;
      out = split.0;
      once = split_once.0;
      lost = λ lost e. go lost e which;
    }
      where
        fails : FailsBy b next body this.failure.kind this.choices.items
        fails = let w = out.worked in (subst (λ (y : Result PartCovered CheckError). CameTo takes b next body known out.job x y) came w.1).2 start.never start.left going

        go : (lost : Lost) → then.lost ≡ Some lost → (then.lost ≡ turn.lost) ⊎ (then.lost ≡ Some this) → FailsBy b next body lost.failure.kind lost.choices.items
        go lost e (inl f) = h.lost lost (sym f ∙ e)
        go lost e (inr f) = let is : this ≡ lost = cc (e, f) in subst (λ (y : Lost). FailsBy b next body y.failure.kind y.choices.items) is fails

    -- it made some, or none
    come_so : (count met : ℕ) → x.worked ≡ Ok (Made count met)
        → ((count ≡ 0) × (met ≡ 0)) ⊎ HaveMade takes out.job.visitor x.visitor b next body (length out.job.part.base.items) (stored out.job.part.path.nodes) start.never start.left x.states count met x.part.is_done (stored x.part.path.nodes)
    come_so count met came =
        let w = out.worked in
        elim (subst (λ (y : Result PartCovered CheckError). CameTo takes b next body known out.job x y) came w.1).1 [ inl e ↦ inl (e.1, e.2) | inr f ↦ inr (f.1 start.never start.left going) ]

  -- one is taken back, as the function says
  pub taking_one : (parts after : Parts) (mid later : G) (noted now : Noted D S) (turn then : CoverTurn) (rest : List (PartDone D S V)) (x : PartDone D S V) → IsTaking parts mid noted turn (rest ++ x ∷ [])
      → IsTaken joins parts after noted now mid later x turn then x.worked → IsTaking after later now then rest
  taking_one parts after mid later noted now turn then rest x h t = go x.worked refl t
    where
      go : (w : Result PartCovered CheckError) → x.worked ≡ w → IsTaken joins parts after noted now mid later x turn then w → IsTaking after later now then rest
      go (Ok (Made count met)) e (inl s) =
          subst (λ (q : Parts). IsTaking q later now then rest) (sym s.2)
          (subst (λ (n : Noted D S). IsTaking parts later n then rest) (sym s.3)
          (subst (λ (j : G). IsTaking parts j noted then rest) (sym s.4)
          (subst (λ (n : CoverTurn). IsTaking parts mid noted n rest) (sym s.5) (taking_nothing parts mid noted turn rest x h))))
      go (Ok (Made count met)) e (inr s) = back (come_so parts mid noted turn rest x h count met e)
        where
          back : ((count ≡ 0) × (met ≡ 0))
              ⊎ HaveMade takes (out parts mid noted turn rest x h).job.visitor x.visitor b next body (length (out parts mid noted turn rest x h).job.part.base.items) (stored (out parts mid noted turn rest x h).job.part.path.nodes) start.never start.left x.states count met x.part.is_done (stored x.part.path.nodes)
              → IsTaking after later now then rest
          back (inl zero_each) = absurd (s.some zero_each.0 zero_each.1)
          back (inr g) =
              taking_back parts mid noted turn rest x h later after now then count met g s.answer s.gives s.back s.others s.joined (s.adds start.never (state_so b next body start.never) (g.left ++ ((h.more) ++ start.left))) s.counted s.lost
      go (Ok (Failed count met failure choices)) e s =
          subst (λ (q : Parts). IsTaking q later now then rest) (sym s.0)
          (subst (λ (n : Noted D S). IsTaking parts later n then rest) (sym s.1)
          (subst (λ (j : G). IsTaking parts j noted then rest) (sym s.2)
          (taking_lost parts mid noted turn rest x h then count met (record { part = x.part; failure = failure; choices = choices }) e s.3 s.5)))
      go (Err e) f s = absurd s

  pub taking_end : (parts : Parts) (mid : G) (noted : Noted D S) (turn : CoverTurn) (rest : List (PartDone D S V)) → IsTaking parts mid noted turn rest → HasTaken takes is_new joins b next body given old mid parts noted turn
  taking_end parts mid noted turn rest h = record {
    gone = record { given = h.made; joined = h.joined; counted = h.counted; comes = record { never = start.never; known = start.known; left = h.more ++ start.left; come = h.come; table = h.table } };
    lost = h.lost;
  }

-- ---- how many runs

one_less : {A : Type 0} (most before whole : ℕ) (rest : List A) (x : A) → before + length (rest ++ x ∷ []) * most ≤ whole → (before + most) + length rest * most ≤ whole
one_less most before whole rest x h =
    let l : length (rest ++ x ∷ []) ≡ suc (length rest) = (let e = length-append rest (x ∷ []) in omega (arith, e)) in
    let t : length (rest ++ x ∷ []) * most ≡ length rest * most + most = ap (λ n. n * most) l ∙ suc-mul (length rest) most in
    omega (arith, h, t)

pub room_for : {D S V : Type 0} (most before whole : ℕ) (rest : List (PartDone D S V)) (x : PartDone D S V) → AreAtMost most (rest ++ x ∷ []) → before + length (rest ++ x ∷ []) * most ≤ whole → whole < 2 ^ 64 → HasRoom before x.worked
room_for most before whole rest x h l w = go x.worked (most_front most rest x h).1
  where
    go : (came : Result PartCovered CheckError) → IsAtMost most came → HasRoom before came
    go (Ok (Made count met)) k = let u = one_less most before whole rest x l in omega (arith, k, u, w)
    go (Ok (Failed count met failure choices)) k = tt
    go (Err e) k = tt

pub most_on : {G D S V : Type 0} (joins : G → V → G → Type 0) (before after : Parts) (known noted : Noted D S) (old later : G) (turn next : CoverTurn) (most whole : ℕ) (rest : List (PartDone D S V)) (x : PartDone D S V)
    → IsTaken joins before after known noted old later x turn next x.worked → AreAtMost most (rest ++ x ∷ []) → (turn.runs + turn.met) + length (rest ++ x ∷ []) * most ≤ whole
    → AreAtMost most rest × ((next.runs + next.met) + length rest * most ≤ whole)
most_on joins before after known noted old later turn next most whole rest x t h l = (z.0, go x.worked z.1 t)
  where
    z : AreAtMost most rest × IsAtMost most x.worked
    z = most_front most rest x h

    less : ((turn.runs + turn.met) + most) + length rest * most ≤ whole
    less = one_less most (turn.runs + turn.met) whole rest x l

    go : (came : Result PartCovered CheckError) → IsAtMost most came → IsTaken joins before after known noted old later x turn next came → (next.runs + next.met) + length rest * most ≤ whole
    go (Ok (Made count met)) k (inl s) = let e : next.runs ≡ turn.runs = ap (λ (n : CoverTurn). n.runs) s.5 in let f : next.met ≡ turn.met = ap (λ (n : CoverTurn). n.met) s.5 in omega (arith, e, f, less)
    go (Ok (Made count met)) k (inr s) = let e = s.counted in let f = s.given_up in omega (arith, k, e, f, less)
    go (Ok (Failed count met failure choices)) k s = let e = s.3 in let f = s.4 in omega (arith, e, f, less)
    go (Err e) k s = absurd s

pub fewer_fit : (few count most whole : ℕ) → few ≤ count → count * most < whole → few * most < whole
fewer_fit few count most whole h l = let t = mul-le-mul_right most h in omega (arith, t, l)

pub turn_within : {D S V : Type 0} (most count : ℕ) (jobs : ℕ) (list : List (PartDone D S V)) (answer : Result CoverTurn CheckError) → AreAtMost most list → length list ≡ jobs → jobs ≤ count
    → IfOk answer (λ turn. (most : ℕ) → AreAtMost most list → turn.runs + turn.met ≤ length list * most) → IfOk answer (λ turn. turn.runs + turn.met ≤ count * most)
turn_within most count jobs list (Ok turn) h e few f = let t = mul-le-mul_right most (let l : length list ≤ count = omega (arith, e, few) in l) in let r = f most h in omega (arith, t, r)
turn_within most count jobs list (Err e) h f few g = tt

-- ---- a turn from its beginning

module _ {G V D S : Type 0} (takes : V → List Choice → D → V → Type 0) (is_new : V → Type 0) (joins : G → V → G → Type 0) (b : Builder) (next : Meaning D S) (body : S) where
  pub turn_taken : (before after : Parts) (known noted : Noted D S) (old later : G) (jobs : List (Job V)) (list : List (PartDone D S V)) (answer : Result CoverTurn CheckError) → AreHandedOut is_new before.list.items 0 jobs
      → AreCovered takes b next body known jobs list → IfOk answer (TakesBack takes is_new joins next before after known noted old later list) → IfOk answer (TakesTurn takes is_new joins b next body before after known noted old later)
  turn_taken before after known noted old later jobs list (Err e) h w t = tt
  turn_taken before after known noted old later jobs list (Ok turn) h w t = λ given start.
      t b body given start (outs takes is_new b next body known before.list.items 0 jobs list h w) (bases_apart takes is_new b next body known before.list.items (none_twice given start) 0 jobs list h w)
    where
      none_twice : (given : List (List Choice × D)) → HaveSpreadTo b next body before known given → (i j : ℕ) (q d : Kept) → slice_get before.list.items i ≡ Some q → slice_get before.list.items j ≡ Some d → i < j → q.base.items ≡ d.base.items → ⊥
      none_twice given start i j q d at there less same =
          let come = start.come in
          let spread = come.spread in
          apart before.list.items [] i j q d (holds (cover_machine b next body) start.left (views before.list.items) spread.0 (keys before.trunk.items) [] spread.1).bases_once less at there same

-- ---- what a check has found, turn after turn

module _ {G V D S : Type 0} (takes : V → List Choice → D → V → Type 0) (is_new : V → Type 0) (joins : G → V → G → Type 0) (b : Builder) (next : Meaning D S) (body : S) (before : Parts) (known : Noted D S) (old : G) where
  -- the search has gone on so far
  abbrev pub HasCome : Parts → Noted D S → G → ℕ → Type 0
  HasCome parts noted later count = (given : List (List Choice × D)) → HaveSpreadTo b next body before known given → HasGoneOn takes is_new joins b next body given old later parts noted count

  pub come_nowhere : HasCome before known old 0
  come_nowhere given start = record { given = []; joined = none; counted = refl; comes = start }

  gone_further : (given : List (List Choice × D)) (mid parts : Parts) (table noted : Noted D S) (middle later : G) (count more : ℕ) (g : HasGoneOn takes is_new joins b next body given old middle mid table count)
      → HasGoneOn takes is_new joins b next body (g.given ++ given) middle later parts noted more → HasGoneOn takes is_new joins b next body given old later parts noted (count + more)
  gone_further given mid parts table noted middle later count more g h = record {
    given = h.given ++ g.given;
    joined = joined_both takes is_new joins old middle later g.given h.given g.joined h.joined;
    counted = (let l = length-append h.given g.given in let a = h.counted in let c = g.counted in omega (arith, l, a, c));
    comes = subst (λ (runs : List (List Choice × D)). HaveSpreadTo b next body parts noted runs) (sym (append_assoc h.given g.given given)) h.comes;
  }

  -- a turn more
  pub come_further : (mid parts : Parts) (table noted : Noted D S) (middle later : G) (count : ℕ) (turn : CoverTurn) → HasCome mid table middle count → TakesTurn takes is_new joins b next body mid parts table noted middle later turn
      → HasCome parts noted later (count + turn.runs)
  come_further mid parts table noted middle later count turn h t given start =
      let g = h given start in gone_further given mid parts table noted middle later count turn.runs g (t (g.given ++ given) g.comes).gone

  -- and its parts are cut
  pub come_cut : (parts after : Parts) (noted : Noted D S) (later : G) (count : ℕ) → HasCome parts noted later count → SpreadsOn parts after → HasCome after noted later count
  come_cut parts after noted later count h cut given start =
      let g = h given start in
      let at = g.comes in
      let come = at.come in
      record {
        given = g.given;
        joined = g.joined;
        counted = g.counted;
        comes = record { never = at.never; known = at.known; left = at.left; come = record { spread = cut (cover_machine b next body) at.left come.spread; ends = come.ends }; table = at.table };
      }

  module _ (answered : Duration → Type 0) where
    pub finds_complete : (parts : Parts) (noted : Noted D S) (later : G) (count met states : ℕ) → count + met ≤ most_runs b → HasCome parts noted later count → parts.list.items ≡ []
        → Finds takes is_new joins b next body answered before parts known noted old later (Complete count met states)
    finds_complete parts noted later count met states few h over = (few, λ given start. let g = h given start in record { gone = g; covered = all given g })
      where
        all : (given : List (List Choice × D)) (g : HasGoneOn takes is_new joins b next body given old later parts noted count) → IsCovered b next body (g.given ++ given)
        all given g = λ limits steps_too are.
            let at = g.comes in
            spread_body_law at.never limits next (explores b) b.max_threads b.max_steps steps_too b.max_branches (marking None) body at.left (g.given ++ given) parts at.known are (marking_law None).0 at.come over

    stops : (count met states : ℕ) (limit : Limit) → count + met ≤ most_runs b → HasReached answered b (count + met) (Some limit) → StopsBy answered b (Stopped count met states limit)
    stops count met states Permutations few r = omega (arith, few, r)
    stops count met states Lasting few r = (r.1, r.0)

    pub finds_stopped : (parts : Parts) (noted : Noted D S) (later : G) (count met states : ℕ) (limit : Limit) → count + met ≤ most_runs b → HasCome parts noted later count → HasReached answered b (count + met) (Some limit)
        → Finds takes is_new joins b next body answered before parts known noted old later (Stopped count met states limit)
    finds_stopped parts noted later count met states limit few h r = (stops count met states limit few r, h)

    pub finds_failed : (mid parts : Parts) (table noted : Noted D S) (middle later : G) (count met states : ℕ) (turn : CoverTurn) (lost : Lost) → (count + turn.runs) + met ≤ most_runs b → HasCome mid table middle count
        → TakesTurn takes is_new joins b next body mid parts table noted middle later turn → turn.lost ≡ Some lost
        → Finds takes is_new joins b next body answered before parts known noted old later (HasFailed (count + turn.runs) met states lost.failure lost.choices)
    finds_failed mid parts table noted middle later count met states turn lost few h t e = (
      few,
      λ given start.
          let g = h given start in
          let z = t (g.given ++ given) g.comes in
          (gone_further given mid parts table noted middle later count turn.runs g z.gone, z.lost lost e),
    )
