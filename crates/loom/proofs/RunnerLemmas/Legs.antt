-- The legs of a walk by several workers, and how far the walk is by them.
use Rattle.std.proofs.Common.{◌≡◌, ◌⊎◌, ◌<◌, ◌≤◌, ◌+◌, ℕ, suc, inl, inr, List, [], ◌∷◌, ◌++◌, length, length-append, None, Some, refl, sym, ◌∙◌, subst, arith}
use Rattle.std.specs.Prelude.{Result, Ok, Err, IfOk, slice_index_or}
use Rattle.std.specs.declared.time.Duration.{Duration}
use Rattle.loom_objects.specs.declared.choice.Choice.{Choice}
use Rattle.loom_objects.specs.declared.failure.Failure.{Failure}
use Rattle.loom_objects.specs.Tree.Tree.{Tree}
use Rattle.loom_engine.specs.Trees.Outcomes.{choices_made}
use Rattle.loom_engine.specs.Walk.Lists.{Member}
use Rattle.loom.specs.declared.model.builder.Builder.{Builder}
use Rattle.loom.specs.declared.model.error.CheckError.{CheckError}
use Rattle.loom.specs.declared.model.walk.Walk.{Walk}
use Rattle.loom.specs.declared.model.walk.Walked.{Walked}
use Rattle.loom.specs.declared.model.walk.Walked.TheVariants.{Made, Failed}
use Rattle.loom.specs.declared.runner.parallel.walking.Gone.{Gone}
use Rattle.loom.specs.declared.runner.parallel.walking.Leg.{Leg}
use Rattle.loom.specs.declared.runner.parallel.walking.LegDone.{LegDone}
use Rattle.loom.specs.Model.Check.{HasLasted}
use Rattle.loom.specs.Model.Different.{Adds, Counted, Tells}
use Rattle.loom.specs.Model.Walking.{AreDrawnRuns, HasFailed, HasGiven, IsDrawnRun, WalksNoting, asked_runs}
use Rattle.loom.specs.Runner.Parallel.{none, one_more}
use Rattle.loom.specs.Runner.Legs.{AreMade, AreNew, HasCome, HasJoined, HasTaken, IsMade, IsMadeBy, IsTaken, MakesLeg, Walks, asked_of, made_by, made_of}
use Rattle.loom.proofs.ModelLemmas.Noting.{tells_none}
use Rattle.loom.proofs.ModelLemmas.Walking.{told_so}

-- ---- handed out

pub new_more : {V : Type 0} (is_new : V → Type 0) (legs : List (Leg V)) (leg : Leg V) → AreNew is_new legs → is_new leg.visitor → AreNew is_new (legs ++ leg ∷ [])
new_more is_new [] leg h is = (is, tt)
new_more is_new (x ∷ legs) leg h is = (h.0, new_more is_new legs leg h.1 is)

pub asked_more : {V : Type 0} (legs : List (Leg V)) (leg : Leg V) → asked_of (legs ++ leg ∷ []) ≡ asked_of legs + asked_runs leg.walk
asked_more [] leg = omega arith
asked_more (x ∷ legs) leg = let rest = asked_more legs leg in omega (arith, rest)

-- ---- made

pub made_each : {V D : Type 0} (takes : V → List Choice → D → V → Type 0) (b : Builder) (tree : Tree D) (legs : List (Leg V)) (list : List (LegDone V)) → length list ≡ length legs
    → ((i : ℕ) (d : LegDone V) → i < length legs → (leg : Leg V) × ((other : Leg V) → slice_index_or legs i other ≡ leg) × IsMadeBy takes b tree leg (slice_index_or list i d))
    → AreMade takes b tree legs list
made_each takes b tree [] [] e f = tt
made_each takes b tree [] (x ∷ list) e f = absurd (omega arith)
made_each takes b tree (j ∷ legs) [] e f = absurd (omega arith)
made_each takes b tree (j ∷ legs) (x ∷ list) e f = (
  (let z = f 0 x (omega arith) in subst (λ (y : Leg _). IsMadeBy takes b tree y x) (sym (z.1 j)) z.2),
  made_each takes b tree legs list (omega arith) (λ i d l. f (suc i) d (omega (arith, l))),
)

-- no more runs were made than were asked for
made_less : {V D : Type 0} (takes : V → List Choice → D → V → Type 0) (old new : V) (b : Builder) (tree : Tree D) (noted : Counted) (walk : Walk) (walked : Result Walked CheckError)
    → IfOk walked (MakesLeg takes old new b tree noted walk) → made_by walked ≤ asked_runs walk
made_less takes old new b tree noted walk (Ok (Made runs cut different)) made = let e = made.2 in omega (arith, e)
made_less takes old new b tree noted walk (Ok (Failed runs cut failure choices)) made = let e = made.1 in omega (arith, e)
made_less takes old new b tree noted walk (Err e) made = omega arith

pub made_within : {V D : Type 0} (takes : V → List Choice → D → V → Type 0) (b : Builder) (tree : Tree D) (legs : List (Leg V)) (list : List (LegDone V)) → AreMade takes b tree legs list
    → made_of list ≤ asked_of legs
made_within takes b tree [] [] made = omega arith
made_within takes b tree [] (x ∷ list) made = absurd made
made_within takes b tree (leg ∷ legs) [] made = absurd made
made_within takes b tree (leg ∷ legs) (x ∷ list) made =
    let first = made_less takes leg.visitor x.visitor b tree x.different leg.walk x.walked made.0.made in
    let rest = made_within takes b tree legs list made.1 in
    omega (arith, first, rest)

-- A walk without a limit of time is one with such a limit, where all its runs were made.
module _ {V D : Type 0} (takes : V → List Choice → D → V → Type 0) (b untimed : Builder) (tree own : Tree D) (same : own ≡ tree) (room : untimed.max_branches ≡ b.max_branches) (never : untimed.max_duration ≡ None)
    (placed : untimed.location ≡ b.location) where
  run_so : (choices : List Choice) (comes : Result D _) → IsDrawnRun untimed.max_branches own choices comes → IsDrawnRun b.max_branches tree choices comes
  run_so choices comes is = subst (λ (t : Tree D). IsDrawnRun b.max_branches t choices comes) same (subst (λ (n : ℕ). IsDrawnRun n own choices comes) room is)

  runs_so : (runs : List (List Choice × D)) → AreDrawnRuns untimed.max_branches own runs → AreDrawnRuns b.max_branches tree runs
  runs_so [] are = tt
  runs_so (made ∷ runs) are = (run_so made.0 (Ok made.1) are.0, runs_so runs are.1)

  failed_so : (failure : Failure) (choices : List Choice) → HasFailed untimed own failure choices → HasFailed b tree failure choices
  failed_so failure choices has = record { fails = run_so choices (Err failure.kind) has.fails; uncut = has.uncut; placed = λ none. has.placed (placed ∙ none) }

  abbrev given_so : (old new : V) (count : ℕ) → HasGiven takes old new untimed own count → HasGiven takes old new b tree count
  given_so old new count has = record { runs = has.runs; given = has.given; counted = has.counted; drawn = runs_so has.runs has.drawn }

  never_lasts : (answered : Duration → Type 0) → HasLasted answered untimed.max_duration → ⊥
  never_lasts answered lasted = subst (HasLasted answered) never lasted

  pub leg_made : (old new : V) (noted : Counted) (walk : Walk) (answered : Duration → Type 0) (walked : Walked) → WalksNoting takes old new untimed own noted walk answered walked → MakesLeg takes old new b tree noted walk walked
  leg_made old new noted walk answered (Made runs cut different) w = (
    given_so old new runs w.0,
    w.1,
    elim w.3 [
      | inl all ↦ all
      | inr part ↦ absurd (never_lasts answered part.1)
    ],
  )
  leg_made old new noted walk answered (Failed runs cut failure choices) w = (given_so old new runs w.0, w.1, failed_so failure choices.items w.2)

-- ---- joined

module _ {D : Type 0} where
  member_left : (xs ys : List (List Choice × D)) (x : List Choice) → Member x (choices_made xs) → Member x (choices_made (xs ++ ys))
  member_left [] ys x is = absurd is
  member_left (y ∷ xs) ys x (inl same) = inl same
  member_left (y ∷ xs) ys x (inr is) = inr (member_left xs ys x is)

  member_right : (xs ys : List (List Choice × D)) (x : List Choice) → Member x (choices_made ys) → Member x (choices_made (xs ++ ys))
  member_right [] ys x is = is
  member_right (y ∷ xs) ys x is = inr (member_right xs ys x is)

  member_either : (xs ys : List (List Choice × D)) (x : List Choice) → Member x (choices_made (xs ++ ys)) → Member x (choices_made xs) ⊎ Member x (choices_made ys)
  member_either [] ys x is = inr is
  member_either (y ∷ xs) ys x (inl same) = inl (inl same)
  member_either (y ∷ xs) ys x (inr is) = elim (member_either xs ys x is) [
    | inl here ↦ inl (inr here)
    | inr there ↦ inr there
  ]

  -- two counts together are those of both
  tells_both : (other old new : Counted) (more runs : List (List Choice × D)) → Adds other old new → Tells other (choices_made more) → Tells old (choices_made runs) → Tells new (choices_made (more ++ runs))
  tells_both other old new more runs adds its before told h = (
    λ has. (elim ((adds.added told h).0 has) [
      | inl is ↦ (let c = (its (adds.still told).1 h).0 is in (c.0, member_left more runs c.0 c.1, c.2))
      | inr was ↦ (let c = (before (adds.still told).0 h).0 was in (c.0, member_right more runs c.0 c.1, c.2))
    ]),
    λ has. (elim (member_either more runs has.0 has.1) [
      | inl is ↦ (adds.added told h).1 (inl ((its (adds.still told).1 h).1 (has.0, is, has.2)))
      | inr was ↦ (adds.added told h).1 (inr ((before (adds.still told).0 h).1 (has.0, was, has.2)))
    ]),
  )

  drawn_both : (max_branches : ℕ) (tree : Tree D) (more runs : List (List Choice × D)) → AreDrawnRuns max_branches tree more → AreDrawnRuns max_branches tree runs → AreDrawnRuns max_branches tree (more ++ runs)
  drawn_both max_branches tree [] runs its before = before
  drawn_both max_branches tree (x ∷ more) runs its before = (its.0, drawn_both max_branches tree more runs its.1 before)

module _ {G V D : Type 0} (takes : V → List Choice → D → V → Type 0) (is_new : V → Type 0) (joins : G → V → G → Type 0) (first : G) (b : Builder) (tree : Tree D) where
  -- before any leg
  pub come_nowhere : (gone : Gone) → gone.runs ≡ 0 → gone.different.hashes ≡ [] → HasCome takes is_new joins first first b tree gone
  come_nowhere gone no_runs no_hashes = record { made = record { runs = []; joined = none; counted = sym no_runs; drawn = tt }; tells = tells_none gone.different no_hashes }

  -- with the runs of one more
  abbrev joined_more : (before after : G) (begun ended : V) (count more all : ℕ) → HasJoined takes is_new joins first before b tree count → is_new begun → HasGiven takes begun ended b tree more → joins before ended after
      → all ≡ count + more → HasJoined takes is_new joins first after b tree all
  joined_more before after begun ended count more all h new given joined is =
      record {
        runs = given.runs ++ h.runs;
        joined = one_more h.runs given.runs before after begun ended h.joined new given.given joined;
        counted = (let l = length-append given.runs h.runs in let c = given.counted in let d = h.counted in omega (arith, l, c, d, is));
        drawn = drawn_both b.max_branches tree given.runs h.runs given.drawn h.drawn;
      }

  come_further : (before after : G) (leg : Leg V) (done : LegDone V) (gone next : Gone) (runs : ℕ) → HasCome takes is_new joins first before b tree gone → is_new leg.visitor
      → (given : HasGiven takes leg.visitor done.visitor b tree runs) → Tells done.different (choices_made given.runs) → joins before done.visitor after → next.runs ≡ gone.runs + runs
      → Adds done.different gone.different next.different → HasCome takes is_new joins first after b tree next
  come_further before after leg done gone next runs come new given tells joined counted adds = record {
    made = joined_more before after leg.visitor done.visitor gone.runs runs next.runs come.made new given joined counted;
    tells = tells_both done.different gone.different next.different given.runs come.made.runs adds tells come.tells;
  }

  -- ---- taken back

  -- these legs are still to be taken back, and all of them have so many runs, with those before
  pub record IsTaking (asked : ℕ) (visitors : G) (gone : Gone) (list : List (LegDone V)) : Type 0 where
    pub legs : List (Leg V)
    pub new : AreNew is_new legs
    pub made : AreMade takes b tree legs list
    pub come : HasCome takes is_new joins first visitors b tree gone
    pub left : gone.runs + gone.cut + asked_of legs ≡ asked

  pub taking_start : (visitors : G) (gone : Gone) (legs : List (Leg V)) (list : List (LegDone V)) → AreNew is_new legs → AreMade takes b tree legs list → HasCome takes is_new joins first visitors b tree gone
      → IsTaking (gone.runs + gone.cut + asked_of legs) visitors gone list
  taking_start visitors gone legs list new made come = record { legs = legs; new = new; made = made; come = come; left = refl }

  module _ (asked : ℕ) (visitors later : G) (gone next : Gone) (done : LegDone V) (list : List (LegDone V)) where
    on_by : (leg : Leg V) (legs : List (Leg V)) (walked : Result Walked CheckError) → is_new leg.visitor → AreNew is_new legs → IfOk walked (MakesLeg takes leg.visitor done.visitor b tree done.different leg.walk) → AreMade takes b tree legs list
        → HasCome takes is_new joins first visitors b tree gone → gone.runs + gone.cut + (asked_runs leg.walk + asked_of legs) ≡ asked → IsTaken joins visitors later done gone next walked None → IsTaking asked later next list
    on_by leg legs (Ok (Made runs cut different)) new news came made come left taken = record {
      legs = legs;
      new = news;
      made = made;
      come = come_further visitors later leg done gone next runs come new came.0 came.1 taken.0 taken.1 taken.3;
      left = (let e = came.2 in let f = taken.1 in let g = taken.2 in omega (arith, e, f, g, left));
    }
    on_by leg legs (Ok (Failed runs cut failure choices)) new news came made come left taken = absurd (cc taken.1)
    on_by leg legs (Err e) new news came made come left taken = absurd taken

    on : (legs : List (Leg V)) → AreNew is_new legs → AreMade takes b tree legs (done ∷ list) → HasCome takes is_new joins first visitors b tree gone → gone.runs + gone.cut + asked_of legs ≡ asked
        → IsTaken joins visitors later done gone next done.walked None → IsTaking asked later next list
    on [] new made come left taken = absurd made
    on (leg ∷ legs) new made come left taken = on_by leg legs done.walked new.0 new.1 made.0.made made.1 come left taken

    -- one was taken back, and no run of it failed
    pub taking_on : IsTaking asked visitors gone (done ∷ list) → IsTaken joins visitors later done gone next done.walked None → IsTaking asked later next list
    taking_on t taken = on t.legs t.new t.made t.come t.left taken

    failed_by : (leg : Leg V) (legs : List (Leg V)) (walked : Result Walked CheckError) (failed : Walked) (last : Gone) → is_new leg.visitor
        → IfOk walked (MakesLeg takes leg.visitor done.visitor b tree done.different leg.walk) → HasCome takes is_new joins first visitors b tree gone → gone.runs + gone.cut + (asked_runs leg.walk + asked_of legs) ≡ asked → IsTaken joins visitors later done gone next walked (Some failed)
        → HasTaken takes is_new joins first later b tree last asked (Some failed)
    failed_by leg legs (Ok (Made runs cut different)) failed last new came come left taken = absurd (cc taken.4)
    failed_by leg legs (Ok (Failed runs cut failure choices)) failed last new came come left taken =
        let is : failed ≡ Failed (gone.runs + runs) (gone.cut + cut) failure choices = cc taken.1 in
        subst (λ (w : Walked). HasTaken takes is_new joins first later b tree last asked (Some w)) (sym is) (
          joined_more visitors later leg.visitor done.visitor gone.runs runs (gone.runs + runs) come.made new came.0 taken.0 refl,
          (let e = came.1 in omega (arith, e, left)),
          came.2,
        )
    failed_by leg legs (Err e) failed last new came come left taken = absurd taken

    failed_of : (legs : List (Leg V)) (failed : Walked) (last : Gone) → AreNew is_new legs → AreMade takes b tree legs (done ∷ list) → HasCome takes is_new joins first visitors b tree gone
        → gone.runs + gone.cut + asked_of legs ≡ asked → IsTaken joins visitors later done gone next done.walked (Some failed) → HasTaken takes is_new joins first later b tree last asked (Some failed)
    failed_of [] failed last new made come left taken = absurd made
    failed_of (leg ∷ legs) failed last new made come left taken = failed_by leg legs done.walked failed last new.0 made.0.made come left taken

    -- one was taken back of which a run failed
    pub taking_failed : (failed : Walked) (last : Gone) → IsTaking asked visitors gone (done ∷ list) → IsTaken joins visitors later done gone next done.walked (Some failed)
        → HasTaken takes is_new joins first later b tree last asked (Some failed)
    taking_failed failed last t taken = failed_of t.legs failed last t.new t.made t.come t.left taken

  end : (asked : ℕ) (visitors : G) (gone : Gone) (legs : List (Leg V)) → AreMade takes b tree legs [] → HasCome takes is_new joins first visitors b tree gone → gone.runs + gone.cut + asked_of legs ≡ asked
      → HasTaken takes is_new joins first visitors b tree gone asked None
  end asked visitors gone [] made come left = (come, omega (arith, left))
  end asked visitors gone (leg ∷ legs) made come left = absurd made

  -- all were taken back
  pub taking_end : (asked : ℕ) (visitors : G) (gone : Gone) → IsTaking asked visitors gone [] → HasTaken takes is_new joins first visitors b tree gone asked None
  taking_end asked visitors gone t = end asked visitors gone t.legs t.made t.come t.left

  -- ---- reported

  -- where no run failed
  pub walks_made : (later : G) (gone : Gone) (walk : Walk) (answered : Duration → Type 0) (walked : Walked) → HasCome takes is_new joins first later b tree gone → IsMade gone walked
      → (gone.runs + gone.cut ≡ asked_runs walk) ⊎ ((gone.runs + gone.cut < asked_runs walk) × HasLasted answered b.max_duration) → Walks takes is_new joins first later b tree walk answered walked
  walks_made later gone walk answered (Made runs cut different) come is ends = (
    record { runs = come.made.runs; joined = come.made.joined; counted = come.made.counted ∙ sym is.0; drawn = come.made.drawn },
    told_so gone.different (choices_made come.made.runs) different come.tells is.2,
    subst (λ (n : ℕ). (n ≡ asked_runs walk) ⊎ ((n < asked_runs walk) × HasLasted answered b.max_duration)) (let r = is.0 in let c = is.1 in omega (arith, r, c)) ends,
  )
  walks_made later gone walk answered (Failed runs cut failure choices) come is ends = absurd is

  -- or one did
  pub walks_failed : (later : G) (next : Gone) (walk : Walk) (answered : Duration → Type 0) (asked : ℕ) (walked : Walked) → asked ≤ asked_runs walk → HasTaken takes is_new joins first later b tree next asked (Some walked)
      → Walks takes is_new joins first later b tree walk answered walked
  walks_failed later next walk answered asked (Made runs cut different) within taken = absurd taken
  walks_failed later next walk answered asked (Failed runs cut failure choices) within taken = (taken.0, (let e = taken.1 in omega (arith, e, within)), taken.2)

-- nothing is left
pub none_left : {X : Type 0} (list : List X) (count : ℕ) → count ≡ length list → (0 < count → ⊥) → list ≡ []
none_left [] count e over = refl
none_left (x ∷ list) count e over = absurd (over (omega (arith, e)))

-- ---- room

-- the runs of those that are left can still be counted
pub room_on : {G V : Type 0} (joins : G → V → G → Type 0) (visitors later : G) (gone next : Gone) (done : LegDone V) (walked : Result Walked CheckError) (left all : ℕ) → IsTaken joins visitors later done gone next walked None
    → gone.runs + gone.cut + (made_by walked + left) ≤ all → next.runs + next.cut + left ≤ all
room_on joins visitors later gone next done (Ok (Made runs cut different)) left all taken fits = let e = taken.1 in let f = taken.2 in omega (arith, e, f, fits)
room_on joins visitors later gone next done (Ok (Failed runs cut failure choices)) left all taken fits = absurd (cc taken.1)
room_on joins visitors later gone next done (Err e) left all taken fits = absurd taken
