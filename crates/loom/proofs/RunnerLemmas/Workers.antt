-- A turn of several workers, and what a list of parts is after it.
use Rattle.std.proofs.Common.{◌≡◌, ◌⊎◌, ◌<◌, ◌≤◌, ◌+◌, ℕ, zero, suc, inl, inr, true, false, Bool, List, [], ◌∷◌, ◌++◌, map, length, length-append, Some, refl, ap, ap₂, sym, ◌∙◌, subst, arith, append_assoc, append-nil, remove}
use Rattle.std.specs.Prelude.{Result, Ok, Err, IfOk, slice_get, slice_index_or}
use Rattle.loom_objects.specs.declared.choice.Choice.{Choice}
use Rattle.loom_objects.specs.Tree.Tree.{Tree}
use Rattle.loom_engine.specs.Walk.Machine.{Machine, run}
use Rattle.loom_engine.specs.Walk.Sound.{IsMachine}
use Rattle.loom_engine.specs.Walk.Path.{Stored, IsResting, by_path}
use Rattle.loom_engine.specs.Walk.Walks.{run_of}
use Rattle.loom_engine.specs.Walk.Runs.{Reachable}
use Rattle.loom_engine.specs.Walk.Lists.{Member, IsOnce}
use Rattle.loom_engine.specs.Runs.Sound.{IsRunTree}
use Rattle.loom_engine.specs.Trees.Marks.{marking}
use Rattle.loom_engine.specs.Trees.Machines.{IsMarking}
use Rattle.loom_engine.specs.Trees.Outcomes.{AreRuns, choices_made}
use Rattle.loom_engine.specs.Path.Nodes.{stored}
use Rattle.loom_engine.specs.Parts.Cuts.{Part}
use Rattle.loom_engine.specs.Parts.Floors.{seal_to}
use Rattle.loom_engine.specs.Parts.Works.{view, Work, Gathers}
use Rattle.loom_engine.specs.Parts.Slices.{Slice, first, further}
use Rattle.loom_engine.specs.Parts.Keeping.{part_of, views_onto, views, keys, IsAt, IsCopy, Leaves, GivesBack, KeepsOthers}
use Rattle.loom_engine.specs.declared.rt.parts.Part.{Part as Kept}
use Rattle.loom_engine.specs.declared.rt.parts.Parts.{Parts}
use Rattle.loom_engine.proofs.Trees.Machines.{machine_law}
use Rattle.loom_engine.proofs.Trees.Marks.{marking_law}
use Rattle.loom_engine.proofs.Parts.Disjoint.{disjoint_law}
use Rattle.loom_engine.proofs.Parts.Driven.{rests_on}
use Rattle.loom_engine.proofs.Parts.Floors.{to_choices}
use Rattle.loom_engine.proofs.Parts.Giving.{fronted}
use Rattle.loom_engine.proofs.Parts.Keeping.{work_steps}
use Rattle.loom_engine.proofs.Parts.Lasting.{parts_law}
use Rattle.loom_engine.proofs.Parts.Lists.{bases as bases_of}
use Rattle.loom_engine.proofs.Parts.Slices.{noted_in, noted_is, is_noted, slice_law, left_begins}
use Rattle.loom_engine.proofs.Parts.Works.{work_law}
use Rattle.loom.specs.declared.model.builder.Builder.{Builder}
use Rattle.loom.specs.declared.model.error.CheckError.{CheckError}
use Rattle.loom.specs.declared.model.parts.Worked.{Worked}
use Rattle.loom.specs.declared.model.parts.Worked.TheVariants.{Made, Failed}
use Rattle.loom.specs.declared.runner.parallel.round.Done.{Done}
use Rattle.loom.specs.declared.runner.parallel.round.Job.{Job}
use Rattle.loom.specs.declared.runner.parallel.round.Lost.{Lost}
use Rattle.loom.specs.Model.Fresh.{machine}
use Rattle.loom.specs.Model.Parts.{HasMade, HasLed, HasFailed as HasFailedIn}
use Rattle.loom.specs.Model.Settings.{search_of}
use Rattle.loom.specs.Runner.Parallel.{AreJoined, none, one_more, FailsSo, HasGoneOn}
use Rattle.loom.specs.Runner.Workers.{AreHandedOut, CameTo, IsWorkedOn, AreWorkedOn, MayBeWorkedOn, IsAtMost, AreAtMost, bases, IsOut, AreOut}

-- ---- handed out

pub handed_more : {V : Type 0} (is_new : V → Type 0) (list : List Kept) (number : ℕ) (jobs : List (Job V)) (job : Job V) → AreHandedOut is_new list number jobs
    → (part : Kept) → slice_get list (number + length jobs) ≡ Some part → IsCopy part job.part → is_new job.visitor → AreHandedOut is_new list number (jobs ++ job ∷ [])
handed_more is_new list number [] job h part at c u = ((part, (let e : number ≡ number + 0 = omega arith in ap (slice_get list) e ∙ at), c), u, tt)
handed_more is_new list number (x ∷ jobs) job h part at c u =
    (h.0, h.1, handed_more is_new list (suc number) jobs job h.2 part (ap (slice_get list) (let e : suc number + length jobs ≡ number + suc (length jobs) = omega arith in e) ∙ at) c u)

-- ---- worked on

pub worked_each : {V D : Type 0} (takes : V → List Choice → D → V → Type 0) (b : Builder) (tree : Tree D) (jobs : List (Job V)) (list : List (Done V)) → length list ≡ length jobs
    → ((i : ℕ) (d : Done V) → i < length jobs → (job : Job V) × ((other : Job V) → slice_index_or jobs i other ≡ job) × IsWorkedOn takes b tree job (slice_index_or list i d))
    → AreWorkedOn takes b tree jobs list
worked_each takes b tree [] [] e f = tt
worked_each takes b tree [] (x ∷ list) e f = absurd (omega arith)
worked_each takes b tree (j ∷ jobs) [] e f = absurd (omega arith)
worked_each takes b tree (j ∷ jobs) (x ∷ list) e f = (
  (let z = f 0 x (omega arith) in subst (λ (y : Job _). IsWorkedOn takes b tree y x) (sym (z.1 j)) z.2),
  worked_each takes b tree jobs list (omega arith) (λ i d l. f (suc i) d (omega (arith, l))),
)

module _ {V D : Type 0} (takes : V → List Choice → D → V → Type 0) (b : Builder) (tree : Tree D) where
  -- each part was worked on, or no run of it was made
  abbrev pub EachMayBeWorkedOn : List (Job V) → List (Done V) → Type 0
  EachMayBeWorkedOn [] [] = Unit {0}
  EachMayBeWorkedOn [] (done ∷ later) = ⊥
  EachMayBeWorkedOn (job ∷ jobs) [] = ⊥
  EachMayBeWorkedOn (job ∷ jobs) (done ∷ later) = MayBeWorkedOn takes b tree job done × EachMayBeWorkedOn jobs later

-- where each was worked on each may have been
pub may_each : {V D : Type 0} (takes : V → List Choice → D → V → Type 0) (b : Builder) (tree : Tree D) (jobs : List (Job V)) (list : List (Done V)) → AreWorkedOn takes b tree jobs list
    → EachMayBeWorkedOn takes b tree jobs list
may_each takes b tree [] [] w = tt
may_each takes b tree [] (x ∷ list) w = absurd w
may_each takes b tree (j ∷ jobs) [] w = absurd w
may_each takes b tree (j ∷ jobs) (x ∷ list) w = ((w.0.0, inr w.0.1), may_each takes b tree jobs list w.1)

pub at_most_each : {V : Type 0} (most : ℕ) (list : List (Done V)) → ((i : ℕ) (d : Done V) → i < length list → IsAtMost most (slice_index_or list i d).worked) → AreAtMost most list
at_most_each most [] f = tt
at_most_each most (x ∷ list) f = (f 0 x (omega arith), at_most_each most list (λ i d l. f (suc i) d (omega (arith, l))))

module _ {V D : Type 0} (takes : V → List Choice → D → V → Type 0) (is_new : V → Type 0) (b : Builder) (tree : Tree D) (all : List Kept) where
  pub outs : (number : ℕ) (jobs : List (Job V)) (list : List (Done V)) → AreHandedOut is_new all number jobs → EachMayBeWorkedOn takes b tree jobs list → AreOut takes is_new b tree all list
  outs number [] [] h w = tt
  outs number [] (x ∷ list) h w = absurd w
  outs number (j ∷ jobs) [] h w = absurd w
  outs number (j ∷ jobs) (x ∷ list) h w = (
    record { number = number; part = h.0.0; job = j; stands = h.0.1; copied = h.0.2; unused = h.1; worked = w.0 },
    outs (suc number) jobs list h.2 w.1,
  )

  -- the base of one of them is that of a part from this number on
  record HasBase (number : ℕ) (base : List Choice) : Type 0 where
    place : ℕ
    part : Kept
    past : number ≤ place
    stands : slice_get all place ≡ Some part
    same : base ≡ part.base.items

  based : (number : ℕ) (jobs : List (Job V)) (list : List (Done V)) → AreHandedOut is_new all number jobs → EachMayBeWorkedOn takes b tree jobs list → (x : List Choice) → Member x (bases list) → HasBase number x
  based number [] [] h w x i = absurd i
  based number [] (y ∷ list) h w x i = absurd w
  based number (j ∷ jobs) [] h w x i = absurd w
  based number (j ∷ jobs) (y ∷ list) h w x (inl e) = record { place = number; part = h.0.0; past = omega arith; stands = h.0.1; same = e ∙ w.0.0 ∙ h.0.2.0 }
  based number (j ∷ jobs) (y ∷ list) h w x (inr i) =
      let z = based (suc number) jobs list h.2 w.1 x i in
      let l = z.past in
      record { place = z.place; part = z.part; past = omega (arith, l); stands = z.stands; same = z.same }

-- no two parts have one base
once_end : (xs : List Kept) (later : List Part) → IsOnce (bases_of (views_onto xs later)) → IsOnce (bases_of later)
once_end [] later h = h
once_end (q ∷ xs) later h = (once_end xs (part_of q ∷ later) h).1

none_later : (xs : List Kept) (later : List Part) (j : ℕ) (y : Kept) → IsOnce (bases_of (views_onto xs later)) → slice_get xs j ≡ Some y → Member y.base.items (bases_of later) → ⊥
none_later [] later j y h at i = absurd (cc at)
none_later (q ∷ xs) later zero y h at i = let e : q ≡ y = cc at in (once_end xs (part_of q ∷ later) h).0 (subst (λ (k : Kept). Member k.base.items (bases_of later)) (sym e) i)
none_later (q ∷ xs) later (suc j) y h at i = none_later xs (part_of q ∷ later) j y h at (inr i)

pub apart : (xs : List Kept) (later : List Part) (i j : ℕ) (x y : Kept) → IsOnce (bases_of (views_onto xs later)) → i < j → slice_get xs i ≡ Some x → slice_get xs j ≡ Some y → x.base.items ≡ y.base.items → ⊥
apart [] later i j x y h l at there e = absurd (cc at)
apart (q ∷ xs) later zero zero x y h l at there e = absurd (omega arith)
apart (q ∷ xs) later zero (suc j) x y h l at there e =
    let z : q ≡ x = cc at in none_later xs (part_of q ∷ later) j y h there (inl (sym e ∙ ap (λ (k : Kept). k.base.items) (sym z)))
apart (q ∷ xs) later (suc i) zero x y h l at there e = absurd (omega arith)
apart (q ∷ xs) later (suc i) (suc j) x y h l at there e = apart xs (part_of q ∷ later) i j x y h (omega arith) at there e

module _ {V D : Type 0} (takes : V → List Choice → D → V → Type 0) (is_new : V → Type 0) (b : Builder) (tree : Tree D) (all : List Kept) (once : IsOnce (bases_of (views all))) where
  pub bases_apart : (number : ℕ) (jobs : List (Job V)) (list : List (Done V)) → AreHandedOut is_new all number jobs → EachMayBeWorkedOn takes b tree jobs list → IsOnce (bases list)
  bases_apart number [] [] h w = tt
  bases_apart number [] (x ∷ list) h w = absurd w
  bases_apart number (j ∷ jobs) [] h w = absurd w
  bases_apart number (j ∷ jobs) (x ∷ list) h w = (
    (λ i.
        let z = based takes is_new b tree all (suc number) jobs list h.2 w.1 x.part.base.items i in
        let l = z.past in
        apart all [] number z.place h.0.0 z.part once (omega (arith, l)) h.0.1 z.stands (sym (w.0.0 ∙ h.0.2.0) ∙ z.same)),
    bases_apart (suc number) jobs list h.2 w.1,
  )

-- ---- given back, the last one first

pub out_front : {V D : Type 0} (takes : V → List Choice → D → V → Type 0) (is_new : V → Type 0) (b : Builder) (tree : Tree D) (all : List Kept) (list : List (Done V)) (x : Done V)
    → AreOut takes is_new b tree all (list ++ x ∷ []) → AreOut takes is_new b tree all list × IsOut takes is_new b tree all x
out_front takes is_new b tree all [] x h = (tt, h.0)
out_front takes is_new b tree all (y ∷ list) x h = let z = out_front takes is_new b tree all list x h.1 in ((h.0, z.0), z.1)

pub member_front : {V : Type 0} (list : List (Done V)) (x : Done V) (base : List Choice) → Member base (bases list) → Member base (bases (list ++ x ∷ []))
member_front [] x base h = absurd h
member_front (y ∷ list) x base (inl e) = inl e
member_front (y ∷ list) x base (inr h) = inr (member_front list x base h)

pub member_last : {V : Type 0} (list : List (Done V)) (x : Done V) → Member x.part.base.items (bases (list ++ x ∷ []))
member_last [] x = inl refl
member_last (y ∷ list) x = inr (member_last list x)

pub once_front : {V : Type 0} (list : List (Done V)) (x : Done V) → IsOnce (bases (list ++ x ∷ [])) → IsOnce (bases list) × (Member x.part.base.items (bases list) → ⊥)
once_front [] x h = (tt, λ i. i)
once_front (y ∷ list) x h = let z = once_front list x h.1 in (
  ((λ i. h.0 (member_front list x y.part.base.items i)), z.0),
  λ i. elim i [ inl e ↦ h.0 (subst (λ (base : List Choice). Member base (bases (list ++ x ∷ []))) e (member_last list x)) | inr j ↦ z.1 j ],
)

pub at_most_front : {V : Type 0} (most : ℕ) (list : List (Done V)) (x : Done V) → AreAtMost most (list ++ x ∷ []) → AreAtMost most list × IsAtMost most x.worked
at_most_front most [] x h = (tt, h.0)
at_most_front most (y ∷ list) x h = let z = at_most_front most list x h.1 in ((h.0, z.0), z.1)

module _ {V D : Type 0} (takes : V → List Choice → D → V → Type 0) (is_new : V → Type 0) (b : Builder) (tree : Tree D) where
  -- the part has the base of what came back
  pub same_base : (all : List Kept) (x : Done V) (o : IsOut takes is_new b tree all x) → x.part.base.items ≡ o.part.base.items
  same_base all x o = let w = o.worked in let c = o.copied in w.0 ∙ c.0

  pub still_out : (old later : List Kept) (base : List Choice) → KeepsOthers old base later → (list : List (Done V)) → (Member base (bases list) → ⊥) → AreOut takes is_new b tree old list
      → AreOut takes is_new b tree later list
  still_out old later base keeps [] none_has h = tt
  still_out old later base keeps (x ∷ list) none_has h = (
    (let o = h.0 in
        let z = keeps o.number o.part o.stands (λ e. none_has (inl (sym e ∙ sym (same_base old x o)))) in
        record { number = z.0; part = o.part; job = o.job; stands = z.1; copied = o.copied; unused = o.unused; worked = o.worked }),
    still_out old later base keeps list (λ i. none_has (inr i)) h.1,
  )

  -- a run of a part of the list that failed
  pub record HasLost (all : List Kept) (lost : Lost) : Type 0 where
    pub number : ℕ
    pub part : Kept
    pub copy : Kept
    pub stands : slice_get all number ≡ Some part
    pub copied : IsCopy part copy
    pub based : lost.part.base.items ≡ part.base.items
    pub failed : IsResting (machine (search_of b) tree) (stored copy.path.nodes) → (begun ended : V) × (count : ℕ) × HasFailedIn takes begun ended b tree copy count lost.failure.kind lost.choices.items

  -- how it went, where runs of it were made
  pub came_so : (x : Done V) (job : Job V) (worked : Worked) → (worked ≡ Made 0 → ⊥) → x.worked ≡ Ok worked → MayBeWorkedOn takes b tree job x → CameTo takes b tree job x (Ok worked)
  came_so x job worked some came w = elim w.1 [
    | inl e ↦ absurd (some (same e))
    | inr so ↦ subst (λ (y : Result Worked CheckError). CameTo takes b tree job x y) came so
  ]
    where
      same : x.worked ≡ Ok (Made 0) → worked ≡ Made 0
      same e = cc (came, e)

  pub lost_out : (all : List Kept) (x : Done V) (count : ℕ) (lost : Lost) → IsOut takes is_new b tree all x → x.worked ≡ Ok (Failed count lost.failure lost.choices) → lost.part ≡ x.part → HasLost all lost
  lost_out all x count lost o came same =
      let works = came_so x o.job (Failed count lost.failure lost.choices) (λ e. cc e) came o.worked in
      record {
        number = o.number;
        part = o.part;
        copy = o.job.part;
        stands = o.stands;
        copied = o.copied;
        based = ap (λ (q : Kept). q.base.items) same ∙ same_base all x o;
        failed = λ r. (o.job.visitor, x.visitor, count, works.2 r);
      }

  pub still_lost : (old later : List Kept) (base : List Choice) → KeepsOthers old base later → (lost : Lost) → (lost.part.base.items ≡ base → ⊥) → HasLost old lost → HasLost later lost
  still_lost old later base keeps lost other h =
      let z = keeps h.number h.part h.stands (λ e. other (h.based ∙ e)) in record { number = z.0; part = h.part; copy = h.copy; stands = z.1; copied = h.copied; based = h.based; failed = h.failed }

-- ---- runs

member_runs : (x y : List (List Choice)) (z : List Choice) → Member z y → Member z (x ++ y)
member_runs [] y z h = h
member_runs (c ∷ x) y z h = inr (member_runs x y z h)

pub made_both : {D : Type 0} (xs ys : List (List Choice × D)) (made : List (List Choice)) → choices_made (xs ++ ys) ++ made ≡ choices_made xs ++ (choices_made ys ++ made)
made_both [] ys made = refl
made_both (x ∷ xs) ys made = ap (λ t. x.0 ∷ t) (made_both xs ys made)

pub runs_both : {D : Type 0} (room : ℕ) (tree : Tree D) (xs ys : List (List Choice × D)) → AreRuns room tree xs → AreRuns room tree ys → AreRuns room tree (xs ++ ys)
runs_both room tree [] ys h g = g
runs_both room tree (x ∷ xs) ys h g = (h.0, runs_both room tree xs ys h.1 g)

pub joined_both : {G V D : Type 0} (takes : V → List Choice → D → V → Type 0) (is_new : V → Type 0) (joins : G → V → G → Type 0) (old mid later : G) (runs more : List (List Choice × D))
    → AreJoined takes is_new joins old runs mid → AreJoined takes is_new joins mid more later → AreJoined takes is_new joins old (more ++ runs) later
joined_both takes is_new joins old mid later runs more h none = h
joined_both takes is_new joins old mid later runs more h (one_more rs ms before _ begun ended j n g k) =
    subst (λ (l : List (List Choice × _)). AreJoined takes is_new joins old l later) (sym (append_assoc ms rs runs))
    (one_more (rs ++ runs) ms before later begun ended (joined_both takes is_new joins old mid before runs rs h j) n g k)

module _ {D : Type 0} (b : Builder) (tree : Tree D) (sound : IsRunTree tree) where
  abbrev m : Machine
  m = machine (search_of b) tree

  fair : IsMarking (marking (search_of b).bound)
  fair = (marking_law (search_of b).bound).0

  pub is_machine : IsMachine (machine (search_of b) tree)
  is_machine = machine_law (search_of b) (marking (search_of b).bound) tree sound.sound fair

  -- the next run of a part was not made, and is reachable
  next_unmade : (made : List (List Choice)) (base : List Choice) (p : List Stored) (parts spent : List Part) (issued notes : List (List Choice))
      → Work m made (record { base = base; path = p } ∷ parts) spent issued notes → Reachable m (run_of m p) × (Member (run_of m p) made → ⊥)
  next_unmade made base p parts spent issued notes w =
      let law = work_law m made (record { base = base; path = p } ∷ parts) spent issued notes is_machine w in
      let z = (disjoint_law m made (map view (record { base = base; path = p } ∷ parts)) issued notes is_machine law.0).1 (view (record { base = base; path = p })) (inl refl) (run_of m (seal_to (length base) p)) by_path in
      let same : run_of m (seal_to (length base) p) ≡ run_of m p = ap (run m) (to_choices (length base) p) in
      (subst (Reachable m) same z.0, λ i. z.2 (subst (λ (x : List Choice). Member x made) (sym same) i))

  slice_rests : (k : ℕ) (p : List Stored) → IsResting m p → (runs : List (List Choice)) (q : List Stored) → Slice m k p runs q → IsResting m q
  slice_rests k p r runs q (first _ s) = rests_on (search_of b) (marking (search_of b).bound) tree k sound.sound fair p q r s
  slice_rests k p r runs q (further list x _ d s) = rests_on (search_of b) (marking (search_of b).bound) tree k sound.sound fair x q (slice_rests k p r list x d) s

  module _ (made : List (List Choice)) (parts : Parts) (at : IsAt (machine (search_of b) tree) made parts) where
    law : (number : ℕ) (q : Kept) → slice_get parts.list.items number ≡ Some q → IsResting m (stored q.path.nodes)
    law = (parts_law m made parts is_machine at).2

    led_unmade : (number : ℕ) (q : Kept) → slice_get parts.list.items number ≡ Some q → (runs : List (List Choice)) (last : List Stored)
        → HasLed m (length q.base.items) (stored q.path.nodes) runs last → Reachable m (run_of m last) × (Member (run_of m last) made → ⊥)
    led_unmade number q stands runs last (inl e) =
        let w = fronted parts.list.items parts.trunk.items number q (remove parts.list.items number) stands refl (Work m made) (work_steps m made) at.0 at.1 in
        subst (λ (p : List Stored). Reachable m (run_of m p) × (Member (run_of m p) made → ⊥)) (sym e.1)
        (next_unmade made q.base.items (stored q.path.nodes) (views (remove parts.list.items number)) at.0 (keys parts.trunk.items) [] w)
    led_unmade number q stands runs last (inr s) =
        let w = fronted parts.list.items parts.trunk.items number q (remove parts.list.items number) stands refl (Work m made) (work_steps m made) at.0 at.1 in
        let rest = slice_rests (length q.base.items) (stored q.path.nodes) (law number q stands) runs last s in
        let z = left_begins m is_machine made q.base.items (stored q.path.nodes) (views (remove parts.list.items number)) at.0 (keys parts.trunk.items) [] w runs last s in
        let more = noted_in [] (length q.base.items) last in
        let gathers : Gathers q.base.items last (keys parts.trunk.items) [] (noted_in [] (length q.base.items) last) = record {
          only = λ k i. inr (noted_is q.base.items z.0 last z.1 k i);
          old = λ k i. absurd i;
          each = λ k i. inl (is_noted m q.base.items last rest k i);
        } in
        let later =
        (slice_law m made runs q.base.items (stored q.path.nodes) last (views (remove parts.list.items number)) at.0 (keys parts.trunk.items) [] more is_machine w gathers).0 s in
        let u = next_unmade (runs ++ made) q.base.items last (views (remove parts.list.items number)) at.0 (keys parts.trunk.items) more later in
        (u.0, λ i. u.1 (member_runs runs made (run_of m last) i))

    pub lost_fails : {V : Type 0} (takes : V → List Choice → D → V → Type 0) (is_new : V → Type 0) (lost : Lost) → HasLost takes is_new b tree parts.list.items lost
        → FailsSo b tree made lost.failure.kind lost.choices.items
    lost_fails takes is_new lost h =
        let path : stored h.copy.path.nodes ≡ stored h.part.path.nodes = (let c = h.copied in ap (λ r. stored r.nodes) c.1) in
        let base : h.copy.base.items ≡ h.part.base.items = (let c = h.copied in c.0) in
        let f = h.failed (subst (IsResting m) (sym path) (law h.number h.part h.stands)) in
        let failed = f.3 in
        let led = subst (λ (p : List Stored). HasLed m (length h.part.base.items) p (choices_made failed.made.runs) failed.last) path
        (subst (λ (base : List Choice). HasLed m (length base) (stored h.copy.path.nodes) (choices_made failed.made.runs) failed.last) base failed.led) in
        let z = led_unmade h.number h.part h.stands (choices_made failed.made.runs) failed.last led in
        record {
          reachable = subst (Reachable m) (sym failed.next) z.0;
          unmade = λ i. z.1 (subst (λ (x : List Choice). Member x made) failed.next i);
          fails = failed.fails;
        }

-- ---- on and on

module _ {G V D : Type 0} (takes : V → List Choice → D → V → Type 0) (is_new : V → Type 0) (joins : G → V → G → Type 0) (b : Builder) (tree : Tree D) (made : List (List Choice)) where
  pub gone_nowhere : (old : G) (parts : Parts) → IsAt (machine (search_of b) tree) made parts → HasGoneOn takes is_new joins b tree made old old parts 0
  gone_nowhere old parts at = record { runs = []; joined = none; counted = refl; are_runs = tt; comes = at }

  -- further runs, after those
  unfoldable pub gone_further : (old mid later : G) (before after : Parts) (count more : ℕ) (h : HasGoneOn takes is_new joins b tree made old mid before count)
      → HasGoneOn takes is_new joins b tree (choices_made h.runs ++ made) mid later after more → HasGoneOn takes is_new joins b tree made old later after (count + more)
  gone_further old mid later before after count more h g =
      let l = length-append g.runs h.runs in
      let c = g.counted in
      let d = h.counted in
      record {
        runs = g.runs ++ h.runs;
        joined = joined_both takes is_new joins old mid later h.runs g.runs h.joined g.joined;
        counted = omega (arith, l, c, d);
        are_runs = runs_both (search_of b).max_branches tree g.runs h.runs g.are_runs h.are_runs;
        comes = subst (λ (all : List (List Choice)). IsAt (machine (search_of b) tree) all after) (sym (made_both g.runs h.runs made)) g.comes;
      }

  pub gone_elsewhere : (old later : G) (before after : Parts) (count : ℕ) → HasGoneOn takes is_new joins b tree made old later before count
      → ((all : List (List Choice)) → IsAt (machine (search_of b) tree) all before → IsAt (machine (search_of b) tree) all after) → HasGoneOn takes is_new joins b tree made old later after count
  gone_elsewhere old later before after count h f = record { runs = h.runs; joined = h.joined; counted = h.counted; are_runs = h.are_runs; comes = f (choices_made h.runs ++ made) h.comes }

module _ {G V D : Type 0} (takes : V → List Choice → D → V → Type 0) (is_new : V → Type 0) (joins : G → V → G → Type 0) (b : Builder) (tree : Tree D) (sound : IsRunTree tree) (made : List (List Choice)) where
  -- the runs of a part that is given back
  pub one_back : (old later : G) (before after : Parts) (x : Done V) (count : ℕ) (answer : Bool) → IsAt (machine (search_of b) tree) made before → IsOut takes is_new b tree before.list.items x
      → x.worked ≡ Ok (Made count) → (count ≡ 0 → ⊥) → GivesBack before x.part after answer → joins old x.visitor later → HasGoneOn takes is_new joins b tree made old later after count
  one_back old later before after x count answer at o came some back joined =
      go ((came_so takes is_new b tree x o.job (Made count) (λ e. some (none_made e)) came o.worked).1) answer back
    where
      none_made : Made count ≡ Made 0 → count ≡ 0
      none_made e = cc e

      path : stored o.job.part.path.nodes ≡ stored o.part.path.nodes
      path = let c = o.copied in ap (λ r. stored r.nodes) c.1

      base : o.job.part.base.items ≡ o.part.base.items
      base = let c = o.copied in c.0

      here : (made_it : HasMade takes o.job.visitor x.visitor b tree o.job.part x.part count) (answer : Bool) → GivesBack before x.part after answer → HasGoneOn takes is_new joins b tree made old later after count
      here h false g = absurd (g.1 o.number (o.part, o.stands, sym (same_base takes is_new b tree before.list.items x o)))
      here h true g =
          let made_it = h.made in
          let leaves = subst (λ (q : Part). Leaves (machine (search_of b) tree) q (choices_made made_it.runs) x.part.is_done (stored x.part.path.nodes))
          (ap₂ (λ (k : List Choice) (p : List Stored). record { base = k; path = p }) base path) h.leaves in
          record {
            runs = made_it.runs;
            joined = subst (λ (l : List (List Choice × D)). AreJoined takes is_new joins old l later) (append-nil made_it.runs) (one_more [] made_it.runs old later o.job.visitor x.visitor none o.unused made_it.given joined);
            counted = made_it.counted;
            are_runs = made_it.are_runs;
            comes = g (machine (search_of b) tree) made (choices_made made_it.runs) o.number o.part (is_machine b tree sound) at o.stands (sym (same_base takes is_new b tree before.list.items x o)) leaves;
          }

      go : ((o.job.part.is_done ≡ true) × (count ≡ 0) × (x.visitor ≡ o.job.visitor) × (x.part ≡ o.job.part))
          ⊎ ((o.job.part.is_done ≡ false) × (IsResting (machine (search_of b) tree) (stored o.job.part.path.nodes) → HasMade takes o.job.visitor x.visitor b tree o.job.part x.part count))
          → (answer : Bool) → GivesBack before x.part after answer → HasGoneOn takes is_new joins b tree made old later after count
      go (inl e) answer g = absurd (some e.1)
      go (inr f) answer g = here (f.1 (subst (IsResting (machine (search_of b) tree)) (sym path) ((parts_law (machine (search_of b) tree) made before (is_machine b tree sound) at).2 o.number o.part o.stands))) answer g

-- ---- results

pub if_ok_both : {A E : Type 0} {P Q R : A → Type 0} (answer : Result A E) → ((a : A) → P a → Q a → R a) → IfOk answer P → IfOk answer Q → IfOk answer R
if_ok_both (Ok a) f p q = f a p q
if_ok_both (Err e) f p q = tt
