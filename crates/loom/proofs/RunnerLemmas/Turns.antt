-- A turn under way: some of its parts are given back, and the others are still out.
use Rattle.std.proofs.Common.{◌≡◌, ◌⊎◌, ◌≤◌, ◌<◌, ◌+◌, ◌*◌, ◌^◌, ℕ, suc, length-append, inl, inr, Bool, List, [], ◌∷◌, ◌++◌, length, Some, None, refl, ap, sym, ◌∙◌, subst, arith, append-nil}
use Rattle.std.specs.Prelude.{Result, Ok, Err, IfOk}
use Rattle.std.proofs.Math.Nat.{suc-mul, mul-le-mul_right}
use Rattle.loom_objects.specs.declared.choice.Choice.{Choice}
use Rattle.loom_objects.specs.Tree.Tree.{Tree}
use Rattle.loom_engine.specs.Walk.Lists.{Member, IsOnce}
use Rattle.loom_engine.specs.Runs.Sound.{IsRunTree}
use Rattle.loom_engine.specs.Trees.Outcomes.{outcome, AreRuns, choices_made}
use Rattle.loom_engine.specs.Parts.Keeping.{IsAt, GivesBack, KeepsOthers}
use Rattle.loom_engine.specs.declared.rt.parts.Parts.{Parts}
use Rattle.loom.specs.declared.model.builder.Builder.{Builder}
use Rattle.loom.specs.declared.model.error.CheckError.{CheckError}
use Rattle.loom.specs.declared.model.parts.Worked.{Worked}
use Rattle.loom.specs.declared.model.parts.Worked.TheVariants.{Made, Failed}
use Rattle.loom.specs.declared.runner.parallel.round.Done.{Done}
use Rattle.loom.specs.declared.runner.parallel.round.Job.{Job}
use Rattle.loom.specs.declared.runner.parallel.round.Lost.{Lost}
use Rattle.loom.specs.declared.runner.parallel.round.Turn.{Turn}
use Rattle.loom.specs.Model.Fresh.{machine}
use Rattle.loom.specs.Model.Settings.{search_of}
use Rattle.loom.specs.Runner.Parallel.{HasGoneOn}
use Rattle.loom.specs.Runner.Workers.{AreHandedOut, AreWorkedOn, TakesBack, TakesTurn, IsAtMost, AreAtMost, bases, HasRoom, IsOut, AreOut, HasTaken, IsTaken}
use Rattle.loom_engine.proofs.Parts.Giving.{bases_once}
use Rattle.loom.proofs.RunnerLemmas.Workers.{EachMayBeWorkedOn, may_each, outs, bases_apart, is_machine, out_front, member_front, member_last, once_front, at_most_front, still_out, still_lost, HasLost, lost_out, lost_fails, gone_nowhere, gone_further, one_back}

module _ {G V D : Type 0} (takes : V → List Choice → D → V → Type 0) (is_new : V → Type 0) (joins : G → V → G → Type 0) (b : Builder) (tree : Tree D) (made : List (List Choice)) (old : G) where
  pub record IsTaking (parts : Parts) (mid : G) (turn : Turn) (rest : List (Done V)) : Type 0 where
    pub gone : HasGoneOn takes is_new joins b tree made old mid parts turn.runs
    pub out : AreOut takes is_new b tree parts.list.items rest
    pub once : IsOnce (bases rest)
    pub lost : (lost : Lost) → turn.lost ≡ Some lost → HasLost takes is_new b tree parts.list.items lost × (Member lost.part.base.items (bases rest) → ⊥)

  pub taking_start : (parts : Parts) (turn : Turn) (list : List (Done V)) → turn.runs ≡ 0 → turn.lost ≡ None → IsAt (machine (search_of b) tree) made parts
      → AreOut takes is_new b tree parts.list.items list → IsOnce (bases list) → IsTaking parts old turn list
  taking_start parts turn list none none_lost at out once = record {
    gone = subst (λ n. HasGoneOn takes is_new joins b tree made old old parts n) (sym none) (gone_nowhere takes is_new joins b tree made old parts at);
    out = out;
    once = once;
    lost = λ lost e. absurd (cc (e, none_lost));
  }

  module _ (parts : Parts) (mid : G) (turn : Turn) (rest : List (Done V)) (x : Done V) (h : IsTaking parts mid turn (rest ++ x ∷ [])) where
    split : AreOut takes is_new b tree parts.list.items rest × IsOut takes is_new b tree parts.list.items x
    split = out_front takes is_new b tree parts.list.items rest x h.out

    split_once : IsOnce (bases rest) × (Member x.part.base.items (bases rest) → ⊥)
    split_once = once_front rest x h.once

    -- nothing was left of it
    pub taking_nothing : IsTaking parts mid turn rest
    taking_nothing = record {
      gone = h.gone;
      out = split.0;
      once = split_once.0;
      lost = λ lost e. let z = h.lost lost e in (z.0, λ i. z.1 (member_front rest x lost.part.base.items i));
    }

    -- it is given back
    pub taking_back : (sound : IsRunTree tree) (later : G) (after : Parts) (next : Turn) (count : ℕ) (answer : Bool) → x.worked ≡ Ok (Made count) → (count ≡ 0 → ⊥) → GivesBack parts x.part after answer
        → KeepsOthers parts.list.items x.part.base.items after.list.items → joins mid x.visitor later → next.runs ≡ turn.runs + count → next.lost ≡ turn.lost → IsTaking after later next rest
    taking_back sound later after next count answer came some back keeps joined sum same = record {
      gone = subst (λ n. HasGoneOn takes is_new joins b tree made old later after n) (sym sum)
          (gone_further takes is_new joins b tree made old mid later parts after turn.runs count h.gone
          (one_back takes is_new joins b tree sound (choices_made h.gone.runs ++ made) mid later parts after x count answer h.gone.comes split.1 came some back joined));
      out = still_out takes is_new b tree parts.list.items after.list.items x.part.base.items keeps rest split_once.1 split.0;
      once = split_once.0;
      lost = λ lost e.
          let z = h.lost lost (sym same ∙ e) in (
            still_lost takes is_new b tree parts.list.items after.list.items x.part.base.items keeps lost
                (λ f. z.1 (subst (λ (base : List Choice). Member base (bases (rest ++ x ∷ []))) (sym f) (member_last rest x))) z.0,
            λ i. z.1 (member_front rest x lost.part.base.items i),
          );
    }

    -- a run of it failed
    pub taking_lost : (next : Turn) (count : ℕ) (this : Lost) → x.worked ≡ Ok (Failed count this.failure this.choices) → this.part ≡ x.part → next.runs ≡ turn.runs
        → (next.lost ≡ turn.lost) ⊎ (next.lost ≡ Some this) → IsTaking parts mid next rest
    taking_lost next count this came same runs which = record {
      gone = subst (λ n. HasGoneOn takes is_new joins b tree made old mid parts n) (sym runs) h.gone;
      out = split.0;
      once = split_once.0;
      lost = λ lost e. go lost e which;
    }
      where
        go : (lost : Lost) → next.lost ≡ Some lost → (next.lost ≡ turn.lost) ⊎ (next.lost ≡ Some this) → HasLost takes is_new b tree parts.list.items lost × (Member lost.part.base.items (bases rest) → ⊥)
        go lost e (inl f) = let z = h.lost lost (sym f ∙ e) in (z.0, λ i. z.1 (member_front rest x lost.part.base.items i))
        go lost e (inr f) =
            let is : this ≡ lost = cc (e, f) in
            subst (λ (y : Lost). HasLost takes is_new b tree parts.list.items y × (Member y.part.base.items (bases rest) → ⊥)) is (
              lost_out takes is_new b tree parts.list.items x count this split.1 came same,
              λ i. split_once.1 (subst (λ (base : List Choice). Member base (bases rest)) (ap (λ q. q.base.items) same) i),
            )

  -- one is taken back, as the function says
  pub taking_one : (sound : IsRunTree tree) (parts after : Parts) (mid later : G) (turn next : Turn) (rest : List (Done V)) (x : Done V) → IsTaking parts mid turn (rest ++ x ∷ [])
      → IsTaken joins parts after mid later x turn next x.worked → IsTaking after later next rest
  taking_one sound parts after mid later turn next rest x h t = go x.worked refl t
    where
      go : (w : Result Worked CheckError) → x.worked ≡ w → IsTaken joins parts after mid later x turn next w → IsTaking after later next rest
      go (Ok (Made count)) e (inl s) =
          subst (λ (q : Parts). IsTaking q later next rest) (sym s.1)
          (subst (λ (j : G). IsTaking parts j next rest) (sym s.2)
          (subst (λ (n : Turn). IsTaking parts mid n rest) (sym s.3) (taking_nothing parts mid turn rest x h)))
      go (Ok (Made count)) e (inr s) = taking_back parts mid turn rest x h sound later after next count s.answer e s.some s.back s.others s.joined s.counted s.lost
      go (Ok (Failed count failure choices)) e s =
          subst (λ (q : Parts). IsTaking q later next rest) (sym s.0)
          (subst (λ (j : G). IsTaking parts j next rest) (sym s.1)
          (taking_lost parts mid turn rest x h next count (record { part = x.part; failure = failure; choices = choices }) e refl s.2 s.3))
      go (Err e) f s = absurd s

  pub taking_end : (sound : IsRunTree tree) (parts : Parts) (mid : G) (turn : Turn) (rest : List (Done V)) → IsTaking parts mid turn rest → HasTaken takes is_new joins b tree made old mid parts turn
  taking_end sound parts mid turn rest h = record {
    gone = h.gone;
    lost = λ lost e. lost_fails b tree sound (choices_made h.gone.runs ++ made) parts h.gone.comes takes is_new lost (h.lost lost e).0;
  }

-- ---- how many runs

one_less : {A : Type 0} (most before whole : ℕ) (rest : List A) (x : A) → before + length (rest ++ x ∷ []) * most ≤ whole → (before + most) + length rest * most ≤ whole
one_less most before whole rest x h =
    let l : length (rest ++ x ∷ []) ≡ suc (length rest) = (let e = length-append rest (x ∷ []) in omega (arith, e)) in
    let t : length (rest ++ x ∷ []) * most ≡ length rest * most + most = ap (λ n. n * most) l ∙ suc-mul (length rest) most in
    omega (arith, h, t)

pub room_for : {V : Type 0} (most before whole : ℕ) (rest : List (Done V)) (x : Done V) → AreAtMost most (rest ++ x ∷ []) → before + length (rest ++ x ∷ []) * most ≤ whole → whole < 2 ^ 64
    → HasRoom before x.worked
room_for most before whole rest x h l w = go x.worked (at_most_front most rest x h).1
  where
    go : (came : Result Worked CheckError) → IsAtMost most came → HasRoom before came
    go (Ok (Made count)) k = let u = one_less most before whole rest x l in omega (arith, k, u, w)
    go (Ok (Failed count failure choices)) k = tt
    go (Err e) k = tt

pub most_on : {G V : Type 0} (joins : G → V → G → Type 0) (before after : Parts) (old later : G) (turn next : Turn) (most whole : ℕ) (rest : List (Done V)) (x : Done V)
    → IsTaken joins before after old later x turn next x.worked → AreAtMost most (rest ++ x ∷ []) → turn.runs + length (rest ++ x ∷ []) * most ≤ whole
    → AreAtMost most rest × (next.runs + length rest * most ≤ whole)
most_on joins before after old later turn next most whole rest x t h l = (z.0, go x.worked z.1 t)
  where
    z : AreAtMost most rest × IsAtMost most x.worked
    z = at_most_front most rest x h

    less : (turn.runs + most) + length rest * most ≤ whole
    less = one_less most turn.runs whole rest x l

    go : (came : Result Worked CheckError) → IsAtMost most came → IsTaken joins before after old later x turn next came → next.runs + length rest * most ≤ whole
    go (Ok (Made count)) k (inl s) = let e : next.runs ≡ turn.runs = ap (λ (n : Turn). n.runs) s.3 in omega (arith, e, less)
    go (Ok (Made count)) k (inr s) = let e = s.counted in omega (arith, k, e, less)
    go (Ok (Failed count failure choices)) k s = let e = s.2 in omega (arith, e, less)
    go (Err e) k s = absurd s

-- ---- a whole search

-- a run among these has ended
ended_of : {D : Type 0} (room : ℕ) (tree : Tree D) (runs : List (List Choice × D)) (x : List Choice) → AreRuns room tree runs → Member x (choices_made runs) → (value : D) × (outcome room tree x ≡ Some (Ok value))
ended_of room tree [] x h i = absurd i
ended_of room tree (y ∷ runs) x h (inl e) = (y.1, ap (outcome room tree) e ∙ h.0)
ended_of room tree (y ∷ runs) x h (inr i) = ended_of room tree runs x h.1 i

pub whole_ends : {D : Type 0} (room : ℕ) (tree : Tree D) (runs : List (List Choice × D)) (made : List (List Choice)) (x : List Choice) → AreRuns room tree runs → made ≡ [] → Member x (choices_made runs ++ made)
    → (value : D) × (outcome room tree x ≡ Some (Ok value))
whole_ends room tree runs made x h e i =
    ended_of room tree runs x h (subst (λ l. Member x l) (append-nil (choices_made runs)) (subst (λ (l : List (List Choice)). Member x (choices_made runs ++ l)) e i))

-- ---- a turn from its beginning

pub fewer_fit : (few count most whole : ℕ) → few ≤ count → count * most < whole → few * most < whole
fewer_fit few count most whole h l = let t = mul-le-mul_right most h in omega (arith, t, l)

module _ {G V D : Type 0} (takes : V → List Choice → D → V → Type 0) (is_new : V → Type 0) (joins : G → V → G → Type 0) (b : Builder) (tree : Tree D) (sound : IsRunTree tree) where
  -- whether a run of each was made or not
  pub turn_may_be_taken : (before after : Parts) (old later : G) (jobs : List (Job V)) (list : List (Done V)) (turn : Turn) → AreHandedOut is_new before.list.items 0 jobs
      → EachMayBeWorkedOn takes b tree jobs list → TakesBack takes is_new joins before after old later list turn → TakesTurn takes is_new joins b tree before after old later turn
  turn_may_be_taken before after old later jobs list turn h w t = λ made at.
      t b tree made sound at (outs takes is_new b tree before.list.items 0 jobs list h w)
      (bases_apart takes is_new b tree before.list.items (bases_once (machine (search_of b) tree) made before.list.items before.trunk.items (is_machine b tree sound) at) 0 jobs list h w)

  pub turn_taken : (before after : Parts) (old later : G) (jobs : List (Job V)) (list : List (Done V)) (answer : Result Turn CheckError) → AreHandedOut is_new before.list.items 0 jobs
      → AreWorkedOn takes b tree jobs list → IfOk answer (TakesBack takes is_new joins before after old later list) → IfOk answer (TakesTurn takes is_new joins b tree before after old later)
  turn_taken before after old later jobs list (Ok turn) h w t = turn_may_be_taken before after old later jobs list turn h (may_each takes b tree jobs list w) t
  turn_taken before after old later jobs list (Err e) h w t = tt

pub turn_within : {V : Type 0} (most count : ℕ) (jobs : ℕ) (list : List (Done V)) (answer : Result Turn CheckError) → AreAtMost most list → length list ≡ jobs → jobs ≤ count
    → IfOk answer (λ turn. (most : ℕ) → AreAtMost most list → turn.runs ≤ length list * most) → IfOk answer (λ turn. turn.runs ≤ count * most)
turn_within most count jobs list (Ok turn) h e few f = let t = mul-le-mul_right most (let l : length list ≤ count = omega (arith, e, few) in l) in let r = f most h in omega (arith, t, r)
turn_within most count jobs list (Err e) h f few g = tt
