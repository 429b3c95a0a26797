-- From a schedule up to the next turn.
use Rattle.std.proofs.Common.{◌≡◌, ◌≤◌, ◌⊎◌, ℕ, zero, suc, Bool, true, false, List, [], ◌∷◌, ◌++◌, length, Some, None, Result, Ok, Err, refl, ap, sym, ◌∙◌, subst, inl, inr, append_assoc}
use Rattle.loom_views.specs.declared.rt.failure.FailureKind.{FailureKind}
use Rattle.loom_views.specs.declared.rt.failure.FailureKind.TheVariants.{Deadlock, Misuse}
use Rattle.loom_objects.specs.declared.choice.Choice.{Choice}
use Rattle.loom_objects.specs.declared.choice.Choice.TheVariants as choice
use Rattle.loom_objects.specs.declared.operation.Reply.{Reply}
use Rattle.loom_objects.specs.declared.operation.Turn.{Turn}
use Rattle.loom_objects.specs.declared.rt.run.Loading.{Loading}
use Rattle.loom_objects.specs.declared.rt.run.Passed.{Passed}
use Rattle.loom_objects.specs.declared.rt.run.Passed.TheVariants as passed
use Rattle.loom_objects.specs.declared.rt.run.Resumed.{Resumed}
use Rattle.loom_objects.specs.declared.rt.run.Resumed.TheVariants as resumed
use Rattle.loom_objects.specs.Exploring.{is_on}
use Rattle.loom_objects.specs.Rules.Atomic.{reads}
use Rattle.loom_objects.specs.Rules.Ending.{all_ended, end_of}
use Rattle.loom_objects.specs.Rules.Steps.{asked, asks_slot, ends, read_slot, slot_of, told, turned as passed_on}
use Rattle.loom_objects.specs.Rules.Tables.{chosen}
use Rattle.loom_objects.specs.Tree.Stores.{slots}
use Rattle.loom_objects.specs.Tree.Tree.{Tree, Gives, Fails, Closes, ◌>>=◌, came, check}
use Rattle.loom_objects.specs.World.{World}
use Rattle.loom_engine.specs.Runs.Body.{Meaning}
use Rattle.loom_engine.specs.Runs.Course.{Course, accesses, carried, one_passed}
use Rattle.loom_engine.specs.Runs.Machine.{chooses, closes, further, goes_by, passes, schedule, turned}
use Rattle.loom_engine.specs.Trees.Meeting.{Marking, whole_search}
use Rattle.loom_engine.specs.Trees.Drive.{Trail, drive}
use Rattle.loom_engine.specs.Covering.Cut.{passed as passed_by}
use Rattle.loom_engine.specs.Covering.Moments.{Moment, Stands, Stand, by_choice, gone_on, settled, stand_after, to_schedule}
use Rattle.loom_engine.specs.Covering.Parts.{IsEnded, LeadsOn, ScheduleLaw, TurnsOn, on_turn}
use Rattle.loom_engine.proofs.Covering.Ending.{ended_turn}
use Rattle.loom_engine.proofs.Covering.Parts.{AllGive, ClosesGive, leads_on, not_both, same_path, same_value}
use Rattle.loom_engine.proofs.Trees.Binding.{drive_then, drive_fails}

module _ {D : Type 0} where
  -- the run has ended
  abbrev pub Over : Passed D × Course D → Type 0
  Over (passed.Turn turn, c) = IsEnded turn
  Over (passed.AtBranch, c) = ⊥

  closes_over : (c : Course D) → ClosesGive {A = Passed D × Course D} Over (closes c >>= turned)
  closes_over c = by (all_ended c.world)
    where
      at_end : (r : Result (Turn D × World D) FailureKind) → end_of c.world ≡ r → AllGive {A = Passed D × Course D} Over (carried c (came r) >>= turned)
      at_end (Ok (turn, taken)) e = ended_turn c.world turn taken e
      at_end (Err kind) e = tt

      by : (b : Bool) → ClosesGive {A = Passed D × Course D} Over ((check b Deadlock >>= (λ u. Closes (carried c (ends c.world)))) >>= turned)
      by true = at_end (end_of c.world) refl
      by false = tt

  read_open : (load : Loading) (c : Course D) (w : World D) (slot : ℕ) → ClosesGive {A = Passed D × Course D} Over (carried c (read_slot load w slot >>= passed_on))
  read_open load c w slot = by (reads load.access w slot)
    where
      by : (r : Result (Reply D × World D) FailureKind) → ClosesGive {A = Passed D × Course D} Over (carried c ((came r >>= told) >>= passed_on))
      by (Ok (answer, v)) = tt
      by (Err kind) = tt

  asked_open : (load : Loading) (c : Course D) (w : World D) (explores : Bool) (numbers : List ℕ) → ClosesGive {A = Passed D × Course D} Over (carried c (asks_slot explores numbers >>= (λ slot. read_slot load w slot >>= passed_on)))
  asked_open load c w explores [] = tt
  asked_open load c w explores (lowest ∷ others) = λ o. by o
    where
      by : (o : Choice) → ClosesGive {A = Passed D × Course D} Over (carried (one_passed c) (slot_of o >>= (λ slot. read_slot load w slot >>= passed_on)))
      by (choice.Load slot) = read_open load (one_passed c) w slot
      by (choice.Thread t) = tt
      by (choice.Spurious answer) = tt

  goes_open : (t : ℕ) (c : Course D) → ClosesGive {A = Passed D × Course D} Over (goes_by t c)
  goes_open t c = by (chosen t c.world)
    where
      by : (r : Result (Resumed D × World D) FailureKind) → ClosesGive {A = Passed D × Course D} Over (carried (one_passed c) (came r >>= asked (is_on c.exploring)))
      by (Ok (resumed.Passed p, w)) = tt
      by (Ok (resumed.Load load, w)) = asked_open load (one_passed c) w (is_on c.exploring) (slots load.readable)
      by (Err kind) = tt

  pub chooses_open : (c : Course D) (o : Choice) → ClosesGive {A = Passed D × Course D} Over (chooses c o)
  chooses_open c (choice.Thread (Some t)) = by (accesses t c)
    where
      by : (r : Result (Course D) FailureKind) → ClosesGive {A = Passed D × Course D} Over (came r >>= goes_by t)
      by (Ok v) = goes_open t v
      by (Err kind) = tt
  chooses_open c (choice.Thread None) = closes_over (one_passed c)
  chooses_open c (choice.Load slot) = tt
  chooses_open c (choice.Spurious answer) = tt

module _ {D S : Type 0} (next : Meaning D S) where
  pub stand_append : (s : Stand D S) (b c : List Choice) → stand_after next s (b ++ c) ≡ stand_after next (stand_after next s b) c
  stand_append s [] c = refl
  stand_append s (o ∷ b) c = stand_append (by_choice next o s s.ahead) b c

  module _ (room : ℕ) (adds : Marking) (after : Trail) (came_to : Turn D × Course D) where
    -- what one schedule came to, and how it went on
    record Splits (c : Course D) (again : Course D → Tree (Turn D × Course D)) (path : Trail) : Type 0 where
      one : Passed D × Course D
      mid : Trail
      comes : drive (whole_search room) adds (passes c) path ≡ (Ok one, mid)
      goes : drive (whole_search room) adds (further again one) mid ≡ (Ok came_to, after)

    split : (c : Course D) (again : Course D → Tree (Turn D × Course D)) (path : Trail) → drive (whole_search room) adds (passes c >>= further again) path ≡ (Ok came_to, after) → Splits c again path
    split c again path e = by (drive (whole_search room) adds (passes c) path) refl
      where
        by : (d : Result (Passed D × Course D) FailureKind × Trail) → drive (whole_search room) adds (passes c) path ≡ d → Splits c again path
        by (Ok one, mid) h = record { one = one; mid = mid; comes = h; goes = sym (drive_then (whole_search room) adds (passes c) (further again) path mid one h) ∙ e }
        by (Err kind, mid) h = absurd (not_both kind came_to mid after (sym (drive_fails (whole_search room) adds (passes c) (further again) path mid kind h) ∙ e))

    module _ (bodies : List S) (left : ℕ) where
      abbrev at : ℕ → Course D → Moment D S
      at more c = record { bodies = bodies; course = c; more = more; left = left }

      -- the first schedule has led to a turn
      turned_on : (more : ℕ) (c : Course D) (path : Trail) (turn : Turn D) (v : Course D) (mid : Trail) → (turn, v) ≡ came_to → mid ≡ after
          → Over (passed.Turn turn, v) ⊎ LeadsOn next (Some (at more c)) [] (passes c) (gone_on next (at more c)) path (passed.Turn turn, v) mid → IsEnded came_to.0 ⊎ TurnsOn next (at more c) path came_to after
      turned_on more c path turn v mid is there (inl h) = inl (subst (λ (t : Turn D × Course D). IsEnded t.0) is h)
      turned_on more c path turn v mid is there (inr r) = inr (record {
        between = r.between;
        last = Some (at more c);
        since = [] ++ r.between;
        passes = ap passed_by (sym there) ∙ r.passes;
        stands = r.stands ∙ ap (λ t. settled next (Some (at more c)) ([] ++ r.between) (on_turn (to_schedule next left bodies) t)) is;
      })

      -- or to another one
      further_on : (more : ℕ) (c v : Course D) (path mid : Trail) → Over (passed.AtBranch, v) ⊎ LeadsOn next (Some (at (suc more) c)) [] (passes c) (gone_on next (at (suc more) c)) path (passed.AtBranch, v) mid
          → (mid.position ≤ length mid.nodes → IsEnded came_to.0 ⊎ TurnsOn next (at more v) mid came_to after) → IsEnded came_to.0 ⊎ TurnsOn next (at (suc more) c) path came_to after
      further_on more c v path mid (inl h) ih = absurd h
      further_on more c v path mid (inr r) ih = by (ih r.within)
        where
          by : IsEnded came_to.0 ⊎ TurnsOn next (at more v) mid came_to after → IsEnded came_to.0 ⊎ TurnsOn next (at (suc more) c) path came_to after
          by (inl h) = inl h
          by (inr i) = inr (record {
            between = r.between ++ i.between;
            last = i.last;
            since = i.since;
            passes = i.passes ∙ ap (λ l. l ++ i.between) r.passes ∙ append_assoc (passed_by path) r.between i.between;
            stands = stand_append (settled next (Some (at (suc more) c)) [] (Gives (Stands (at (suc more) c)))) r.between i.between ∙ ap (λ s. stand_after next s i.between) r.stands ∙ i.stands;
          })

      turns : (more : ℕ) (c : Course D) (path : Trail) → path.position ≤ length path.nodes → drive (whole_search room) adds (schedule more c) path ≡ (Ok came_to, after) → IsEnded came_to.0 ⊎ TurnsOn next (at more c) path came_to after
      unfolding schedule
      turns zero c path l e = by (split c (λ v. Fails Misuse) path e)
        where
          by : Splits c (λ v. Fails Misuse) path → IsEnded came_to.0 ⊎ TurnsOn next (at zero c) path came_to after
          by s = go s.one s.comes s.goes
            where
              go : (one : Passed D × Course D) → drive (whole_search room) adds (passes c) path ≡ (Ok one, s.mid) → drive (whole_search room) adds (further (λ v. Fails Misuse) one) s.mid ≡ (Ok came_to, after)
                  → IsEnded came_to.0 ⊎ TurnsOn next (at zero c) path came_to after
              go (passed.Turn turn, v) h g = turned_on zero c path turn v s.mid (same_value (turn, v) came_to s.mid after g) (same_path (turn, v) came_to s.mid after g) (leads_on Over next room adds (gone_on next (at zero c)) (passed.Turn turn, v) s.mid (Some (at zero c)) (passes c) [] path l (chooses_open c) h)
              go (passed.AtBranch, v) h g = absurd (not_both Misuse came_to s.mid after g)
      turns (suc more) c path l e = by (split c (schedule more) path e) (λ v mid m d. turns more v mid m d)
        where
          by : Splits c (schedule more) path → ((v : Course D) (mid : Trail) → mid.position ≤ length mid.nodes → drive (whole_search room) adds (schedule more v) mid ≡ (Ok came_to, after) → IsEnded came_to.0 ⊎ TurnsOn next (at more v) mid came_to after)
              → IsEnded came_to.0 ⊎ TurnsOn next (at (suc more) c) path came_to after
          by s ih = go s.one s.comes s.goes
            where
              go : (one : Passed D × Course D) → drive (whole_search room) adds (passes c) path ≡ (Ok one, s.mid) → drive (whole_search room) adds (further (schedule more) one) s.mid ≡ (Ok came_to, after)
                  → IsEnded came_to.0 ⊎ TurnsOn next (at (suc more) c) path came_to after
              go (passed.Turn turn, v) h g = turned_on (suc more) c path turn v s.mid (same_value (turn, v) came_to s.mid after g) (same_path (turn, v) came_to s.mid after g) (leads_on Over next room adds (gone_on next (at (suc more) c)) (passed.Turn turn, v) s.mid (Some (at (suc more) c)) (passes c) [] path l (chooses_open c) h)
              go (passed.AtBranch, v) h g = further_on more c v path s.mid (leads_on Over next room adds (gone_on next (at (suc more) c)) (passed.AtBranch, v) s.mid (Some (at (suc more) c)) (passes c) [] path l (chooses_open c) h) (λ m. ih v s.mid m g)

pub schedule_law : {D S : Type 0} → ScheduleLaw D S
schedule_law room adds next m path after came_to l e = turns next room adds after came_to m.bodies m.left m.more m.course path l e
