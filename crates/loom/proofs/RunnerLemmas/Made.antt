use Rattle.std.proofs.Common.{◌≡◌, ◌<◌, ℕ, Bool, List, [], ◌∷◌, ◌∙◌, refl, subst, Some, Result, Ok, Err, IfOk, OnOk, is_err, false, length, ap, arith}
use Rattle.std.specs.Prelude.{slice_get}
use Rattle.std.specs.List.{swap, SwappedAt}
use Rattle.std.proofs.lemmas.List.Edits.{length-swap}
use Rattle.loom_objects.specs.declared.choice.Choice.{Choice}
use Rattle.loom_engine.specs.declared.rt.execution.Limits.{Limits}
use Rattle.loom_engine.specs.Path.Route.{Route}
use Rattle.loom.specs.declared.runner.stop.Stop.{Stop}
use Rattle.loom.specs.declared.runner.run_end.RunEnd.{RunEnd}
use Rattle.loom.specs.declared.runner.run_end.RunEnd.TheVariants.{Failed, Ended}
use Rattle.loom.specs.Runner.Drawn.{LeadsBy}
use Rattle.loom.specs.Runner.Histories.{Log, Share, IsHistory, Settles}
use Rattle.loom.specs.Runner.Handle.{Teller, Leading, Closes, newcomer}
use Rattle.loom.specs.Runner.Made.{Made, MadeBy, Given}
use Rattle.loom.specs.Runner.Run.{Checked, Gave, Judged, WasMade}

-- places behind the first one are swapped
pub first_stays : {X : Type 0} (xs ys : List X) (i j : ℕ) → ys ≡ swap xs i j → SwappedAt xs ys i j → 0 < i → 0 < j → slice_get ys 0 ≡ slice_get xs 0
first_stays {X} xs ys i j is at a b = go xs ys (ap length is ∙ length-swap xs i j) at
  where
    go : (xs ys : List X) → length ys ≡ length xs → SwappedAt xs ys i j → slice_get ys 0 ≡ slice_get xs 0
    go [] [] same s = refl
    go [] (y ∷ ys) same s = cc same
    go (x ∷ xs) [] same s = cc same
    go (x ∷ xs) (y ∷ ys) same s = ap Some (s.2 0 x (λ e. absurd (omega arith)) (λ e. absurd (omega arith)))

-- what is ensured where a call doesn't fail
pub ok_gives : {A E : Type 0} (r : Result A E) (P : Type 0) → OnOk r P → is_err r ≡ false → P
ok_gives (Ok a) P p e = p
ok_gives (Err x) P p e = cc e

-- what settles a state whose history is one from its own beginning
pub checked : {D : Type 0} (limits : Limits) (began : Route) (log : Log D) (told : List (Share D)) → Settles log began limits told → LeadsBy log.drawn log
    → Checked limits began log told
checked limits began log told settles leads = record {
  settles = settles;
  history =
      let history : IsHistory log.limits log.began log.history log.now = subst (λ (drawn : Bool). LeadsBy drawn log) settles.follows leads in
      subst (λ (l : Limits). IsHistory l began log.history log.now) settles.limits_so (subst (λ (r : Route). IsHistory log.limits r log.history log.now) settles.began_so history);
}

module _ {D F V : Type 0} (called : F → Teller D → Result D Stop → F → Teller D → Type 0) (takes : V → List Choice → D → V → Type 0) (limits : Limits) where
  abbrev pub made_of : Route → Log D → List (Share D) → Teller D → Result D Stop → Made D
  made_of began log told handle answer = record { began = began; log = log; told = told; handle = handle; answer = answer }

  pub made_by : (f f' : F) (began : Route) (log : Log D) (told : List (Share D)) (start handle : Teller D) (answer : Result D Stop) → start ≡ newcomer 0 → called f start answer f' handle
      → Leading handle.thread told (Closes handle.told answer) → Checked limits began log told → MadeBy called takes limits f (made_of began log told handle answer) f'
  made_by f f' began log told start handle answer new call main checked = record {
    call = (let P : Teller D → Type 0 = λ h. called f h answer f' handle in subst P new call);
    settled = record { settles = checked.settles; history = checked.history; main = main };
  }

  given_by : (f f' : F) (v v' : V) (began : Route) (log : Log D) (told : List (Share D)) (handle : Teller D) (answer : Result D Stop)
      → MadeBy called takes limits f (made_of began log told handle answer) f' → Gave takes v log v' → Given called takes limits f v (made_of began log told handle answer) f' v'
  given_by f f' v v' began log told handle answer made gave = record { made = made; value = gave.value; ended = gave.ended; taken = gave.taken }

  -- a call of the closure, `close` and the judgement make a run
  was_made : (f f' : F) (v v' : V) (began : Route) (log : Log D) (told : List (Share D)) (start handle : Teller D) (answer : Result D Stop) → start ≡ newcomer 0 → called f start answer f' handle
      → Leading handle.thread told (Closes handle.told answer) → (end : RunEnd) → Judged takes limits v began log told end v' → WasMade called takes limits f v began end f' v'
  was_made f f' v v' began log told start handle answer new call main (Failed failure choices) j =
      (made_of began log told handle answer, refl, made_by f f' began log told start handle answer new call main j.0, j.1, j.2)
  was_made f f' v v' began log told start handle answer new call main (Ended next) j =
      (made_of began log told handle answer, refl, given_by f f' v v' began log told handle answer (made_by f f' began log told start handle answer new call main j.0) j.1, j.2)

  -- and so it does in what the judgement answers, unless it is an error
  pub run_made : {E : Type 0} (f f' : F) (v v' : V) (began : Route) (log : Log D) (told : List (Share D)) (start handle : Teller D) (answer : Result D Stop) → start ≡ newcomer 0
      → called f start answer f' handle → Leading handle.thread told (Closes handle.told answer) → (result : Result RunEnd E)
      → IfOk result (λ end. Judged takes limits v began log told end v') → IfOk result (λ end. WasMade called takes limits f v began end f' v')
  run_made f f' v v' began log told start handle answer new call main (Ok end) j = was_made f f' v v' began log told start handle answer new call main end j
  run_made f f' v v' began log told start handle answer new call main (Err e) j = tt
