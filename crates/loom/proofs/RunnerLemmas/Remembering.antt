use Rattle.std.proofs.Common.{◌≡◌, ℕ, Bool, true, false, cond, List, [], ◌∷◌, ◌++◌, ap, sym, ◌∙◌, refl, subst, Option, Some, None, is_some, inl, inr, Result, Ok, Err, MatchBool, ◌&&◌, IfOk, OnOk}
use Rattle.std.specs.Prelude.{⊤}
use Rattle.loom_objects.specs.declared.operation.Request.{Request}
use Rattle.loom_objects.specs.declared.operation.Reply.{Reply}
use Rattle.loom.specs.declared.runner.stop.Stop.{Stop}
use Rattle.loom.specs.declared.runner.stop.Stop.TheVariants.{Failure, Memory, Refused}
use Rattle.loom.specs.declared.runner.history.event.Entry.{Entry}
use Rattle.loom.specs.Runner.Histories.{entry, Share}
use Rattle.loom.specs.Runner.Calls.{last_of}
use Rattle.loom.specs.Runner.Handle.{Teller, all_answered, with_open, failing, finishing, exiting, is_memory, ByStop, Remembers, Ends, Closes, Leading}

and_true : (b : Bool) → (b && true) ≡ b
and_true true = refl
and_true false = refl

and_false : (b : Bool) → (b && false) ≡ false
and_false true = refl
and_false false = refl

pub answered_reply : {D : Type 0} (es : List (Entry D)) (op : Request D ⊤) (r : Reply D) → all_answered (es ++ entry op (Some r) ∷ []) ≡ all_answered es
answered_reply [] op r = refl
answered_reply (e ∷ es) op r = ap (λ b. is_some e.reply && b) (answered_reply es op r)

pub answered_open : {D : Type 0} (es : List (Entry D)) (op : Request D ⊤) → all_answered (es ++ entry op None ∷ []) ≡ false
answered_open [] op = refl
answered_open (e ∷ es) op = ap (λ b. is_some e.reply && b) (answered_open es op) ∙ and_false (is_some e.reply)

pub remembers_reply : {D : Type 0} (es es' : List (Entry D)) (op : Request D ⊤) (r : Reply D) (stop : Option Stop) → Remembers es stop → stop ≡ None → es' ≡ es ++ entry op (Some r) ∷ [] → Remembers es' stop
remembers_reply es es' op r stop k none is =
    let a = ap all_answered is ∙ (answered_reply es op r ∙ k.goes_on none) in
    let P : Option Stop → Type 0 = λ o. Remembers es' o in
    subst P (sym none) (record { goes_on = λ n. a; stopped = tt })

by_each : (s : Stop) (p : Type 0) → p → ByStop s p (Unit {0})
by_each (Failure f) p x = x
by_each Refused p x = x
by_each Memory p x = tt

pub remembers_stop : {D : Type 0} (es es' : List (Entry D)) (op : Request D ⊤) (s : Stop) → es' ≡ es ++ entry op None ∷ [] → Remembers es' (Some s)
remembers_stop es es' op s is = record { goes_on = λ n. cc n; stopped = by_each s _ (ap all_answered is ∙ answered_open es op) }

-- the closure's last operation was answered by a stop
pub closes_first : {D : Type 0} (told told1 : List (Entry D)) (op : Request D ⊤) (d : D) (s : Stop) (starved : Bool) → op ≡ finishing d → ByStop s (told1 ≡ with_open told op) (starved ≡ true)
    → starved ≡ false → Closes told (Ok d) told1
closes_first {D} told told1 op d s starved is =
    let P : Request D ⊤ → Type 0 = λ x. ByStop s (told1 ≡ with_open told x) (starved ≡ true) → starved ≡ false → Closes told (Ok d) told1 in
    subst P (sym is) (go s)
  where
    cased : (b : Bool) → told1 ≡ cond b (told ++ entry (finishing d) None ∷ []) told → MatchBool b (Ends told (Ok d) told1) (told1 ≡ told)
    cased true e = inl e
    cased false e = e

    go : (t : Stop) → ByStop t (told1 ≡ with_open told (finishing d)) (starved ≡ true) → starved ≡ false → Closes told (Ok d) told1
    go (Failure f) e fed = cased (all_answered told) e
    go Refused e fed = cased (all_answered told) e
    go Memory e fed = cc (e, fed)

second : {D : Type 0} (told told1 told2 : List (Entry D)) (d : D) (r : Reply D) → all_answered told ≡ true → told1 ≡ told ++ entry (finishing d) (Some r) ∷ [] → told2 ≡ with_open told1 exiting
    → Closes told (Ok d) told2
second told told1 told2 d r live one two =
    let a : all_answered told1 ≡ true = ap all_answered one ∙ (answered_reply told _ _ ∙ live) in
    let b : told2 ≡ told1 ++ entry exiting None ∷ [] = two ∙ ap (λ t. cond t (told1 ++ entry exiting None ∷ []) told1) a in
    let e : told2 ≡ (told ++ entry (finishing d) (Some r) ∷ []) ++ entry exiting None ∷ [] = b ∙ ap (λ xs. xs ++ entry exiting None ∷ []) one in
    let P : Bool → Type 0 = λ t. MatchBool t (Ends told (Ok d) told2) (told2 ≡ told) in
    subst P (sym live) (inr (r, None, e))

-- it had its reply, and `exit` was answered by a stop
pub closes_second : {D : Type 0} (told told1 told2 : List (Entry D)) (d : D) (r : Reply D) (s : Stop) (starved : Bool) → all_answered told ≡ true
    → told1 ≡ told ++ entry (finishing d) (Some r) ∷ [] → ByStop s (told2 ≡ with_open told1 exiting) (starved ≡ true) → starved ≡ false → Closes told (Ok d) told2
closes_second told told1 told2 d r (Failure f) starved live one by fed = second told told1 told2 d r live one by
closes_second told told1 told2 d r Refused starved live one by fed = second told told1 told2 d r live one by
closes_second told told1 told2 d r Memory starved live one by fed = cc

-- `exit` had its reply too
pub closes_both : {D : Type 0} (told told1 told2 : List (Entry D)) (d : D) (r x : Reply D) → all_answered told ≡ true → told1 ≡ told ++ entry (finishing d) (Some r) ∷ []
    → told2 ≡ told1 ++ entry exiting (Some x) ∷ [] → Closes told (Ok d) told2
closes_both told told1 told2 d r x live one two =
    let e : told2 ≡ (told ++ entry (finishing d) (Some r) ∷ []) ++ entry exiting (Some x) ∷ [] = two ∙ ap (λ xs. xs ++ entry exiting (Some x) ∷ []) one in
    let P : Bool → Type 0 = λ t. MatchBool t (Ends told (Ok d) told2) (told2 ≡ told) in
    subst P (sym live) (inr (r, Some x, e))

-- a call after a stop changes nothing
pub still_stopped : {D : Type 0} (told : List (Entry D)) (op : Request D ⊤) (stop : Option Stop) (s : Stop) → Remembers told stop → stop ≡ Some s → ByStop s (told ≡ with_open told op) (is_memory stop ≡ true)
still_stopped told op stop s k is = go s (let P : Option Stop → Type 0 = λ o. Remembers told o in subst P is k) (ap is_memory is)
  where
    go : (t : Stop) → Remembers told (Some t) → is_memory stop ≡ is_memory (Some t) → ByStop t (told ≡ with_open told op) (is_memory stop ≡ true)
    go (Failure f) r m = sym (ap (λ b. cond b (told ++ entry op None ∷ []) told) r.stopped)
    go Refused r m = sym (ap (λ b. cond b (told ++ entry op None ∷ []) told) r.stopped)
    go Memory r m = m

-- the first call that is answered by a stop
pub stops_new : {D : Type 0} (told told1 : List (Entry D)) (op : Request D ⊤) (s : Stop) → all_answered told ≡ true → told1 ≡ told ++ entry op None ∷ [] → ByStop s (told1 ≡ with_open told op) (is_memory (Some s) ≡ true)
stops_new told told1 op s live is = go s (is ∙ sym (ap (λ b. cond b (told ++ entry op None ∷ []) told) live))
  where
    go : (t : Stop) → told1 ≡ with_open told op → ByStop t (told1 ≡ with_open told op) (is_memory (Some t) ≡ true)
    go (Failure f) e = e
    go Refused e = e
    go Memory e = refl

-- what is pushed onto a list that has grown is behind what was there
pub pushed : {A : Type 0} (old mid new : List A) (x : A) → new ≡ mid ++ x ∷ [] → mid ≡ old → new ≡ old ++ x ∷ []
pushed {A} old mid new x push same = push ∙ ap (λ (xs : List A). xs ++ x ∷ []) same

pub on_ok : {A E : Type 0} (r : Result A E) (P : Type 0) → P → OnOk r P
on_ok (Ok x) P p = p
on_ok (Err e) P p = tt

-- ---- what closing a handle leaves

pub same_thread : {D : Type 0} (h0 h h1 : Teller D) → h ≡ h1 → h1.thread ≡ h0.thread → h.thread ≡ h0.thread
same_thread {D} h0 h h1 is same = ap (λ (t : Teller D). t.thread) is ∙ same

some_same : {A : Type 0} (x y : A) → Some x ≡ Some y → x ≡ y
some_same x y is = cc is

-- by the closure's result
pub closes_value : {D : Type 0} (told : List (Entry D)) (answer : Result D Stop) (op : Request D ⊤) (h h1 : Teller D) → last_of answer ≡ Some op → h ≡ h1
    → ((d : D) → op ≡ finishing d → h1.starved ≡ false → Closes told (Ok d) h1.told) → h.starved ≡ false → Closes told answer h.told
closes_value {D} told (Ok d) op h h1 last is closes =
    let P : Teller D → Type 0 = λ t. t.starved ≡ false → Closes told (Ok d) t.told in
    subst P (sym is) (closes d (sym (some_same (finishing d) op last)))
closes_value {D} told (Err stop) op h h1 last is closes = cc last

-- by `fail`, for a stop
pub closes_stop : {D : Type 0} (told : List (Entry D)) (answer : Result D Stop) (s : Stop) (h h1 : Teller D) → last_of answer ≡ None → h ≡ h1
    → ByStop s (h1.told ≡ with_open told failing) (h1.starved ≡ true) → h.starved ≡ false → Closes told answer h.told
closes_stop {D} told (Ok d) s h h1 last is by = cc last
closes_stop {D} told (Err stop) s h h1 last is by =
    let P : Teller D → Type 0 = λ t. t.starved ≡ false → Closes told (Err stop) t.told in
    subst P (sym is) (go s by)
  where
    cased : (b : Bool) (x : List (Entry D)) → h1.told ≡ cond b x told → MatchBool b (h1.told ≡ x) (h1.told ≡ told)
    cased true x e = e
    cased false x e = e

    go : (t : Stop) → ByStop t (h1.told ≡ with_open told failing) (h1.starved ≡ true) → h1.starved ≡ false → Closes told (Err stop) h1.told
    go (Failure f) e fed = cased (all_answered told) _ e
    go Refused e fed = cased (all_answered told) _ e
    go Memory e fed = cc (e, fed)

-- the lists that it leaves, of which its own is the first
pub leads_on : {D V E : Type 0} (lists : V → List (Share D)) (r : Result V E) (h h0 : Teller D) (answer : Result D Stop) → IfOk r (λ all. Leading h.thread (lists all) (λ es. es ≡ h.told))
    → OnOk r (h.starved ≡ false) → h.thread ≡ h0.thread → (h.starved ≡ false → Closes h0.told answer h.told) → IfOk r (λ all. Leading h0.thread (lists all) (Closes h0.told answer))
leads_on lists (Err e) h h0 answer led fed same closes = tt
leads_on {D} lists (Ok all) h h0 answer (es, first, is) fed same closes =
    let P : List (Entry D) → Type 0 = λ l. Closes h0.told answer l in
    let Q : ℕ → Type 0 = λ n. Leading n (lists all) (Closes h0.told answer) in
    subst Q same (es, first, subst P (sym is) (closes fed))
