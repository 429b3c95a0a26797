-- Choices that were written are read back, and nothing else is read.
use Rattle.std.proofs.Common.{◌≡◌, ◌≢◌, ℕ, ◌<◌, Bool, true, false, if◌then◌else◌, List, [], ◌∷◌, map, Option, Some, None, refl, sym, ap, ap₂, ◌∙◌, subst}
use Rattle.std.specs.Prelude.{nat_lt, Vec}
use Rattle.std.specs.declared.alloc.Global.{Global}
use Rattle.std.proofs.lemmas.Bool.{ltb-true, lt-ltb}
use Rattle.serde_json.specs.Data.{Data, null, boolean, number, string, array, object}
use Rattle.loom_objects.specs.declared.choice.Choice.{Choice}
use Rattle.loom_objects.specs.declared.choice.Choice.TheVariants.{Thread, Load, Spurious}
use Rattle.loom_engine.specs.Checkpoint.Grammar.{list_data}
use Rattle.loom_engine.specs.Checkpoint.Reader.{as_whole, as_list, each, list_of}
use Rattle.loom_engine.specs.Parts.Keeping.{choices_of, keys_onto}
use Rattle.loom_engine.specs.Parts.Texts.Accepted.{IsOption, AreOptions, AreLists}
use Rattle.loom_engine.specs.Parts.Texts.Grammar.{choice_data, choices_data, key_data}
use Rattle.loom_engine.specs.Parts.Texts.Reader.{number_below, thread_at, slot_at, slot_in, choice_at, choices_at, key_at}
use Rattle.loom_engine.proofs.Checkpoint.Chains.{with_step, with_map}
use Rattle.loom_engine.proofs.Checkpoint.Inverse.{as_whole-gave, as_list-gave, as_list-of}

-- ---- a number

below_gave : (limit : ℕ) (o : Option ℕ) (n : ℕ) → number_below limit o ≡ Some n → (o ≡ Some n) × (n < limit)
below_gave limit None n e = absurd (cc e)
below_gave limit (Some k) n e = go (nat_lt k limit) refl e
  where
    go : (b : Bool) → nat_lt k limit ≡ b → (if b then Some k else None) ≡ Some n → (Some k ≡ Some n) × (n < limit)
    go true t f = (f, let same : k ≡ n = cc f in subst (λ j. j < limit) same (ltb-true k limit t))
    go false t f = absurd (cc f)

below_of : (limit n : ℕ) → n < limit → number_below limit (Some n) ≡ Some n
below_of limit n h = rw (lt-ltb n limit h) refl

-- ---- a choice

thread_gave : (o : Option ℕ) (c : Choice) → thread_at o ≡ Some c → (n : ℕ) × (o ≡ Some n) × (c ≡ Thread (Some n))
thread_gave None c e = absurd (cc e)
thread_gave (Some n) c e = let same : Thread (Some n) ≡ c = cc e in (n, refl, sym same)

slot_gave : (o : Option ℕ) (c : Choice) → slot_at o ≡ Some c → (n : ℕ) × (o ≡ Some n) × (c ≡ Load n)
slot_gave None c e = absurd (cc e)
slot_gave (Some n) c e = let same : Load n ≡ c = cc e in (n, refl, sym same)

thread_reads : (d : Data) (c : Choice) → thread_at (number_below 5 (as_whole d)) ≡ Some c → (d ≡ choice_data c) × IsOption c
thread_reads d c e =
    let t = thread_gave (number_below 5 (as_whole d)) c e in
    let b = below_gave 5 (as_whole d) t.0 t.1 in
    let P : Choice → Type 0 = λ o. (d ≡ choice_data o) × IsOption o in
    subst P (sym t.2) (as_whole-gave d t.0 b.0, b.1)

slot_reads : (ds : List Data) (c : Choice) → slot_in (Some ds) ≡ Some c → (list_data ds ≡ choice_data c) × IsOption c
slot_reads [] c e = absurd (cc e)
slot_reads (d ∷ []) c e =
    let t = slot_gave (number_below 7 (as_whole d)) c e in
    let b = below_gave 7 (as_whole d) t.0 t.1 in
    let P : Choice → Type 0 = λ o. (list_data (d ∷ []) ≡ choice_data o) × IsOption o in
    subst P (sym t.2) (ap (λ x. list_data (x ∷ [])) (as_whole-gave d t.0 b.0), b.1)
slot_reads (d ∷ x ∷ ds) c e = absurd (cc e)

pub choice_gave : (d : Data) (c : Choice) → choice_at d ≡ Some c → (d ≡ choice_data c) × IsOption c
choice_gave null c e = let same : Thread None ≡ c = cc e in let P : Choice → Type 0 = λ o. (null ≡ choice_data o) × IsOption o in subst P same (refl, tt)
choice_gave (boolean b) c e = let same : Spurious b ≡ c = cc e in let P : Choice → Type 0 = λ o. (boolean b ≡ choice_data o) × IsOption o in subst P same (refl, tt)
choice_gave (number n) c e = thread_reads (number n) c e
choice_gave (string s) c e = absurd (cc e)
choice_gave (array ds) c e =
    let read : (list_data (list_of ds) ≡ choice_data c) × IsOption c = slot_reads (list_of ds) c e in
    (as_list-gave (array ds) (list_of ds) refl ∙ read.0, read.1)
choice_gave (object ms) c e = absurd (cc e)

pub choice_of : (c : Choice) → IsOption c → choice_at (choice_data c) ≡ Some c
choice_of (Thread None) h = refl
choice_of (Thread (Some n)) h = ap thread_at (below_of 5 n h)
choice_of (Load n) h = ap slot_at (below_of 7 n h)
choice_of (Spurious b) h = refl

-- ---- an option with the choices before it

choices_gave : (ds : List Data) (cs : List Choice) → each choice_at ds ≡ Some cs → (ds ≡ map choice_data cs) × AreOptions cs
choices_gave [] cs e = let P : List Choice → Type 0 = λ l. ([] ≡ map choice_data l) × AreOptions l in let same : [] ≡ cs = cc e in subst P same (refl, tt)
choices_gave (d ∷ ds) cs e =
    with_step (choice_at d) _ cs e (λ c is e1.
    with_map (each choice_at ds) (λ l. c ∷ l) cs e1 (λ l later same.
    let here = choice_gave d c is in
    let rest = choices_gave ds l later in
    let P : List Choice → Type 0 = λ k. (d ∷ ds ≡ map choice_data k) × AreOptions k in
    subst P same (ap₂ (λ (x : Data) (k : List Data). x ∷ k) here.0 rest.0, (here.1, rest.1))))

choices_read : (cs : List Choice) → AreOptions cs → each choice_at (map choice_data cs) ≡ Some cs
choices_read [] h = refl
choices_read (c ∷ cs) h = rw (choice_of c h.0, choices_read cs h.1) refl

listed_gave : (d : Data) (o : Option (List Data)) (cs : List Choice) → as_list d ≡ o → choices_at o ≡ Some cs → (d ≡ choices_data cs) × AreOptions cs
listed_gave d None cs is e = absurd (cc e)
listed_gave d (Some ds) cs is e = let z = choices_gave ds cs e in (as_list-gave d ds is ∙ ap list_data z.0, z.1)

key_gave : (d : Data) (cs : List Choice) → key_at d ≡ Some cs → (d ≡ choices_data cs) × AreOptions cs
key_gave d cs e = listed_gave d (as_list d) cs refl e

key_read : (cs : List Choice) → AreOptions cs → key_at (choices_data cs) ≡ Some cs
key_read cs h = ap choices_at (as_list-of (map choice_data cs)) ∙ choices_read cs h

pub keys_gave : (ds : List Data) (ks : List (List Choice)) → each key_at ds ≡ Some ks → (ds ≡ map choices_data ks) × AreLists ks
keys_gave [] ks e = let P : List (List Choice) → Type 0 = λ l. ([] ≡ map choices_data l) × AreLists l in let same : [] ≡ ks = cc e in subst P same (refl, tt)
keys_gave (d ∷ ds) ks e =
    with_step (key_at d) _ ks e (λ k is e1.
    with_map (each key_at ds) (λ l. k ∷ l) ks e1 (λ l later same.
    let here = key_gave d k is in
    let rest = keys_gave ds l later in
    let P : List (List Choice) → Type 0 = λ j. (d ∷ ds ≡ map choices_data j) × AreLists j in
    subst P same (ap₂ (λ (x : Data) (j : List Data). x ∷ j) here.0 rest.0, (here.1, rest.1))))

keys_read : (ks : List (List Choice)) → AreLists ks → each key_at (map choices_data ks) ≡ Some ks
keys_read [] h = refl
keys_read (k ∷ ks) h = rw (key_read k h.0, keys_read ks h.1) refl

none_some : (o : Option (List (List Choice))) (ks : List (List Choice)) → o ≡ None → o ≡ Some ks → ⊥
none_some o ks e f = cc

pub keys_refused : (ds : List Data) → each key_at ds ≡ None → (ks : List (List Choice)) → AreLists ks → ds ≢ map choices_data ks
keys_refused ds e ks h is = none_some (each key_at ds) ks e (ap (each key_at) is ∙ keys_read ks h)

-- ---- the trunk

pub keys_data : (ts : List (Vec Choice Global)) → map choices_data (map choices_of ts) ≡ map key_data ts
keys_data [] = refl
keys_data (t ∷ ts) = ap (λ l. key_data t ∷ l) (keys_data ts)

some_same : {A : Type 0} (p q : A) → Some p ≡ Some q → p ≡ q
some_same p q e = cc

pub same_choices : (ts us : List (Vec Choice Global)) → AreLists (map choices_of ts) → AreLists (map choices_of us) → map key_data ts ≡ map key_data us → map choices_of ts ≡ map choices_of us
same_choices ts us a b e =
    some_same (map choices_of ts) (map choices_of us)
    (sym (keys_read (map choices_of ts) a) ∙ ap (each key_at) (keys_data ts ∙ e ∙ sym (keys_data us)) ∙ keys_read (map choices_of us) b)

pub same_keys : (ts us : List (Vec Choice Global)) (later : List (List Choice)) → map choices_of ts ≡ map choices_of us → keys_onto ts later ≡ keys_onto us later
same_keys [] [] later e = refl
same_keys [] (u ∷ us) later e = absurd (cc e)
same_keys (t ∷ ts) [] later e = absurd (cc e)
same_keys (t ∷ ts) (u ∷ us) later e =
    let first : t.items ≡ u.items = cc e in
    let rest : map choices_of ts ≡ map choices_of us = cc e in
    ap (λ k. keys_onto ts (k ∷ later)) first ∙ same_keys ts us (u.items ∷ later) rest
