use Rattle.std.proofs.Common.{◌≡◌, ◌∙◌, ◌++◌, ◌≤◌, List, ℕ, Result, Ok, Err, OnOk, cond, length, take, codes, string_bytes, ap, subst, append_assoc, arith}
use Rattle.std.proofs.lemmas.List.{take_all}
use Rattle.std.specs.List.{flat_map}
use Rattle.std.specs.Prelude.{is_ok}
use Rattle.loom_text.specs.declared.test.Term.{Term}
use Rattle.loom_text.specs.Printing.{places_in, printed_term, text_of, threads_in}
use Rattle.loom_text.proofs.write.write_terms.Goals as goal

on_ok : {T E : Type 0} (r : Result T E) (new a b c : List ℕ) → new ≡ cond (is_ok r) a b → a ≡ c → OnOk r (new ≡ c)
on_ok (Ok x) new a b c e h = e ∙ h
on_ok (Err y) new a b c e h = tt

joined : (old first middle last : List ℕ) → ((old ++ first) ++ middle) ++ last ≡ old ++ (first ++ middle ++ last)
joined old first middle last = ap (λ (xs : List ℕ). xs ++ last) (append_assoc old first middle) ∙ append_assoc old (first ++ middle) last

pub returns : goal.returns
returns c =
    let test = c.args.test.now in
    let old = string_bytes c.args.text.now in
    let first = codes "locations [" in
    let write = λ (term : Term). text_of (printed_term (places_in test) (threads_in test) term) ++ codes ";" in
    let over : length c.deref-term-items.result.now ≤ c.loop-term.term-index = omega (arith, c.loop-term-test.false) in
    let all : take c.loop-term.term-index test.listed.items ≡ test.listed.items =
    take_all c.loop-term.term-index test.listed.items (subst (λ (xs : List Term). length xs ≤ c.loop-term.term-index) c.deref-term-items.ensures.value over) in
    let begun : string_bytes c.push_str.new.self ≡ old ++ first = c.in_ok-push_str.ensures.bytes in
    let written : string_bytes c.loop-term.text ≡ (old ++ first) ++ flat_map write test.listed.items =
    c.loop-term.invariant ∙ ap (λ (xs : List ℕ). xs ++ flat_map write (take c.loop-term.term-index test.listed.items)) begun
    ∙ ap (λ (xs : List Term). (old ++ first) ++ flat_map write xs) all in
    on_ok c.push_str-2.result _ _ _ _ c.push_str-2.ensures.bytes
    (ap (λ (xs : List ℕ). xs ++ codes "]\n") written ∙ joined old first (flat_map write test.listed.items) (codes "]\n"))
