-- What is written of a condition of a test that was read is read.
use Rattle.std.proofs.Common.{◌≡◌, ℕ, List, Option, Some, None, MatchOption, IfSome, All, ◌<◌, length, map, get_or, codes, refl, sym, ap, subst, ◌∙◌}
use Rattle.std.specs.List.{slice_get}
use Rattle.std.specs.Option.{option_map, unwrap_or}
use Rattle.std.specs.Prelude.{string_bytes}
use Rattle.std.proofs.lemmas.Option.{get_or_from_slice_get, slice_get-map, slice_get_within}
use Rattle.loom_text.specs.declared.test.Condition.{Condition}
use Rattle.loom_text.specs.declared.test.Condition.TheVariants.{Equal, Not', And', Or'}
use Rattle.loom_text.specs.declared.test.Kind.{Kind}
use Rattle.loom_text.specs.declared.test.Kind.TheVariants.{Atomic, Plain, Mutex, Condvar}
use Rattle.loom_text.specs.declared.test.Location.{Location}
use Rattle.loom_text.specs.declared.test.Term.{Term}
use Rattle.loom_text.specs.declared.test.Term.TheVariants as terms
use Rattle.loom_text.specs.declared.test.Thread.{Thread}
use Rattle.loom_text.specs.Conditions.{formula, has_value, location_term, register_term}
use Rattle.loom_text.specs.Known.{located, location_in, named_in, registers_of}
use Rattle.loom_text.specs.Named.{HasValue, IsConditionOf, IsTermOf, LocationsDiffer, RegistersDiffer}
use Rattle.loom_text.specs.Printing.{CanBeRead, FitsReader, HasInts, IsFound, IsWritable, location_name, register_name}
use Rattle.loom_text.specs.Question.{IsQuestionOf, asked}
use Rattle.loom_text.specs.Readable.{QuestionCanBeRead}
use Rattle.loom_text.specs.declared.read.heads.Question.{Question}
use Rattle.loom_text.proofs.NameLemmas.{leads, leads_back, located_alike, named_alike, register_there, thread_there}

has : (kind : Kind) (n : ℕ) → HasValue kind → has_value kind n ≡ Some (terms.Location n)
has Atomic n h = refl
has Plain n h = refl
has Mutex n h = absurd h
has Condvar n h = absurd h

found_location : (locations : List Location) (place : ℕ) → LocationsDiffer locations → MatchOption (slice_get locations place) ⊥ (λ found. HasValue found.kind)
    → location_term (map located locations) (location_name (map located locations) place) ≡ Some (terms.Location place)
found_location locations place differ h = go (slice_get locations place) refl h
  where
    go : (o : Option Location) → slice_get locations place ≡ o → MatchOption o ⊥ (λ found. HasValue found.kind) → location_term (map located locations) (location_name (map located locations) place) ≡ Some (terms.Location place)
    go None e h = absurd h
    go (Some x) e h =
        let there : location_in (map located locations) (string_bytes x.name) ≡ Some place =
        sym (located_alike locations (string_bytes x.name)) ∙ leads (λ (l : Location). string_bytes l.name) locations place x differ e in
        let here : slice_get (map located locations) place ≡ Some (located x) = slice_get-map located locations place ∙ ap (λ (o : Option Location). option_map located o) e in
        rw (here, there, here) (has x.kind place h)

found_register : (threads : List Thread) (thread register : ℕ) → All RegistersDiffer threads → MatchOption (slice_get threads thread) ⊥ (λ found. register < length found.registers.items)
    → register_term (map registers_of threads) thread (register_name (map registers_of threads) thread register) ≡ Some (terms.Register thread register)
found_register threads thread register differ h = go (slice_get threads thread) refl h
  where
    go : (o : Option Thread) → slice_get threads thread ≡ o → MatchOption o ⊥ (λ found. register < length found.registers.items)
        → register_term (map registers_of threads) thread (register_name (map registers_of threads) thread register) ≡ Some (terms.Register thread register)
    go None e h = absurd h
    go (Some x) e h =
        let within = slice_get_within threads thread x e in
        let own : RegistersDiffer x = subst RegistersDiffer (get_or_from_slice_get threads thread x x e) (differ thread x within) in
        let names = registers_of x in
        let spelled : slice_get names register ≡ option_map (λ name. string_bytes name) (slice_get x.registers.items register) = register_there x.registers.items register in
        let there : named_in names (unwrap_or (slice_get names register) (codes "?")) ≡ Some register =
        ap (λ (o : Option (List ℕ)). named_in names (unwrap_or o (codes "?"))) spelled
        ∙ sym (named_alike x.registers.items (unwrap_or (option_map (λ name. string_bytes name) (slice_get x.registers.items register)) (codes "?")))
        ∙ leads_back (λ register. string_bytes register) x.registers.items register own h in
        let here : slice_get (map registers_of threads) thread ≡ Some names = thread_there threads thread ∙ ap (λ (o : Option Thread). option_map registers_of o) e in
        rw (here, there) refl

found : (locations : List Location) (threads : List Thread) (term : Term) → LocationsDiffer locations → All RegistersDiffer threads → IsTermOf locations threads term → IsFound (map located locations) (map registers_of threads) term
found locations threads (terms.Register thread register) l r h = found_register threads thread register r h
found locations threads (terms.Location place) l r h = found_location locations place l h

writable : (locations : List Location) (threads : List Thread) (condition : Condition) → LocationsDiffer locations → All RegistersDiffer threads
    → IsConditionOf locations threads condition → HasInts (formula condition) → IsWritable (map located locations) (map registers_of threads) (formula condition)
writable locations threads (Equal term value) l r h i = (found locations threads term l r h, i)
writable locations threads (Not' p inner) l r h i = writable locations threads inner l r h i
writable locations threads (And' p left q right) l r h i = (writable locations threads left l r h.0 i.0, writable locations threads right l r h.1 i.1)
writable locations threads (Or' p left q right) l r h i = (writable locations threads left l r h.0 i.0, writable locations threads right l r h.1 i.1)

pub can_be_read : (locations : List Location) (threads : List Thread) (condition : Condition) → LocationsDiffer locations → All RegistersDiffer threads
    → IsConditionOf locations threads condition → FitsReader (formula condition) → CanBeRead (map located locations) (map registers_of threads) (formula condition)
can_be_read locations threads condition l r h fits = (writable locations threads condition l r h fits.2, fits.1, fits.0)

filter_can_be_read : (locations : List Location) (threads : List Thread) (filter : Option Condition) → LocationsDiffer locations → All RegistersDiffer threads
    → IfSome filter (IsConditionOf locations threads) → IfSome filter (λ c. FitsReader (formula c)) → IfSome (option_map formula filter) (CanBeRead (map located locations) (map registers_of threads))
filter_can_be_read locations threads None l r h fits = tt
filter_can_be_read locations threads (Some c) l r h fits = can_be_read locations threads c l r h fits

pub question_readable : (locations : List Location) (threads : List Thread) (question : Question) → LocationsDiffer locations → All RegistersDiffer threads
    → IsQuestionOf locations threads question → QuestionCanBeRead (map located locations) (map registers_of threads) (asked question)
question_readable locations threads question l r named = record {
  listed = λ k d lt. found locations threads (get_or question.listed.items k d) l r (named.listed k d lt);
  filter = filter_can_be_read locations threads question.filter l r named.filter named.filter_fits;
  condition = can_be_read locations threads question.condition l r named.condition named.condition_fits;
}
