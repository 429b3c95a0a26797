-- The steps in which listed terms are read.
use Rattle.std.proofs.Common.{◌≡◌, ℕ, suc, ◌-◌, ◌+◌, ◌≤◌, ◌<◌, map, List, [], ◌∷◌, ◌++◌, Bool, true, false, Option, Some, None, cond, refl, sym, ap, ◌∙◌, arith}
use Rattle.std.specs.List.{slice_get}
use Rattle.std.specs.Option.{option_map}
use Rattle.loom_text.specs.Known.{Located, Names, located, location_in, named_in, registers_of}
use Rattle.loom_text.specs.declared.read.stop.Stop.{Stop}
use Rattle.loom_text.specs.declared.read.stop.Stop.TheVariants as stops
use Rattle.loom_text.specs.declared.read.symbol.Symbol.TheVariants as signs
use Rattle.loom_text.specs.declared.test.Location.{Location}
use Rattle.loom_text.specs.declared.test.Term.{Term}
use Rattle.loom_text.specs.declared.test.Term.TheVariants as terms
use Rattle.loom_text.specs.declared.test.Thread.{Thread}
use Rattle.loom_text.specs.Conditions.{has_value, location_term, register_term}
use Rattle.loom_text.specs.Named.{location_named, register_named}
use Rattle.loom_text.specs.Question.{listed_term_at, terms_at}
use Rattle.loom_text.specs.Tokens.{Left, Stops, ◌>>=◌, is_next, passed}
use Rattle.loom_text.proofs.NameLemmas.{located_alike, location_there, named_alike, thread_there}

module _ (locations : List Located) (threads : List Names) where
  -- a step, where another term is read or isn't
  step : (n : ℕ) (terms : List Term) (left : Left) → is_next signs.CloseBracket left ≡ false
      → terms_at locations threads (suc n) terms left ≡ (listed_term_at locations threads left >>= λ term. terms_at locations threads n (terms ++ term.0 ∷ []) term.1)
  unfolding terms_at
  step n terms left more =
      ap (λ (b : Bool). cond b (Some (terms, passed left)) (listed_term_at locations threads left >>= λ term. terms_at locations threads n (terms ++ term.0 ∷ []) term.1)) more

  pub another_term : (count i : ℕ) (terms : List Term) (left behind : Left) (term : Term) (total : Option (List Term × Left)) → i < count → is_next signs.CloseBracket left ≡ false
      → listed_term_at locations threads left ≡ Some (term, behind) → terms_at locations threads (count - i) terms left ≡ total
      → terms_at locations threads (count - (i + 1)) (terms ++ term ∷ []) behind ≡ total
  another_term count i terms left behind term total lt more read so_far =
      let k : count - i ≡ suc (count - (i + 1)) = omega (arith, lt) in
      sym (ap (λ (n : ℕ). terms_at locations threads n terms left) k ∙ step (count - (i + 1)) terms left more
      ∙ ap (λ (o : Option (Term × Left)). o >>= λ term. terms_at locations threads (count - (i + 1)) (terms ++ term.0 ∷ []) term.1) read) ∙ so_far

  pub no_term : (e : Stop) (count i : ℕ) (terms : List Term) (left : Left) (total : Option (List Term × Left)) → i < count → is_next signs.CloseBracket left ≡ false
      → Stops e (listed_term_at locations threads left) → terms_at locations threads (count - i) terms left ≡ total → Stops e total
  no_term stops.Memory count i terms left total lt more read so_far = tt
  no_term (stops.At problem start end) count i terms left total lt more read so_far =
      let k : count - i ≡ suc (count - (i + 1)) = omega (arith, lt) in
      sym so_far ∙ ap (λ (n : ℕ). terms_at locations threads n terms left) k ∙ step (count - (i + 1)) terms left more
      ∙ ap (λ (o : Option (Term × Left)). o >>= λ term. terms_at locations threads (count - (i + 1)) (terms ++ term.0 ∷ []) term.1) read

  pub last_term : (count i : ℕ) (terms : List Term) (left : Left) (total : Option (List Term × Left)) → i < count → is_next signs.CloseBracket left ≡ true
      → terms_at locations threads (count - i) terms left ≡ total → total ≡ Some (terms, passed left)
  unfolding terms_at
  last_term count i terms left total lt last so_far =
      let k : count - i ≡ suc (count - (i + 1)) = omega (arith, lt) in
      sym so_far ∙ ap (λ (n : ℕ). terms_at locations threads n terms left) k
      ∙ ap (λ (b : Bool). cond b (Some (terms, passed left)) (listed_term_at locations threads left >>= λ term. terms_at locations threads (count - (i + 1)) (terms ++ term.0 ∷ []) term.1)) last

  pub no_tokens : (count i : ℕ) (terms : List Term) (left : Left) (total : Option (List Term × Left)) → count ≤ i → terms_at locations threads (count - i) terms left ≡ total → total ≡ None
  unfolding terms_at
  no_tokens count i terms left total le so_far =
      let k : count - i ≡ 0 = omega (arith, le) in
      sym so_far ∙ ap (λ (n : ℕ). terms_at locations threads n terms left) k

-- ---- a register of a thread, looked up among the threads

module _ (threads : List Thread) (n : ℕ) (name : List ℕ) where
  pub no_thread : slice_get threads n ≡ None → register_term (map registers_of threads) n name ≡ None
  no_thread e = rw (thread_there threads n, e) refl

  module _ (found : Thread) (there : slice_get threads n ≡ Some found) where
    looked_up : register_term (map registers_of threads) n name ≡ (named_in (registers_of found) name >>= λ register. Some (terms.Register n register))
    looked_up = rw (thread_there threads n, there) refl

    pub no_register : register_named found.registers.items name ≡ None → register_term (map registers_of threads) n name ≡ None
    no_register e = looked_up ∙ rw (sym (named_alike found.registers.items name) ∙ e) refl

    pub is_register : (register : ℕ) → register_named found.registers.items name ≡ Some register → register_term (map registers_of threads) n name ≡ Some (terms.Register n register)
    is_register register e = looked_up ∙ rw (sym (named_alike found.registers.items name) ∙ e) refl

-- ---- a location, looked up among the locations

pub looked_up_location : (locations : List Location) (name : List ℕ) (n : ℕ) (location : Location) → location_named locations name ≡ Some n → slice_get locations n ≡ Some location
    → location_term (map located locations) name ≡ has_value location.kind n
looked_up_location locations name n location named there =
    let found : location_in (map located locations) name ≡ Some n = sym (located_alike locations name) ∙ named in
    let here : slice_get (map located locations) n ≡ Some (located location) = location_there locations n ∙ ap (λ (o : Option Location). option_map located o) there in
    rw (found, here) refl

pub no_location : (locations : List Location) (name : List ℕ) → location_named locations name ≡ None → location_term (map located locations) name ≡ None
no_location locations name none =
    let nowhere : location_in (map located locations) name ≡ None = sym (located_alike locations name) ∙ none in
    rw nowhere refl
