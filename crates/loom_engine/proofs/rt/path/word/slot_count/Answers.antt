use Rattle.std.proofs.Common.{◌≡◌, ◌+◌, ℕ, suc, Bool, true, false, List, [], ◌∷◌, length, ap, arith}
use Rattle.loom_objects.specs.Tree.Stores.{slots, slots_from}
use Rattle.loom_engine.specs.Path.Words.{bit, may_read_in, readable_in}
use Rattle.loom_engine.proofs.rt.path.word.slot_count.Goals as goal

one : (b : Bool) (readable : List Bool) (k : ℕ) → length (slots_from k (b ∷ readable)) ≡ bit b + length (slots_from (suc k) readable)
one true readable k = omega arith
one false readable k = omega arith

seven : (a b c d e f g : Bool) → bit a + bit b + bit c + bit d + bit e + bit f + bit g ≡ length (slots_from 0 (a ∷ b ∷ c ∷ d ∷ e ∷ f ∷ g ∷ []))
seven a b c d e f g =
    omega (arith, one a (b ∷ c ∷ d ∷ e ∷ f ∷ g ∷ []) 0, one b (c ∷ d ∷ e ∷ f ∷ g ∷ []) 1, one c (d ∷ e ∷ f ∷ g ∷ []) 2, one d (e ∷ f ∷ g ∷ []) 3, one e (f ∷ g ∷ []) 4, one f (g ∷ []) 5, one g [] 6)

pub returns : goal.returns
returns c =
    let w = c.args.word in
    let whole : bit (may_read_in w 0) + bit (may_read_in w 1) + bit (may_read_in w 2) + bit (may_read_in w 3) + bit (may_read_in w 4) + bit (may_read_in w 5) + bit (may_read_in w 6) ≡ length (slots (readable_in w)) =
    seven (may_read_in w 0) (may_read_in w 1) (may_read_in w 2) (may_read_in w 3) (may_read_in w 4) (may_read_in w 5) (may_read_in w 6) in
    omega (
      arith,
      whole,
      c.number.ensures.number,
      c.number-2.ensures.number,
      c.number-3.ensures.number,
      c.number-4.ensures.number,
      c.number-5.ensures.number,
      c.number-6.ensures.number,
      c.number-7.ensures.number,
      ap bit c.may_read.ensures,
      ap bit c.may_read-2.ensures,
      ap bit c.may_read-3.ensures,
      ap bit c.may_read-4.ensures,
      ap bit c.may_read-5.ensures,
      ap bit c.may_read-6.ensures,
      ap bit c.may_read-7.ensures,
    )
