-- The fields of a word, and the words of nodes.
use Rattle.std.proofs.Common.{◌≡◌, ◌≤◌, ◌<◌, ◌⊎◌, ◌+◌, ◌-◌, ◌*◌, ◌/◌, ◌%◌, ◌^◌, ℕ, zero, suc, Bool, true, false, List, [], ◌∷◌, ◌++◌, length, map, take, get_or, set, Option, Some, None, refl, ap, ap₂, sym, ◌∙◌, subst, arith, inl, inr, mod-lt, mod-eq_of_lt, div-add-mod', add-mul}
use Rattle.std.specs.Prelude.{IfSome, IsSomeAnd, slice_get}
use Rattle.std.specs.Option.{option_map}
use Rattle.std.proofs.lemmas.Nat.{pow_pos, pow-add, shr-shr, field_of, div-mul-add, mod-mul-add, mul-add-lt, shl_whole, shr_below, one_shl}
use Rattle.std.proofs.Math.Pow.{mod-mod-pow}
use Rattle.loom_engine.specs.declared.rt.path.node.Status.{Status}
use Rattle.loom_engine.specs.declared.rt.path.node.Status.TheVariants.{Disabled, Skip, Yield, Pending, Active, Visited}
use Rattle.loom_engine.specs.declared.rt.path.node.Node.{Node}
use Rattle.loom_engine.specs.declared.rt.path.node.Node.TheVariants as node
use Rattle.loom_engine.specs.declared.rt.path.node.Schedule.{Schedule}
use Rattle.loom_engine.specs.declared.rt.path.node.Load.{Load}
use Rattle.loom_engine.specs.declared.rt.path.node.Places.{Places}
use Rattle.loom_objects.specs.declared.choice.Choice.{Choice}
use Rattle.loom_engine.specs.Walk.Path.{Stored, advance}
use Rattle.loom_engine.specs.Path.Nodes.{seen, stored, IsWell, AreWell}
use Rattle.loom_engine.specs.Path.WellFormed.{bare, AreAlike}
use Rattle.loom_engine.specs.Path.Words.{bits, bit, beside, first_number, status_number, first_of, status_of, is_one, kind_in, schedule_in, node_in, choice_in, nodes_in, word_of, places_of, IsSet, IsFit, AreLaidOut}

-- ---- a word by its parts: what is below some bits, what they are, and what is above them

split : (w P N : ℕ) → (w / P / N * N + w / P % N) * P + w % P ≡ w
split w P N = ap (λ q. q * P + w % P) (div-add-mod' (w / P) N) ∙ div-add-mod' w P

regroup : (x b v a P n w : ℕ) → n + b * P ≡ w + v * P → (x + b) * P + a ≡ w → n ≡ (x + v) * P + a
regroup x b v a P n w e s = omega (arith, add-mul x b P, add-mul x v P, e, s)

pub field_here : (w r v h k n : ℕ) → r < 2 ^ k → v < 2 ^ n → w ≡ (h * 2 ^ n + v) * 2 ^ k + r → bits w k n ≡ v
field_here w r v h k n p q e =
    ap (λ m. m / 2 ^ k % 2 ^ n) e ∙ ap (λ m. m % 2 ^ n) (div-mul-add (h * 2 ^ n + v) (2 ^ k) r p) ∙ mod-mul-add h (2 ^ n) v q

-- ---- another number in some bits

module _ (low count number old new : ℕ) (fits : number < 2 ^ count) (sum : new + bits old low count * 2 ^ low ≡ old + number * 2 ^ low) where
  abbrev above : ℕ
  above = old / 2 ^ low / 2 ^ count

  abbrev below : ℕ
  below = old % 2 ^ low

  less : below < 2 ^ low
  less = mod-lt old (pow_pos low)

  new_is : new ≡ (above * 2 ^ count + number) * 2 ^ low + below
  new_is = regroup (above * 2 ^ count) (bits old low count) number below (2 ^ low) new old sum (split old (2 ^ low) (2 ^ count))

  new_high : new / 2 ^ low ≡ above * 2 ^ count + number
  new_high = ap (λ n. n / 2 ^ low) new_is ∙ div-mul-add (above * 2 ^ count + number) (2 ^ low) below less

  new_low : new % 2 ^ low ≡ below
  new_low = ap (λ n. n % 2 ^ low) new_is ∙ mod-mul-add (above * 2 ^ count + number) (2 ^ low) below less

  new_above : new / 2 ^ low / 2 ^ count ≡ above
  new_above = ap (λ n. n / 2 ^ count) new_high ∙ div-mul-add above (2 ^ count) number fits

  down : (w j : ℕ) → w / 2 ^ (low + count + j) ≡ w / 2 ^ low / 2 ^ count / 2 ^ j
  down w j = sym (ap (λ q. q / 2 ^ j) (shr-shr w low count) ∙ shr-shr w (low + count) j)

  higher : (j n : ℕ) → bits new (low + count + j) n ≡ bits old (low + count + j) n
  higher j n = ap (λ q. q % 2 ^ n) (down new j ∙ ap (λ q. q / 2 ^ j) new_above ∙ sym (down old j))

  cut : (w j m : ℕ) → j + m ≡ low → w % 2 ^ m ≡ w % 2 ^ low % 2 ^ m
  cut w j m e = sym (mod-mod-pow w j m) ∙ ap (λ i. w % 2 ^ i % 2 ^ m) e

  lower : (k n : ℕ) → k + n ≤ low → bits new k n ≡ bits old k n
  lower k n h =
      let e : low - (n + k) + (n + k) ≡ low = omega arith in
      sym (field_of new n k)
      ∙ ap (λ q. q / 2 ^ k) (cut new (low - (n + k)) (n + k) e ∙ ap (λ q. q % 2 ^ (n + k)) new_low ∙ sym (cut old (low - (n + k)) (n + k) e))
      ∙ field_of old n k

  elsewhere : (k n : ℕ) → (k + n ≤ low) ⊎ (low + count ≤ k) → bits new k n ≡ bits old k n
  elsewhere k n h = elim h [
    | inl b ↦ lower k n b
    | inr a ↦ (let e : k ≡ low + count + (k - (low + count)) = omega arith in ap (λ j. bits new j n) e ∙ higher (k - (low + count)) n ∙ sym (ap (λ j. bits old j n) e))
  ]

  pub is_set : IsSet low count number old new
  is_set = record {
    read = ap (λ n. n % 2 ^ count) new_high ∙ mod-mul-add above (2 ^ count) number fits;
    others = elsewhere;
    sum = sum;
  }

  pub still_fits : low + count ≤ 64 → old < 2 ^ 64 → new < 2 ^ 64
  still_fits within h =
      let j = 64 - (low + count) in
      let whole : j + (low + count) ≡ 64 = omega arith in
      let all : low + (count + j) ≡ 64 = omega arith in
      let few : above < 2 ^ j = subst (λ n. n < 2 ^ j) (sym (shr-shr old low count)) (shr_below old j (low + count) (subst (λ m. old < 2 ^ m) (sym whole) h)) in
      let middle : above * 2 ^ count + number < 2 ^ count * 2 ^ j = mul-add-lt above (2 ^ count) number (2 ^ j) few fits in
      let size : 2 ^ low * (2 ^ count * 2 ^ j) ≡ 2 ^ 64 =
      ap (λ m. 2 ^ low * m) (sym (pow-add 2 count j)) ∙ sym (pow-add 2 low (count + j)) ∙ ap (λ m. 2 ^ m) all in
      subst (λ m. m < 2 ^ 64) (sym new_is)
      (subst (λ m. (above * 2 ^ count + number) * 2 ^ low + below < m) size (mul-add-lt (above * 2 ^ count + number) (2 ^ low) below (2 ^ count * 2 ^ j) middle less))

-- the bits are taken out, and the number is put there
pub whole_number : (count number : ℕ) → count < 64 → number < 2 ^ count → number % (1 * 2 ^ count % 2 ^ 64) ≡ number
whole_number count number few fits = ap (λ m. number % m) (one_shl count 64 few) ∙ mod-eq_of_lt fits

module _ (low count number word b : ℕ) (within : low + count ≤ 64) (fits : number < 2 ^ count) (is : b ≡ bits word low count) where
  small : b < 2 ^ count
  small = subst (λ n. n < 2 ^ count) (sym is) (mod-lt (word / 2 ^ low) (pow_pos count))

  taken : b * 2 ^ low % 2 ^ 64 ≡ b * 2 ^ low
  taken = shl_whole b count low 64 small (omega arith)

  put : number * 2 ^ low % 2 ^ 64 ≡ number * 2 ^ low
  put = shl_whole number count low 64 fits (omega arith)

  pub no_less : b * 2 ^ low % 2 ^ 64 ≤ word
  no_less =
      let whole = split word (2 ^ low) (2 ^ count) in
      let parts = add-mul (word / 2 ^ low / 2 ^ count * 2 ^ count) (word / 2 ^ low % 2 ^ count) (2 ^ low) in
      let same : b * 2 ^ low ≡ word / 2 ^ low % 2 ^ count * 2 ^ low = ap (λ n. n * 2 ^ low) is in
      omega (arith, whole, parts, same, taken)

  pub sum_of : word - b * 2 ^ low % 2 ^ 64 + number * 2 ^ low % 2 ^ 64 + bits word low count * 2 ^ low ≡ word + number * 2 ^ low
  sum_of =
      let same : b * 2 ^ low ≡ bits word low count * 2 ^ low = ap (λ n. n * 2 ^ low) is in
      omega (arith, no_less, taken, put, same)

-- ---- the numbers of a node's parts

pub bit_small : (b : Bool) → bit b < 2
bit_small true = omega arith
bit_small false = omega arith

pub first_small : (first : Option ℕ) → IfSome first (λ thread. thread < 7) → first_number first < 8
first_small None h = omega arith
first_small (Some thread) h = omega (arith, h)

pub status_small : (s : Status) → status_number s < 8
status_small Disabled = omega arith
status_small Skip = omega arith
status_small Yield = omega arith
status_small Pending = omega arith
status_small Active = omega arith
status_small Visited = omega arith

one_of_bit : (b : Bool) → is_one (bit b) ≡ b
one_of_bit true = refl
one_of_bit false = refl

status_back : (s : Status) → status_of (status_number s) ≡ s
status_back Disabled = refl
status_back Skip = refl
status_back Yield = refl
status_back Pending = refl
status_back Active = refl
status_back Visited = refl

first_back : (first : Option ℕ) → IfSome first (λ thread. thread < 7) → first_of (first_number first) ≡ first
first_back None h = refl
first_back (Some zero) h = refl
first_back (Some (suc zero)) h = refl
first_back (Some (suc (suc zero))) h = refl
first_back (Some (suc (suc (suc zero)))) h = refl
first_back (Some (suc (suc (suc (suc zero))))) h = refl
first_back (Some (suc (suc (suc (suc (suc zero)))))) h = refl
first_back (Some (suc (suc (suc (suc (suc (suc zero))))))) h = refl
first_back (Some (suc (suc (suc (suc (suc (suc (suc n)))))))) h = absurd (omega (arith, h))

-- ---- the node of a word that was laid out

module _ (e f a b c d g p w : ℕ) (es : e < 2) (fs : f < 8) (ass : a < 8) (bs : b < 8) (cs : c < 8) (ds : d < 8) (gs : g < 8) (ps : p < 2 ^ 32)
    (is : w ≡ 0 + 2 ^ 2 * e + 2 ^ 3 * f + 2 ^ 6 * (a + 2 ^ 3 * (b + 2 ^ 3 * (c + 2 ^ 3 * (d + 2 ^ 3 * (g + 2 ^ 3 * 0))))) + 2 ^ 32 * p) where
  pub kind_at : bits w 0 2 ≡ 0
  kind_at = field_here w 0 0 (e + 2 * f + 16 * (a + 8 * (b + 8 * (c + 8 * (d + 8 * g)))) + 1073741824 * p) 0 2 (omega arith) (omega arith) (omega arith)

  pub explores_at : bits w 2 1 ≡ e
  explores_at = field_here w 0 e (f + 8 * (a + 8 * (b + 8 * (c + 8 * (d + 8 * g)))) + 536870912 * p) 2 1 (omega arith) (omega arith) (omega arith)

  pub first_at : bits w 3 3 ≡ f
  first_at = field_here w (4 * e) f (a + 8 * (b + 8 * (c + 8 * (d + 8 * g))) + 67108864 * p) 3 3 (omega arith) (omega arith) (omega arith)

  pub status_0_at : bits w 6 3 ≡ a
  status_0_at = field_here w (4 * e + 8 * f) a (b + 8 * (c + 8 * (d + 8 * g)) + 8388608 * p) 6 3 (omega arith) (omega arith) (omega arith)

  pub status_1_at : bits w 9 3 ≡ b
  status_1_at = field_here w (4 * e + 8 * f + 64 * a) b (c + 8 * (d + 8 * g) + 1048576 * p) 9 3 (omega arith) (omega arith) (omega arith)

  pub status_2_at : bits w 12 3 ≡ c
  status_2_at = field_here w (4 * e + 8 * f + 64 * (a + 8 * b)) c (d + 8 * g + 131072 * p) 12 3 (omega arith) (omega arith) (omega arith)

  pub status_3_at : bits w 15 3 ≡ d
  status_3_at = field_here w (4 * e + 8 * f + 64 * (a + 8 * (b + 8 * c))) d (g + 16384 * p) 15 3 (omega arith) (omega arith) (omega arith)

  pub status_4_at : bits w 18 3 ≡ g
  status_4_at = field_here w (4 * e + 8 * f + 64 * (a + 8 * (b + 8 * (c + 8 * d)))) g (2048 * p) 18 3 (omega arith) (omega arith) (omega arith)

  pub preemptions_at : bits w 32 32 ≡ p
  preemptions_at = field_here w (4 * e + 8 * f + 64 * (a + 8 * (b + 8 * (c + 8 * (d + 8 * g))))) p 0 32 32 (omega arith) (omega arith) (omega arith)

module _ (e a b c d f g h p w : ℕ) (es : e < 2) (asss : a < 2) (bs : b < 2) (cs : c < 2) (ds : d < 2) (fs : f < 2) (gs : g < 2) (hs : h < 2) (ps : p < 8)
    (is : w ≡ 1 + 2 ^ 2 * e + 2 ^ 3 * (a + 2 ^ 1 * (b + 2 ^ 1 * (c + 2 ^ 1 * (d + 2 ^ 1 * (f + 2 ^ 1 * (g + 2 ^ 1 * (h + 2 ^ 1 * 0))))))) + 2 ^ 10 * p) where
  pub load_kind_at : bits w 0 2 ≡ 1
  load_kind_at = field_here w 0 1 (e + 2 * (a + 2 * (b + 2 * (c + 2 * (d + 2 * (f + 2 * (g + 2 * h)))))) + 256 * p) 0 2 (omega arith) (omega arith) (omega arith)

  pub load_explores_at : bits w 2 1 ≡ e
  load_explores_at = field_here w 1 e (a + 2 * (b + 2 * (c + 2 * (d + 2 * (f + 2 * (g + 2 * h))))) + 128 * p) 2 1 (omega arith) (omega arith) (omega arith)

  pub slot_0_at : bits w 3 1 ≡ a
  slot_0_at = field_here w (1 + 4 * e) a (b + 2 * (c + 2 * (d + 2 * (f + 2 * (g + 2 * h)))) + 64 * p) 3 1 (omega arith) (omega arith) (omega arith)

  pub slot_1_at : bits w 4 1 ≡ b
  slot_1_at = field_here w (1 + 4 * e + 8 * a) b (c + 2 * (d + 2 * (f + 2 * (g + 2 * h))) + 32 * p) 4 1 (omega arith) (omega arith) (omega arith)

  pub slot_2_at : bits w 5 1 ≡ c
  slot_2_at = field_here w (1 + 4 * e + 8 * (a + 2 * b)) c (d + 2 * (f + 2 * (g + 2 * h)) + 16 * p) 5 1 (omega arith) (omega arith) (omega arith)

  pub slot_3_at : bits w 6 1 ≡ d
  slot_3_at = field_here w (1 + 4 * e + 8 * (a + 2 * (b + 2 * c))) d (f + 2 * (g + 2 * h) + 8 * p) 6 1 (omega arith) (omega arith) (omega arith)

  pub slot_4_at : bits w 7 1 ≡ f
  slot_4_at = field_here w (1 + 4 * e + 8 * (a + 2 * (b + 2 * (c + 2 * d)))) f (g + 2 * h + 4 * p) 7 1 (omega arith) (omega arith) (omega arith)

  pub slot_5_at : bits w 8 1 ≡ g
  slot_5_at = field_here w (1 + 4 * e + 8 * (a + 2 * (b + 2 * (c + 2 * (d + 2 * f))))) g (h + 2 * p) 8 1 (omega arith) (omega arith) (omega arith)

  pub slot_6_at : bits w 9 1 ≡ h
  slot_6_at = field_here w (1 + 4 * e + 8 * (a + 2 * (b + 2 * (c + 2 * (d + 2 * (f + 2 * g)))))) h p 9 1 (omega arith) (omega arith) (omega arith)

  pub position_at : bits w 10 3 ≡ p
  position_at = field_here w (1 + 4 * e + 8 * (a + 2 * (b + 2 * (c + 2 * (d + 2 * (f + 2 * (g + 2 * h))))))) p 0 10 3 (omega arith) (omega arith) (omega arith)

pub schedule_back : (n : Schedule) → IsFit (node.Schedule n) → n.preemptions < 2 ^ 32 → node_in (word_of (node.Schedule n)) (places_of (node.Schedule n)) ≡ node.Schedule n
schedule_back n h p = five n.statuses h.0
  where
    five : (l : List Status) → length l ≡ 5 → node_in (word_of (node.Schedule (record n { statuses = l }))) (places_of (node.Schedule n)) ≡ node.Schedule (record n { statuses = l })
    five (a ∷ b ∷ c ∷ d ∷ g ∷ []) q =
        let w = word_of (node.Schedule (record n { statuses = a ∷ b ∷ c ∷ d ∷ g ∷ [] })) in
        let e = bit n.exploring in
        let f = first_number n.first in
        let es = bit_small n.exploring in
        let fs = first_small n.first h.1 in
        let ass = status_small a in
        let bs = status_small b in
        let cs = status_small c in
        let ds = status_small d in
        let gs = status_small g in
        let k = kind_at e f (status_number a) (status_number b) (status_number c) (status_number d) (status_number g) n.preemptions w es fs ass bs cs ds gs p refl in
        let at_e = explores_at e f (status_number a) (status_number b) (status_number c) (status_number d) (status_number g) n.preemptions w es fs ass bs cs ds gs p refl in
        let at_f = first_at e f (status_number a) (status_number b) (status_number c) (status_number d) (status_number g) n.preemptions w es fs ass bs cs ds gs p refl in
        let at_a = status_0_at e f (status_number a) (status_number b) (status_number c) (status_number d) (status_number g) n.preemptions w es fs ass bs cs ds gs p refl in
        let at_b = status_1_at e f (status_number a) (status_number b) (status_number c) (status_number d) (status_number g) n.preemptions w es fs ass bs cs ds gs p refl in
        let at_c = status_2_at e f (status_number a) (status_number b) (status_number c) (status_number d) (status_number g) n.preemptions w es fs ass bs cs ds gs p refl in
        let at_d = status_3_at e f (status_number a) (status_number b) (status_number c) (status_number d) (status_number g) n.preemptions w es fs ass bs cs ds gs p refl in
        let at_g = status_4_at e f (status_number a) (status_number b) (status_number c) (status_number d) (status_number g) n.preemptions w es fs ass bs cs ds gs p refl in
        let at_p = preemptions_at e f (status_number a) (status_number b) (status_number c) (status_number d) (status_number g) n.preemptions w es fs ass bs cs ds gs p refl in
        ap (λ j. kind_in j w (places_of (node.Schedule n))) k
        ∙ (λ i. node.Schedule (record {
          preemptions = at_p i;
          switch = n.switch;
          nearest = n.nearest;
          first = (ap first_of at_f ∙ first_back n.first h.1) i;
          exploring = (ap is_one at_e ∙ one_of_bit n.exploring) i;
          statuses = (ap status_of at_a ∙ status_back a) i ∷ (ap status_of at_b ∙ status_back b) i ∷ (ap status_of at_c ∙ status_back c) i ∷ (ap status_of at_d ∙ status_back d) i ∷ (ap status_of at_g ∙ status_back g) i ∷ [];
        }))
    five [] q = absurd (omega arith)
    five (a ∷ []) q = absurd (omega arith)
    five (a ∷ b ∷ []) q = absurd (omega arith)
    five (a ∷ b ∷ c ∷ []) q = absurd (omega arith)
    five (a ∷ b ∷ c ∷ d ∷ []) q = absurd (omega arith)
    five (a ∷ b ∷ c ∷ d ∷ g ∷ x ∷ l) q = absurd (omega arith)

pub load_back : (n : Load) → IsFit (node.Load n) → (places : Places) → node_in (word_of (node.Load n)) places ≡ node.Load n
load_back n fit places = seven n.readable fit.0
  where
    seven : (l : List Bool) → length l ≡ 7 → node_in (word_of (node.Load (record n { readable = l }))) places ≡ node.Load (record n { readable = l })
    seven (a ∷ b ∷ c ∷ d ∷ f ∷ g ∷ h ∷ []) q =
        let w = word_of (node.Load (record n { readable = a ∷ b ∷ c ∷ d ∷ f ∷ g ∷ h ∷ [] })) in
        let e = bit n.exploring in
        let es = bit_small n.exploring in
        let ass = bit_small a in
        let bs = bit_small b in
        let cs = bit_small c in
        let ds = bit_small d in
        let fs = bit_small f in
        let gs = bit_small g in
        let hs = bit_small h in
        let k = load_kind_at e (bit a) (bit b) (bit c) (bit d) (bit f) (bit g) (bit h) n.position w es ass bs cs ds fs gs hs fit.1 refl in
        let at_e = load_explores_at e (bit a) (bit b) (bit c) (bit d) (bit f) (bit g) (bit h) n.position w es ass bs cs ds fs gs hs fit.1 refl in
        let at_a = slot_0_at e (bit a) (bit b) (bit c) (bit d) (bit f) (bit g) (bit h) n.position w es ass bs cs ds fs gs hs fit.1 refl in
        let at_b = slot_1_at e (bit a) (bit b) (bit c) (bit d) (bit f) (bit g) (bit h) n.position w es ass bs cs ds fs gs hs fit.1 refl in
        let at_c = slot_2_at e (bit a) (bit b) (bit c) (bit d) (bit f) (bit g) (bit h) n.position w es ass bs cs ds fs gs hs fit.1 refl in
        let at_d = slot_3_at e (bit a) (bit b) (bit c) (bit d) (bit f) (bit g) (bit h) n.position w es ass bs cs ds fs gs hs fit.1 refl in
        let at_f = slot_4_at e (bit a) (bit b) (bit c) (bit d) (bit f) (bit g) (bit h) n.position w es ass bs cs ds fs gs hs fit.1 refl in
        let at_g = slot_5_at e (bit a) (bit b) (bit c) (bit d) (bit f) (bit g) (bit h) n.position w es ass bs cs ds fs gs hs fit.1 refl in
        let at_h = slot_6_at e (bit a) (bit b) (bit c) (bit d) (bit f) (bit g) (bit h) n.position w es ass bs cs ds fs gs hs fit.1 refl in
        let at_p = position_at e (bit a) (bit b) (bit c) (bit d) (bit f) (bit g) (bit h) n.position w es ass bs cs ds fs gs hs fit.1 refl in
        ap (λ j. kind_in j w places) k
        ∙ (λ i. node.Load (record {
          exploring = (ap is_one at_e ∙ one_of_bit n.exploring) i;
          readable = (ap is_one at_a ∙ one_of_bit a) i ∷ (ap is_one at_b ∙ one_of_bit b) i ∷ (ap is_one at_c ∙ one_of_bit c) i ∷ (ap is_one at_d ∙ one_of_bit d) i
              ∷ (ap is_one at_f ∙ one_of_bit f) i ∷ (ap is_one at_g ∙ one_of_bit g) i ∷ (ap is_one at_h ∙ one_of_bit h) i ∷ [];
          position = at_p i;
        }))
    seven [] q = absurd (omega arith)
    seven (a ∷ []) q = absurd (omega arith)
    seven (a ∷ b ∷ []) q = absurd (omega arith)
    seven (a ∷ b ∷ c ∷ []) q = absurd (omega arith)
    seven (a ∷ b ∷ c ∷ d ∷ []) q = absurd (omega arith)
    seven (a ∷ b ∷ c ∷ d ∷ f ∷ []) q = absurd (omega arith)
    seven (a ∷ b ∷ c ∷ d ∷ f ∷ g ∷ []) q = absurd (omega arith)
    seven (a ∷ b ∷ c ∷ d ∷ f ∷ g ∷ h ∷ x ∷ l) q = absurd (omega arith)

-- ---- lists of words

pub laid_length : (ws : List ℕ) (ps : List Places) → AreLaidOut ws ps → length ws ≡ length ps
laid_length [] [] h = refl
laid_length [] (p ∷ ps) h = absurd h
laid_length (w ∷ ws) [] h = absurd h
laid_length (w ∷ ws) (p ∷ ps) h = ap suc (laid_length ws ps h.1)

pub laid_nodes : (ws : List ℕ) (ps : List Places) → AreLaidOut ws ps → length (nodes_in ws ps) ≡ length ws
laid_nodes [] ps h = refl
laid_nodes (w ∷ ws) [] h = absurd h
laid_nodes (w ∷ ws) (p ∷ ps) h = ap suc (laid_nodes ws ps h.1)

pub laid_words : (ws : List ℕ) (ps : List Places) → AreLaidOut ws ps → ws ≡ map word_of (nodes_in ws ps)
laid_words [] ps h = refl
laid_words (w ∷ ws) [] h = absurd h
laid_words (w ∷ ws) (p ∷ ps) h = ap₂ (λ (v : ℕ) (vs : List ℕ). v ∷ vs) (sym h.0) (laid_words ws ps h.1)

pub laid_got : (ws : List ℕ) (ps : List Places) (i : ℕ) (w : ℕ) (p : Places) → AreLaidOut ws ps → i < length ws → w ≡ get_or ws i w → p ≡ get_or ps i p
    → node_in w p ≡ get_or (nodes_in ws ps) i (node_in w p)
laid_got [] ps i w p h l e d = absurd (omega arith)
laid_got (v ∷ ws) [] i w p h l e d = absurd h
laid_got (v ∷ ws) (q ∷ ps) zero w p h l e d = ap₂ node_in e d
laid_got (v ∷ ws) (q ∷ ps) (suc i) w p h l e d = laid_got ws ps i w p h.1 (omega arith) e d

pub laid_set : (ws : List ℕ) (ps : List Places) (i : ℕ) (w : ℕ) (p : Places) → AreLaidOut ws ps → word_of (node_in w p) ≡ w → AreLaidOut (set ws i w) (set ps i p)
laid_set [] [] i w p h e = tt
laid_set [] (q ∷ ps) i w p h e = absurd h
laid_set (v ∷ ws) [] i w p h e = absurd h
laid_set (v ∷ ws) (q ∷ ps) zero w p h e = (e, h.1)
laid_set (v ∷ ws) (q ∷ ps) (suc i) w p h e = (h.0, laid_set ws ps i w p h.1 e)

pub nodes_set : (ws : List ℕ) (ps : List Places) (i : ℕ) (w : ℕ) (p : Places) → AreLaidOut ws ps → nodes_in (set ws i w) (set ps i p) ≡ set (nodes_in ws ps) i (node_in w p)
nodes_set [] [] i w p h = refl
nodes_set [] (q ∷ ps) i w p h = absurd h
nodes_set (v ∷ ws) [] i w p h = absurd h
nodes_set (v ∷ ws) (q ∷ ps) zero w p h = refl
nodes_set (v ∷ ws) (q ∷ ps) (suc i) w p h = ap (λ (l : List Node). node_in v q ∷ l) (nodes_set ws ps i w p h.1)

pub laid_more : (ws : List ℕ) (ps : List Places) (w : ℕ) (p : Places) → AreLaidOut ws ps → word_of (node_in w p) ≡ w → AreLaidOut (ws ++ w ∷ []) (ps ++ p ∷ [])
laid_more [] [] w p h e = (e, tt)
laid_more [] (q ∷ ps) w p h e = absurd h
laid_more (v ∷ ws) [] w p h e = absurd h
laid_more (v ∷ ws) (q ∷ ps) w p h e = (h.0, laid_more ws ps w p h.1 e)

pub nodes_more : (ws : List ℕ) (ps : List Places) (w : ℕ) (p : Places) → AreLaidOut ws ps → nodes_in (ws ++ w ∷ []) (ps ++ p ∷ []) ≡ nodes_in ws ps ++ node_in w p ∷ []
nodes_more [] [] w p h = refl
nodes_more [] (q ∷ ps) w p h = absurd h
nodes_more (v ∷ ws) [] w p h = absurd h
nodes_more (v ∷ ws) (q ∷ ps) w p h = ap (λ (l : List Node). node_in v q ∷ l) (nodes_more ws ps w p h.1)

pub laid_front : (ws : List ℕ) (ps : List Places) (i : ℕ) → AreLaidOut ws ps → AreLaidOut (take i ws) (take i ps)
laid_front ws ps zero h = tt
laid_front [] [] (suc i) h = tt
laid_front [] (q ∷ ps) (suc i) h = absurd h
laid_front (v ∷ ws) [] (suc i) h = absurd h
laid_front (v ∷ ws) (q ∷ ps) (suc i) h = (h.0, laid_front ws ps i h.1)

pub nodes_front : (ws : List ℕ) (ps : List Places) (i : ℕ) → AreLaidOut ws ps → nodes_in (take i ws) (take i ps) ≡ take i (nodes_in ws ps)
nodes_front ws ps zero h = refl
nodes_front [] [] (suc i) h = refl
nodes_front [] (q ∷ ps) (suc i) h = absurd h
nodes_front (v ∷ ws) [] (suc i) h = absurd h
nodes_front (v ∷ ws) (q ∷ ps) (suc i) h = ap (λ (l : List Node). node_in v q ∷ l) (nodes_front ws ps i h.1)

-- ---- how large the parts of a node can be

pub statuses_small : (l : List Status) → length l ≡ 5 → beside 3 (map status_number l) < 2 ^ 15
statuses_small (a ∷ b ∷ c ∷ d ∷ g ∷ []) h = omega (arith, status_small a, status_small b, status_small c, status_small d, status_small g)
statuses_small [] h = omega arith
statuses_small (a ∷ []) h = absurd (omega arith)
statuses_small (a ∷ b ∷ []) h = absurd (omega arith)
statuses_small (a ∷ b ∷ c ∷ []) h = absurd (omega arith)
statuses_small (a ∷ b ∷ c ∷ d ∷ []) h = absurd (omega arith)
statuses_small (a ∷ b ∷ c ∷ d ∷ g ∷ x ∷ l) h = absurd (omega arith)

pub slots_small : (l : List Bool) → length l ≡ 7 → beside 1 (map bit l) < 2 ^ 7
slots_small (a ∷ b ∷ c ∷ d ∷ f ∷ g ∷ k ∷ []) h = omega (arith, bit_small a, bit_small b, bit_small c, bit_small d, bit_small f, bit_small g, bit_small k)
slots_small [] h = omega arith
slots_small (a ∷ []) h = absurd (omega arith)
slots_small (a ∷ b ∷ []) h = absurd (omega arith)
slots_small (a ∷ b ∷ c ∷ []) h = absurd (omega arith)
slots_small (a ∷ b ∷ c ∷ d ∷ []) h = absurd (omega arith)
slots_small (a ∷ b ∷ c ∷ d ∷ f ∷ []) h = absurd (omega arith)
slots_small (a ∷ b ∷ c ∷ d ∷ f ∷ g ∷ []) h = absurd (omega arith)
slots_small (a ∷ b ∷ c ∷ d ∷ f ∷ g ∷ k ∷ x ∷ l) h = absurd (omega arith)

-- ---- a node's list of parts, one by one

pub statuses_listed : (l : List Status) (d : Status) → length l ≡ 5 → beside 3 (map status_number l)
    ≡ status_number (get_or l 0 d) + 8 * (status_number (get_or l 1 d) + 8 * (status_number (get_or l 2 d) + 8 * (status_number (get_or l 3 d) + 8 * status_number (get_or l 4 d))))
statuses_listed (a ∷ b ∷ c ∷ e ∷ g ∷ []) d h = omega arith
statuses_listed [] d h = absurd (omega arith)
statuses_listed (a ∷ []) d h = absurd (omega arith)
statuses_listed (a ∷ b ∷ []) d h = absurd (omega arith)
statuses_listed (a ∷ b ∷ c ∷ []) d h = absurd (omega arith)
statuses_listed (a ∷ b ∷ c ∷ e ∷ []) d h = absurd (omega arith)
statuses_listed (a ∷ b ∷ c ∷ e ∷ g ∷ x ∷ l) d h = absurd (omega arith)

pub slots_listed : (l : List Bool) (d : Bool) → length l ≡ 7 → beside 1 (map bit l)
    ≡ bit (get_or l 0 d) + 2 * (bit (get_or l 1 d) + 2 * (bit (get_or l 2 d) + 2 * (bit (get_or l 3 d) + 2 * (bit (get_or l 4 d) + 2 * (bit (get_or l 5 d) + 2 * bit (get_or l 6 d))))))
slots_listed (a ∷ b ∷ c ∷ e ∷ f ∷ g ∷ k ∷ []) d h = omega arith
slots_listed [] d h = absurd (omega arith)
slots_listed (a ∷ []) d h = absurd (omega arith)
slots_listed (a ∷ b ∷ []) d h = absurd (omega arith)
slots_listed (a ∷ b ∷ c ∷ []) d h = absurd (omega arith)
slots_listed (a ∷ b ∷ c ∷ e ∷ []) d h = absurd (omega arith)
slots_listed (a ∷ b ∷ c ∷ e ∷ f ∷ []) d h = absurd (omega arith)
slots_listed (a ∷ b ∷ c ∷ e ∷ f ∷ g ∷ []) d h = absurd (omega arith)
slots_listed (a ∷ b ∷ c ∷ e ∷ f ∷ g ∷ k ∷ x ∷ l) d h = absurd (omega arith)

-- ---- the same words

alike_kind : (k w : ℕ) (p q : Places) → bare (kind_in k w p) ≡ bare (kind_in k w q)
alike_kind zero w p q = refl
alike_kind (suc zero) w p q = refl
alike_kind (suc (suc n)) w p q = refl

-- nodes of the same words are the same, but for their notes
alike_words : (ws : List ℕ) (ps qs : List Places) → AreLaidOut ws ps → AreLaidOut ws qs → AreAlike (nodes_in ws ps) (nodes_in ws qs)
alike_words [] ps qs h k = refl
alike_words (w ∷ ws) [] qs h k = absurd h
alike_words (w ∷ ws) (p ∷ ps) [] h k = absurd k
alike_words (w ∷ ws) (p ∷ ps) (q ∷ qs) h k = ap₂ (λ (n : Node) (l : List Node). n ∷ l) (alike_kind (bits w 0 2) w p q) (alike_words ws ps qs h.1 k.1)

pub same_words : (ws vs : List ℕ) (ps qs : List Places) → ws ≡ vs → AreLaidOut ws ps → AreLaidOut vs qs → AreAlike (nodes_in ws ps) (nodes_in vs qs)
same_words ws vs ps qs e h k =
    subst (λ (us : List ℕ). AreAlike (nodes_in ws ps) (nodes_in us qs)) e (alike_words ws ps qs h (subst (λ (us : List ℕ). AreLaidOut us qs) (sym e) k))

-- ---- what was chosen there

pub laid_choice : (ws : List ℕ) (ps : List Places) (i w : ℕ) (x : Choice) → AreLaidOut ws ps → i < length ws → w ≡ get_or ws i w
    → ((p : Places) → x ≡ (seen (node_in w p)).present) → option_map (λ (n : Stored). n.present) (slice_get (stored (nodes_in ws ps)) i) ≡ Some x
laid_choice [] ps i w x h l e c = absurd (omega arith)
laid_choice (v ∷ ws) [] i w x h l e c = absurd h
laid_choice (v ∷ ws) (p ∷ ps) zero w x h l e c = ap (λ (k : ℕ). Some (seen (node_in k p)).present) (sym e) ∙ ap Some (sym (c p))
laid_choice (v ∷ ws) (p ∷ ps) (suc i) w x h l e c = laid_choice ws ps i w x h.1 (omega arith) e c

-- ---- what is seen to have nothing left to try

-- whatever is beside a word, its node is well, or isn't
well_kind : (k w : ℕ) (p q : Places) → IsWell (kind_in k w p) → IsWell (kind_in k w q)
well_kind zero w p q h = h
well_kind (suc zero) w p q h = h
well_kind (suc (suc n)) w p q h = h

pub laid_well : (ws : List ℕ) (ps : List Places) (i w : ℕ) → AreLaidOut ws ps → i < length ws → w ≡ get_or ws i w → AreWell (nodes_in ws ps)
    → (q : Places) → IsWell (node_in w q)
laid_well [] ps i w h l e a q = absurd (omega arith)
laid_well (v ∷ ws) [] i w h l e a q = absurd h
laid_well (v ∷ ws) (p ∷ ps) zero w h l e a q = subst (λ (k : ℕ). IsWell (node_in k q)) (sym e) (well_kind (bits v 0 2) v p q a.0)
laid_well (v ∷ ws) (p ∷ ps) (suc i) w h l e a q = laid_well ws ps i w h.1 (omega arith) e a.1 q

pub laid_done : (ws : List ℕ) (ps : List Places) (i w : ℕ) → AreLaidOut ws ps → i < length ws → w ≡ get_or ws i w
    → ((p : Places) → advance (seen (node_in w p)) ≡ None) → IsSomeAnd (slice_get (stored (nodes_in ws ps)) i) (λ n. advance n ≡ None)
laid_done [] ps i w h l e d = absurd (omega arith)
laid_done (v ∷ ws) [] i w h l e d = absurd h
laid_done (v ∷ ws) (p ∷ ps) zero w h l e d = ap (λ (k : ℕ). advance (seen (node_in k p))) (sym e) ∙ d p
laid_done (v ∷ ws) (p ∷ ps) (suc i) w h l e d = laid_done ws ps i w h.1 (omega arith) e d

-- ---- the schedule that is there

schedule_of : (k w : ℕ) (p : Places) (n : Schedule) → kind_in k w p ≡ node.Schedule n → schedule_in w p ≡ n
schedule_of zero w p n e = cc e
schedule_of (suc zero) w p n e = absurd (cc e)
schedule_of (suc (suc k)) w p n e = absurd (cc e)

-- what holds of its word, whatever is beside that, holds of it
pub laid_schedule : (ws : List ℕ) (ps : List Places) (i w : ℕ) (n : Schedule) (A : Schedule → Type 0) → AreLaidOut ws ps → i < length ws → w ≡ get_or ws i w
    → slice_get (nodes_in ws ps) i ≡ Some (node.Schedule n) → ((p : Places) → A (schedule_in w p)) → A n
laid_schedule [] ps i w n A h l e s a = absurd (omega arith)
laid_schedule (v ∷ ws) [] i w n A h l e s a = absurd h
laid_schedule (v ∷ ws) (p ∷ ps) zero w n A h l e s a =
    let is : node_in v p ≡ node.Schedule n = cc s in
    subst A (ap (λ (k : ℕ). schedule_in k p) e ∙ schedule_of (bits v 0 2) v p n is) (a p)
laid_schedule (v ∷ ws) (p ∷ ps) (suc i) w n A h l e s a = laid_schedule ws ps i w n A h.1 (omega arith) e s a

choice_kind : (k w : ℕ) (p q : Places) → (seen (kind_in k w p)).present ≡ (seen (kind_in k w q)).present
choice_kind zero w p q = refl
choice_kind (suc zero) w p q = refl
choice_kind (suc (suc n)) w p q = refl

-- the choices at the first of the nodes that words are
pub laid_choices : (ws : List ℕ) (ps : List Places) (count : ℕ) → AreLaidOut ws ps → map choice_in (take count ws) ≡ map (λ (n : Node). (seen n).present) (take count (nodes_in ws ps))
laid_choices ws ps zero h = refl
laid_choices [] ps (suc count) h = refl
laid_choices (w ∷ ws) [] (suc count) h = absurd h
laid_choices (w ∷ ws) (p ∷ ps) (suc count) h =
    ap₂ (λ (c : Choice) (l : List Choice). c ∷ l) (choice_kind (bits w 0 2) w (record { switch = None; nearest = None }) p) (laid_choices ws ps count h.1)
