-- How many of a walk's runs differ, by hashes of their choices: no more than there are, and as many if no two of them have the same hash.
use Rattle.std.specs.Prelude.{ℕ, ◌≡◌, ◌+◌, ◌*◌, ◌%◌, ◌^◌, ◌⊎◌, ◌↔◌, Bool, true, false, List, [], ◌∷◌, length, Option, Some, None, IfSome, IsTrue, nat_eq}
use Rattle.std.specs.List.{IsDistinct, list_any}
use Rattle.loom_engine.specs.Walk.Lists.{Each, IsOnce, Member}
use Rattle.loom_objects.specs.declared.choice.Choice.{Choice}
use Rattle.loom_objects.specs.declared.choice.Choice.TheVariants.{Thread, Load, Spurious}

-- ---- a hash of choices

abbrev pub code_of : Choice → ℕ
code_of (Thread None) = 1
code_of (Thread (Some thread)) = 2 + thread
code_of (Load slot) = 300 + slot
code_of (Spurious false) = 600
code_of (Spurious true) = 601

abbrev pub step : ℕ → Choice → ℕ
step hash choice = ((hash * 6364136223846793005) % 2 ^ 64 + code_of choice) % 2 ^ 64

abbrev pub hash_from : ℕ → List Choice → ℕ
hash_from hash [] = hash
hash_from hash (choice ∷ choices) = hash_from (step hash choice) choices

abbrev pub hash_of : List Choice → ℕ
hash_of choices = hash_from 0 choices

-- ---- what is told of runs

-- one of the lists has this hash
abbrev pub HasHash : ℕ → List (List Choice) → Type 0
HasHash hash lists = (x : List Choice) × Member x lists × (hash_of x ≡ hash)

-- so many of the lists are different ones, and each list has the hash of one of these
pub record AreDifferent (count : ℕ) (lists : List (List Choice)) : Type 0 where
  pub some : List (List Choice)
  pub counted : length some ≡ count
  pub once : IsOnce some
  pub among : Each (λ x. Member x lists) some
  pub hashed : Each (λ x. HasHash (hash_of x) some) lists

-- how many of the lists are different ones, where that is known
abbrev pub TellsDifferent : Option ℕ → List (List Choice) → Type 0
TellsDifferent different lists = IfSome different (λ count. AreDifferent count lists)

-- two of the lists that have the same hash are the same
abbrev pub AreHashedApart : List (List Choice) → Type 0
AreHashedApart lists = (x y : List Choice) → Member x lists → Member y lists → hash_of x ≡ hash_of y → x ≡ y

-- Then those that are counted are all that there are.
abbrev pub AllDifferentLaw : Type 0
AllDifferentLaw = (count : ℕ) (lists : List (List Choice)) (told : AreDifferent count lists) → AreHashedApart lists → Each (λ x. Member x told.some) lists

-- ---- how they are counted

-- the hashes of the runs that came, each once; and whether their number is left out
pub record Counted : Type 0 where
  pub hashes : List ℕ
  pub is_left_out : Bool

-- it is one of them
abbrev pub Has : List ℕ → ℕ → Type 0
Has hashes hash = IsTrue (list_any (nat_eq hash) hashes)

-- A hash came: it is kept with those before, and no other one is, unless their number is left out from now on.
pub record Notes (hash : ℕ) (old new : Counted) : Type 0 where
  pub still : new.is_left_out ≡ false → old.is_left_out ≡ false
  pub noted : new.is_left_out ≡ false → (h : ℕ) → Has new.hashes h ↔ ((h ≡ hash) ⊎ Has old.hashes h)

-- the hashes of another count came
pub record Adds (other old new : Counted) : Type 0 where
  pub still : new.is_left_out ≡ false → (old.is_left_out ≡ false) × (other.is_left_out ≡ false)
  pub added : new.is_left_out ≡ false → (h : ℕ) → Has new.hashes h ↔ (Has other.hashes h ⊎ Has old.hashes h)

-- the hashes are those of these lists, unless their number is left out
abbrev pub Tells : Counted → List (List Choice) → Type 0
Tells d lists = d.is_left_out ≡ false → (h : ℕ) → Has d.hashes h ↔ HasHash h lists

-- how many there are, of which no two are the same
pub record IsCount (d : Counted) (count : ℕ) : Type 0 where
  pub counted : count ≡ length d.hashes
  pub once : IsDistinct nat_eq d.hashes
  pub all : d.is_left_out ≡ false
