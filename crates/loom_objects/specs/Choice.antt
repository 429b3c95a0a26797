-- A choice as a word: written, and read.
use Rattle.std.specs.Prelude.{ℕ, ◌-◌, ◌&&◌, ◌||◌, Bool, true, false, cond, ◌==◌, nat_lt, List, [], ◌∷◌, ◌++◌, Option, Some, None, codes, decimal}
use Rattle.std.specs.Char.{is_ascii_digit}
use Rattle.std.specs.Option.{option_map}
use Rattle.loom_objects.specs.declared.choice.Choice.{Choice}
use Rattle.loom_objects.specs.declared.choice.Choice.TheVariants.{Thread, Load, Spurious}
use Rattle.loom_objects.specs.World.{MAX_THREADS}

abbrev pub choice_text : Choice → List ℕ
choice_text (Thread None) = codes "t-"
choice_text (Thread (Some thread)) = codes "t" ++ decimal thread
choice_text (Load slot) = codes "l" ++ decimal slot
choice_text (Spurious false) = codes "s0"
choice_text (Spurious true) = codes "s1"

-- the number below the limit of which the sign is the digit
abbrev pub digit_below : ℕ → ℕ → Option ℕ
digit_below limit sign = cond (is_ascii_digit sign && nat_lt (sign - 48) limit) (Some (sign - 48)) None

-- `t0` to `t4`, `t-`, `l0` to `l6`, `s0`, `s1`: a letter and a sign
abbrev pub choice_in : ℕ → ℕ → Option Choice
choice_in letter sign =
    cond (letter == 116) (cond (sign == 45) (Some (Thread None)) (option_map (λ thread. Thread (Some thread)) (digit_below MAX_THREADS sign)))
    (cond (letter == 108) (option_map (λ slot. Load slot) (digit_below 7 sign))
    (cond (letter == 115) (cond (sign == 48) (Some (Spurious false)) (cond (sign == 49) (Some (Spurious true)) None))
    None))

-- the choice that a word names: it has a letter and a sign, and nothing more
abbrev pub choice_of : List ℕ → Option Choice
choice_of [] = None
choice_of (letter ∷ []) = None
choice_of (letter ∷ sign ∷ []) = choice_in letter sign
choice_of (letter ∷ sign ∷ more ∷ rest) = None

-- a space, a tab, or the end of a line
abbrev pub is_space : ℕ → Bool
is_space byte = (byte == 32) || (byte == 9) || (byte == 10) || (byte == 13)

-- a word ends here
abbrev pub word_ends : List ℕ → Bool
word_ends [] = true
word_ends (next ∷ rest) = is_space next

-- the choice of the word that begins with this letter
abbrev pub after_word : ℕ → List ℕ → Option Choice
after_word letter [] = None
after_word letter (sign ∷ rest) = cond (word_ends rest) (choice_in letter sign) None
