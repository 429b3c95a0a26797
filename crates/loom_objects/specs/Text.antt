-- Texts that are held in a value: what is kept of a text, and what one shows.
use Rattle.std.specs.Prelude.{ℕ, suc, zero, ◌-◌, Bool, ◌&&◌, ◌||◌, cond, nat_lt, nat_le, List, [], ◌∷◌, ◌++◌, length, take, drop, replicate, slice_index}
use Rattle.std.specs.Str.{is_utf8}
use Rattle.loom_objects.specs.declared.text.Text.{Text}

-- the text of these bytes, of which there are at most 24
abbrev pub text_of : List ℕ → Text
text_of bytes = record { bytes = bytes ++ replicate (24 - length bytes) 0; len = length bytes }

-- the bytes of the text, if they are UTF-8
abbrev pub shown : Text → List ℕ
shown text = cond (nat_le text.len 24 && is_utf8 (take text.len text.bytes)) (take text.len text.bytes) []

-- a byte with which a character begins, or the 0 that is read behind the last one
abbrev pub begins_char : ℕ → Bool
begins_char byte = nat_lt byte 128 || nat_le 192 byte

-- the last place up to this one at which a character begins
abbrev pub cut_up_to : List ℕ → ℕ → ℕ
cut_up_to bytes zero = 0
cut_up_to bytes (suc place) = cond (begins_char (slice_index bytes (suc place))) (suc place) (cut_up_to bytes place)

-- what is left from the first byte on with which a character begins
abbrev pub from_char : List ℕ → List ℕ
from_char [] = []
from_char (byte ∷ bytes) = cond (begins_char byte) (byte ∷ bytes) (from_char bytes)

-- the bytes, if there are at most 24, and else the first characters that fit
abbrev pub first_part : List ℕ → List ℕ
first_part bytes = cond (nat_le (length bytes) 24) bytes (take (cut_up_to bytes 24) bytes)

-- the bytes, if there are at most 24, and else the last characters that fit
abbrev pub last_part : List ℕ → List ℕ
last_part bytes = cond (nat_le (length bytes) 24) bytes (from_char (drop (length bytes - 24) bytes))

-- what is kept of a name
abbrev pub first_text : List ℕ → Text
first_text bytes = text_of (first_part bytes)

-- what is kept of a file's path
abbrev pub last_text : List ℕ → Text
last_text bytes = text_of (last_part bytes)
