-- How a text grows by pieces, where memory for one may be refused.
use Rattle.std.specs.Prelude.{ℕ, ◌≡◌, ◌⊎◌, List, ◌++◌}

-- A text has got this piece behind it, or, where memory for it was refused, it is what it was.
abbrev pub HasGot : List ℕ → List ℕ → List ℕ → Type 0
HasGot piece old new = (new ≡ old ++ piece) ⊎ (new ≡ old)
