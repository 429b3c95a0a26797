-- Lists of versions, one for each thread, as a version vector shows them.
use Rattle.std.specs.Prelude.{ℕ, IsTrue, ◌≤◌, ◌+◌, ◌<◌, Bool, true, false, ◌&&◌, max, if◌then◌else◌, List, [], ◌∷◌, slice_index, slice_set, nat_le, Option, Some, None}
use Rattle.std.specs.declared.cmp.Ordering.{Ordering}
use Rattle.std.specs.declared.cmp.Ordering.TheVariants.{Less, Equal, Greater}
use Rattle.loom_views.specs.Limits.{highest_version}

-- no version raised
abbrev pub zeros : List ℕ
zeros = 0 ∷ 0 ∷ 0 ∷ 0 ∷ 0 ∷ []

-- no count is above the most that a vector counts
abbrev pub IsCounted : List ℕ → Type 0
IsCounted vs = (t : ℕ) → slice_index vs t ≤ highest_version

-- the larger version of each thread
abbrev pub join : List ℕ → List ℕ → List ℕ
join [] ws = []
join (v ∷ vs) [] = []
join (v ∷ vs) (w ∷ ws) = max v w ∷ join vs ws

-- a vector joined with several others, from the left
abbrev pub join_all : List ℕ → List (List ℕ) → List ℕ
join_all vs [] = vs
join_all vs (ws ∷ wss) = join_all (join vs ws) wss

-- no version on the left is above the one on the right
abbrev pub within : List ℕ → List ℕ → Bool
within [] ws = true
within (v ∷ vs) [] = false
within (v ∷ vs) (w ∷ ws) = nat_le v w && within vs ws

-- thread t's version raised by one
abbrev pub raised_at : List ℕ → ℕ → List ℕ
raised_at vs t = slice_set vs t (slice_index vs t + 1)

-- each is inside the other
abbrev pub versions_eq : List ℕ → List ℕ → Bool
versions_eq vs ws = within vs ws && within ws vs

-- the order of vectors, which is componentwise
abbrev pub versions_cmp : List ℕ → List ℕ → Option Ordering
versions_cmp vs ws = if within vs ws then (if within ws vs then Some Equal else Some Less) else (if within ws vs then Some Greater else None)

-- t is the first thread whose version is larger on the right
pub record IsFirstAhead (vs ws : List ℕ) (t : ℕ) : Type 0 where
  pub is_thread : t < 5
  pub larger : slice_index vs t < slice_index ws t
  pub first : (k : ℕ) → k < t → slice_index ws k ≤ slice_index vs k

-- us is above both and below all that is above both
pub record IsLeastUpperBound (vs ws us : List ℕ) : Type 0 where
  pub left : IsTrue (within vs us)
  pub right : IsTrue (within ws us)
  pub least : (xs : List ℕ) → IsTrue (within vs xs) → IsTrue (within ws xs) → IsTrue (within us xs)
