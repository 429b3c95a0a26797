-- What the places of a run end as, where a `&mut` to one of them is returned.
use Rattle.std.specs.Prelude.{ℕ, List, slice_set}
use Rattle.std.specs.Borrow.{Lends, Fml, MutBor}
use Rattle.loom_views.specs.declared.rt.views.Kept.{Kept}
use Rattle.loom_views.specs.contracts.rt.views.Kept as kept_row
use Rattle.loom_views.specs.contracts.rt.views.places.Places.{the_row}

-- once the borrow r ends, place i has the last value written through r
abbrev pub lends_place : MutBor (List Kept) → ℕ → MutBor Kept → Fml
lends_place s i r = Lends the_row kept_row.the_row s r (slice_set s.now i)
