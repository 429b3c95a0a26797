-- What is kept of single objects, in little room.
use Rattle.std.proofs.Common.{◌≡◌, List, ap₂}
use Rattle.loom_views.specs.declared.rt.atomic.Store.{Store}
use Rattle.loom_views.specs.declared.rt.views.packed.Packed.{Packed}
use Rattle.loom_views.specs.Packed.{unpacked_one}

pub place_same : (one other : Packed) (stores others : List Store) → one ≡ other → stores ≡ others → unpacked_one one stores ≡ unpacked_one other others
place_same one other stores others e f = ap₂ unpacked_one e f
