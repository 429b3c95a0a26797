use Rattle.std.proofs.Common.{◌≡◌, List, length, set, refl, ap, arith}
use Rattle.std.proofs.lemmas.Option.{slice_get_read}
use Rattle.loom_views.proofs.sequence.Sequence.at_mut.Goals as goal

pub returns : goal.returns
returns g c =
    let view : c.self.inside.items.items ≡ c.args.self.now = c.self.view_is in
    let len : length c.self.inside.items.items ≡ length c.args.self.now = ap length view in (
      (refl, λ w. ap (λ (xs : List g.row.T.Denot). set xs c.args.place w) view),
      record {
        writes_back = tt;
        value = rw (← view) (slice_get_read c.self.inside.items.items (length c.self.inside.items.items) c.args.place c.index_mut.result.now refl (omega (arith, len, c.requires)) c.index_mut.ensures.value);
      },
    )
