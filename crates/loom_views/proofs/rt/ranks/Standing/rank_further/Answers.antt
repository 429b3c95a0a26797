use Rattle.std.proofs.Common.{rules, ◌≡◌, ◌+◌, ◌++◌, ◌∷◌, [], Some, None}
use Rattle.loom_views.proofs.Ranks.{rank_next, rank_none}
use Rattle.loom_views.proofs.rt.ranks.Standing.rank_further.Goals.{then-stands+then-rank-lt-MAX_VERSION+in_ok-push, else-stands+in_ok-push-2}
use Rattle.loom_views.proofs.rt.ranks.Standing.rank_further.Goals as goal

pub loop-count-preserved : goal.loop-count-preserved
loop-count-preserved c =
    let before = c.loop-count.ranks in
    let after = c.if-stands.ranks in
    elim c.if-stands.branch [
      | then-stands+then-rank-lt-MAX_VERSION+in_ok-push w ↦
          let items : after ≡ before ++ Some c.loop-count.rank ∷ [] = search rules in
          let next : c.if-stands.rank ≡ c.loop-count.rank + 1 = search rules in
          rank_next before after c.loop-count.rank c.if-stands.rank items next c.loop-count.invariant
      | else-stands+in_ok-push-2 w ↦
          let items : after ≡ before ++ None ∷ [] = search rules in
          let next : c.if-stands.rank ≡ c.loop-count.rank = search rules in
          rank_none before after c.loop-count.rank c.if-stands.rank items next c.loop-count.invariant
    ]
