use Rattle.std.proofs.Common.{◌≡◌, [], ◌∷◌, eqb, replicate, set, refl, ap, ◌∙◌, arith, w16}
use Rattle.std.proofs.lemmas.Simd.{tops_compared}
use lib.Lanes.{sel_l, zip2}
use Rattle.loom_views.specs.Lanes.{lane, lanes_in, word_of}
use Rattle.loom_views.proofs.Views.Lanes.{lane_chosen, set_at}
use Rattle.loom_views.proofs.rt.vv.lanes.set.Goals as goal

-- the lanes of the word that it makes
made : (c : goal.After-word_of) → c.word_of.result ≡ word_of (set (lanes_in c.args.word) c.args.thread c.args.count)
made c =
    c.word_of.ensures
    ∙ ap (λ ms. word_of (sel_l ms (replicate 8 c.args.count) c.lanes.result)) (tops_compared w16 eqb (0 ∷ 1 ∷ 2 ∷ 3 ∷ 4 ∷ 5 ∷ 6 ∷ 7 ∷ []) (replicate 8 c.args.thread))
    ∙ ap (λ xs. word_of (sel_l (zip2 eqb (0 ∷ 1 ∷ 2 ∷ 3 ∷ 4 ∷ 5 ∷ 6 ∷ 7 ∷ []) (replicate 8 c.args.thread)) (replicate 8 c.args.count) xs)) c.lanes.ensures
    ∙ ap word_of (lane_chosen c.args.word c.args.thread c.args.count c.requires)

pub returns-clause-set : goal.returns-clause-set
returns-clause-set c = ap (λ w. lane w c.args.thread) (made c) ∙ (set_at c.args.word (lanes_in c.args.word) c.args.thread c.args.count (omega arith) refl c.requires (omega arith)).0

pub returns-clause-others : goal.returns-clause-others
returns-clause-others c = λ t o. ap (λ w. lane w t) (made c) ∙ (set_at c.args.word (lanes_in c.args.word) c.args.thread c.args.count (omega arith) refl c.requires (omega arith)).1 t o
