use Rattle.std.proofs.Common.{◌≡◌, [], ◌∷◌, ◌+◌, ◌%◌, ◌^◌, eqb, replicate, set, refl, ap, ◌∙◌, arith, w16}
use Rattle.std.proofs.lemmas.Simd.{tops_compared}
use lib.Lanes.{sel_l, zip2}
use Rattle.loom_views.specs.Lanes.{lane, lanes_in, word_of}
use Rattle.loom_views.proofs.Views.Lanes.{lane_raised, set_at}
use Rattle.loom_views.proofs.rt.vv.lanes.raised.Goals as goal

-- the lanes of the word that it makes
made : (c : goal.After-word_of) → c.word_of.result ≡ word_of (set (lanes_in c.args.word) c.args.thread (lane c.args.word c.args.thread + 1))
made c =
    c.word_of.ensures
    ∙ ap (λ ms. word_of (zip2 (λ a b. (a + b) % 2 ^ 16) c.lanes.result (sel_l ms (replicate 8 1) (replicate 8 0)))) (tops_compared w16 eqb (0 ∷ 1 ∷ 2 ∷ 3 ∷ 4 ∷ 5 ∷ 6 ∷ 7 ∷ []) (replicate 8 c.args.thread))
    ∙ ap (λ xs. word_of (zip2 (λ a b. (a + b) % 2 ^ 16) xs (sel_l (zip2 eqb (0 ∷ 1 ∷ 2 ∷ 3 ∷ 4 ∷ 5 ∷ 6 ∷ 7 ∷ []) (replicate 8 c.args.thread)) (replicate 8 1) (replicate 8 0)))) c.lanes.ensures
    ∙ ap word_of (lane_raised c.args.word c.args.thread c.requires.within c.requires.below)

pub returns-clause-raised : goal.returns-clause-raised
returns-clause-raised c = ap (λ w. lane w c.args.thread) (made c) ∙ (set_at c.args.word (lanes_in c.args.word) c.args.thread (lane c.args.word c.args.thread + 1) (omega arith) refl c.requires.within (omega (arith, c.requires.below))).0

pub returns-clause-others : goal.returns-clause-others
returns-clause-others c = λ t o. ap (λ w. lane w t) (made c) ∙ (set_at c.args.word (lanes_in c.args.word) c.args.thread (lane c.args.word c.args.thread + 1) (omega arith) refl c.requires.within (omega (arith, c.requires.below))).1 t o
