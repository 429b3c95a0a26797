-- Paths of the same words have the same nodes.
use Rattle.std.proofs.Common.{◌≡◌, Bool, List, map, ap}
use Rattle.std.specs.Prelude.{◌↔◌, IsTrue}
use Rattle.std.specs.Cmp.Lexicographic.{pointwise, pointwise_decides}
use Rattle.std.proofs.lemmas.Bool.Decides.{same_from_decides}
use Rattle.loom_engine.specs.contracts.rt.path.node.NodePartialEq.TheImpl as nodes
use Rattle.loom_engine.specs.declared.rt.path.node.Node.{Node}
use Rattle.loom_engine.specs.Path.Same.{nodes_tell}
use Rattle.loom_engine.specs.Path.Tallies.{AreNoted}
use Rattle.loom_engine.specs.Path.WellFormed.{AreAlike}
use Rattle.loom_engine.specs.Path.Words.{word_of}
use Rattle.loom_engine.proofs.Path.Alike.{alike_same}

pub words_tell : (r : Bool) (xs ys : List Node) → AreNoted xs → AreNoted ys → (IsTrue r ↔ (map word_of xs ≡ map word_of ys)) → (IsTrue r → AreAlike xs ys)
    → r ≡ pointwise (nodes.ghosts).eq xs ys
words_tell r xs ys a b same alike =
    same_from_decides r (pointwise (nodes.ghosts).eq xs ys) ((λ t. alike_same xs ys a b (alike t)), (λ e. same.1 (ap (map word_of) e))) (pointwise_decides nodes_tell xs ys)
