use Rattle.std.proofs.Common.{◌≡◌, Some, refl}
use Rattle.std.specs.declared.sync.atomic.Ordering.{Ordering}
use Rattle.std.specs.declared.sync.atomic.Ordering.TheVariants as orders
use Rattle.loom_text.specs.Spelling.{order_text, word_of}
use Rattle.loom_text.specs.declared.read.word.Word.TheVariants as words
use Rattle.loom_text.proofs.laws.orders_read_back.Goals as goal

read_back : (order : Ordering) → word_of (order_text order) ≡ Some (words.Order order)
unfolding word_of
read_back orders.Relaxed = refl
read_back orders.Acquire = refl
read_back orders.Release = refl
read_back orders.AcqRel = refl
read_back orders.SeqCst = refl

pub returns : goal.returns
returns c = read_back
