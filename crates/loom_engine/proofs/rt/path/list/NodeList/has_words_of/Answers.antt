use Rattle.std.proofs.Common.{◌≡◌, map, sym, ap, ap₂, ◌∙◌}
use Rattle.std.specs.Prelude.{nat_eq}
use Rattle.std.specs.Cmp.{unsigned_Decides}
use Rattle.std.specs.Cmp.Lexicographic.{pointwise, pointwise_decides}
use Rattle.std.proofs.lemmas.Bool.Decides.{Decides-at}
use Rattle.loom_engine.specs.Path.Words.{word_of}
use Rattle.loom_engine.proofs.Path.Words.{laid_words, same_words}
use Rattle.loom_engine.proofs.rt.path.list.NodeList.has_words_of.Goals as goal

pub returns-clause-words : goal.returns-clause-words
returns-clause-words c =
    let a = c.self.inside in
    let b = c.other.inside in
    let test : c.eq.result ≡ pointwise nat_eq a.words.items b.words.items = c.eq.ensures ∙ ap₂ (pointwise nat_eq) c.as_slice.ensures.value c.as_slice-2.ensures.value in
    let told = Decides-at c.eq.result _ test (pointwise_decides unsigned_Decides a.words.items b.words.items) in
    let one = laid_words a.words.items a.places.items c.self.invariant ∙ ap (map word_of) c.self.view_is in
    let two = laid_words b.words.items b.places.items c.other.invariant ∙ ap (map word_of) c.other.view_is in
    ((λ t. sym one ∙ told.0 t ∙ two), (λ e. told.1 (one ∙ e ∙ sym two)))

pub returns-clause-alike : goal.returns-clause-alike
returns-clause-alike c = λ t.
    let a = c.self.inside in
    let b = c.other.inside in
    let test : c.eq.result ≡ pointwise nat_eq a.words.items b.words.items = c.eq.ensures ∙ ap₂ (pointwise nat_eq) c.as_slice.ensures.value c.as_slice-2.ensures.value in
    let told = Decides-at c.eq.result _ test (pointwise_decides unsigned_Decides a.words.items b.words.items) in
    rw (← c.self.view_is, ← c.other.view_is) (same_words a.words.items b.words.items a.places.items b.places.items (told.0 t) c.self.invariant c.other.invariant)
