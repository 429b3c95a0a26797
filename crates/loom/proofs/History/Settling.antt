use Rattle.std.proofs.Common.{◌≡◌, ◌↔◌, ◌<◌, ◌+◌, ℕ, true, false, List, ap, sym, ◌∙◌, refl, IsTrue, length, Some, get_or, slice_get}
use Rattle.std.proofs.lemmas.Option.{slice_get_read}
use Rattle.loom.specs.declared.runner.history.event.Event.{Event}
use Rattle.loom.specs.Runner.Events.{AreShares, made, Share, share, part}

-- the list at this index is what that thread was told
pub right_share : {D : Type 0} (told : List (Share D)) (k : ℕ) (list : Share D) (history : List (Event D)) → k < length told → list ≡ get_or told k list → list ≡ share k (part k history)
    → slice_get told k ≡ Some (share k (part k history))
right_share told k list history below there is = slice_get_read told (length told) k list refl below there ∙ ap Some is

-- or it isn't
pub wrong_share : {D : Type 0} (told : List (Share D)) (k threads : ℕ) (list : Share D) (history shown : List (Event D)) → shown ≡ history → threads ≡ 1 + made history → length told ≡ threads → k < length told
    → list ≡ get_or told k list → (list ≡ share k (part k shown) → IsTrue false) → IsTrue false ↔ AreShares told history
wrong_share told k threads list history shown same count all below there wrong = (
  (λ f. cc f),
  (λ s. let within : k < 1 + made history = rw (← (all ∙ count)) below in
      let at : Some list ≡ Some (share k (part k shown)) = sym (slice_get_read told (length told) k list refl below there) ∙ (s.parts k within ∙ ap (λ es. Some (share k (part k es))) (sym same)) in
      wrong cc),
)

-- each list is what its thread was told
pub settled : {D : Type 0} (told : List (Share D)) (threads : ℕ) (history shown : List (Event D)) → shown ≡ history → threads ≡ 1 + made history → length told ≡ threads
    → ((n : ℕ) → n < length told → slice_get told n ≡ Some (share n (part n shown))) → IsTrue true ↔ AreShares told history
settled told threads history shown same count all each = (
  (λ _. record {
    one_each = all ∙ count;
    parts = λ n below. each n (rw (all ∙ count) below) ∙ ap (λ es. Some (share n (part n es))) same;
  }),
  (λ _. refl),
)
