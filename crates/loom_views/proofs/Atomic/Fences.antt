-- Acquire fences at one atomic: the views gain what the points do.
use Rattle.std.proofs.Common.{◌≡◌, ℕ, ◌+◌, ◌-◌, ◌%◌, ◌<◌, ◌≤◌, min, true, false, List, [], ◌∷◌, ◌++◌, length, take, get_or, refl, ap, sym, ◌∙◌, arith, length-drop, get_or-drop}
use Rattle.std.proofs.lemmas.List.{take_more, take_all}
use Rattle.std.specs.declared.sync.atomic.Ordering.TheVariants.{Acquire}
use Rattle.loom_views.specs.declared.rt.atomic.State.{State}
use Rattle.loom_views.specs.declared.rt.atomic.Store.{Store}
use Rattle.loom_views.specs.declared.rt.synchronize.ThreadViews.{ThreadViews}
use Rattle.loom_views.specs.Atomic.Slots.{number_in_slot}
use Rattle.loom_views.specs.Atomic.History.{StorePoints, Scene, in_slot, blank, is_seen}
use Rattle.loom_views.specs.Atomic.Ring.{is_touch_in}
use Rattle.loom_views.specs.Atomic.Fences.{Standing, after_store, after_stores, kept_stores, standing_in, scene_at}
use Rattle.loom_views.specs.Atomic.Shown.{ShowsStore, ShowsScene}
use Rattle.loom_views.proofs.Atomic.Shown.{seen-is}
use Rattle.loom_views.proofs.Atomic.Accesses.{scene_loaded-shown}
use Rattle.loom_views.proofs.Atomic.Vectors.{views_loaded}

-- a store that is seen, and one that isn't
pub seen-gained : (t : ℕ) (s : Scene) (views : ThreadViews) (state : State) (points : StorePoints) (store : Store) → ShowsStore s.graph points store → ShowsScene t s views state → is_touch_in store.first_seen.versions views.present ≡ true → ShowsScene t (scene_at s (after_store (standing_in s) points)) (views_loaded views store.sync Acquire) state
seen-gained t s views state points store h z e =
    let seen : is_seen s.graph points s.thread.present ≡ true = seen-is s.graph points store s.thread.present views.present z.chained z.thread.present h ∙ e in
    rw seen (scene_loaded-shown t s views state points.sync store.sync Acquire h.sync z)

pub unseen-gained : (t : ℕ) (s : Scene) (views : ThreadViews) (state : State) (points : StorePoints) (store : Store) → ShowsStore s.graph points store → ShowsScene t s views state → is_touch_in store.first_seen.versions views.present ≡ false → ShowsScene t (scene_at s (after_store (standing_in s) points)) views state
unseen-gained t s views state points store h z e =
    let seen : is_seen s.graph points s.thread.present ≡ false = seen-is s.graph points store s.thread.present views.present z.chained z.thread.present h ∙ e in
    rw seen z

-- more stores, after those before
pub after_stores-append : (s : Standing) (xs ys : List StorePoints) → after_stores s (xs ++ ys) ≡ after_stores (after_stores s xs) ys
after_stores-append s [] ys = refl
after_stores-append s (x ∷ xs) ys = after_stores-append (after_store s x) xs ys

-- the last store whose number, modulo seven, is that of one of the last seven stores is that store
number-at : (n m : ℕ) → m < n → n ≤ m + 7 → number_in_slot n (m % 7) ≡ m
unfolding number_in_slot
number-at n m h i = omega arith

pub length-kept : (stores : List StorePoints) → length (kept_stores stores) ≡ min (length stores) 7
length-kept stores = length-drop (length stores - 7) stores ∙ omega arith

-- where the kept store of number i from the oldest is
kept-at : (stores : List StorePoints) (i : ℕ) → i < min (length stores) 7 → get_or (kept_stores stores) i blank ≡ in_slot stores ((length stores - min (length stores) 7 + i) % 7)
kept-at stores i h =
    let n = length stores in
    let number : number_in_slot n ((n - min n 7 + i) % 7) ≡ n - min n 7 + i = number-at n (n - min n 7 + i) (omega arith) (omega arith) in
    let place : n - 7 + i ≡ n - min n 7 + i = omega arith in
    get_or-drop (n - 7) stores i blank ∙ ap (λ k. get_or stores k blank) (place ∙ sym number)

-- one more of the kept stores
pub more-gained : (s : Standing) (stores : List StorePoints) (i slot : ℕ) → i < min (length stores) 7 → slot ≡ (length stores - min (length stores) 7 + i) % 7 → after_stores s (take (i + 1) (kept_stores stores)) ≡ after_store (after_stores s (take i (kept_stores stores))) (in_slot stores slot)
more-gained s stores i slot h e =
    let l = length-kept stores in
    let within : i < length (kept_stores stores) = omega arith in
    ap (after_stores s) (take_more (kept_stores stores) i blank within)
    ∙ after_stores-append s (take i (kept_stores stores)) (get_or (kept_stores stores) i blank ∷ [])
    ∙ ap (after_store (after_stores s (take i (kept_stores stores)))) (kept-at stores i h ∙ ap (in_slot stores) (sym e))

-- and all of them
pub all-gained : (stores : List StorePoints) → take (min (length stores) 7) (kept_stores stores) ≡ kept_stores stores
all-gained stores = let l = length-kept stores in take_all (min (length stores) 7) (kept_stores stores) (omega arith)
