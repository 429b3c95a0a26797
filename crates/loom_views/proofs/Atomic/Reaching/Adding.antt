-- What adds points and records, and takes none away.
use Rattle.std.proofs.Common.{◌≡◌, ℕ, ◌≤◌, true, List, [], ◌∷◌, ◌++◌, length, refl, ap, sym, ◌∙◌, arith, ⊎_elim, Option, Some, None}
use Rattle.std.specs.Prelude.{slice_set}
use Rattle.std.specs.List.{slice_get, AllByRecursion}
use Rattle.std.proofs.lemmas.Bool.{cases_eq}
use Rattle.std.proofs.lemmas.Option.{slice_get_within, slice_get_past}
use Rattle.loom_views.specs.Graph.{Graph}
use Rattle.loom_views.specs.Views.{Place, Points}
use Rattle.loom_views.proofs.Views.Counting.{all-weaker}
use Rattle.loom_views.proofs.Atomic.Table.Lists.{get-set_same, get-set_other, get-append_same, get-append_other}
use Rattle.loom_views.specs.Laws.Reaching.{Extends, is_raising, reads_of, writes_of, loads_of, stored_of}
use Rattle.loom_views.proofs.Atomic.Reaching.Raising.{extends-itself, extends-joined, raising-extends}

-- more is recorded of one kind of accesses
pub record More (before after : List ℕ) : Type 0 where
  pub more : List ℕ
  pub is : after ≡ before ++ more

-- and all of it raises
pub record MoreRaising (g : Graph) (before after : List ℕ) : Type 0 where
  pub more : List ℕ
  pub is : after ≡ before ++ more
  pub raise : AllByRecursion (λ k. is_raising g k ≡ true) more

append-none : (xs : List ℕ) → xs ++ [] ≡ xs
append-none [] = refl
append-none (x ∷ xs) = ap (λ ys. x ∷ ys) (append-none xs)

append-assoc : (xs ys zs : List ℕ) → (xs ++ ys) ++ zs ≡ xs ++ (ys ++ zs)
append-assoc [] ys zs = refl
append-assoc (x ∷ xs) ys zs = ap (λ ws. x ∷ ws) (append-assoc xs ys zs)

all-append : (P : ℕ → Type 0) (xs ys : List ℕ) → AllByRecursion P xs → AllByRecursion P ys → AllByRecursion P (xs ++ ys)
all-append P [] ys h k = k
all-append P (x ∷ xs) ys h k = (h.0, all-append P xs ys h.1 k)

pub more-none : (xs : List ℕ) → More xs xs
more-none xs = record { more = []; is = sym (append-none xs) }

pub raising-none : (g : Graph) (xs : List ℕ) → MoreRaising g xs xs
raising-none g xs = record { more = []; is = sym (append-none xs); raise = tt }

pub raising-one : (g : Graph) (xs : List ℕ) (k : ℕ) → is_raising g k ≡ true → MoreRaising g xs (xs ++ k ∷ [])
raising-one g xs k e = record { more = k ∷ []; is = refl; raise = (e, tt) }

more-joined : (a b c : List ℕ) → More a b → More b c → More a c
more-joined a b c h k = record { more = h.more ++ k.more; is = k.is ∙ ap (λ xs. xs ++ k.more) h.is ∙ append-assoc a h.more k.more }

raising-joined : (g g' : Graph) (a b c : List ℕ) → Extends g g' → MoreRaising g a b → MoreRaising g' b c → MoreRaising g' a c
raising-joined g g' a b c e h k = record {
  more = h.more ++ k.more;
  is = k.is ∙ ap (λ xs. xs ++ k.more) h.is ∙ append-assoc a h.more k.more;
  raise = all-append (λ i. is_raising g' i ≡ true) h.more k.more (all-weaker (λ i. is_raising g i ≡ true) (λ i. is_raising g' i ≡ true) h.more (λ i q. raising-extends g g' i e q) h.raise) k.raise;
}

-- more is recorded of an object
pub record PlaceAdds (g : Graph) (before after : Option Place) : Type 0 where
  pub reads : More (reads_of before) (reads_of after)
  pub writes : More (writes_of before) (writes_of after)
  pub loads : MoreRaising g (loads_of before) (loads_of after)
  pub stored : MoreRaising g (stored_of before) (stored_of after)

pub place-same : (g : Graph) (o : Option Place) → PlaceAdds g o o
place-same g o = record { reads = more-none (reads_of o); writes = more-none (writes_of o); loads = raising-none g (loads_of o); stored = raising-none g (stored_of o) }

place-joined : (g g' : Graph) (a b c : Option Place) → Extends g g' → PlaceAdds g a b → PlaceAdds g' b c → PlaceAdds g' a c
place-joined g g' a b c e h k = record {
  reads = more-joined (reads_of a) (reads_of b) (reads_of c) h.reads k.reads;
  writes = more-joined (writes_of a) (writes_of b) (writes_of c) h.writes k.writes;
  loads = raising-joined g g' (loads_of a) (loads_of b) (loads_of c) e h.loads k.loads;
  stored = raising-joined g g' (stored_of a) (stored_of b) (stored_of c) e h.stored k.stored;
}

-- the points of a run get more
pub record Adds (p q : Points) : Type 0 where
  pub graph : Extends p.graph q.graph
  pub five : length q.threads ≤ 5
  pub places : (n : ℕ) → PlaceAdds q.graph (slice_get p.places n) (slice_get q.places n)

pub adds-joined : (p q r : Points) → Adds p q → Adds q r → Adds p r
adds-joined p q r h k = record {
  graph = extends-joined p.graph q.graph r.graph h.graph k.graph;
  five = k.five;
  places = λ n. place-joined q.graph r.graph (slice_get p.places n) (slice_get q.places n) (slice_get r.places n) k.graph (h.places n) (k.places n);
}

-- the objects stay as they are
pub adds-quiet : (p q : Points) → Extends p.graph q.graph → length q.threads ≤ 5 → q.places ≡ p.places → Adds p q
adds-quiet p q h five e = record { graph = h; five = five; places = λ n. rw e (place-same q.graph (slice_get p.places n)) }

pub adds-same : (p : Points) → length p.threads ≤ 5 → Adds p p
adds-same p five = adds-quiet p p (extends-itself p.graph) five refl

-- one object has more
pub adds-set : (p q : Points) (n : ℕ) (place new : Place) → Extends p.graph q.graph → length q.threads ≤ 5 → slice_get p.places n ≡ Some place → q.places ≡ slice_set p.places n new → PlaceAdds q.graph (Some place) (Some new) → Adds p q
adds-set p q n place new h five at e k = record { graph = h; five = five; places = λ i. rw e (⊎_elim (here i) (λ d. rw (get-set_other p.places n i new d) (place-same q.graph (slice_get p.places i))) (cases_eq i n)) }
  where
    here : (i : ℕ) → i ≡ n → PlaceAdds q.graph (slice_get p.places i) (slice_get (slice_set p.places n new) i)
    here i d = rw (d, at, get-set_same p.places n new (slice_get_within p.places n place at)) k

-- there is one object more, with no loads and stores
pub adds-new : (p q : Points) (new : Place) → Extends p.graph q.graph → length q.threads ≤ 5 → q.places ≡ p.places ++ new ∷ [] → loads_of (Some new) ≡ [] → stored_of (Some new) ≡ [] → Adds p q
adds-new p q new h five e loads stored = record { graph = h; five = five; places = λ i. rw e (⊎_elim (here i) (λ d. rw (get-append_other p.places i new d) (place-same q.graph (slice_get p.places i))) (cases_eq i (length p.places))) }
  where
    first : PlaceAdds q.graph None (Some new)
    first = record {
      reads = record { more = reads_of (Some new); is = refl };
      writes = record { more = writes_of (Some new); is = refl };
      loads = record { more = []; is = loads; raise = tt };
      stored = record { more = []; is = stored; raise = tt };
    }

    here : (i : ℕ) → i ≡ length p.places → PlaceAdds q.graph (slice_get p.places i) (slice_get (p.places ++ new ∷ []) i)
    here i d = rw (slice_get_past p.places i (omega arith), get-append_same p.places i new d) first
