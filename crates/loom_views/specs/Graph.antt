-- The graph of a run: which points come after which, and what each point has in its view.
use Rattle.std.specs.Prelude.{ℕ, suc, ◌≡◌, ◌<◌, Bool, true, false, not, ◌||◌, ◌==◌, if◌then◌else◌, IsTrue, List, [], ◌∷◌, ◌++◌, length, map, Option, Some, None}
use Rattle.std.specs.List.{list_any, list_all, AllByRecursion}

-- a point comes after some earlier points, named by their numbers, and raises the version of at most one thread
pub record Point : Type 0 where
  pub after : List ℕ
  pub raises : Option ℕ

-- the newest point first: a point's number is how many points are older
abbrev pub Graph : Type 0
Graph = List Point

-- the threads of a run
abbrev pub threads : List ℕ
threads = 0 ∷ 1 ∷ 2 ∷ 3 ∷ 4 ∷ []

-- a chain of edges, also an empty one, leads from point i to point k
unfoldable pub reaches : Graph → ℕ → ℕ → Bool
reaches [] i k = false
reaches (p ∷ g) i k = elim (k == length g) [ true ↦ (i == k) || list_any (λ j. reaches g i j) p.after | false ↦ reaches g i k ]

-- the number is in the list
abbrev pub is_among : ℕ → List ℕ → Bool
is_among i ks = list_any (λ k. k == i) ks

-- the points that reach one of these, by one sweep from the newest point down: the form to compute with, since its cost
-- grows with the points and edges and not with the chains. Law `past_is_reaching` says that it agrees with `reaches`
unfoldable pub past : Graph → List ℕ → List ℕ
past [] ks = []
past (p ∷ g) ks = elim (is_among (length g) ks) [ true ↦ length g ∷ past g (p.after ++ ks) | false ↦ past g ks ]

-- a point raises the version of thread t
abbrev pub raises_version : Option ℕ → ℕ → Bool
raises_version None t = false
raises_version (Some u) t = u == t

-- the points that raise the version of thread t, the newest first
unfoldable pub raised : Graph → ℕ → List ℕ
raised [] t = []
raised (p ∷ g) t = let older = raised g t in if raises_version p.raises t then length g ∷ older else older

-- how many elements pass the test
abbrev pub count : {X : Type 0} → (X → Bool) → List X → ℕ
count p [] = 0
count p (x ∷ xs) = let rest = count p xs in if p x then suc rest else rest

-- how many points that raise thread t are in the view of point k, which is all that reach k
unfoldable pub version : Graph → ℕ → ℕ → ℕ
version g k t = count (λ i. reaches g i k) (raised g t)

-- these counts for the five threads
unfoldable pub counts : Graph → ℕ → List ℕ
counts g k = map (version g k) threads

-- the view of point i is inside the view of point k
unfoldable pub inside : Graph → ℕ → ℕ → Bool
inside g i k = list_all (λ t. list_all (λ x. not (reaches g x i) || reaches g x k) (raised g t)) threads

-- each point of the list is reached from those behind it
abbrev pub IsChain : Graph → List ℕ → Type 0
IsChain g [] = Unit {0}
IsChain g (x ∷ xs) = AllByRecursion (λ i. IsTrue (reaches g i x)) xs × IsChain g xs

-- the points that raise one thread form a chain, which holds of every graph that moves make
unfoldable pub IsChained : Graph → Type 0
IsChained g = (t : ℕ) → IsChain g (raised g t)

-- every point that raises thread t reaches point k, as it does the thread's present point
unfoldable pub IsPresent : Graph → ℕ → ℕ → Type 0
IsPresent g t k = AllByRecursion (λ i. IsTrue (reaches g i k)) (raised g t)

-- a new point after these, whose number is how many there were
abbrev pub moved : Graph → List ℕ → Graph
moved g js = record { after = js; raises = None } ∷ g

-- a new point after these, which raises the version of thread t
abbrev pub moved_raising : Graph → List ℕ → ℕ → Graph
moved_raising g js t = record { after = js; raises = Some t } ∷ g

-- a vector has the counts of the view of point k
pub record Shows (g : Graph) (k : ℕ) (vs : List ℕ) : Type 0 where
  pub made : k < length g
  pub counted : vs ≡ counts g k
