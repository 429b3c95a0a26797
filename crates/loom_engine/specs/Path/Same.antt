-- The test whether two paths are the same for their callers.
use Rattle.std.proofs.Common.{◌≡◌, Bool, false, ◌&&◌, Some, None, refl, ap, sym, ◌∙◌}
use Rattle.std.specs.Prelude.{nat_eq}
use Rattle.std.specs.Bool.{Decides}
use Rattle.std.specs.Cmp.{IsEquivalence, unsigned_Decides, booleans_Decides, decided}
use Rattle.std.specs.Cmp.Lexicographic.{pointwise, pointwise_decides}
use Rattle.std.specs.Option.{option_eq}
use Rattle.std.proofs.lemmas.Bool.Decides.{Decides-and, Decides-like}
use denote.Enum.Bare.{same_true, true_same}
use Rattle.loom_objects.specs.contracts.choice.ChoicePartialEq.TheImpl as choices
use Rattle.loom_objects.specs.contracts.rt.exploring.Exploring as exploring
use Rattle.loom_objects.specs.contracts.rt.exploring.ExploringPartialEq.TheImpl as switches
use Rattle.loom_objects.specs.declared.choice.Choice.TheVariants as choice
use Rattle.loom_engine.specs.contracts.rt.path.node.NodePartialEq.TheImpl as nodes
use Rattle.loom_engine.specs.contracts.rt.path.node.Status as status
use Rattle.loom_engine.specs.contracts.rt.path.node.StatusPartialEq.TheImpl as statuses
use Rattle.loom_engine.specs.contracts.rt.path.SearchPartialEq.TheImpl as searches
use Rattle.loom_engine.specs.declared.rt.path.node.Node.TheVariants as node
use Rattle.loom_engine.specs.declared.rt.path.Search.{Search}
use Rattle.loom_engine.specs.Path.Route.{Route, settings}

-- what a path's search tries
abbrev search_of : Route → Search
search_of a = record { reduce = a.search.reduce; bound = a.search.bound; max_branches = a.search.max_branches; explores = a.explores }

-- they agree in what the search tries, in the nodes, in how far the run is and whether it explores, and in the given choices
abbrev pub same_routes : Route → Route → Bool
same_routes a b = (searches.ghosts).eq (search_of a) (search_of b) && (nat_eq a.position b.position && ((switches.ghosts).eq a.exploring b.exploring
    && (pointwise (nodes.ghosts).eq a.nodes b.nodes && pointwise (choices.ghosts).eq a.given b.given)))

-- ---- it tells exactly whether they are the same, and so does the test of each part

abbrev Tells : {A : Type 0} → (A → A → Bool) → Type 0
Tells {A} test = (a b : A) → Decides (test a b) (a ≡ b)

-- two parts
both : {A B : Type 0} {E : A → A → Bool} {F : B → B → Bool} → Tells E → Tells F → Tells (λ (p q : A × B). E p.0 q.0 && F p.1 q.1)
both {A} {B} {E} {F} e f p q = Decides-like (E p.0 q.0 && F p.1 q.1) (λ h i. (h.0 i, h.1 i)) (λ s. (ap (λ (x : A × B). x.0) s, ap (λ (x : A × B). x.1) s))
    (Decides-and (E p.0 q.0) (F p.1 q.1) (e p.0 q.0) (f p.1 q.1))

-- what has just these parts
made_of : {A B : Type 0} {E : B → B → Bool} → Tells E → (to : A → B) (from : B → A) → ((a : A) → from (to a) ≡ a) → Tells (λ x y. E (to x) (to y))
made_of {A} {B} {E} e to from back x y = Decides-like (E (to x) (to y)) (λ s. sym (back x) ∙ ap from s ∙ back y) (ap to) (e (to x) (to y))

-- one variant
within : {A B : Type 0} (f : A → B) {a b : A} {r : Bool} → (f a ≡ f b → a ≡ b) → Decides r (a ≡ b) → Decides r (f a ≡ f b)
within f {r = r} one d = Decides-like r (ap f) one d

-- two variants
apart : {A : Type 0} {a b : A} → (a ≡ b → ⊥) → Decides false (a ≡ b)
apart n = (λ t. absurd (cc t), λ s. absurd (n s))

numbers_tell : Tells (option_eq nat_eq)
numbers_tell None None = (λ t. refl, λ s. refl)
numbers_tell None (Some y) = apart (λ s. cc s)
numbers_tell (Some x) None = apart (λ s. cc s)
numbers_tell (Some x) (Some y) = within Some (λ s. cc s) (unsigned_Decides x y)

choices_tell : Tells (choices.ghosts).eq
choices_tell (choice.Thread a) (choice.Thread b) = within choice.Thread (λ s. cc s) (numbers_tell a b)
choices_tell (choice.Load a) (choice.Load b) = within choice.Load (λ s. cc s) (unsigned_Decides a b)
choices_tell (choice.Spurious a) (choice.Spurious b) = within choice.Spurious (λ s. cc s) (booleans_Decides a b)
choices_tell (choice.Thread a) (choice.Load b) = apart (λ s. cc s)
choices_tell (choice.Thread a) (choice.Spurious b) = apart (λ s. cc s)
choices_tell (choice.Load a) (choice.Thread b) = apart (λ s. cc s)
choices_tell (choice.Load a) (choice.Spurious b) = apart (λ s. cc s)
choices_tell (choice.Spurious a) (choice.Thread b) = apart (λ s. cc s)
choices_tell (choice.Spurious a) (choice.Load b) = apart (λ s. cc s)

statuses_tell : Tells (statuses.ghosts).eq
statuses_tell a b = (same_true status.the_type tt a b, true_same status.the_type a b)

switches_tell : Tells (switches.ghosts).eq
switches_tell a b = (same_true exploring.the_type tt a b, true_same exploring.the_type a b)

pub nodes_tell : Tells (nodes.ghosts).eq
nodes_tell (node.Schedule a) (node.Schedule b) =
    within node.Schedule (λ s. cc s) (made_of
    (both unsigned_Decides (both numbers_tell (both numbers_tell (both numbers_tell (both booleans_Decides (pointwise_decides statuses_tell))))))
    (λ n. (n.preemptions, (n.switch, (n.nearest, (n.first, (n.exploring, n.statuses))))))
    (λ p. record { preemptions = p.0; switch = p.1.0; nearest = p.1.1.0; first = p.1.1.1.0; exploring = p.1.1.1.1.0; statuses = p.1.1.1.1.1 }) (λ _. refl) a b)
nodes_tell (node.Load a) (node.Load b) =
    within node.Load (λ s. cc s) (made_of (both booleans_Decides (both (pointwise_decides booleans_Decides) unsigned_Decides))
    (λ n. (n.exploring, (n.readable, n.position))) (λ p. record { exploring = p.0; readable = p.1.0; position = p.1.1 }) (λ _. refl) a b)
nodes_tell (node.Spurious a) (node.Spurious b) =
    within node.Spurious (λ s. cc s) (made_of (both booleans_Decides booleans_Decides)
    (λ n. (n.exploring, n.answer)) (λ p. record { exploring = p.0; answer = p.1 }) (λ _. refl) a b)
nodes_tell (node.Schedule a) (node.Load b) = apart (λ s. cc s)
nodes_tell (node.Schedule a) (node.Spurious b) = apart (λ s. cc s)
nodes_tell (node.Load a) (node.Schedule b) = apart (λ s. cc s)
nodes_tell (node.Load a) (node.Spurious b) = apart (λ s. cc s)
nodes_tell (node.Spurious a) (node.Schedule b) = apart (λ s. cc s)
nodes_tell (node.Spurious a) (node.Load b) = apart (λ s. cc s)

searches_tell : Tells (searches.ghosts).eq
searches_tell = made_of (both booleans_Decides (both numbers_tell (both unsigned_Decides booleans_Decides)))
    (λ s. (s.reduce, (s.bound, (s.max_branches, s.explores)))) (λ p. record { reduce = p.0; bound = p.1.0; max_branches = p.1.1.0; explores = p.1.1.1 }) (λ _. refl)

pub same_routes_tell : (a b : Route) → Decides (same_routes a b) (a ≡ b)
same_routes_tell = made_of (both searches_tell (both unsigned_Decides (both switches_tell (both (pointwise_decides nodes_tell) (pointwise_decides choices_tell)))))
    (λ a. (search_of a, (a.position, (a.exploring, (a.nodes, a.given)))))
    (λ p. record { search = settings p.0; explores = p.0.explores; position = p.1.0; exploring = p.1.1.0; nodes = p.1.1.1.0; given = p.1.1.1.1 }) (λ _. refl)

pub same_routes_equiv : IsEquivalence same_routes
same_routes_equiv = decided same_routes same_routes_tell
