-- Which paths a store's text is of.
use Rattle.std.specs.Prelude.{◌≡◌, ℕ, Bool, List, [], Option, Some, None}
use Rattle.loom_engine.specs.Trees.Meeting.{Settings}
use Rattle.loom_engine.specs.declared.rt.path.node.Node.{Node}
use Rattle.loom_engine.specs.Checkpoint.Accepted.{IsPathOf, OfText}

-- the text is that of a path with these nodes
abbrev pub IsTextOf : Settings → Bool → List ℕ → List Node → Type 0
IsTextOf s explores text nodes = OfText text (λ d. IsPathOf s explores d nodes)

-- the text reads as a path of these nodes; without a text there are none
abbrev pub ReadsAs : Settings → Bool → Option (List ℕ) → List Node → Type 0
ReadsAs s explores None path = path ≡ []
ReadsAs s explores (Some text) path = IsTextOf s explores text path
