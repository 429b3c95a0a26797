-- The JSON value of a whole path, version 2, from those of its nodes.
use Rattle.std.specs.Prelude.{ℕ, Bool, List, codes, Option, Some, None}
use Rattle.serde_json.specs.Data.{Data, null, boolean, number, unsigned, string, array, object, member, no_members}
use Rattle.serde_json.specs.View.{items_of}

abbrev pub whole : ℕ → Data
whole n = number (unsigned n)

-- a whole number, or null
abbrev pub whole_or_null : Option ℕ → Data
whole_or_null None = null
whole_or_null (Some n) = whole n

abbrev pub list_data : List Data → Data
list_data ds = array (items_of ds)

-- the rule of orders under which paths are made: raising one store's order raises all above it
abbrev pub order_rule : List ℕ
order_rule = codes "all"

-- exactly the six keys, each with its kind of value
unfoldable pub shape_data : Bool → List Data → List ℕ → Option ℕ → Bool → ℕ → Data
shape_data exploring nodes order bound reduce version =
    object (member (codes "exploring") (boolean exploring) (member (codes "nodes") (list_data nodes) (member (codes "order") (string order) (member (codes "preemption_bound") (whole_or_null bound) (member (codes "reduce") (boolean reduce) (member (codes "version") (whole version) no_members))))))
