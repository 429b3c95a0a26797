-- The JSON value of a path between two runs, version 2.
use Rattle.std.specs.Prelude.{ℕ, Bool, List, map, codes, Option}
use Rattle.serde_json.specs.Data.{Data, boolean, string, object, member, no_members}
use Rattle.loom_objects.specs.Tree.Stores.{slots}
use Rattle.loom_engine.specs.Trees.Meeting.{Settings}
pub use Rattle.loom_engine.specs.Checkpoint.Shape.{whole, whole_or_null, list_data, order_rule}
unfoldable pub use Rattle.loom_engine.specs.Checkpoint.Shape.{shape_data}
use Rattle.loom_engine.specs.declared.rt.path.node.Status.{Status}
use Rattle.loom_engine.specs.declared.rt.path.node.Status.TheVariants.{Disabled, Skip, Yield, Pending, Active, Visited}
use Rattle.loom_engine.specs.declared.rt.path.node.Node.{Node}
use Rattle.loom_engine.specs.declared.rt.path.node.Node.TheVariants.{Schedule, Load, Spurious}

abbrev pub status_text : Status → List ℕ
status_text Disabled = codes "Disabled"
status_text Skip = codes "Skip"
status_text Yield = codes "Yield"
status_text Pending = codes "Pending"
status_text Active = codes "Active"
status_text Visited = codes "Visited"

abbrev pub status_data : Status → Data
status_data status = string (status_text status)

-- {"exploring":b,"first":n,"schedule":[five statuses]}
unfoldable pub schedule_data : Option ℕ → Bool → List Status → Data
schedule_data first exploring statuses =
    object (member (codes "exploring") (boolean exploring) (member (codes "first") (whole_or_null first) (member (codes "schedule") (list_data (map status_data statuses)) no_members)))

-- {"at":n,"exploring":b,"load":[slots]}
unfoldable pub load_data : Bool → List Bool → ℕ → Data
load_data exploring readable position =
    object (member (codes "at") (whole position) (member (codes "exploring") (boolean exploring) (member (codes "load") (list_data (map whole (slots readable))) no_members)))

-- {"exploring":b,"spurious":b}
unfoldable pub spurious_data : Bool → Bool → Data
spurious_data exploring answer = object (member (codes "exploring") (boolean exploring) (member (codes "spurious") (boolean answer) no_members))

-- a node, without its notes, which follow from the nodes before it
abbrev pub node_data : Node → Data
node_data (Schedule n) = schedule_data n.first n.exploring n.statuses
node_data (Load n) = load_data n.exploring n.readable n.position
node_data (Spurious n) = spurious_data n.exploring n.answer

-- the path with these nodes, of a search with these settings, whose runs begin to explore or don't
unfoldable pub path_data : Settings → Bool → List Node → Data
path_data s explores nodes = shape_data explores (map node_data nodes) order_rule s.bound s.reduce 2
