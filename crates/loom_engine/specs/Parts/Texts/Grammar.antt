-- The JSON values of a part of a search and of a list of parts, version 2: that of the paths in them.
use Rattle.std.specs.Prelude.{ℕ, Bool, List, [], ◌∷◌, length, map, codes, Some, None, Vec}
use Rattle.std.specs.declared.alloc.Global.{Global}
use Rattle.serde_json.specs.Data.{Data, null, boolean, string, object, member, no_members}
use Rattle.loom_objects.specs.declared.choice.Choice.{Choice}
use Rattle.loom_objects.specs.declared.choice.Choice.TheVariants.{Thread, Load, Spurious}
use Rattle.loom_engine.specs.Path.Route.{settings}
use Rattle.loom_engine.specs.Checkpoint.Grammar.{whole, list_data, path_data}
use Rattle.loom_engine.specs.declared.rt.parts.Part.{Part}
use Rattle.loom_engine.specs.declared.rt.parts.Parts.{Parts}

-- a thread is its number, none is null, a slot is in brackets, and an answer is true or false
abbrev pub choice_data : Choice → Data
choice_data (Thread None) = null
choice_data (Thread (Some thread)) = whole thread
choice_data (Load slot) = list_data (whole slot ∷ [])
choice_data (Spurious answer) = boolean answer

abbrev pub choices_data : List Choice → Data
choices_data list = list_data (map choice_data list)

-- an option that was handed out: the choices before it, and itself
abbrev pub key_data : Vec Choice Global → Data
key_data key = choices_data key.items

-- {"done":b,"floor":n,"path":path,"runs":n}
unfoldable pub item_shape : Bool → ℕ → Data → ℕ → Data
item_shape done floor path runs =
    object (member (codes "done") (boolean done) (member (codes "floor") (whole floor) (member (codes "path") path (member (codes "runs") (whole runs) no_members))))

-- a part: how many nodes of its path are fixed tells its base
abbrev pub item_data : Part → Data
item_data q = item_shape q.is_done (length q.base.items) (path_data q.path.search q.path.explores q.path.nodes) q.runs

-- {"format":"part","part":part,"version":n}
unfoldable pub part_shape : List ℕ → Data → ℕ → Data
part_shape format part version = object (member (codes "format") (string format) (member (codes "part") part (member (codes "version") (whole version) no_members)))

abbrev pub part_data : Part → Data
part_data q = part_shape (codes "part") (item_data q) 2

-- {"format":"parts","parts":[parts],"runs":n,"search":path,"trunk":[options],"version":n}
unfoldable pub list_shape : List ℕ → List Data → ℕ → Data → List Data → ℕ → Data
list_shape format parts runs search trunk version =
    object (member (codes "format") (string format) (member (codes "parts") (list_data parts) (member (codes "runs") (whole runs) (member (codes "search") search (member (codes "trunk") (list_data trunk) (member (codes "version") (whole version) no_members))))))

-- the settings of the search are there as a path without nodes
abbrev pub parts_data : Parts → Data
parts_data p = list_shape (codes "parts") (map item_data p.list.items) p.runs (path_data (settings p.search) p.search.explores []) (map key_data p.trunk.items) 2
