-- What an operation is called, and where it stands.
use Rattle.std.specs.Prelude.{Option, Some, None}
use Rattle.loom_objects.specs.declared.label.Label.{Label}
use Rattle.loom_objects.specs.declared.location.Location.{Location}
use Rattle.loom_objects.specs.declared.text.Text.{Text}

abbrev pub name_in : Option Label → Option Text
name_in None = None
name_in (Some label) = label.name

abbrev pub location_in : Option Label → Option Location
location_in None = None
location_in (Some label) = label.location

-- with this place, and the name that it had
abbrev pub placed : Location → Option Label → Option Label
placed location label = Some (record { name = name_in label; location = Some location })

-- with this name, and the place that it had
abbrev pub named : Text → Option Label → Option Label
named name label = Some (record { name = Some name; location = location_in label })
