-- Which accesses to an object depend on which.
use Rattle.std.specs.Prelude.{Bool, true, false}
use Rattle.loom_objects.specs.declared.rt.dependence.Action.{Action}
use Rattle.loom_objects.specs.declared.rt.dependence.Action.TheVariants.{Read, Change, Increment, Decrement, Inspect, Send, Receive, Other}

abbrev pub is_change : Action → Bool
is_change Change = true
is_change Read = false
is_change Increment = false
is_change Decrement = false
is_change Inspect = false
is_change Send = false
is_change Receive = false
is_change Other = false

abbrev pub is_decrement : Action → Bool
is_decrement Decrement = true
is_decrement Read = false
is_decrement Change = false
is_decrement Increment = false
is_decrement Inspect = false
is_decrement Send = false
is_decrement Receive = false
is_decrement Other = false

abbrev pub is_inspection : Action → Bool
is_inspection Inspect = true
is_inspection Read = false
is_inspection Change = false
is_inspection Increment = false
is_inspection Decrement = false
is_inspection Send = false
is_inspection Receive = false
is_inspection Other = false

-- it makes the number of references another one
abbrev pub is_recount : Action → Bool
is_recount Increment = true
is_recount Decrement = true
is_recount Read = false
is_recount Change = false
is_recount Inspect = false
is_recount Send = false
is_recount Receive = false
is_recount Other = false

abbrev pub is_send : Action → Bool
is_send Send = true
is_send Read = false
is_send Change = false
is_send Increment = false
is_send Decrement = false
is_send Inspect = false
is_send Receive = false
is_send Other = false

abbrev pub is_receipt : Action → Bool
is_receipt Receive = true
is_receipt Read = false
is_receipt Change = false
is_receipt Increment = false
is_receipt Decrement = false
is_receipt Inspect = false
is_receipt Send = false
is_receipt Other = false

-- an access depends on this earlier one to the same object: a read on changes, an increment on inspections, a decrement on
-- decrements, an inspection on increments and decrements, a send on sends, a receipt on receipts, and any other on each
abbrev pub depends_on : Action → Action → Bool
depends_on Read earlier = is_change earlier
depends_on Change earlier = true
depends_on Increment earlier = is_inspection earlier
depends_on Decrement earlier = is_decrement earlier
depends_on Inspect earlier = is_recount earlier
depends_on Send earlier = is_send earlier
depends_on Receive earlier = is_receipt earlier
depends_on Other earlier = true
