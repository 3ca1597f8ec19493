-- Where a call may begin on an open session.
use Rattle.std.specs.Prelude.{Bool, true, false, not}
use Rattle.my_grammar.specs.declared.spot.Spot.{Spot}
use Rattle.my_grammar.specs.declared.spot.Spot.TheVariants as spots
use Rattle.my_reading.specs.declared.call.CallKind.{CallKind}
use Rattle.my_reading.specs.declared.call.CallKind.TheVariants.{Connect}

-- where a connected session rests between calls
abbrev pub is_settled : Spot → Bool
is_settled spots.Idle = true
is_settled spots.Further = true
is_settled spots.Rows = true
is_settled s = false

abbrev pub is_greeted : Spot → Bool
is_greeted (spots.Greeting rules) = false
is_greeted s = true

-- Connect before the greeting, each other call once it is connected
abbrev pub is_begun_at : CallKind → Spot → Bool
is_begun_at Connect spot = not (is_greeted spot)
is_begun_at _ spot = is_settled spot
