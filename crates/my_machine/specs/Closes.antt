-- What cancelling a call closes.
use Rattle.std.specs.Prelude.{Bool, true}
use Rattle.my_grammar.specs.declared.spot.Spot.{Spot}
use Rattle.my_reading.specs.declared.call.CallKind.{CallKind}
use Rattle.my_reading.specs.declared.call.CallKind.TheVariants.{NextRow, DropResult, TakeSet, SkipTaken}
use Rattle.my_reading.specs.Endings.{awaits_head}

-- whether cancelling a call of this kind closes the connection
abbrev pub closes_at : CallKind → Spot → Bool
closes_at NextRow spot = awaits_head spot
closes_at DropResult spot = awaits_head spot
closes_at TakeSet spot = awaits_head spot
closes_at SkipTaken spot = awaits_head spot
closes_at kind spot = true
