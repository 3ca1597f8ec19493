-- How a call may have ended where the program stops.
use Rattle.std.specs.Prelude.{◌≡◌, ◌⊎◌, Option, Some, None, Bool, true, false}
use Rattle.my_grammar.specs.declared.spot.Spot.{Spot}
use Rattle.my_reading.specs.declared.call.CallKind.{CallKind}
use Rattle.my_reading.specs.declared.error.IoKind.TheVariants.{Link}
use Rattle.my_reading.specs.Errors.{io_error, unexpected_eof}
use Rattle.my_machine.specs.Closes.{closes_at}
use Rattle.my_judge.specs.declared.stand.Stand.{Stand}
use Rattle.my_machine.specs.declared.step.Ending.{Ending as Returned}
use Rattle.my_machine.specs.declared.step.Ending.TheVariants as returned
use Rattle.my_machine.specs.declared.step.Stop.{Stop}
use Rattle.my_machine.specs.declared.step.Stop.TheVariants.{Owes, Awaits, Returns}
use Rattle.my_judge.specs.declared.tape.Ending.{Ending}
use Rattle.my_judge.specs.declared.tape.Ending.TheVariants.{Answered, Failed, Cancelled}

-- cancelling a call there closes the connection or not
abbrev pub settled_at : CallKind → Spot → Option Ending → Option Ending
settled_at kind spot None = None
settled_at kind spot (Some (Answered answer)) = Some (Answered answer)
settled_at kind spot (Some (Failed e)) = Some (Failed e)
settled_at kind spot (Some (Cancelled closing)) = Some (Cancelled (closes_at kind spot))

-- the call is open, was cancelled, or its link failed, or ended where bytes are awaited
abbrev pub IsCutSo : CallKind → Stand → Bool → Option Ending → Type 0
IsCutSo kind s awaits None = Unit {0}
IsCutSo kind s awaits (Some (Answered answer)) = ⊥
IsCutSo kind s awaits (Some (Cancelled closing)) = closing ≡ closes_at kind s.machine.context.spot
IsCutSo kind s awaits (Some (Failed e)) = (e ≡ io_error Link s.machine.facts.place) ⊎ ((awaits ≡ true) × (e ≡ unexpected_eof s.machine.facts.place))

-- what a call returned is its ending
abbrev pub ending_of : Returned → Ending
ending_of (returned.Answered answer) = Answered answer
ending_of (returned.Failed e) = Failed e

-- the call's ending is what it stops with
abbrev pub EndsSo : CallKind → Stand → Stop → Option Ending → Type 0
EndsSo kind s Owes ending = IsCutSo kind s false ending
EndsSo kind s Awaits ending = IsCutSo kind s true ending
EndsSo kind s (Returns told) ending = ending ≡ Some (ending_of told)
