-- The program's tape as the reading has it.
use Rattle.std.specs.Prelude.{map}
use Rattle.std.specs.Option.{option_map}
use Rattle.my_machine.specs.declared.step.Ending.{Ending as Returned}
use Rattle.my_machine.specs.Stops.{told_of as told_by}
use Rattle.my_reading.specs.Tape.{Tape, TapeCall}
use Rattle.my_reading.specs.Told.{Told, ToldError, Dropped, told}
use Rattle.my_judge.specs.declared.tape.Ending.{Ending}
use Rattle.my_judge.specs.declared.tape.Ending.TheVariants.{Answered, Failed, Cancelled}
use Rattle.my_judge.specs.declared.tape.Tape.{Tape as CodeTape}
use Rattle.my_judge.specs.declared.tape.TapeCall.{TapeCall as CodeCall}

-- what a call returned
abbrev pub told_of : Ending → Told
told_of (Answered answer) = told answer
told_of (Failed e) = ToldError e
told_of (Cancelled closing) = Dropped closing

abbrev pub returned_of : Returned → Told
returned_of e = told_by e

abbrev pub call_of : CodeCall → TapeCall
call_of c = record { call = c.call; sent_from = c.sent_from; taken_from = c.taken_from; ending = option_map told_of c.ending }

abbrev pub tape_of : CodeTape → Tape
tape_of t = record { sent = t.sent; taken = t.taken; calls = map call_of t.calls }
