-- What clauses see of a tape.
use Rattle.std.specs.Prelude.{Option, Some, None}
use Rattle.my_client.specs.declared.tape.OpenCall.{OpenCall}
use Rattle.my_client.specs.declared.tape.Tape.{Tape}
use Rattle.my_client.specs.Kept.{Asked, Kept}

-- it keeps no rows
abbrev pub asked_in : Option OpenCall → Option Asked
asked_in None = None
asked_in (Some o) = Some (record { call = o.call; sent_from = o.sent_from; taken_from = o.taken_from; rows = None })

abbrev pub kept_in : Tape → Kept
kept_in t = record { sent = t.sent.items; taken = t.taken.items; calls = t.calls.items; pending = asked_in t.pending }
