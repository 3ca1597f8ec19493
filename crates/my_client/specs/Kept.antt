-- What a connection keeps of what it did.
use Rattle.std.specs.Prelude.{ℕ, List, [], ◌∷◌, ◌++◌, length, Option, Some, None}
use Rattle.my_value.specs.RowParts.{RowParts}
use Rattle.my_reading.specs.declared.call.Call.{Call}
use Rattle.my_reading.specs.declared.call.Call.TheVariants as calls
use Rattle.my_reading.specs.Told.{Told, ToldError, Dropped, told}
use Rattle.my_client.specs.Made.{Made}
use Rattle.my_client.specs.declared.tape.DoneCall.{DoneCall}
use Rattle.my_client.specs.declared.tape.Said.{Said}
use Rattle.my_client.specs.declared.tape.Said.TheVariants.{Answered, Failed, Cancelled}

-- a call that hasn't returned: how many bytes were sent and received when it began, and the rows so far where it gathers a set's rows
pub record Asked : Type 0 where
  pub call : Call
  pub sent_from : ℕ
  pub taken_from : ℕ
  pub rows : Option (List RowParts)

-- the bytes that were sent and taken, the calls that ended, the oldest first, and the one that is open
pub record Kept : Type 0 where
  pub sent : List ℕ
  pub taken : List ℕ
  pub calls : List DoneCall
  pub pending : Option Asked

abbrev pub nothing_kept : Kept
nothing_kept = record { sent = []; taken = []; calls = []; pending = None }

abbrev pub told_by : Said → Told
told_by (Answered answer) = told answer
told_by (Failed error) = ToldError error
told_by (Cancelled closing) = Dropped closing

-- the calls as a history has them, the newest first
abbrev pub made_of : List DoneCall → List Made
made_of [] = []
made_of (d ∷ ds) = made_of ds ++ record { call = d.call; what = told_by d.said } ∷ []

-- a call begins
abbrev pub asking : Kept → Call → Option (List RowParts) → Kept
asking k call rows = record {
  sent = k.sent;
  taken = k.taken;
  calls = k.calls;
  pending = Some (record { call = call; sent_from = length k.sent; taken_from = length k.taken; rows = rows });
}

-- that call, which gathers no rows
abbrev pub asked_by : Kept → Call → Asked
asked_by k call = record { call = call; sent_from = length k.sent; taken_from = length k.taken; rows = None }

-- the open call ends
abbrev pub ended_by : Kept → Asked → Said → Kept
ended_by k a said = record {
  sent = k.sent;
  taken = k.taken;
  calls = k.calls ++ record { call = a.call; sent_from = a.sent_from; taken_from = a.taken_from; said = said } ∷ [];
  pending = None;
}

-- a connection that connects: its handshake, and what is kept once it began
abbrev pub first_asked : Asked
first_asked = asked_by nothing_kept calls.Connect

abbrev pub first_kept : Kept
first_kept = asking nothing_kept calls.Connect None
