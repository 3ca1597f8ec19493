-- What a connection keeps of what it did: the bytes of both sides, and its calls.
use Rattle.std.specs.Prelude.{ℕ, ◌-◌, List, [], ◌∷◌, length, take, drop, Option}
use Rattle.my_reading.specs.declared.call.Call.{Call}
use Rattle.my_reading.specs.Told.{Told}

-- A call, how many bytes were sent and received when it began, and how it ended, unless it is open.
pub record TapeCall : Type 0 where
  pub call : Call
  pub sent_from : ℕ
  pub taken_from : ℕ
  pub ending : Option Told

-- the bytes that were sent and received, and the calls, the oldest first
pub record Tape : Type 0 where
  pub sent : List ℕ
  pub taken : List ℕ
  pub calls : List TapeCall

-- a call with the bytes that were sent and received while it was open
pub record Span : Type 0 where
  pub call : Call
  pub sent : List ℕ
  pub taken : List ℕ
  pub ending : Option Told

-- the bytes from one place to another
abbrev pub between : ℕ → ℕ → List ℕ → List ℕ
between from to bytes = take (to - from) (drop from bytes)

-- where the bytes of a call end: where the next one begins, or at the tape's end
abbrev pub sent_to : Tape → List TapeCall → ℕ
sent_to t [] = length t.sent
sent_to t (c ∷ cs) = c.sent_from

abbrev pub taken_to : Tape → List TapeCall → ℕ
taken_to t [] = length t.taken
taken_to t (c ∷ cs) = c.taken_from

abbrev pub spans_from : Tape → List TapeCall → List Span
spans_from t [] = []
spans_from t (c ∷ cs) = record {
  call = c.call;
  sent = between c.sent_from (sent_to t cs) t.sent;
  taken = between c.taken_from (taken_to t cs) t.taken;
  ending = c.ending;
} ∷ spans_from t cs

abbrev pub spans : Tape → List Span
spans t = spans_from t t.calls
