-- What some bytes begin with, as a function: a session reads its bytes by it. The laws in src/laws.rt join it to the
-- chunks of payloads and to faults.
use Rattle.std.specs.Prelude.{ℕ, zero, suc, ◌+◌, ◌*◌, ◌-◌, ◌==◌, nat_lt, List, ◌++◌, length, take, drop, slice_index, Option, Some, None, Result, Ok, Err, if◌then◌else◌}
use Rattle.my_frame.specs.declared.fault.CodecFault.{CodecFault}
use Rattle.my_frame.specs.declared.fault.CodecFault.TheVariants.{OutOfOrder, TooLarge}
use Rattle.my_frame.specs.declared.scan.Span.{Span}
use Rattle.my_frame.specs.Chunks.{full_length, next_number}

-- not yet a whole payload; a fault; or a payload, the bytes after its chunks and the next sequence id
pub data Front : Type 0 where
  Waiting : Front
  Broken : (fault : CodecFault) → Front
  Whole : (payload rest : List ℕ) (next : ℕ) → Front

-- the length and the sequence id in a header of four bytes
abbrev pub header_length : List ℕ → ℕ
header_length bytes = slice_index bytes 0 + 256 * slice_index bytes 1 + 65536 * slice_index bytes 2

abbrev pub header_number : List ℕ → ℕ
header_number bytes = slice_index bytes 3

-- a payload that begins with this part, by what the rest begins with
abbrev pub after_part : List ℕ → Front → Front
after_part part Waiting = Waiting
after_part part (Broken fault) = Broken fault
after_part part (Whole payload rest next) = Whole (part ++ payload) rest next

-- what begins with a header of the right sequence id and a length within the limit, after which the body comes
abbrev pub body_front : ℕ → ℕ → List ℕ → Front → Front
body_front n len body later =
    if nat_lt (length body) len
    then Waiting
    else (if nat_lt len full_length
    then Whole (take len body) (drop len body) (next_number n)
    else after_part (take len body) later)

-- what begins with a header: its sequence id is tested before its length
abbrev pub header_front : ℕ → ℕ → ℕ → ℕ → ℕ → List ℕ → Front → Front
header_front n before limit len number body later =
    if number == n
    then (if nat_lt limit (before + len) then Broken (TooLarge (before + len) limit) else body_front n len body later)
    else Broken (OutOfOrder n number)

-- what the bytes begin with, where at most `most` headers are read
unfoldable pub front_within : ℕ → ℕ → ℕ → ℕ → List ℕ → Front
front_within zero n before limit bytes = Waiting
front_within (suc most) n before limit bytes =
    if nat_lt (length bytes) 4
    then Waiting
    else header_front n before limit (header_length bytes) (header_number bytes) (drop 4 bytes)
    (front_within most (next_number n) (before + header_length bytes) limit (drop (header_length bytes) (drop 4 bytes)))

-- What these bytes begin with, where the next sequence id is n and earlier chunks of the payload had `before` bytes.
-- There are fewer headers than bytes.
unfoldable pub front_from : ℕ → ℕ → ℕ → List ℕ → Front
front_from n before limit bytes = front_within (length bytes) n before limit bytes

-- what these bytes begin with, where the next sequence id is n and a payload has at most `limit` bytes
abbrev pub front_at : ℕ → ℕ → List ℕ → Front
front_at n limit bytes = front_from n 0 limit bytes

-- the span of what the bytes begin with, or its fault
abbrev pub span_of : List ℕ → Front → Result (Option Span) CodecFault
span_of bytes Waiting = Ok None
span_of bytes (Broken fault) = Err fault
span_of bytes (Whole payload rest next) = Ok (Some (record { len = length bytes - length rest; next = next }))
