-- One payload is read from a link.
use Rattle.std.specs.Prelude.{ℕ, ◌≡◌, ◌<◌, ◌≤◌, ◌⊎◌, List, [], ◌∷◌, ◌++◌, length, Option, Some, None, Result, Ok, Err}
use Rattle.my_frame.specs.declared.limits.TheConstants.{MOST_TAKEN}
use Rattle.my_frame.specs.Codec.{Codec, Takes}
use Rattle.my_frame.specs.Faults.{Faulty, HasNoPayload, HasNoFault}
use Rattle.my_link.specs.Looks.{Looks}
use Rattle.my_link.specs.Moves.{Receives, ReadHolds, ReadFails, ReadEnds, Move, Received as Came, Sent, Leads, received_by, Stop, NoStop, ReadHold, ReadFault, LinkEnd, StopsAt}
use Rattle.my_reading.specs.declared.error.Error.{Error}
use Rattle.my_reading.specs.declared.error.Error.TheVariants as errors
use Rattle.my_reading.specs.declared.error.IoError.TheVariants as ios
use Rattle.my_reading.specs.declared.error.IoKind.{IoKind}
use Rattle.my_reading.specs.declared.error.IoKind.TheVariants as kinds
use Rattle.my_link.specs.declared.poll.Poll.{Poll}
use Rattle.my_link.specs.declared.poll.Poll.TheVariants.{Ready, Pending}
use Rattle.my_packets.specs.declared.read.Received.{Received}
use Rattle.my_packets.specs.declared.read.Received.TheVariants as received

-- the bytes begin with no whole payload, and with no fault
pub record HasNone (c : Codec) (bytes : List ℕ) : Type 0 where
  pub payload : HasNoPayload bytes c.number
  pub fault : HasNoFault bytes c.number c.limit

-- ---- what is taken from bytes that are there ----

-- why it failed: a fault of the packets in front; out of memory is free
abbrev pub TakesNoneBy : Error → Codec → List ℕ → Type 0
TakesNoneBy (errors.Io (ios.Codec f)) c bytes = Faulty bytes c.number 0 c.limit f
TakesNoneBy errors.NoMemory c bytes = Unit {0}
TakesNoneBy _ c bytes = ⊥

abbrev pub IsTaken : {V : Type 0} → Option (Result V Error) → (V → List ℕ) → Codec → Codec → List ℕ → List ℕ → Type 0
IsTaken None items c d before after = (d ≡ c) × (after ≡ before) × HasNone c before
IsTaken (Some (Ok v)) items c d before after = Takes c d (items v) before after
IsTaken (Some (Err e)) items c d before after = (d ≡ c) × (after ≡ before) × TakesNoneBy e c before

-- ---- a read of the link ----

-- the link failed, or ended; the place of such an error is 0
abbrev pub KindOf : IoKind → Looks → Looks → Type 0
KindOf kinds.Link x y = ReadFails x y
KindOf kinds.UnexpectedEof x y = ReadEnds x y
KindOf kinds.Dial x y = ⊥
KindOf kinds.InvalidData x y = ⊥

abbrev pub FailsBy : Error → Looks → Looks → Type 0
FailsBy (errors.Io (ios.Io fault)) x y = (fault.place ≡ 0) × KindOf fault.kind x y
FailsBy errors.NoMemory x y = y ≡ x
FailsBy _ x y = ⊥

-- these bytes came
pub record Comes (x y : Looks) (before after : List ℕ) (room n : ℕ) : Type 0 where
  pub bytes : List ℕ
  pub count : length bytes ≡ n
  pub some : 0 < n
  pub within : n ≤ room
  pub added : after ≡ before ++ bytes
  pub looks : Receives bytes x y

abbrev pub IsReceived : Looks → Looks → List ℕ → List ℕ → ℕ → Received → Type 0
IsReceived x y before after room (received.Bytes n) = Comes x y before after room n
IsReceived x y before after room received.Nothing = (after ≡ before) × ReadHolds x y
IsReceived x y before after room (received.Failed e) = (after ≡ before) × FailsBy e x y

-- ---- a poll ----

-- the link was only read, each time where the bytes so far began with no whole payload and no fault
abbrev pub EachNeeded : Codec → List ℕ → List Move → Type 0
EachNeeded c before [] = Unit {0}
EachNeeded c before (Came bytes ∷ ms) = HasNone c (before ++ received_by ms) × EachNeeded c before ms
EachNeeded c before (Sent offered bytes ∷ ms) = ⊥

-- why a poll has no payload, by what it stopped at: the packets in front have a fault; or they have none and are no whole
-- payload, and the link failed or ended. Out of memory is free.
abbrev pub KindEnds : IoKind → Stop → Codec → List ℕ → Type 0
KindEnds kinds.Link stop c bytes = (stop ≡ ReadFault) × HasNone c bytes
KindEnds kinds.UnexpectedEof stop c bytes = (stop ≡ LinkEnd) × HasNone c bytes
KindEnds kinds.Dial stop c bytes = ⊥
KindEnds kinds.InvalidData stop c bytes = ⊥

abbrev pub ErrorEnds : Error → Stop → Codec → List ℕ → Type 0
ErrorEnds (errors.Io (ios.Io fault)) stop c bytes = (fault.place ≡ 0) × KindEnds fault.kind stop c bytes
ErrorEnds (errors.Io (ios.Codec f)) stop c bytes = (stop ≡ NoStop) × Faulty bytes c.number 0 c.limit f
ErrorEnds errors.NoMemory stop c bytes = stop ≡ NoStop
ErrorEnds (errors.Driver e) stop c bytes = ⊥
ErrorEnds (errors.Server e) stop c bytes = ⊥
ErrorEnds (errors.Url e) stop c bytes = ⊥
ErrorEnds (errors.Other e) stop c bytes = ⊥

-- what a poll came to, where `bytes` were there with those that came: a payload, which is taken from them; nothing yet, where
-- the link wasn't ready or the poll took all that it may; or an error. But for the payload all bytes stay.
abbrev pub Ends : {V : Type 0} → Poll (Result V Error) → (V → List ℕ) → Codec → Codec → List ℕ → ℕ → List ℕ → Stop
    → Type 0
Ends Pending items c d bytes taken after stop = (d ≡ c) × (after ≡ bytes) × HasNone c bytes
    × ((stop ≡ ReadHold) ⊎ ((stop ≡ NoStop) × (taken ≡ MOST_TAKEN)))
Ends (Ready (Ok v)) items c d bytes taken after stop = (stop ≡ NoStop) × Takes c d (items v) bytes after
Ends (Ready (Err e)) items c d bytes taken after stop = (d ≡ c) × (after ≡ bytes) × ErrorEnds e stop c bytes

-- one poll of a read
pub record ReadsPacket {V : Type 0} (result : Poll (Result V Error)) (items : V → List ℕ) (x y : Looks) (c d : Codec)
    (before after : List ℕ) : Type 0 where
  pub moves : List Move
  pub moved : Looks
  pub stop : Stop
  pub leads : Leads moves x moved
  pub stops : StopsAt stop moved y
  pub needed : EachNeeded c before moves
  pub within : length (received_by moves) ≤ MOST_TAKEN
  pub ends : Ends result items c d (before ++ received_by moves) (length (received_by moves)) after stop
