-- One payload is written to a link.
use Rattle.std.specs.Prelude.{ℕ, ◌≡◌, ◌≢◌, ◌<◌, ◌≤◌, ◌⊎◌, List, [], ◌++◌, length, Bool, true, false, Result, Ok, Err, if◌then◌else◌}
use Rattle.my_frame.specs.declared.fault.CodecFault.{CodecFault}
use Rattle.my_frame.specs.declared.fault.CodecFault.TheVariants.{TooLarge}
use Rattle.my_frame.specs.Chunks.{chunks, number_after_payload}
use Rattle.my_frame.specs.Codec.{Codec}
use Rattle.my_link.specs.Looks.{Looks}
use Rattle.my_link.specs.Moves.{Sends, WriteHolds, WriteFails, Stop, NoStop, WriteHold, WriteFault, IsUsed}
use Rattle.my_reading.specs.declared.error.Error.{Error}
use Rattle.my_reading.specs.declared.error.Error.TheVariants as errors
use Rattle.my_reading.specs.declared.error.IoError.TheVariants as ios
use Rattle.my_reading.specs.declared.error.IoKind.TheVariants as kinds
use Rattle.my_link.specs.declared.poll.Poll.{Poll}
use Rattle.my_link.specs.declared.poll.Poll.TheVariants.{Ready, Pending}
use Rattle.my_packets.specs.declared.write.Sent.{Sent}
use Rattle.my_packets.specs.declared.write.Sent.TheVariants as sends

-- a payload that is written: whether its packets were made, and those of their bytes that are still to be sent
pub record Sending : Type 0 where
  pub payload : List ℕ
  pub begun : Bool
  pub owed : List ℕ

-- what a poll has to send, and the codec once the packets are made
abbrev pub to_send : Codec → Sending → List ℕ
to_send c s = if s.begun then s.owed else s.owed ++ chunks s.payload c.number

abbrev pub codec_begun : Codec → Sending → Codec
codec_begun c s = if s.begun then c else record c { number = number_after_payload s.payload c.number }

-- the packets are made, and these bytes are still to be sent
pub record GoesOn (c d : Codec) (s t : Sending) (sent : List ℕ) : Type 0 where
  pub payload : t.payload ≡ s.payload
  pub begun : t.begun ≡ true
  pub codec : d ≡ codec_begun c s
  pub within : s.begun ≡ false → length s.payload ≤ c.limit
  pub bytes : to_send c s ≡ sent ++ t.owed

-- a payload above the limit is refused, and nothing changes
pub record IsRefused (c d : Codec) (s t : Sending) (f : CodecFault) : Type 0 where
  pub fresh : s.begun ≡ false
  pub long : c.limit < length s.payload
  pub fault : f ≡ TooLarge (length s.payload) c.limit
  pub codec : d ≡ c
  pub same : t ≡ s

-- the packets are made, or why not
abbrev pub IsBegun : {U : Type 0} → Codec → Codec → Sending → Sending → Result U Error → Type 0
IsBegun c d s t (Ok u) = GoesOn c d s t []
IsBegun c d s t (Err (errors.Io (ios.Codec f))) = IsRefused c d s t f
IsBegun c d s t (Err errors.NoMemory) = (d ≡ c) × (t ≡ s)
IsBegun c d s t (Err _) = ⊥

-- one write
pub record Goes (x y : Looks) (s t : Sending) : Type 0 where
  pub bytes : List ℕ
  pub some : 0 < length bytes
  pub looks : Sends (length s.owed) bytes x y
  pub payload : t.payload ≡ s.payload
  pub begun : t.begun ≡ s.begun
  pub owed : s.owed ≡ bytes ++ t.owed

abbrev pub FailsBy : Error → Looks → Looks → Type 0
FailsBy (errors.Io (ios.Io fault)) x y = (fault.kind ≡ kinds.Link) × (fault.place ≡ 0) × WriteFails x y
FailsBy errors.NoMemory x y = y ≡ x
FailsBy _ x y = ⊥

abbrev pub IsSent : Looks → Looks → Sending → Sending → Sent → Type 0
IsSent x y s t sends.Some = Goes x y s t
IsSent x y s t sends.Nothing = (t ≡ s) × WriteHolds x y
IsSent x y s t (sends.Failed e) = (t ≡ s) × FailsBy e x y

-- writes until all bytes are sent, or the link isn't ready: what they came to, by what they stopped at
abbrev pub SendFails : Error → Sending → Stop → Type 0
SendFails (errors.Io (ios.Io fault)) t stop = (fault.kind ≡ kinds.Link) × (fault.place ≡ 0) × (t.owed ≢ []) × (stop ≡ WriteFault)
SendFails errors.NoMemory t stop = stop ≡ NoStop
SendFails _ t stop = ⊥

abbrev pub SendEnds : {U : Type 0} → Poll (Result U Error) → Sending → Stop → Type 0
SendEnds Pending t stop = (t.owed ≢ []) × (stop ≡ WriteHold)
SendEnds (Ready (Ok u)) t stop = (t.owed ≡ []) × (stop ≡ NoStop)
SendEnds (Ready (Err e)) t stop = SendFails e t stop

pub record SendsOn {U : Type 0} (x y : Looks) (s t : Sending) (result : Poll (Result U Error)) : Type 0 where
  pub sent : List ℕ
  pub stop : Stop
  pub used : IsUsed x y sent [] stop
  pub payload : t.payload ≡ s.payload
  pub begun : t.begun ≡ s.begun
  pub owed : s.owed ≡ sent ++ t.owed
  pub ends : SendEnds result t stop

-- The packets were made, and these bytes of them were sent.
pub record Went {U : Type 0} (x y : Looks) (c d : Codec) (s t : Sending) (result : Poll (Result U Error)) : Type 0 where
  pub sent : List ℕ
  pub stop : Stop
  pub used : IsUsed x y sent [] stop
  pub goes : GoesOn c d s t sent
  pub ends : SendEnds result t stop

-- The packets weren't made, and the link wasn't used: the payload is above the limit, or it is out of memory.
abbrev pub Refuses : {U : Type 0} → Poll (Result U Error) → Codec → Codec → Sending → Sending → Type 0
Refuses (Ready (Err (errors.Io (ios.Codec f)))) c d s t = IsRefused c d s t f
Refuses (Ready (Err errors.NoMemory)) c d s t = (d ≡ c) × (t ≡ s)
Refuses _ c d s t = ⊥

-- one poll of a write
abbrev pub WritesPacket : {U : Type 0} → Looks → Looks → Codec → Codec → Sending → Sending → Poll (Result U Error)
    → Type 0
WritesPacket x y c d s t result = Went x y c d s t result ⊎ ((y ≡ x) × Refuses result c d s t)
