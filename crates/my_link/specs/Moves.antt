-- What reads and writes of a link did to it, one after another.
use Rattle.std.specs.Prelude.{ℕ, ◌≡◌, ◌<◌, ◌≤◌, List, [], ◌∷◌, ◌++◌, length, take, Some}
use Rattle.my_frame.specs.Outside.{Comes}
use Rattle.my_link.specs.declared.link.ReadStep.{ReadStep}
use Rattle.my_link.specs.declared.link.ReadStep.TheVariants as reads
use Rattle.my_link.specs.declared.link.WriteStep.{WriteStep}
use Rattle.my_link.specs.declared.link.WriteStep.TheVariants as writes
use Rattle.my_link.specs.declared.met.Met.{Met}
use Rattle.my_link.specs.Link.{Told, Gave, after_hold, after_fault, after_end, after_write, taken_of, after_taken, after_write_hold, after_write_fault}
use Rattle.my_link.specs.Looks.{Looks}
use Rattle.my_link.specs.Outside.{FaultRose, HoldRose, EndRose}

-- a read gave these bytes
pub record Receives (bytes : List ℕ) (x y : Looks) : Type 0 where
  pub items : Told x.items y.items (Gave bytes)
  pub writes : y.writes ≡ x.writes
  pub got : y.got ≡ x.got
  pub counts : y.counts ≡ x.counts

-- a write took these bytes of the `offered` ones
pub record Sends (offered : ℕ) (bytes : List ℕ) (x y : Looks) : Type 0 where
  pub items : Told x.items y.items (λ is js. js ≡ after_write is)
  pub writes : Told x.writes y.writes
      (λ ws vs. (taken_of offered ws ≡ Some (length bytes)) × (vs ≡ after_taken (length bytes) ws))
  pub got : Comes x.got bytes y.got
  pub counts : y.counts ≡ x.counts

-- a read wasn't ready, or a write wasn't
pub record ReadHolds (x y : Looks) : Type 0 where
  pub items : Told x.items y.items (λ is js. after_hold is ≡ Some js)
  pub writes : y.writes ≡ x.writes
  pub got : y.got ≡ x.got
  pub counts : HoldRose x.counts y.counts

pub record WriteHolds (x y : Looks) : Type 0 where
  pub items : y.items ≡ x.items
  pub writes : Told x.writes y.writes (λ ws vs. after_write_hold ws ≡ Some vs)
  pub got : y.got ≡ x.got
  pub counts : HoldRose x.counts y.counts

-- a read failed, or a write did
pub record ReadFails (x y : Looks) : Type 0 where
  pub items : Told x.items y.items (λ is js. after_fault is ≡ Some js)
  pub writes : y.writes ≡ x.writes
  pub got : y.got ≡ x.got
  pub counts : FaultRose x.counts y.counts

pub record WriteFails (x y : Looks) : Type 0 where
  pub items : y.items ≡ x.items
  pub writes : Told x.writes y.writes (λ ws vs. after_write_fault ws ≡ Some vs)
  pub got : y.got ≡ x.got
  pub counts : FaultRose x.counts y.counts

-- a read returned the end
pub record ReadEnds (x y : Looks) : Type 0 where
  pub items : Told x.items y.items (λ is js. after_end is ≡ Some js)
  pub writes : y.writes ≡ x.writes
  pub got : y.got ≡ x.got
  pub counts : EndRose x.counts y.counts

-- what a read into a buffer that holds `buf` after it did
abbrev pub ReadIs : Looks → List ℕ → Looks → ReadStep → Type 0
ReadIs x buf y (reads.Got n) = (0 < n) × (n ≤ length buf) × Receives (take n buf) x y
ReadIs x buf y reads.NotYet = ReadHolds x y
ReadIs x buf y reads.End = ReadEnds x y
ReadIs x buf y reads.Failed = ReadFails x y

-- what a write of `bytes` did
abbrev pub WriteIs : Looks → List ℕ → Looks → WriteStep → Type 0
WriteIs x bytes y (writes.Took n) = (0 < n) × (n ≤ length bytes) × Sends (length bytes) (take n bytes) x y
WriteIs x bytes y writes.NotYet = WriteHolds x y
WriteIs x bytes y writes.Failed = WriteFails x y
WriteIs x bytes y writes.NoMemory = y ≡ x

-- A read or a write that moved bytes.
pub data Move : Type 0 where
  Received : (bytes : List ℕ) → Move
  Sent : (offered : ℕ) (bytes : List ℕ) → Move

-- at least one byte
abbrev pub Moves : Move → Looks → Looks → Type 0
Moves (Received bytes) x y = (0 < length bytes) × Receives bytes x y
Moves (Sent offered bytes) x y = (0 < length bytes) × Sends offered bytes x y

-- these moves lead from `x` to `y`; the newest stands first
abbrev pub Leads : List Move → Looks → Looks → Type 0
Leads [] x y = y ≡ x
Leads (m ∷ ms) x y = (z : Looks) × Leads ms x z × Moves m z y

-- the bytes that the moves received
abbrev pub received_by : List Move → List ℕ
received_by [] = []
received_by (Received bytes ∷ ms) = received_by ms ++ bytes
received_by (Sent offered bytes ∷ ms) = received_by ms

-- the bytes that they sent
abbrev pub sent_by : List Move → List ℕ
sent_by [] = []
sent_by (Received bytes ∷ ms) = sent_by ms
sent_by (Sent offered bytes ∷ ms) = sent_by ms ++ bytes

-- At what a use of a link stopped: at nothing of the link, at a read or a write that wasn't ready or failed, or at the end.
pub data Stop : Type 0 where
  NoStop : Stop
  ReadHold : Stop
  WriteHold : Stop
  ReadFault : Stop
  WriteFault : Stop
  LinkEnd : Stop

abbrev pub StopsAt : Stop → Looks → Looks → Type 0
StopsAt NoStop x y = y ≡ x
StopsAt ReadHold x y = ReadHolds x y
StopsAt WriteHold x y = WriteHolds x y
StopsAt ReadFault x y = ReadFails x y
StopsAt WriteFault x y = WriteFails x y
StopsAt LinkEnd x y = ReadEnds x y

abbrev pub faults_at : Stop → ℕ
faults_at NoStop = 0
faults_at ReadHold = 0
faults_at WriteHold = 0
faults_at ReadFault = 1
faults_at WriteFault = 1
faults_at LinkEnd = 0

abbrev pub holds_at : Stop → ℕ
holds_at NoStop = 0
holds_at ReadHold = 1
holds_at WriteHold = 1
holds_at ReadFault = 0
holds_at WriteFault = 0
holds_at LinkEnd = 0

abbrev pub ends_at : Stop → ℕ
ends_at NoStop = 0
ends_at ReadHold = 0
ends_at WriteHold = 0
ends_at ReadFault = 0
ends_at WriteFault = 0
ends_at LinkEnd = 1

-- Reads and writes of a link, from `x` to `y`: it was sent exactly `sent`, gave exactly `received`, and at `stop` they ended.
pub record IsUsed (x y : Looks) (sent received : List ℕ) (stop : Stop) : Type 0 where
  pub moves : List Move
  pub moved : Looks
  pub leads : Leads moves x moved
  pub stops : StopsAt stop moved y
  pub sent_is : sent_by moves ≡ sent
  pub received_is : received_by moves ≡ received

-- what was met in it
pub record IsMet (m : Met) (received : List ℕ) (stop : Stop) : Type 0 where
  pub taken : m.taken ≡ length received
  pub faults : m.faults ≡ faults_at stop
  pub holds : m.holds ≡ holds_at stop
  pub ends : m.ends ≡ ends_at stop
