-- The payload that unread bytes begin with, and its place in them.
use Rattle.std.specs.Prelude.{◌≡◌, ℕ, ◌-◌, ◌≤◌, List, length, take, drop, Option, Some, None, Result, Ok, Err}
use Rattle.my_frame.specs.declared.fault.CodecError.{CodecError}
use Rattle.my_frame.specs.declared.fault.CodecError.TheVariants.{Fault, NoMemory}
use Rattle.my_frame.specs.Chunks.{number_after_payload}
use Rattle.my_frame.specs.Front.{Front, Waiting, Broken, Whole}
use Rattle.my_machine.specs.declared.stand.payload.FoundPayload.{FoundPayload}

-- a payload that wasn't joined is after the header of its chunk
abbrev pub joined_or : Option (List ℕ) → List ℕ → List ℕ
joined_or None there = there
joined_or (Some payload) there = payload

abbrev pub payload_in : List ℕ → FoundPayload → List ℕ
payload_in bytes f = joined_or f.joined (take (f.span.len - 4) (drop 4 bytes))

-- the bytes have room for it and its header
pub record IsPlaced (bytes : List ℕ) (f : FoundPayload) : Type 0 where
  pub header : 4 ≤ f.span.len
  pub room : f.span.len ≤ length bytes

-- It is what the bytes begin with, where its first packet has the sequence id n.
pub record IsFound (n : ℕ) (bytes : List ℕ) (front : Front) (f : FoundPayload) : Type 0 where
  pub placed : IsPlaced bytes f
  pub whole : front ≡ Whole (payload_in bytes f) (drop f.span.len bytes) f.span.next
  pub next : f.span.next ≡ number_after_payload (payload_in bytes f) n

-- the result where the bytes begin with this: only a payload can run out of memory
abbrev pub Finds : ℕ → List ℕ → Front → Result (Option FoundPayload) CodecError → Type 0
Finds n bytes front (Ok None) = front ≡ Waiting
Finds n bytes front (Ok (Some f)) = IsFound n bytes front f
Finds n bytes front (Err (Fault fault)) = front ≡ Broken fault
Finds n bytes front (Err NoMemory) = (p : List ℕ) × (rest : List ℕ) × (next : ℕ) × (front ≡ Whole p rest next)
