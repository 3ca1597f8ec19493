-- What can be wrong with a stream of chunks. MySQL client/server protocol, "MySQL Packets" (the sequence id), and the
-- limit on a payload's length that both sides know as max_allowed_packet.
use Rattle.std.specs.Prelude.{◌≡◌, ◌≢◌, ℕ, ◌+◌, ◌^◌, ◌<◌, ◌≤◌, List, ◌++◌, length}
use Rattle.std.specs.List.{AllByRecursion, concat}
use Rattle.my_frame.specs.declared.fault.CodecFault.{CodecFault}
use Rattle.my_frame.specs.declared.fault.CodecFault.TheVariants.{OutOfOrder, TooLarge}
use Rattle.my_frame.specs.Chunks.{full_length, header, numbered, number_after, chunks}

-- What a header is blamed for, where the next sequence id is `expected` and the payload's earlier chunks had `before`
-- bytes. A header with a wrong sequence id is blamed for that alone.
abbrev pub IsBlamed : ℕ → ℕ → ℕ → ℕ → ℕ → CodecFault → Type 0
IsBlamed expected before limit len number (OutOfOrder e f) = (number ≢ expected) × (e ≡ expected) × (f ≡ number)
IsBlamed expected before limit len number (TooLarge l m) =
    (number ≡ expected) × (limit < before + len) × (l ≡ before + len) × (m ≡ limit)

-- Full chunks with the right sequence ids and within the limit are followed by a header with this fault, the first
-- faulty one. Earlier chunks of the payload, before these bytes, had `before` bytes.
pub record Faulty (bytes : List ℕ) (n before limit : ℕ) (fault : CodecFault) : Type 0 where
  pub parts : List (List ℕ)
  pub len : ℕ
  pub number : ℕ
  pub more : List ℕ
  pub spelled : bytes ≡ numbered parts n ++ (header len number ++ more)
  pub full : AllByRecursion (λ part. length part ≡ full_length) parts
  pub len_fits : len < 2 ^ 24
  pub within : before + length (concat parts) ≤ limit
  pub blamed : IsBlamed (number_after parts n) (before + length (concat parts)) limit len number fault

-- These bytes begin with no payload's chunks.
pub record HasNoPayload (bytes : List ℕ) (n : ℕ) : Type 0 where
  pub none : (p more : List ℕ) → bytes ≡ chunks p n ++ more → ⊥

-- No header of the payload that these bytes begin has a fault.
pub record HasNoFault (bytes : List ℕ) (n limit : ℕ) : Type 0 where
  pub none : (fault : CodecFault) → Faulty bytes n 0 limit fault → ⊥
