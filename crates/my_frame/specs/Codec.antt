-- The state of a codec, and what reading a payload does to it and to the buffer.
use Rattle.std.specs.Prelude.{◌≡◌, ℕ, ◌≤◌, List, ◌++◌, length}
use Rattle.my_frame.specs.Chunks.{chunks, number_after_payload}

-- the next sequence id, and the longest payload in bytes
pub record Codec : Type 0 where
  pub number : ℕ
  pub limit : ℕ

-- The payload's chunks are taken from the front of the bytes, and the sequence id moves past theirs.
pub record Takes (old new : Codec) (payload before after : List ℕ) : Type 0 where
  pub spelled : before ≡ chunks payload old.number ++ after
  pub within : length payload ≤ old.limit
  pub number : new.number ≡ number_after_payload payload old.number
  pub limit : new.limit ≡ old.limit
