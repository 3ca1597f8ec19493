-- Buffers, and the pool that keeps some of them.
use Rattle.std.specs.Prelude.{ℕ, ◌≡◌, ◌+◌, ◌≤◌, ◌&&◌, nat_lt, nat_le, List, [], Vec, vec_len, vec_capacity, if◌then◌else◌}
use Rattle.std.specs.List.{AllByRecursion}
use Rattle.my_packets.specs.declared.buffers.PooledBuf.{PooledBuf}

-- a buffer's bytes, and for how many it has room
abbrev pub content : PooledBuf → List ℕ
content b = b.bytes.items

abbrev pub room : PooledBuf → ℕ
room b = vec_capacity b.bytes

-- how many buffers a pool keeps, how many it may, up to which room, and the room of a new one
pub record Spare : Type 0 where
  pub kept : ℕ
  pub pool_cap : ℕ
  pub size_cap : ℕ
  pub init_cap : ℕ

-- what is kept once a buffer with this room was given back
abbrev pub kept_after : Spare → ℕ → ℕ
kept_after s room = if nat_lt s.kept s.pool_cap && nat_le room s.size_cap then s.kept + 1 else s.kept

-- a buffer that may be kept
pub record IsSpare (size_cap : ℕ) (b : PooledBuf) : Type 0 where
  pub empty : content b ≡ []
  pub small : room b ≤ size_cap

-- the buffers that are kept: as many as may be have room in the list
pub record IsPool {A : Type 0} (buffers : Vec PooledBuf A) (pool_cap size_cap : ℕ) : Type 0 where
  pub each : AllByRecursion (IsSpare size_cap) buffers.items
  pub few : vec_len buffers ≤ pool_cap
  pub reserved : pool_cap ≤ vec_capacity buffers
