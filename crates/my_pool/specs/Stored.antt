-- Which connections an exchange keeps, by their places, and what holds of it.
use Rattle.std.specs.Prelude.{◌≡◌, ◌==◌, ℕ, ◌+◌, ◌≤◌, true, Option, Some, None, List, [], length}
use Rattle.std.specs.List.{list_all}
use Rattle.my_pool_parts.specs.declared.connection.Place.{Place}
use Rattle.my_pool_parts.specs.declared.connection.Place.TheVariants.{Idle, Leased, Connecting, Checking, Returned, Cleaning, Resetting, Closing}
use Rattle.my_pool_parts.specs.declared.connection.Times.{Times}
use Rattle.my_pool_parts.specs.Lists.{how_many}
use Rattle.my_pool_core.specs.declared.event.PoolEvent.{PoolEvent}
use Rattle.my_pool_core.specs.Counted.{room}
use Rattle.my_pool_core.specs.Owners.{place_at}
use Rattle.my_pool_core.specs.State.{State}
use Rattle.my_pool_core.specs.Sound.{IsSound, IsCovered}
use Rattle.my_pool_core.specs.Wakes.{waits}
use Rattle.my_pool_store.specs.Leaving.{leaving}
use Rattle.my_pool_store.specs.Noted.{Replays}
use Rattle.my_pool_store.specs.Shelves.{Shelved, Entry, has, kept_at}
use Rattle.my_pool_store.specs.Woken.{Called}
use Rattle.my_client.specs.declared.tape.Tape.{Tape}
use Rattle.my_conn.specs.Conn.{ConnSeen}
use Rattle.my_pool.specs.Fit.{IsFit, IsStill, MayWork, times_at}

-- an idle one is fit, and its times are its own
pub record IsResting {L : Type 0} (times : Times) (c : ConnSeen L) : Type 0 where
  pub fit : IsFit c
  pub times_are : times ≡ times_at times.since c

abbrev pub IsAbsent : {L : Type 0} → Option (ConnSeen L) → Type 0
IsAbsent k = k ≡ None

abbrev pub IsThere : {L : Type 0} → (ConnSeen L → Type 0) → Option (ConnSeen L) → Type 0
IsThere P None = ⊥
IsThere P (Some c) = P c

-- a caller has it in hand, or it is so
abbrev pub IsOutOr : {L : Type 0} → (ConnSeen L → Type 0) → Option (ConnSeen L) → Type 0
IsOutOr P None = Unit {0}
IsOutOr P (Some c) = P c

-- What is kept of a connection at a place: an idle one is fit; a returned one has no open call; one that is being
-- cleaned, reset or closed has no other open call, or a caller has it in hand; one that is leased, or that a request
-- has, isn't kept.
abbrev pub StoredAt : {L : Type 0} → Place → Option (ConnSeen L) → Type 0
StoredAt (Idle times) k = IsThere (IsResting times) k
StoredAt Leased k = IsAbsent k
StoredAt Connecting k = IsAbsent k
StoredAt Checking k = IsAbsent k
StoredAt (Returned marked) k = IsThere IsStill k
StoredAt (Cleaning marked) k = IsOutOr (MayWork (Cleaning marked)) k
StoredAt Resetting k = IsOutOr (MayWork Resetting) k
StoredAt Closing k = IsOutOr (MayWork Closing) k

abbrev pub Stored : {L : Type 0} → Option Place → Option (ConnSeen L) → Type 0
Stored None k = IsAbsent k
Stored (Some p) k = StoredAt p k

-- so it is of each number, and each connection is kept once
pub record IsStored {L : Type 0} (s : State) (kept : List (Entry (ConnSeen L))) : Type 0 where
  pub each : (n : ℕ) → Stored (place_at n s) (kept_at n kept)
  pub once : (n : ℕ) → how_many (has n) kept ≤ 1

-- What holds of an exchange: its core is sound and covered; there is room for its connections and wakers, and for the
-- tapes of all connections that may go; each connection is kept as its place says; a waker is kept for requests that
-- wait alone, once for each; and what its journal tells leads to the core's state.
pub record IsWhole {L : Type 0} (start s : State) (shelf : Shelved (ConnSeen L)) (wakers : Called)
    (told : Option (List PoolEvent)) (gone : Shelved Tape) : Type 0 where
  pub sound : IsSound s
  pub covered : IsCovered s
  pub shelf_room : room s ≤ shelf.room
  pub waker_room : room s ≤ wakers.room
  pub gone_room : length gone.kept + leaving s ≤ gone.room
  pub stored : IsStored s shelf.kept
  pub called : list_all (λ a. waits a s) wakers.ages ≡ true
  pub called_once : (age : ℕ) → how_many (λ a. a == age) wakers.ages ≤ 1
  pub replayed : Replays start told s

-- no event is told yet
abbrev pub IsFresh : Option (List PoolEvent) → Type 0
IsFresh None = Unit {0}
IsFresh (Some events) = events ≡ []
