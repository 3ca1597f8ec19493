-- The packet that holds one event of a binary log.
-- MySQL internals, "Replication Protocol": Binlog Event header (version 4), TABLE_MAP_EVENT.
use Rattle.std.specs.Prelude.{◌≡◌, ℕ, List, ◌∷◌, length, Option, Some, None, ◌==◌, if◌then◌else◌}
use Rattle.my_frame.specs.Numbers.{IsNumber, head_at, number_at, ◌>>=◌}
use Rattle.my_reply.specs.declared.event.Event.{Event}
use Rattle.my_reply.specs.declared.event.EventHeader.{EventHeader}

-- The payload is this event, whose size is that of all the bytes after the head.
pub record IsEvent (payload : List ℕ) (event : Event) : Type 0 where
  pub after_head : List ℕ
  pub after_timestamp : List ℕ
  pub after_kind : List ℕ
  pub after_server : List ℕ
  pub after_size : List ℕ
  pub after_position : List ℕ
  pub spelled : payload ≡ 0x00 ∷ after_head
  pub timestamp : IsNumber 4 after_head event.timestamp after_timestamp
  pub kind : IsNumber 1 after_timestamp event.kind after_kind
  pub server : IsNumber 4 after_kind event.server after_server
  pub size : IsNumber 4 after_server event.size after_size
  pub position : IsNumber 4 after_size event.position after_position
  pub flags : IsNumber 2 after_position event.flags event.body
  pub whole : length after_head ≡ event.size

-- the same as functions that read
unfoldable pub header_at : List ℕ → Option (EventHeader × List ℕ)
header_at bytes = do
  timestamp ← number_at 4 bytes
  kind ← number_at 1 timestamp.1
  server ← number_at 4 kind.1
  size ← number_at 4 server.1
  position ← number_at 4 size.1
  flags ← number_at 2 position.1
  Some (
    record {
      timestamp = timestamp.0;
      kind = kind.0;
      server = server.0;
      size = size.0;
      position = position.0;
      flags = flags.0;
    },
    flags.1,
  )

abbrev pub event_from : EventHeader → List ℕ → Event
event_from h body = record {
  timestamp = h.timestamp;
  kind = h.kind;
  server = h.server;
  size = h.size;
  position = h.position;
  flags = h.flags;
  body = body;
}

abbrev pub event_at : List ℕ → Option Event
event_at payload = do
  bytes ← head_at 0x00 payload
  header ← header_at bytes
  if length bytes == header.0.size then Some (event_from header.0 header.1) else None

-- the number of the table that an event maps, in the first six bytes of its body
abbrev pub table_id_of : Event → Option ℕ
table_id_of event = if event.kind == 19 then (number_at 6 event.body >>= λ id. Some id.0) else None
