-- The packet that ends columns or rows where no OK packet does.
-- MySQL internals, "Generic Response Packets": EOF_Packet, with PROTOCOL_41, recognised by its length.
use Rattle.std.specs.Prelude.{◌≡◌, ℕ, ◌≤◌, List, ◌∷◌, length, Option, Some, None, nat_le, if◌then◌else◌}
use Rattle.my_frame.specs.Numbers.{IsNumber, head_at, number_at, ◌>>=◌}
use Rattle.my_reply.specs.declared.eof.EofPacket.{EofPacket}

-- The payload ends columns or rows; at most two more bytes follow, which are ignored.
pub record IsEof (payload : List ℕ) (eof : EofPacket) : Type 0 where
  pub after_head : List ℕ
  pub after_warnings : List ℕ
  pub left : List ℕ
  pub spelled : payload ≡ 0xFE ∷ after_head
  pub warnings : IsNumber 2 after_head eof.warnings after_warnings
  pub status : IsNumber 2 after_warnings eof.status.0 left
  pub short : length left ≤ 2

-- the same as a function that reads
abbrev pub eof_at : List ℕ → Option EofPacket
eof_at payload = do
  rest ← head_at 0xFE payload
  warnings ← number_at 2 rest
  status ← number_at 2 warnings.1
  if nat_le (length status.1) 2 then Some (record { warnings = warnings.0; status = record { 0 = status.0 } }) else None
