-- The packet that says that a command succeeded, or that a set of rows ended.
-- MySQL internals, "Generic Response Packets": OK_Packet, with PROTOCOL_41, without SESSION_TRACK.
use Rattle.std.specs.Prelude.{◌≡◌, ℕ, ◌<◌, ◌⊎◌, List, ◌∷◌, length, Option, Some, None, nat_lt, if◌then◌else◌}
use Rattle.my_frame.specs.Numbers.{IsNumber, IsLen, IsText, head_at, number_at, len_at, text_at, ◌>>=◌}
use Rattle.my_frame.specs.declared.limits.TheConstants.{FULL_LENGTH}
use Rattle.my_reply.specs.declared.ok.OkPacket.{OkPacket}

-- What is left is a text after its length, of which more may follow; else all of it is the info.
abbrev pub IsInfo : List ℕ → List ℕ → Type 0
IsInfo left info =
    ((rest : List ℕ) × IsText left info rest)
    ⊎ (((text rest : List ℕ) → IsText left text rest → ⊥) × (info ≡ left))

-- The bytes after the head are these fields.
pub record IsFields (bytes : List ℕ) (ok : OkPacket) : Type 0 where
  pub after_affected : List ℕ
  pub after_insert : List ℕ
  pub after_status : List ℕ
  pub left : List ℕ
  pub affected : IsLen bytes ok.affected after_affected
  pub insert : IsLen after_affected ok.insert after_insert
  pub status : IsNumber 2 after_insert ok.status.0 after_status
  pub warnings : IsNumber 2 after_status ok.warnings left
  pub info : IsInfo left ok.info

-- The payload says that a command succeeded.
pub record IsOk (payload : List ℕ) (ok : OkPacket) : Type 0 where
  pub after_head : List ℕ
  pub spelled : payload ≡ 0x00 ∷ after_head
  pub fields : IsFields after_head ok

-- The payload says that a set of rows ended; a longer one with that head is a row.
pub record IsEndOk (payload : List ℕ) (ok : OkPacket) : Type 0 where
  pub after_head : List ℕ
  pub short : length payload < FULL_LENGTH
  pub spelled : payload ≡ 0xFE ∷ after_head
  pub fields : IsFields after_head ok

-- the same as functions that read
abbrev pub info_at : Option (List ℕ × List ℕ) → List ℕ → List ℕ
info_at None left = left
info_at (Some x) left = x.0

abbrev pub info_of : List ℕ → List ℕ
info_of left = info_at (text_at left) left

unfoldable pub fields_at : List ℕ → Option OkPacket
fields_at bytes = do
  affected ← len_at bytes
  insert ← len_at affected.1
  status ← number_at 2 insert.1
  warnings ← number_at 2 status.1
  Some (record {
    affected = affected.0;
    insert = insert.0;
    status = record { 0 = status.0 };
    warnings = warnings.0;
    info = info_of warnings.1;
  })

abbrev pub ok_at : List ℕ → Option OkPacket
ok_at payload = do
  rest ← head_at 0x00 payload
  fields_at rest

abbrev pub end_ok_at : List ℕ → Option OkPacket
end_ok_at payload =
    if nat_lt (length payload) FULL_LENGTH then (head_at 0xFE payload >>= λ rest. fields_at rest) else None
