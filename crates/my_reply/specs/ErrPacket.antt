-- The packet that says that a command failed.
-- MySQL internals, "Generic Response Packets": ERR_Packet, with PROTOCOL_41 once the client has sent its response.
use Rattle.std.specs.Prelude.{◌≡◌, ◌≢◌, ℕ, ◌⊎◌, Bool, true, false, ◌&&◌, List, [], ◌∷◌, Option, Some, codes, ◌==◌, not, if◌then◌else◌}
use Rattle.std.specs.Str.Lossy.{utf8_lossy}
use Rattle.my_frame.specs.Numbers.{IsBytes, IsNumber, bytes_at, head_at, number_at, ◌>>=◌}
use Rattle.my_reply.specs.declared.err.ErrPacket.{ErrPacket}

-- A state follows a `#`, once the client has sent its response.
pub record HasState (before : Bool) (left state message : List ℕ) : Type 0 where
  pub answered : before ≡ false
  pub after_mark : List ℕ
  pub marked : left ≡ 35 ∷ after_mark
  pub follows : IsBytes 5 after_mark state message

-- Else all that is left is the message, and the state is that of a general error.
pub record HasNoState (before : Bool) (left state message : List ℕ) : Type 0 where
  pub unmarked : (before ≡ true) ⊎ ((rest : List ℕ) → left ≢ 35 ∷ rest)
  pub general : state ≡ codes "HY000"
  pub all : message ≡ left

-- The payload says that a command failed; what is no UTF-8 in its message reads as U+FFFD.
pub record IsErr (before : Bool) (payload : List ℕ) (err : ErrPacket) : Type 0 where
  pub after_head : List ℕ
  pub left : List ℕ
  pub message : List ℕ
  pub spelled : payload ≡ 0xFF ∷ after_head
  pub code : IsNumber 2 after_head err.code left
  pub told : HasState before left err.state message ⊎ HasNoState before left err.state message
  pub text : err.message ≡ utf8_lossy message

-- the same as functions that read
abbrev pub told_at : Bool → List ℕ → Option (List ℕ × List ℕ)
told_at before [] = Some (codes "HY000", [])
told_at before (mark ∷ left) = if (mark == 35) && not before then bytes_at 5 left else Some (codes "HY000", mark ∷ left)

abbrev pub err_at : Bool → List ℕ → Option ErrPacket
err_at before payload = do
  rest ← head_at 0xFF payload
  code ← number_at 2 rest
  told ← told_at before code.1
  Some (record { code = code.0; state = told.0; message = utf8_lossy told.1 })
