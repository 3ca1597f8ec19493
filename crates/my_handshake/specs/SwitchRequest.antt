-- The packets by which a server asks for more while a client logs in.
-- MySQL internals, "Connection Phase Packets": AuthSwitchRequest, OldAuthSwitchRequest, AuthMoreData.
use Rattle.std.specs.Prelude.{◌≡◌, ◌≢◌, ℕ, ◌-◌, ◌⊎◌, ◌&&◌, List, [], ◌∷◌, ◌++◌, length, take, slice_index, Option, Some, codes, nat_lt, ◌==◌, if◌then◌else◌}
use Rattle.my_frame.specs.Numbers.{IsNumber, IsText0, head_at, number_at, text0_at, ◌>>=◌}
use Rattle.my_handshake.specs.declared.switch.SwitchRequest.{SwitchRequest}
use Rattle.my_handshake.specs.declared.switch.MoreData.{MoreData}

-- One zero at the end is no part of the nonce.
abbrev pub IsNonce : List ℕ → List ℕ → Type 0
IsNonce left nonce =
    (left ≡ nonce ++ 0 ∷ []) ⊎ (((front : List ℕ) → left ≢ front ++ 0 ∷ []) × (nonce ≡ left))

-- The payload names another authentication plugin.
pub record NamesSwitch (payload : List ℕ) (switch : SwitchRequest) : Type 0 where
  pub after_head : List ℕ
  pub left : List ℕ
  pub spelled : payload ≡ 0xFE ∷ after_head
  pub plugin : IsText0 after_head switch.plugin left
  pub nonce : IsNonce left switch.nonce

-- The payload is the bare head, which asks for the oldest plugin.
pub record IsOldSwitch (payload : List ℕ) (switch : SwitchRequest) : Type 0 where
  pub spelled : payload ≡ 0xFE ∷ []
  pub plugin : switch.plugin ≡ codes "mysql_old_password"
  pub nonce : switch.nonce ≡ []

-- The payload asks for another authentication plugin.
abbrev pub IsSwitch : List ℕ → SwitchRequest → Type 0
IsSwitch payload switch = NamesSwitch payload switch ⊎ IsOldSwitch payload switch

-- The payload is data of the authentication plugin, which begins with this byte.
pub record IsMoreData (payload : List ℕ) (more : MoreData) : Type 0 where
  pub after_head : List ℕ
  pub rest : List ℕ
  pub spelled : payload ≡ 0x01 ∷ after_head
  pub kind : IsNumber 1 after_head more.kind rest

-- the same as functions that read
abbrev pub without_last_zero : List ℕ → List ℕ
without_last_zero left =
    if nat_lt 0 (length left) && (slice_index left (length left - 1) == 0) then take (length left - 1) left else left

abbrev pub request_at : List ℕ → Option (List ℕ × List ℕ)
request_at [] = Some (codes "mysql_old_password", [])
request_at (b ∷ rest) = text0_at (b ∷ rest) >>= λ plugin. Some (plugin.0, without_last_zero plugin.1)

abbrev pub switch_at : List ℕ → Option SwitchRequest
switch_at payload = do
  rest ← head_at 0xFE payload
  request ← request_at rest
  Some (record { plugin = request.0; nonce = request.1 })

abbrev pub more_data_at : List ℕ → Option MoreData
more_data_at payload = do
  rest ← head_at 0x01 payload
  kind ← number_at 1 rest
  Some (record { kind = kind.0 })
