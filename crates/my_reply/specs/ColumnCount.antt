-- The packet that begins a set of rows.
-- MySQL internals, "Text Resultset": column_count; MariaDB, "Result Set Packets": Column count packet, whose second
-- byte says whether metadata follows (MARIADB_CLIENT_CACHE_METADATA).
use Rattle.std.specs.Prelude.{◌≡◌, ℕ, ◌<◌, ◌≤◌, ◌⊎◌, Bool, true, false, ◌&&◌, List, [], ◌∷◌, Option, Some, None, ◌==◌, nat_le, nat_lt, if◌then◌else◌}
use Rattle.my_frame.specs.Numbers.{IsLen, len_at, ◌>>=◌}
use Rattle.my_reply.specs.declared.column_count.ColumnCount.{ColumnCount}

-- What follows the count says whether the columns are skipped; where nothing follows, they are sent.
abbrev pub IsSkipped : Bool → List ℕ → Bool → Type 0
IsSkipped cached left skipped =
    ((left ≡ []) × (skipped ≡ false))
    ⊎ (((cached ≡ true) × (left ≡ 0 ∷ []) × (skipped ≡ true))
    ⊎ ((cached ≡ true) × (left ≡ 1 ∷ []) × (skipped ≡ false)))

-- The payload begins a set of rows with this number of columns.
pub record IsColumnCount (cached : Bool) (payload : List ℕ) (columns : ColumnCount) : Type 0 where
  pub left : List ℕ
  pub count : IsLen payload columns.count left
  pub skipped : IsSkipped cached left columns.skipped
  pub some : 0 < columns.count
  pub few : columns.count ≤ 65535

-- the same as functions that read
abbrev pub skipped_at : Bool → List ℕ → Option Bool
skipped_at cached [] = Some false
skipped_at cached (b ∷ []) = if cached && (b == 0) then Some true else (if cached && (b == 1) then Some false else None)
skipped_at cached (b ∷ c ∷ left) = None

abbrev pub column_count_at : Bool → List ℕ → Option ColumnCount
column_count_at cached payload = do
  count ← len_at payload
  skipped ← skipped_at cached count.1
  if nat_lt 0 count.0 && nat_le count.0 65535 then Some (record { count = count.0; skipped = skipped }) else None
