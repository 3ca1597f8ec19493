-- The version in a server's greeting: MySQL's `8.0.36`, MariaDB's `10.6.12-MariaDB`, which may follow `5.5.5-` for the
-- sake of old clients.
-- MariaDB, "Connecting": Initial Handshake Packet, server version.
use Rattle.std.specs.Prelude.{ℕ, ◌+◌, ◌*◌, ◌-◌, ◌&&◌, true, false, List, [], ◌∷◌, drop, Option, Some, None, codes, nat_eq, nat_le, if◌then◌else◌}
use Rattle.std.specs.List.{starts_with}
use Rattle.my_frame.specs.Numbers.{head_at, ◌>>=◌}
use Rattle.my_handshake.specs.declared.version.ServerVersion.{ServerVersion}

-- a decimal digit's value
abbrev pub digit_at : List ℕ → Option (ℕ × List ℕ)
digit_at [] = None
digit_at (b ∷ rest) = if nat_le 48 b && nat_le b 57 then Some (b - 48, rest) else None

-- the number with one digit more, where a digit comes next
abbrev pub grown : ℕ → List ℕ → Option (ℕ × List ℕ) → ℕ × List ℕ
grown value bytes None = (value, bytes)
grown value bytes (Some x) = (10 * value + x.0, x.1)

abbrev pub further_digit : ℕ × List ℕ → ℕ × List ℕ
further_digit x = grown x.0 x.1 (digit_at x.1)

-- a number of one or two digits, or of one to three
abbrev pub two_at : List ℕ → Option (ℕ × List ℕ)
two_at bytes = do
  digit ← digit_at bytes
  Some (further_digit digit)

abbrev pub three_at : List ℕ → Option (ℕ × List ℕ)
three_at bytes = do
  value ← two_at bytes
  Some (further_digit value)

-- three numbers with dots between them
unfoldable pub dotted_at : List ℕ → Option ((ℕ × ℕ × ℕ) × List ℕ)
dotted_at bytes = do
  major ← two_at bytes
  after_major ← head_at 46 major.1
  minor ← two_at after_major
  after_minor ← head_at 46 minor.1
  patch ← three_at after_minor
  Some ((major.0, minor.0, patch.0), patch.1)

-- MariaDB's numbers, which its name follows
abbrev pub mariadb_at : List ℕ → Option (ℕ × ℕ × ℕ)
mariadb_at bytes = do
  numbers ← dotted_at bytes
  if starts_with nat_eq numbers.1 (codes "-MariaDB") then Some numbers.0 else None

-- MariaDB's numbers with the prefix that old clients want, or without it
abbrev pub prefixed_at : List ℕ → Option (ℕ × ℕ × ℕ)
prefixed_at text = if starts_with nat_eq text (codes "5.5.5-") then mariadb_at (drop 6 text) else None

abbrev pub or_else : {A : Type 0} → Option A → Option A → Option A
or_else None y = y
or_else (Some x) y = Some x

-- by what is read as MariaDB's, and what is read as another server's
abbrev pub version_from : Option (ℕ × ℕ × ℕ) → Option ((ℕ × ℕ × ℕ) × List ℕ) → ServerVersion
version_from (Some n) other = record { mariadb = true; major = n.0; minor = n.1; patch = n.2 }
version_from None (Some x) = record { mariadb = false; major = x.0.0; minor = x.0.1; patch = x.0.2 }
version_from None None = record { mariadb = false; major = 0; minor = 0; patch = 0 }

-- The version that a text spells; three zeros where it spells none.
abbrev pub version_of : List ℕ → ServerVersion
version_of text = version_from (or_else (prefixed_at text) (mariadb_at text)) (dotted_at text)
