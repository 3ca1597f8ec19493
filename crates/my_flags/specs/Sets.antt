-- Tests of the sets of named bits, and what two sets have in common.
-- MySQL client/server protocol, "Capabilities Flags" and "SERVER_STATUS_flags_enum"; MariaDB, "Capabilities".
use Rattle.std.specs.Prelude.{ℕ, Bool, ◌==◌, bit_and}
use Rattle.my_flags.specs.declared.flags.CapabilityFlags.{CapabilityFlags}
use Rattle.my_flags.specs.declared.flags.MariadbCapabilities.{MariadbCapabilities}
use Rattle.my_flags.specs.declared.flags.StatusFlags.{StatusFlags}
use Rattle.my_flags.specs.declared.flags.TheConstants.CapabilityFlags.{CLIENT_CONNECT_ATTRS, CLIENT_CONNECT_WITH_DB, CLIENT_DEPRECATE_EOF}
use Rattle.my_flags.specs.declared.flags.TheConstants.MariadbCapabilities.{MARIADB_CLIENT_CACHE_METADATA}
use Rattle.my_flags.specs.declared.flags.TheConstants.StatusFlags.{SERVER_MORE_RESULTS_EXISTS}

-- whether a set's bits have all of these
abbrev pub has : ℕ → ℕ → Bool
has set bits = bit_and set bits == bits

-- whether a set of capabilities has all of another's
abbrev pub contains : CapabilityFlags → CapabilityFlags → Bool
contains set other = has set.0 other.0

-- the capabilities that both sides have
abbrev pub intersection : CapabilityFlags → CapabilityFlags → CapabilityFlags
intersection ours theirs = record { 0 = bit_and ours.0 theirs.0 }

-- the further capabilities that both sides have
abbrev pub mariadb_intersection : MariadbCapabilities → MariadbCapabilities → MariadbCapabilities
mariadb_intersection ours theirs = record { 0 = bit_and ours.0 theirs.0 }

-- a set of rows ends with an OK packet, and no EOF packet follows the columns
abbrev pub deprecates_eof : CapabilityFlags → Bool
deprecates_eof set = contains set CLIENT_DEPRECATE_EOF

-- the login names a database
abbrev pub connects_with_db : CapabilityFlags → Bool
connects_with_db set = contains set CLIENT_CONNECT_WITH_DB

-- the login carries attributes of the client
abbrev pub sends_connect_attrs : CapabilityFlags → Bool
sends_connect_attrs set = contains set CLIENT_CONNECT_ATTRS

-- a statement's columns are sent only where they changed
abbrev pub caches_metadata : MariadbCapabilities → Bool
caches_metadata set = has set.0 MARIADB_CLIENT_CACHE_METADATA.0

-- another set of results follows
abbrev pub has_more_results : StatusFlags → Bool
has_more_results status = has status.0 SERVER_MORE_RESULTS_EXISTS.0
