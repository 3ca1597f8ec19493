-- The capabilities of a client.
-- MySQL client/server protocol, "Capabilities Flags".
use Rattle.std.specs.Prelude.{ℕ, ◌+◌, Bool, List, [], ◌∷◌, sum, is_some, if◌then◌else◌}
use Rattle.my_flags.specs.declared.flags.TheConstants.CapabilityFlags.{CLIENT_CONNECT_WITH_DB, CLIENT_DEPRECATE_EOF, CLIENT_FOUND_ROWS, CLIENT_LOCAL_FILES, CLIENT_LONG_PASSWORD, CLIENT_MULTI_RESULTS, CLIENT_MULTI_STATEMENTS, CLIENT_PLUGIN_AUTH, CLIENT_PROTOCOL_41, CLIENT_PS_MULTI_RESULTS, CLIENT_SECURE_CONNECTION, CLIENT_TRANSACTIONS}
use Rattle.my_opts.specs.Opts.{OptsView}

-- the capabilities of each client, one bit for each
abbrev pub client_bits : List ℕ
client_bits =
    CLIENT_LONG_PASSWORD.0
    ∷ CLIENT_LOCAL_FILES.0
    ∷ CLIENT_PROTOCOL_41.0
    ∷ CLIENT_TRANSACTIONS.0
    ∷ CLIENT_SECURE_CONNECTION.0
    ∷ CLIENT_MULTI_STATEMENTS.0
    ∷ CLIENT_MULTI_RESULTS.0
    ∷ CLIENT_PS_MULTI_RESULTS.0
    ∷ CLIENT_PLUGIN_AUTH.0
    ∷ CLIENT_DEPRECATE_EOF.0
    ∷ []

-- the bit of a client whose login names a database
abbrev pub database_bit : Bool → ℕ
database_bit named = if named then CLIENT_CONNECT_WITH_DB.0 else 0

-- the bit of a client that asks for found rows
abbrev pub found_rows_bit : Bool → ℕ
found_rows_bit found = if found then CLIENT_FOUND_ROWS.0 else 0

-- the capabilities of a client with these options
abbrev pub capabilities_of : OptsView → ℕ
capabilities_of opts =
    sum client_bits + database_bit (is_some opts.db_name) + found_rows_bit opts.client_found_rows
