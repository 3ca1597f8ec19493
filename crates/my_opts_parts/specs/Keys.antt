-- The keys of a URL's query: how the value of each is parsed, and which option it sets.
use Rattle.std.specs.Prelude.{ℕ, List, [], ◌∷◌, codes, bytes_eq, Option, Some, None, if◌then◌else◌}
use Rattle.my_opts_parts.specs.declared.keys.TruthOption.TheVariants.{TcpNodelay, PreferSocket, SecureAuth, ClientFoundRows, EnableCleartextPlugin, ResetConnection, RequireSsl, VerifyCa, VerifyIdentity, BuiltInRoots}
use Rattle.my_opts_parts.specs.declared.keys.NumberOption.TheVariants.{PoolMin, PoolMax, PoolMaxWaiting, InactiveConnectionTtl, TtlCheckInterval, AbsConnTtl, AbsConnTtlJitter, ConnTtl, TcpKeepalive, StmtCacheSize, MaxAllowedPacket, WaitTimeout}
use Rattle.my_opts_parts.specs.declared.keys.Row.{Row}
use Rattle.my_opts_parts.specs.declared.keys.Row.TheVariants.{Truth, Whole32, Whole64, SocketPath, Compression}

-- each name with how its value is parsed and which option it sets
abbrev pub table : List (List ℕ × Row)
table =
    (codes "pool_min", Whole64 PoolMin)
    ∷ (codes "pool_max", Whole64 PoolMax)
    ∷ (codes "pool_max_waiting", Whole64 PoolMaxWaiting)
    ∷ (codes "inactive_connection_ttl", Whole64 InactiveConnectionTtl)
    ∷ (codes "ttl_check_interval", Whole64 TtlCheckInterval)
    ∷ (codes "abs_conn_ttl", Whole64 AbsConnTtl)
    ∷ (codes "abs_conn_ttl_jitter", Whole64 AbsConnTtlJitter)
    ∷ (codes "conn_ttl", Whole64 ConnTtl)
    ∷ (codes "tcp_keepalive", Whole32 TcpKeepalive)
    ∷ (codes "stmt_cache_size", Whole64 StmtCacheSize)
    ∷ (codes "max_allowed_packet", Whole64 MaxAllowedPacket)
    ∷ (codes "wait_timeout", Whole64 WaitTimeout)
    ∷ (codes "tcp_nodelay", Truth TcpNodelay)
    ∷ (codes "prefer_socket", Truth PreferSocket)
    ∷ (codes "secure_auth", Truth SecureAuth)
    ∷ (codes "client_found_rows", Truth ClientFoundRows)
    ∷ (codes "enable_cleartext_plugin", Truth EnableCleartextPlugin)
    ∷ (codes "reset_connection", Truth ResetConnection)
    ∷ (codes "require_ssl", Truth RequireSsl)
    ∷ (codes "verify_ca", Truth VerifyCa)
    ∷ (codes "verify_identity", Truth VerifyIdentity)
    ∷ (codes "built_in_roots", Truth BuiltInRoots)
    ∷ (codes "socket", SocketPath)
    ∷ (codes "compression", Compression)
    ∷ []

-- the row of a name among rows
abbrev pub row_among : List (List ℕ × Row) → List ℕ → Option Row
row_among [] name = None
row_among (row ∷ rows) name = if bytes_eq name row.0 then Some row.1 else row_among rows name
