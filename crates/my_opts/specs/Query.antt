-- The options that a URL's query sets, one pair after the other.
use Rattle.std.specs.Prelude.{ℕ, ◌*◌, Bool, List, [], ◌∷◌, codes, Option, Some, None, Result, Ok, Err, if◌then◌else◌}
use Rattle.std.specs.Str.Lossy.{utf8_lossy}
use Rattle.form_urlencoded.specs.Form.{decode}
use Rattle.my_opts_parts.specs.declared.error.UrlError.{UrlError}
use Rattle.my_opts_parts.specs.declared.error.UrlError.TheVariants.{FeatureRequired, InvalidParamValue, UnknownParameter}
use Rattle.my_opts_parts.specs.declared.keys.TruthOption.{TruthOption}
use Rattle.my_opts_parts.specs.declared.keys.TruthOption.TheVariants.{TcpNodelay, PreferSocket, SecureAuth, ClientFoundRows, EnableCleartextPlugin, ResetConnection, RequireSsl, VerifyCa, VerifyIdentity, BuiltInRoots}
use Rattle.my_opts_parts.specs.declared.keys.NumberOption.{NumberOption}
use Rattle.my_opts_parts.specs.declared.keys.NumberOption.TheVariants.{PoolMin, PoolMax, PoolMaxWaiting, InactiveConnectionTtl, TtlCheckInterval, AbsConnTtl, AbsConnTtlJitter, ConnTtl, TcpKeepalive, StmtCacheSize, MaxAllowedPacket, WaitTimeout}
use Rattle.my_opts_parts.specs.declared.keys.Row.{Row}
use Rattle.my_opts_parts.specs.declared.keys.Row.TheVariants.{Truth, Whole32, Whole64, SocketPath, Compression}
use Rattle.my_opts.specs.declared.query.Gathered.{Gathered}
use Rattle.my_opts_parts.specs.Keys.{table, row_among}
use Rattle.my_opts_parts.specs.Limits.{packet_limit, waiting_limit}
use Rattle.my_opts_parts.specs.Pool.{interval_of}
use Rattle.my_frame.specs.Numeral.{whole_number}
use Rattle.my_opts.specs.Values.{truth, is_compression}

-- what a whole number sets, within its limits; a number of seconds is kept in milliseconds
abbrev pub put_number : NumberOption → ℕ → Gathered → Gathered
put_number PoolMin n g = record g { pool_min = n }
put_number PoolMax n g = record g { pool_max = n }
put_number PoolMaxWaiting n g = record g { pool = record g.pool { max_waiting = Some n } }
put_number InactiveConnectionTtl n g = record g { pool = record g.pool { inactive_connection_ttl = 1000 * n } }
put_number TtlCheckInterval n g = record g { pool = record g.pool { ttl_check_interval = interval_of (1000 * n) } }
put_number AbsConnTtl n g = record g { pool = record g.pool { abs_conn_ttl = Some (1000 * n) } }
put_number AbsConnTtlJitter n g = record g { pool = record g.pool { abs_conn_ttl_jitter = Some (1000 * n) } }
put_number ConnTtl n g = record g { builder = record g.builder { conn_ttl = Some (1000 * n) } }
put_number TcpKeepalive n g = record g { builder = record g.builder { tcp_keepalive = Some n } }
put_number StmtCacheSize n g = record g { builder = record g.builder { stmt_cache_size = n } }
put_number MaxAllowedPacket n g = record g { builder = record g.builder { max_allowed_packet = Some (packet_limit n) } }
put_number WaitTimeout n g = record g { builder = record g.builder { wait_timeout = Some (waiting_limit n) } }

-- what a truth value sets; three of the names are read, and set nothing
abbrev pub put_truth : TruthOption → Bool → Gathered → Gathered
put_truth TcpNodelay b g = record g { builder = record g.builder { tcp_nodelay = b } }
put_truth PreferSocket b g = record g { builder = record g.builder { prefer_socket = b } }
put_truth SecureAuth b g = record g { builder = record g.builder { secure_auth = b } }
put_truth ClientFoundRows b g = record g { builder = record g.builder { client_found_rows = b } }
put_truth EnableCleartextPlugin b g = record g { builder = record g.builder { enable_cleartext_plugin = b } }
put_truth ResetConnection b g = record g { pool = record g.pool { reset_connection = b } }
put_truth RequireSsl b g = record g { require_ssl = b }
put_truth VerifyCa b g = g
put_truth VerifyIdentity b g = g
put_truth BuiltInRoots b g = g

-- what a path of a local socket sets
abbrev pub put_socket : List ℕ → Gathered → Gathered
put_socket path g = record g { builder = record g.builder { socket = Some path } }

-- what a value sets, or the refusal of one that can't be parsed
abbrev pub set_or_refused : {A : Type 0} → List ℕ → List ℕ → Option A → (A → Gathered → Gathered) → Gathered
    → Result Gathered UrlError
set_or_refused name value (Some x) put g = Ok (put x g)
set_or_refused name value None put g = Err (InvalidParamValue name value)

-- compression is refused, whether its strength can be parsed or not
abbrev pub compression_error : List ℕ → List ℕ → UrlError
compression_error name value =
    if is_compression value then FeatureRequired (codes "compression") (codes "compression")
    else InvalidParamValue name value

-- what a pair sets by its row
abbrev pub after_row : Option Row → List ℕ → List ℕ → Gathered → Result Gathered UrlError
after_row None name value g = Err (UnknownParameter name)
after_row (Some (Truth field)) name value g = set_or_refused name value (truth value) (put_truth field) g
after_row (Some (Whole32 field)) name value g = set_or_refused name value (whole_number 32 value) (put_number field) g
after_row (Some (Whole64 field)) name value g = set_or_refused name value (whole_number 64 value) (put_number field) g
after_row (Some SocketPath) name value g = Ok (put_socket value g)
after_row (Some Compression) name value g = Err (compression_error name value)

-- what is gathered after one more pair
abbrev pub after_pair : Gathered → List ℕ × List ℕ → Result Gathered UrlError
after_pair g pair = after_row (row_among table pair.0) pair.0 pair.1 g

-- a pair of the query, decoded
abbrev pub text_pair : List ℕ × List ℕ → List ℕ × List ℕ
text_pair pair = (utf8_lossy (decode pair.0), utf8_lossy (decode pair.1))

-- what follows a step that succeeded
abbrev pub and_then : {A B E : Type 0} → Result A E → (A → Result B E) → Result B E
and_then (Ok x) next = next x
and_then (Err e) next = Err e

-- what is gathered after all pairs, or the refusal of the first one that is refused
abbrev pub after_pairs : List (List ℕ × List ℕ) → Gathered → Result Gathered UrlError
after_pairs [] g = Ok g
after_pairs (pair ∷ pairs) g = and_then (after_pair g (text_pair pair)) (after_pairs pairs)
