-- What a builder is on which the setters were called that go with a URL's parts and pairs.
use Rattle.std.specs.Prelude.{◌≡◌, ℕ, ◌*◌, Bool, List, [], ◌∷◌, Option, Some, None, unwrap_or, option_map, Ok}
use Rattle.form_urlencoded.specs.Form.{raw_pairs}
use Rattle.url.specs.Host.{host_text}
use Rattle.url.specs.Parts.{Parts, nonempty_host}
use Rattle.my_opts_parts.specs.declared.keys.TruthOption.{TruthOption}
use Rattle.my_opts_parts.specs.declared.keys.TruthOption.TheVariants.{TcpNodelay, PreferSocket, SecureAuth, ClientFoundRows, EnableCleartextPlugin, ResetConnection, RequireSsl, VerifyCa, VerifyIdentity, BuiltInRoots}
use Rattle.my_opts_parts.specs.declared.keys.NumberOption.{NumberOption}
use Rattle.my_opts_parts.specs.declared.keys.NumberOption.TheVariants.{PoolMin, PoolMax, PoolMaxWaiting, InactiveConnectionTtl, TtlCheckInterval, AbsConnTtl, AbsConnTtlJitter, ConnTtl, TcpKeepalive, StmtCacheSize, MaxAllowedPacket, WaitTimeout}
use Rattle.my_opts_parts.specs.declared.keys.Row.{Row}
use Rattle.my_opts_parts.specs.declared.keys.Row.TheVariants.{Truth, Whole32, Whole64, SocketPath, Compression}
use Rattle.my_opts.specs.Opts.{OptsView, default_opts}
use Rattle.my_opts_parts.specs.Limits.{packet_limit, waiting_limit}
use Rattle.my_opts_parts.specs.Pool.{PoolView, Bounds, interval_of}
use Rattle.my_opts_parts.specs.Keys.{table, row_among}
use Rattle.my_opts.specs.Query.{text_pair}
use Rattle.my_opts.specs.Url.{decoded, unless_empty, first_segment, url_of, options_of}
use Rattle.my_frame.specs.Numeral.{whole_number}
use Rattle.my_opts.specs.Values.{truth}

-- the builder with this pool
abbrev pub set_pool : PoolView → OptsView → OptsView
set_pool pool opts = record opts { pool_opts = pool }

-- the builder with these bounds of its pool
abbrev pub set_bounds : Bounds → OptsView → OptsView
set_bounds bounds opts = set_pool (record opts.pool_opts { constraints = bounds }) opts

-- the setter that goes with a whole number
abbrev pub set_number : NumberOption → ℕ → OptsView → OptsView
set_number PoolMin n opts = set_bounds (record opts.pool_opts.constraints { min = n }) opts
set_number PoolMax n opts = set_bounds (record opts.pool_opts.constraints { max = n }) opts
set_number PoolMaxWaiting n opts = set_pool (record opts.pool_opts { max_waiting = Some n }) opts
set_number InactiveConnectionTtl n opts = set_pool (record opts.pool_opts { inactive_connection_ttl = 1000 * n }) opts
set_number TtlCheckInterval n opts =
    set_pool (record opts.pool_opts { ttl_check_interval = interval_of (1000 * n) }) opts
set_number AbsConnTtl n opts = set_pool (record opts.pool_opts { abs_conn_ttl = Some (1000 * n) }) opts
set_number AbsConnTtlJitter n opts = set_pool (record opts.pool_opts { abs_conn_ttl_jitter = Some (1000 * n) }) opts
set_number ConnTtl n opts = record opts { conn_ttl = Some (1000 * n) }
set_number TcpKeepalive n opts = record opts { tcp_keepalive = Some n }
set_number StmtCacheSize n opts = record opts { stmt_cache_size = n }
set_number MaxAllowedPacket n opts = record opts { max_allowed_packet = option_map packet_limit (Some n) }
set_number WaitTimeout n opts = record opts { wait_timeout = option_map waiting_limit (Some n) }

-- the setter that goes with a truth value; no setter goes with what is asked of TLS
abbrev pub set_truth : TruthOption → Bool → OptsView → OptsView
set_truth TcpNodelay b opts = record opts { tcp_nodelay = b }
set_truth PreferSocket b opts = record opts { prefer_socket = b }
set_truth SecureAuth b opts = record opts { secure_auth = b }
set_truth ClientFoundRows b opts = record opts { client_found_rows = b }
set_truth EnableCleartextPlugin b opts = record opts { enable_cleartext_plugin = b }
set_truth ResetConnection b opts = set_pool (record opts.pool_opts { reset_connection = b }) opts
set_truth RequireSsl b opts = opts
set_truth VerifyCa b opts = opts
set_truth VerifyIdentity b opts = opts
set_truth BuiltInRoots b opts = opts

-- the setter with a value, where it reads
abbrev pub set_where_read : {A : Type 0} → Option A → (A → OptsView → OptsView) → OptsView → OptsView
set_where_read (Some x) set opts = set x opts
set_where_read None set opts = opts

-- the setter that goes with a row
abbrev pub set_row : Option Row → List ℕ → OptsView → OptsView
set_row None value opts = opts
set_row (Some (Truth field)) value opts = set_where_read (truth value) (set_truth field) opts
set_row (Some (Whole32 field)) value opts = set_where_read (whole_number 32 value) (set_number field) opts
set_row (Some (Whole64 field)) value opts = set_where_read (whole_number 64 value) (set_number field) opts
set_row (Some SocketPath) value opts = record opts { socket = Some value }
set_row (Some Compression) value opts = opts

-- the setters that go with decoded pairs, one after the other
abbrev pub set_pairs : List (List ℕ × List ℕ) → OptsView → OptsView
set_pairs [] opts = opts
set_pairs (pair ∷ pairs) opts =
    set_pairs pairs (set_row (row_among table (text_pair pair).0) (text_pair pair).1 opts)

-- the setters that go with a URL's host, port, user, password and path
abbrev pub set_parts : Parts → OptsView → OptsView
set_parts url opts = record opts {
  ip_or_hostname = unwrap_or (option_map host_text (nonempty_host url)) [];
  tcp_port = unwrap_or url.port 3306;
  user = option_map decoded (unless_empty url.username);
  pass = option_map decoded (unless_empty url.password);
  db_name = option_map decoded (first_segment url.path);
}

-- a builder on which the setters were called that go with a URL
abbrev pub built_opts : Parts → OptsView
built_opts url = set_pairs (raw_pairs (unwrap_or url.query [])) (set_parts url default_opts)

-- the options that a text gives are those of the builder
abbrev pub GivesWhatIsBuilt : List ℕ → Type 0
GivesWhatIsBuilt text =
    (url : Parts) (opts : OptsView) → url_of text ≡ Ok url → options_of text ≡ Ok opts → opts ≡ built_opts url
