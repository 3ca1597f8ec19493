-- Options of a connection. Texts are their bytes, and lengths of time are in milliseconds.
use Rattle.std.specs.Prelude.{ℕ, Bool, true, false, List, [], codes, Option, None}
use Rattle.std.specs.declared.net.ip_addr.IpAddr.{IpAddr}
use Rattle.my_opts_parts.specs.Pool.{PoolView, default_pool}

-- the options of a connection, and those of a pool of such connections
pub record OptsView : Type 0 where
  pub ip_or_hostname : List ℕ
  pub tcp_port : ℕ
  pub resolved_ips : Option (List IpAddr)
  pub user : Option (List ℕ)
  pub pass : Option (List ℕ)
  pub db_name : Option (List ℕ)
  pub init : List (List ℕ)
  pub setup : List (List ℕ)
  pub tcp_keepalive : Option ℕ
  pub tcp_nodelay : Bool
  pub conn_ttl : Option ℕ
  pub stmt_cache_size : ℕ
  pub prefer_socket : Bool
  pub socket : Option (List ℕ)
  pub max_allowed_packet : Option ℕ
  pub wait_timeout : Option ℕ
  pub secure_auth : Bool
  pub client_found_rows : Bool
  pub enable_cleartext_plugin : Bool
  pub connect_attributes : Option (List (List ℕ × List ℕ))
  pub pool_opts : PoolView

-- the options where nothing is set
abbrev pub default_opts : OptsView
default_opts = record {
  ip_or_hostname = codes "127.0.0.1";
  tcp_port = 3306;
  resolved_ips = None;
  user = None;
  pass = None;
  db_name = None;
  init = [];
  setup = [];
  tcp_keepalive = None;
  tcp_nodelay = true;
  conn_ttl = None;
  stmt_cache_size = 32;
  prefer_socket = true;
  socket = None;
  max_allowed_packet = None;
  wait_timeout = None;
  secure_auth = true;
  client_found_rows = false;
  enable_cleartext_plugin = false;
  connect_attributes = None;
  pool_opts = default_pool;
}
