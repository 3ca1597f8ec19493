-- Options of a pool. Moments and lengths of time are in milliseconds.
use Rattle.std.specs.Prelude.{ℕ, ◌+◌, ◌*◌, ◌/◌, ◌%◌, Bool, true, Option, Some, None, unwrap_or, nat_lt, nat_eq, if◌then◌else◌}

-- how many connections a pool keeps, and how many it has at most
pub record Bounds : Type 0 where
  pub min : ℕ
  pub max : ℕ

-- the options of a pool
pub record PoolView : Type 0 where
  pub constraints : Bounds
  pub inactive_connection_ttl : ℕ
  pub ttl_check_interval : ℕ
  pub abs_conn_ttl : Option ℕ
  pub abs_conn_ttl_jitter : Option ℕ
  pub reset_connection : Bool
  pub max_waiting : Option ℕ

-- what a pool has where nothing is said
abbrev pub default_pool : PoolView
default_pool = record {
  constraints = record { min = 10; max = 100 };
  inactive_connection_ttl = 0;
  ttl_check_interval = 30000;
  abs_conn_ttl = None;
  abs_conn_ttl_jitter = None;
  reset_connection = true;
  max_waiting = None;
}

-- an interval below one second means the default
abbrev pub interval_of : ℕ → ℕ
interval_of interval = if nat_lt interval 1000 then 30000 else interval

-- how many connections stay: where idle ones have no time to live, the lower bound
abbrev pub active_bound_of : PoolView → ℕ
active_bound_of pool =
    if nat_eq pool.inactive_connection_ttl 0 then pool.constraints.min else pool.constraints.max

-- whole seconds
abbrev pub seconds_of : ℕ → ℕ
seconds_of millis = millis / 1000

-- the moment at which a connection's life ends, by its time to live and its jitter
abbrev pub deadline_by : Option ℕ → Option ℕ → ℕ → ℕ → Option ℕ
deadline_by None jitter now random = None
deadline_by (Some ttl) jitter now random =
    Some (now + 1000 * (seconds_of ttl + random % (seconds_of (unwrap_or jitter 0) + 1)))

-- the moment at which a connection that is made now ends
abbrev pub deadline_of : PoolView → ℕ → ℕ → Option ℕ
deadline_of pool now random = deadline_by pool.abs_conn_ttl pool.abs_conn_ttl_jitter now random
