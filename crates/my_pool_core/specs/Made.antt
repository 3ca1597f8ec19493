-- What a pool is made with.
use Rattle.my_opts_parts.specs.Pool.{PoolView, active_bound_of}
use Rattle.my_pool_core.specs.declared.limits.Limits.{Limits}

-- the limits that options give
abbrev pub limits_of : PoolView → Limits
limits_of opts = record {
  max = opts.constraints.max;
  min = opts.constraints.min;
  bound = active_bound_of opts;
  inactive = opts.inactive_connection_ttl;
  waiting = opts.max_waiting;
}
