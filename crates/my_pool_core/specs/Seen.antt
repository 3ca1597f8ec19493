-- What a pool shows of itself.
use Rattle.std.specs.Prelude.{length}
use Rattle.my_pool_core.specs.declared.limits.Metrics.{Metrics}
use Rattle.my_pool_parts.specs.Lists.{how_many}
use Rattle.my_pool_parts.specs.Connections.{is_idle, is_leased}
use Rattle.my_pool_parts.specs.Requests.{is_waiting}
use Rattle.my_pool_core.specs.State.{State}

-- four numbers of what is there, and how often each thing happened
abbrev pub metrics_of : State → Metrics
metrics_of s = record {
  connection_count = length s.connections;
  connections_in_pool = how_many is_idle s.connections;
  connections_in_use = how_many is_leased s.connections;
  active_wait_requests = how_many is_waiting s.requests;
  create_failed = s.counts.create_failed;
  discarded_unestablished_connection = s.counts.discarded_unestablished_connection;
  dirty_connection_return = s.counts.dirty_connection_return;
  discarded_expired_connection = s.counts.discarded_expired_connection;
  resetting_connection = s.counts.resetting_connection;
  discarded_superfluous_connection = s.counts.discarded_superfluous_connection;
  connection_returned_to_pool = s.counts.connection_returned_to_pool;
  discarded_error_during_cleanup = s.counts.discarded_error_during_cleanup;
}
