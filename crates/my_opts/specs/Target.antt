-- Where a connection is made.
use Rattle.std.specs.Prelude.{ℕ, List, Option, Some, None}
use Rattle.my_opts_parts.specs.declared.target.Target.{Target}
use Rattle.my_opts_parts.specs.declared.target.Target.TheVariants.{Tcp, Socket}
use Rattle.my_opts.specs.Opts.{OptsView}

-- the local socket, where one is named, else the host and port
abbrev pub target_by : Option (List ℕ) → OptsView → Target
target_by (Some path) opts = Socket path
target_by None opts = Tcp opts.ip_or_hostname opts.tcp_port opts.resolved_ips

abbrev pub target_of : OptsView → Target
target_of opts = target_by opts.socket opts
