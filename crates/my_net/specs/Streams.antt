-- Which streams are local sockets, and which targets are.
use Rattle.std.specs.Prelude.{Bool, true, false}
use Rattle.my_net.specs.declared.stream.RealStream.{RealStream}
use Rattle.my_net.specs.declared.stream.RealStream.TheVariants as streams
use Rattle.my_opts_parts.specs.declared.target.Target.{Target}
use Rattle.my_opts_parts.specs.declared.target.Target.TheVariants as targets

abbrev pub is_local : RealStream → Bool
is_local (streams.Tcp stream) = false
is_local (streams.Socket stream) = true

abbrev pub at_socket : Target → Bool
at_socket (targets.Tcp host port ips) = false
at_socket (targets.Socket path) = true
