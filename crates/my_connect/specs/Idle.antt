-- A connection at which no call is open.
use Rattle.std.specs.Prelude.{None}
use Rattle.my_conn.specs.Conn.{ConnSeen}

abbrev pub idle_of : {L : Type 0} → ConnSeen L → ConnSeen L
idle_of c = record c { pending = None }
