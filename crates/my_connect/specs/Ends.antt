-- How a client ends.
use Rattle.std.specs.declared.result.Result.{Result}
use Rattle.my_link.specs.Looks.{Looks}
use Rattle.my_reading.specs.declared.error.Error.{Error}
use Rattle.my_conn.specs.Conn.{ConnSeen}
use Rattle.my_conn.specs.Drives.{EndIs}

-- The connection is ended, and its link let go.
abbrev pub QuitIs : {L : Type 0} → (L → Looks) → ConnSeen L → Result (Unit {0}) Error → Type 0
QuitIs {L} look old result = (link : L) × EndIs look old (result, link)
