-- What the system told, as text.
use Rattle.std.specs.Prelude.{ℕ, List, codes}
use Rattle.std.specs.declared.io.ErrorKind.{ErrorKind}
use Rattle.std.specs.declared.io.ErrorKind.TheVariants.{ConnectionRefused, ConnectionReset, ConnectionAborted, BrokenPipe, TimedOut, HostUnreachable, NetworkUnreachable, NotFound, PermissionDenied, Uncategorized}

abbrev pub outside_text : ErrorKind → List ℕ
outside_text ConnectionRefused = codes "the server refused the connection"
outside_text ConnectionReset = codes "the server reset the connection"
outside_text ConnectionAborted = codes "the connection was aborted"
outside_text BrokenPipe = codes "the server closed the connection"
outside_text TimedOut = codes "the server didn't answer in time"
outside_text HostUnreachable = codes "the host can't be reached"
outside_text NetworkUnreachable = codes "the network can't be reached"
outside_text NotFound = codes "there is no such socket"
outside_text PermissionDenied = codes "the socket may not be used"
outside_text Uncategorized = codes "the host isn't known"
outside_text _ = codes "the network failed"
