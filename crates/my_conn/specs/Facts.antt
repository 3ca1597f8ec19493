-- What a connection's getters return of the last OK and of the server's version.
use Rattle.std.specs.Prelude.{ℕ, ◌==◌, ◌*◌, List, [], Option, Some, None, if◌then◌else◌}
use Rattle.my_reply.specs.declared.ok.OkPacket.{OkPacket}

abbrev pub affected_by : Option OkPacket → ℕ
affected_by None = 0
affected_by (Some ok) = ok.affected

-- an id of 0 is none
abbrev pub id_of : ℕ → Option ℕ
id_of n = if n == 0 then None else Some n

abbrev pub insert_by : Option OkPacket → Option ℕ
insert_by None = None
insert_by (Some ok) = id_of ok.insert

abbrev pub warnings_by : Option OkPacket → ℕ
warnings_by None = 0
warnings_by (Some ok) = ok.warnings

abbrev pub info_by : Option OkPacket → List ℕ
info_by None = []
info_by (Some ok) = ok.info

-- how long it may rest: by the options, or by the server's timeout, which is in seconds
abbrev pub ttl_by : Option ℕ → ℕ → ℕ
ttl_by None seconds = 1000 * seconds
ttl_by (Some ttl) seconds = ttl
