-- A connection that was just made has a tape that the reading accepts.
use Rattle.std.specs.Prelude.{◌≡◌}
use Rattle.my_link.specs.Looks.{Looks}
use Rattle.my_opts.specs.Opts.{OptsView}
use Rattle.my_reading.specs.Endings.{IsTape}
use Rattle.my_session.specs.Login.{login_of}
use Rattle.my_client.specs.Kept.{Kept}
use Rattle.my_client.specs.Reads.{tape_kept}
use Rattle.my_client.specs.StandsFor.{StandsFor}
use Rattle.my_conn.specs.Conn.{ConnSeen}
use Rattle.my_conn.specs.News.{Given, IsNew}

-- It connected, with the login of its options, and did nothing else.
abbrev pub NewIsTaped : {L : Type 0} → (L → Looks) → Type 0
NewIsTaped {L} look = (opts : OptsView) (g : Given) (c : ConnSeen L) → IsNew look opts g c
    → (k : Kept) × StandsFor (login_of opts) c.seen c.tape c.pending k × IsTape (login_of opts) (tape_kept k)
