-- What clauses see of a session's fields.
use Rattle.std.specs.Prelude.{◌≡◌, false}
use Rattle.my_machine.specs.declared.stand.Stand.{Stand}
use Rattle.my_machine.specs.Runs.{IsSomewhere}
use Rattle.my_session.specs.Login.{account_in, without_account}
use Rattle.my_session.specs.View.{Lifetime}
use Rattle.my_session.specs.declared.session.Session.TheInside.{Inside}
use Rattle.my_session.specs.Sessions.{Seen}

-- where the reading stands, with the account of the options
abbrev pub stand_in : Inside → Stand
stand_in s = record s.stand { account = account_in s.opts }

abbrev pub seen : Inside → Seen
seen s = record { login = s.login; stand = stand_in s; opened = s.opened; closed = s.closed; ended = s.ended; fault = s.fault }

abbrev pub lifetime : Inside → Lifetime
lifetime s = record { opts = without_account s.opts; is_socket = s.is_socket; deadline = s.deadline; last_io = s.last_io }

-- it stands at some place of the reading, and its options have the account that is in force there
pub record Lives (s : Inside) : Type 0 where
  pub at : IsSomewhere s.login s.stand
  pub account : s.stand.account ≡ account_in s.opts

-- an open session does
abbrev pub IsAlive : Inside → Type 0
IsAlive s = s.closed ≡ false → Lives s
