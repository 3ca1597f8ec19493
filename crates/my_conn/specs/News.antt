-- What a call that connects and waits returns.
use Rattle.std.specs.Prelude.{ℕ, ◌≡◌, ◌⊎◌, [], Bool, None, false}
use Rattle.std.specs.declared.result.Result.{Result}
use Rattle.std.specs.declared.result.Result.TheVariants.{Ok, Err}
use Rattle.my_link.specs.Looks.{Looks}
use Rattle.my_reading.specs.declared.error.Error.{Error}
use Rattle.my_reading.specs.declared.error.Error.TheVariants as errors
use Rattle.my_opts.specs.Opts.{OptsView}
use Rattle.my_opts_parts.specs.Pool.{deadline_of}
use Rattle.my_opts_parts.specs.declared.error.UrlError.{UrlError}
use Rattle.my_session.specs.Login.{login_of}
use Rattle.my_session.specs.View.{first_lifetime}
use Rattle.my_session.specs.View.{View}
use Rattle.my_client.specs.Waits.{IsShaken, WhyUnmade}
use Rattle.my_conn.specs.Conn.{ConnSeen, session_of}
use Rattle.my_conn.specs.declared.conn.Fixed.{Fixed}
use Rattle.my_conn.specs.declared.unmade.Unmade.{Unmade}

-- what a connection is before its first call: no pool handed it out, and whether it is to be reset is as the options
-- say
abbrev pub first_fixed : OptsView → ℕ → Fixed
first_fixed opts now = record { now = now; pooled = false; reset = opts.pool_opts.reset_connection }

-- what is handed in for a connection: how its link looks, whether that is a local socket, the moment, and a random
-- number
pub record Given : Type 0 where
  pub looks : Looks
  pub is_socket : Bool
  pub now : ℕ
  pub random : ℕ

abbrev pub given_by : {L : Type 0} → (L → Looks) → (L → Bool) → L → ℕ → ℕ → Given
given_by look socket link now random = record { looks = look link; is_socket = socket link; now = now; random = random }

-- a session that was made for it, and received nothing
pub record IsFirst (opts : OptsView) (g : Given) (v : View) : Type 0 where
  pub unread : v.seen.stand.unread ≡ []
  pub lifetime : v.lifetime ≡ first_lifetime opts g.is_socket (deadline_of opts.pool_opts g.now g.random)

pub record IsNew {L : Type 0} (look : L → Looks) (opts : OptsView) (g : Given) (c : ConnSeen L) : Type 0 where
  pub lost : c.lost ≡ false
  pub pending : c.pending ≡ None
  pub tape : c.tape ≡ None
  pub fixed : c.fixed ≡ first_fixed opts g.now
  pub first : View
  pub is_first : IsFirst opts g first
  pub shaken : IsShaken (login_of opts) g.now g.looks (look c.link) first (session_of c) c.tape

-- it failed, and its link is handed back as that left it
pub record IsUnmade {L : Type 0} (look : L → Looks) (opts : OptsView) (g : Given) (u : Unmade L) : Type 0 where
  pub why : WhyUnmade (login_of opts) g.looks (look u.link) u.error
  pub tape : u.tape ≡ None

abbrev pub NewIs : {L : Type 0} → (L → Looks) → OptsView → Given → Result (ConnSeen L) (Unmade L) → Type 0
NewIs look opts g (Ok c) = IsNew look opts g c
NewIs look opts g (Err u) = IsUnmade look opts g u

-- where no tape is kept
abbrev pub untaped : {L : Type 0} → Error → L → Unmade L
untaped error link = record { error = error; link = link; tape = None }

-- Connecting by a text that reads as these options is connecting with them. A text that gives none is refused with
-- its cause, unless memory ran out, and the link is handed back as it came.
abbrev pub FromUrlIs : {L : Type 0} → (L → Looks) → Result OptsView UrlError → Given → L → Result (ConnSeen L) (Unmade L) → Type 0
FromUrlIs look (Ok opts) g link result = NewIs look opts g result
FromUrlIs look (Err e) g link result = (result ≡ Err (untaped (errors.Url e) link)) ⊎ (result ≡ Err (untaped errors.NoMemory link))
