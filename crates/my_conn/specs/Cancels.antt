-- What the cancelling of a call, and of the making of a connection, does.
use Rattle.std.specs.Prelude.{◌≡◌, Option, Some, None, false, is_some}
use Rattle.my_grammar.specs.declared.login.Login.{Login}
use Rattle.my_client.specs.Kept.{Asked, Kept}
use Rattle.my_client.specs.declared.tape.Tape.{Tape}
use Rattle.my_session.specs.Sessions.{Seen}
use Rattle.my_client.specs.Cancels.{EachCancel, cancelled_by}
use Rattle.my_client.specs.StandsFor.{StandsFor}
use Rattle.my_conn.specs.Conn.{ConnSeen}

-- the open call is cancelled, for all that the connection may have done before
pub record CancelIs {L : Type 0} (old new : ConnSeen L) : Type 0 where
  pub each : old.lost ≡ false → (login : Login) (k : Kept) → StandsFor login old.seen old.tape old.pending k
      → (a : Asked) × (k.pending ≡ Some a) × StandsFor login new.seen new.tape None (cancelled_by login k a)
  -- where a tape was kept it is kept
  pub keeps : is_some new.tape ≡ is_some old.tape
  pub pending : new.pending ≡ None
  pub link : new.link ≡ old.link
  pub lifetime : new.lifetime ≡ old.lifetime
  pub lost : new.lost ≡ old.lost
  pub fixed : new.fixed ≡ old.fixed

-- The open call of a connection that is being made is cancelled: its tape has how it ended, for all that it may have
-- done before where that call waited for the link.
abbrev pub MakingCancels : Seen → Option Tape → Option Tape → Type 0
MakingCancels s p q = (t : Seen) × EachCancel s t p q
