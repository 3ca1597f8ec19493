-- What a pool asks of a connection, and what it tells the core of one.
use Rattle.std.specs.Prelude.{ℕ, ◌≡◌, ◌⊎◌, Bool, false, ◌||◌, Option, Some, None}
use Rattle.my_session.specs.Sessions.{is_dirty}
use Rattle.my_reading.specs.declared.call.CallKind.{CallKind}
use Rattle.my_reading.specs.declared.call.CallKind.TheVariants.{CleanForPool, ResetForPool, Quit}
use Rattle.my_reading.specs.Clean.{IsClean}
use Rattle.my_grammar.specs.declared.login.Login.{Login}
use Rattle.my_client.specs.Kept.{Kept}
use Rattle.my_client.specs.Reads.{tape_kept}
use Rattle.my_client.specs.StandsFor.{StandsFor}
use Rattle.my_pool_parts.specs.declared.connection.Place.{Place}
use Rattle.my_pool_parts.specs.declared.connection.Place.TheVariants.{Cleaning, Resetting, Closing}
use Rattle.my_pool_parts.specs.declared.connection.Times.{Times}
use Rattle.my_pool_parts.specs.Connections.{is_over}
use Rattle.my_pool_core.specs.declared.event.Facts.{Facts}
use Rattle.my_conn.specs.Conn.{ConnSeen}
use Rattle.my_conn.specs.Facts.{ttl_by}

-- it is closed
abbrev pub is_shut : {L : Type 0} → ConnSeen L → Bool
is_shut c = c.lost || c.seen.closed

-- how long it may rest, from this moment on
abbrev pub times_at : {L : Type 0} → ℕ → ConnSeen L → Times
times_at now c = record {
  since = now;
  deadline = c.lifetime.deadline;
  last_io = c.lifetime.last_io;
  ttl = ttl_by c.lifetime.opts.conn_ttl c.seen.stand.facts.settings.wait_timeout;
}

-- what the core decides by
abbrev pub facts_of : {L : Type 0} → ℕ → ConnSeen L → Facts
facts_of now c = record {
  link_closed = is_shut c;
  dirty = is_dirty c.seen;
  expired = is_over now (times_at now c);
  reset = c.fixed.reset;
  last_io = c.lifetime.last_io;
  ttl = ttl_by c.lifetime.opts.conn_ttl c.seen.stand.facts.settings.wait_timeout;
  deadline = c.lifetime.deadline;
}

-- no call is open
abbrev pub IsStill : {L : Type 0} → ConnSeen L → Type 0
IsStill c = c.pending ≡ None

-- it may be handed out: it is open, nothing is left of its last use, and no call is open
pub record IsFit {L : Type 0} (c : ConnSeen L) : Type 0 where
  pub alive : is_shut c ≡ false
  pub clean : is_dirty c.seen ≡ false
  pub still : IsStill c

-- whatever it may have done, that is clean
abbrev pub IsCleanConn : {L : Type 0} → ConnSeen L → Type 0
IsCleanConn c = (login : Login) (k : Kept) → StandsFor login c.seen c.tape None k → IsClean login (tape_kept k)

-- the kind of the call that is made at a place
abbrev pub call_at : Place → Option CallKind
call_at (Cleaning marked) = Some CleanForPool
call_at Resetting = Some ResetForPool
call_at Closing = Some Quit
call_at place = None

-- it is open, or may begin
abbrev pub MayWork : {L : Type 0} → Place → ConnSeen L → Type 0
MayWork place c = (c.pending ≡ None) ⊎ (c.pending ≡ call_at place)
