-- What a connection says by what it did, and by its tape, where it keeps one: whether it is clean, and the account of
-- its options.
use Rattle.std.specs.Prelude.{◌≡◌, ◌↔◌, Bool, Some, None, false}
use Rattle.my_grammar.specs.declared.login.Login.{Login}
use Rattle.my_opts.specs.Opts.{OptsView}
use Rattle.my_reading.specs.Clean.{IsClean}
use Rattle.my_session.specs.Login.{account_in}
use Rattle.my_client.specs.declared.tape.Tape.{Tape}
use Rattle.my_client.specs.Conn.{kept_in}
use Rattle.my_client.specs.Kept.{Kept}
use Rattle.my_client.specs.Reads.{place_kept, tape_kept}
use Rattle.my_client.specs.StandsFor.{StandsFor}
use Rattle.my_conn.specs.Conn.{ConnSeen}

-- Where no call is open, the connection is clean, by its login and its tape, exactly where it isn't closed and isn't
-- dirty.
abbrev pub EachClean : {L : Type 0} → ConnSeen L → Bool → Type 0
EachClean c dirty = c.lost ≡ false → c.pending ≡ None → (tape : Tape) → c.tape ≡ Some tape
    → IsClean c.seen.login (tape_kept (kept_in tape)) ↔ ((c.seen.closed ≡ false) × (dirty ≡ false))

-- These options have the account of the place where the reading of the tape stands.
abbrev pub EachAccount : {L : Type 0} → ConnSeen L → OptsView → Type 0
EachAccount c opts = c.lost ≡ false → (tape : Tape) → c.tape ≡ Some tape
    → account_in opts ≡ (place_kept c.seen.login (kept_in tape)).account

-- So it is of all that a connection may have done, with a tape or without one: where no call is open, that is clean
-- exactly where the connection isn't closed and isn't dirty.
abbrev pub DidClean : {L : Type 0} → ConnSeen L → Bool → Type 0
DidClean c dirty = (login : Login) (k : Kept) → StandsFor login c.seen c.tape None k
    → IsClean login (tape_kept k) ↔ ((c.seen.closed ≡ false) × (dirty ≡ false))

-- and these options have the account of the place where the reading of that stands
abbrev pub DidAccount : {L : Type 0} → ConnSeen L → OptsView → Type 0
DidAccount c opts = (login : Login) (k : Kept) → StandsFor login c.seen c.tape c.pending k
    → account_in opts ≡ (place_kept login k).account
