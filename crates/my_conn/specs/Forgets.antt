-- What giving a transaction up does.
use Rattle.std.specs.Prelude.{◌≡◌, None, true, false, is_some}
use Rattle.my_grammar.specs.declared.login.Login.{Login}
use Rattle.my_client.specs.Kept.{Kept}
use Rattle.my_client.specs.Forgets.{forgotten}
use Rattle.my_client.specs.StandsFor.{StandsFor}
use Rattle.my_conn.specs.Conn.{ConnSeen}

-- For all that the connection may have done before there is what it did then: the same, and a call that gave the
-- transaction up, which was answered before a byte was sent or taken; the link wasn't used. Out of memory, the
-- connection is lost, and keeps no tape.
pub record ForgetIs {L : Type 0} (old new : ConnSeen L) : Type 0 where
  pub each : old.lost ≡ false → new.lost ≡ false → (login : Login) (k : Kept) → StandsFor login old.seen old.tape None k
      → StandsFor login new.seen new.tape None (forgotten k)
  pub loses : old.lost ≡ false → new.lost ≡ true → new.tape ≡ None
  pub lost : old.lost ≡ true → new ≡ old
  -- where a tape was kept it is kept
  pub keeps : new.lost ≡ false → is_some new.tape ≡ is_some old.tape
  pub pending : new.pending ≡ None
  pub link : new.link ≡ old.link
  pub lifetime : new.lifetime ≡ old.lifetime
  pub fixed : new.fixed ≡ old.fixed
