-- What a connection did since it was as it was.
use Rattle.std.specs.Prelude.{ℕ, ◌≡◌, ◌++◌, List, false}
use Rattle.my_frame.specs.FrontLaws.{AreBytes}
use Rattle.my_grammar.specs.declared.login.Login.{Login}
use Rattle.my_reading.specs.Endings.{IsTape}
use Rattle.my_client.specs.Kept.{Kept}
use Rattle.my_client.specs.Reads.{tape_kept}
use Rattle.my_client.specs.StandsFor.{StandsFor}
use Rattle.my_conn.specs.Conn.{ConnSeen}

-- After what it did before there is what it did since: bytes more were taken. Where the reading accepted the tape before, it accepts that
-- of all; and where what was taken are bytes, this holds of it.
pub record Since {L : Type 0} (holds : Login → Kept → Type 0) (login : Login) (k : Kept) (new : ConnSeen L) : Type 0 where
  pub end : Kept
  pub stands : StandsFor login new.seen new.tape new.pending end
  pub bytes : List ℕ
  pub taken : end.taken ≡ k.taken ++ bytes
  pub tape : IsTape login (tape_kept k) → IsTape login (tape_kept end)
  pub says : IsTape login (tape_kept k) → AreBytes end.taken → holds login end

-- The connection was there, and is. So it is after all that it may have done before, with a tape or without one.
pub record Did {L : Type 0} (holds : Login → Kept → Type 0) (old new : ConnSeen L) : Type 0 where
  pub was : old.lost ≡ false
  pub is : new.lost ≡ false
  pub each : (login : Login) (k : Kept) → StandsFor login old.seen old.tape old.pending k → Since holds login k new
