-- What a link was sent, by what was kept.
use Rattle.std.specs.Prelude.{◌≡◌, ℕ, List, ◌++◌, Some}
use Rattle.my_frame.specs.Outside.{Comes}
use Rattle.my_link.specs.Aid.{Texts}
use Rattle.my_link.specs.Looks.{Looks}
use Rattle.my_link.specs.declared.met.Met.{Met}
use Rattle.my_client.specs.declared.tape.Tape.{Tape}
use Rattle.my_client.specs.Conn.{kept_in}
use Rattle.my_client.specs.Kept.{Kept}
use Rattle.my_client.specs.Makes.{IsMaking}
use Rattle.my_conn.specs.Connects.{ConnectSeen, IsLeft}
use Rattle.my_conn.specs.declared.unmade.Unmade.{Unmade}

-- what was kept since is what the link was sent since, where it tells that
pub record SentSince (x y : Looks) (k end : Kept) : Type 0 where
  pub bytes : List ℕ
  pub kept : end.sent ≡ k.sent ++ bytes
  pub got : Comes x.got bytes y.got

-- So it is of the tape and the link that are left of a connection that wasn't made.
abbrev pub UnmadeAreTaped : Type 0 → Type 0
UnmadeAreTaped L = (look : L → Looks) (texts : Texts) (old : ConnectSeen L) (m : Met) (u : Unmade L) (s t : Tape)
    → IsMaking old.at old.seen old.tape → IsLeft look texts old m u → old.tape ≡ Some s → u.tape ≡ Some t
    → SentSince (look old.link) (look u.link) (kept_in s) (kept_in t)
