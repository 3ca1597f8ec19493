-- What the bytes say of a commit.
use Rattle.std.specs.Prelude.{◌≡◌, None, Result, Ok}
use Rattle.my_link.specs.Looks.{Looks}
use Rattle.my_reading.specs.declared.call.Call.TheVariants.{Commit}
use Rattle.my_reading.specs.declared.call.CallKind.TheVariants as kinds
use Rattle.my_reading.specs.Transactions.{commit_text}
use Rattle.my_client.specs.Reads.{place_kept}
use Rattle.my_conn.specs.Conn.{ConnSeen}
use Rattle.my_conn.specs.Drives.{DoneIs}
use Rattle.query_laws.specs.Begins.{IsQuery}
use Rattle.query_laws.specs.Found.{IsDone}
use Rattle.query_laws.specs.Stood.{Did}

-- A commit that was done was answered by the server, without an ERR.
abbrev pub CommitIsAnswered : {L : Type 0} → (L → Looks) → Type 0
CommitIsAnswered {L} look = (old new : ConnSeen L) → old.pending ≡ None → DoneIs look kinds.Commit Commit old new (Ok tt)
    → Did (λ login k. IsDone Commit (IsQuery commit_text) (place_kept login k) k.taken) old new
