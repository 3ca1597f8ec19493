-- After a stream took a set, or found none, no call is open.
use Rattle.std.proofs.Common.{◌≡◌, ◌∙◌, ap, Bool, true, false, None, Result, Ok, Err}
use Rattle.my_link.specs.Looks.{Looks}
use Rattle.my_reading.specs.declared.answer.Answer.{Answer}
use Rattle.my_reading.specs.declared.call.Call.TheVariants as calls
use Rattle.my_reading.specs.declared.call.CallKind.TheVariants as kinds
use Rattle.my_reading.specs.declared.error.Error.{Error}
use Rattle.my_conn.specs.Conn.{ConnSeen}
use Rattle.my_conn.specs.Drives.{DriveIs}
use Rattle.my_conn.specs.Streams.{SkipEnds, StreamBegins, StreamWaits}

module _ {L : Type 0} (look : L → Looks) (old new : ConnSeen L) (result : Result Bool Error) where
  skip_idle : (r : Result Answer Error) (mid : ConnSeen L) → DriveIs look kinds.SkipTaken calls.SkipTaken old mid r
      → SkipEnds look r mid new result → new.pending ≡ None
  skip_idle (Ok answer) mid skips takes = takes.2.pending
  skip_idle (Err error) mid skips ends = ap (λ (c : ConnSeen L). c.pending) ends.1 ∙ skips.pending

  begun_idle : (taken : Bool) → StreamBegins taken look old new result → new.pending ≡ None
  begun_idle true w = skip_idle w.0 w.1 w.2 w.3
  begun_idle false w = w.2.pending

  pub taken_idle : StreamWaits look old new result → new.pending ≡ None
  taken_idle w = begun_idle _ w
