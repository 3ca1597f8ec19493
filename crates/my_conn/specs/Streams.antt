-- What the taking of a set by a stream does, by calls that wait: the rest of a set that an earlier stream took is
-- passed over first.
use Rattle.std.specs.Prelude.{◌≡◌, Bool, true, false}
use Rattle.std.specs.declared.result.Result.{Result}
use Rattle.std.specs.declared.result.Result.TheVariants.{Ok, Err}
use Rattle.my_link.specs.Looks.{Looks}
use Rattle.my_reading.specs.declared.answer.Answer.{Answer}
use Rattle.my_reading.specs.declared.call.Call.TheVariants as calls
use Rattle.my_reading.specs.declared.call.CallKind.TheVariants as kinds
use Rattle.my_reading.specs.declared.error.Error.{Error}
use Rattle.my_session.specs.Sessions.{is_taken}
use Rattle.my_conn.specs.Conn.{ConnSeen}
use Rattle.my_conn.specs.Drives.{DriveIs, TakeIs}

abbrev pub SkipEnds : {L : Type 0} → (L → Looks) → Result Answer Error → ConnSeen L → ConnSeen L → Result Bool Error → Type 0
SkipEnds look (Ok answer) mid new result = TakeIs look mid new result
SkipEnds look (Err e) mid new result = (result ≡ Err e) × (new ≡ mid)

-- the rest of the earlier set is passed over, and then a set is taken
abbrev pub SkipIs : {L : Type 0} → (L → Looks) → ConnSeen L → ConnSeen L → Result Bool Error → Type 0
SkipIs {L} look old new result = (r : Result Answer Error) × (mid : ConnSeen L)
    × DriveIs look kinds.SkipTaken calls.SkipTaken old mid r × SkipEnds look r mid new result

abbrev pub StreamBegins : {L : Type 0} → Bool → (L → Looks) → ConnSeen L → ConnSeen L → Result Bool Error → Type 0
StreamBegins true look old new result = SkipIs look old new result
StreamBegins false look old new result = TakeIs look old new result

-- the first where an earlier stream took the set that is read
abbrev pub StreamWaits : {L : Type 0} → (L → Looks) → ConnSeen L → ConnSeen L → Result Bool Error → Type 0
StreamWaits look old new result = StreamBegins (is_taken old.seen) look old new result
