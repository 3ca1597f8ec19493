-- What is known of a set that a stream took.
use Rattle.std.specs.Prelude.{◌≡◌, Bool, not}
use Rattle.std.specs.declared.result.Result.{Result}
use Rattle.std.specs.declared.result.Result.TheVariants.{Ok, Err}
use Rattle.my_link.specs.Looks.{Looks}
use Rattle.my_reading.specs.declared.error.Error.{Error}
use Rattle.my_reading.specs.declared.error.Error.TheVariants as errors
use Rattle.my_conn.specs.Conn.{ConnSeen}
use Rattle.my_conn.specs.Streams.{StreamWaits}
use Rattle.my_results.specs.Unread.{next_columns}
use Rattle.my_results.specs.declared.taken.TakenSet.{TakenSet}

-- The set has the columns that are unread, and the last OK, at this connection.
abbrev pub HeadIs : {L : Type 0} → TakenSet → ConnSeen L → Type 0
HeadIs set c = (set.columns ≡ next_columns c) × (set.ok ≡ c.seen.stand.facts.ok)

-- The taking failed with this error, or memory ran out after it.
abbrev pub FailsBy : Result Bool Error → Error → Type 0
FailsBy (Ok taken) error = error ≡ errors.NoMemory
FailsBy (Err e) error = error ≡ e

-- A set was taken, and is known as it is then. Where nothing is left the stream ended.
abbrev pub TakesSet : {L : Type 0} → (L → Looks) → ConnSeen L → ConnSeen L → Result TakenSet Error → Type 0
TakesSet look old new (Ok set) = (taken : Bool) × StreamWaits look old new (Ok taken) × (set.ended ≡ not taken)
    × HeadIs set new
TakesSet look old new (Err error) = (r : Result Bool Error) × StreamWaits look old new r × FailsBy r error
