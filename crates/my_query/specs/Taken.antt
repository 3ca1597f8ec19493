-- What a call that takes the first set of an answer does.
use Rattle.std.specs.Prelude.{◌≡◌}
use Rattle.std.specs.declared.result.Result.{Result}
use Rattle.std.specs.declared.result.Result.TheVariants.{Ok, Err}
use Rattle.my_link.specs.Looks.{Looks}
use Rattle.my_reading.specs.declared.error.Error.{Error}
use Rattle.my_conn.specs.Conn.{ConnSeen}
use Rattle.my_results.specs.Taken.{TakesSet}
use Rattle.my_results.specs.declared.taken.TakenSet.{TakenSet}

-- Where the call that begins an answer was done, its first set was taken; where it failed, no call followed.
abbrev pub TakesAfter : {L : Type 0} → (L → Looks) → Result (Unit {0}) Error → ConnSeen L → ConnSeen L
    → Result TakenSet Error → Type 0
TakesAfter look (Ok done) old new result = TakesSet look old new result
TakesAfter look (Err error) old new result = (result ≡ Err error) × (new ≡ old)

-- An answer was begun so, and its first set taken. The first of these that failed was the last.
abbrev pub TakesFirst : {L : Type 0} → (L → Looks) → (ConnSeen L → ConnSeen L → Result (Unit {0}) Error → Type 0)
    → ConnSeen L → ConnSeen L → Result TakenSet Error → Type 0
TakesFirst {L} look begins old new result = (r : Result (Unit {0}) Error) × (mid : ConnSeen L) × begins old mid r
    × TakesAfter look r mid new result
