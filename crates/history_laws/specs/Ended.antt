-- The calls of a tape that ended.
use Rattle.std.specs.Prelude.{List, [], ◌∷◌, Bool, false, ◌||◌}
use Rattle.my_reading.specs.declared.call.CallKind.{CallKind}
use Rattle.my_reading.specs.Calls.{is_connect, kind_of}
use Rattle.my_reading.specs.Tape.{Span}
use Rattle.my_reading.specs.Told.{Told, ToldReady}
use Rattle.history_laws.specs.Given.{with_ending}
use Rattle.history_laws.specs.Groups.{Made}

-- the calls of a tape that ended, with what they returned, the newest first
abbrev pub ended_after : List Made → List Span → List Made
ended_after ms [] = ms
ended_after ms (s ∷ ss) = ended_after (with_ending s.call s.ending ms) ss

-- whether the connection was made
abbrev pub makes : Told → CallKind → Bool
makes ToldReady c = is_connect c
makes t c = false

abbrev pub was_made : List Made → Bool
was_made [] = false
was_made (m ∷ ms) = makes m.what (kind_of m.call) || was_made ms
