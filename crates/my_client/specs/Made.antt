-- Calls with what they returned.
use Rattle.std.specs.Prelude.{List, [], ◌∷◌, Bool, true, false, ◌||◌}
use Rattle.my_reading.specs.declared.call.Call.{Call}
use Rattle.my_reading.specs.declared.call.CallKind.{CallKind}
use Rattle.my_reading.specs.declared.call.CallKind.TheVariants.{Connect}
use Rattle.my_reading.specs.Calls.{kind_of}
use Rattle.my_reading.specs.Told.{Told, ToldReady, closes}

pub record Made : Type 0 where
  pub call : Call
  pub what : Told

-- closed exactly by a fatal error, a call that was cancelled while its answer was awaited, or a quit
abbrev pub has_closed : List Made → Bool
has_closed [] = false
has_closed (m ∷ ms) = closes m.what (kind_of m.call) || has_closed ms

abbrev pub connects : Told → CallKind → Bool
connects ToldReady Connect = true
connects t c = false

abbrev pub has_connected : List Made → Bool
has_connected [] = false
has_connected (m ∷ ms) = connects m.what (kind_of m.call) || has_connected ms
