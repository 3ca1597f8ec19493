-- What the program finds of whole calls.
use Rattle.std.specs.Prelude.{◌≡◌}
use Rattle.my_grammar.specs.declared.login.Login.{Login}
use Rattle.my_reading.specs.declared.call.Call.{Call}
use Rattle.my_reading.specs.Course.{Halt, course}
use Rattle.my_reading.specs.Place.{Place}
use Rattle.my_judge.specs.declared.stand.Stand.{Stand}
use Rattle.my_machine.specs.declared.step.Stop.{Stop}
use Rattle.my_machine.specs.Stops.{stop_of}
use Rattle.my_judge.specs.Stands.{IsAt}

-- The program is where the call stops, and so does it stop.
pub record HaltIs (login : Login) (h : Halt) (stop : Stop) (new : Stand) : Type 0 where
  pub at : IsAt login h.place new
  pub stop_is : h.stop ≡ stop_of stop

-- from each place where the program may be
abbrev pub CourseIs : Login → Call → Stand → Stop → Stand → Type 0
CourseIs login call old stop new = (p : Place) → IsAt login p old → HaltIs login (course login call p) stop new
