-- A call that is settled leaves each statement kept, and so do calls one after another.
use Rattle.std.proofs.Common.{◌≡◌, ℕ, suc, zero, Bool, true, false, ◌||◌, List, [], ◌∷◌, refl, arith}
use Rattle.my_grammar.specs.declared.login.Login.{Login}
use Rattle.my_reading.specs.declared.call.Call.{Call}
use Rattle.my_reading.specs.declared.call.Call.TheVariants.{Prepare, CloseStmt}
use Rattle.my_reading.specs.Course.{Stop, Awaits, Step, Goes, Stops, course, enough, parts_of, run, step}
use Rattle.my_reading.specs.Place.{Place, exchanges, first_place, with_bytes}
use Rattle.my_reading.specs.Reading.{ReadCall, halt_of, is_closing, read_calls, reading}
use Rattle.my_reading.specs.Tape.{Span, spans}
use Rattle.reading_laws.specs.Kept.{AllReturned, AllSettled, SettledAreKept, StatementsAreKept, is_answered, is_settled}
use Rattle.reading_laws.proofs.Holding.{Holds, each_is_kept}
use Rattle.reading_laws.proofs.Phases.{IsFine, answer_leaves_open, stopped_fine}
use Rattle.reading_laws.proofs.Stepping.{begins_fine, step_fine}

run_holds : (n : ℕ) (login : Login) (call : Call) (s : Step) → IsFine call s → is_settled call (run n login call s).stop ≡ true → Holds (run n login call s).place
unfolding run
run_holds zero login call (Stops p s) w e = w e
run_holds (suc n) login call (Stops p s) w e = w e
run_holds zero login call (Goes parts p) w e = stopped_fine call parts p w Awaits refl e
run_holds (suc n) login call (Goes parts p) w e = run_holds n login call (step login call parts p) (step_fine login call parts p w) e

course_holds : (login : Login) (call : Call) (p : Place) → Holds p → is_settled call (course login call p).stop ≡ true → Holds (course login call p).place
course_holds login call p w e = run_holds (enough login call p) login call (Goes (parts_of login call) p) (begins_fine login call p w) e

halt_holds : (login : Login) (closed : Bool) (s : Span) (p : Place) → Holds p → (closed || is_settled s.call (halt_of login closed s p).stop) ≡ true → Holds (halt_of login closed s p).place
halt_holds login true s p w e = w
halt_holds login false s p w e = course_holds login s.call (with_bytes s.sent s.taken p) w e

calls_hold : (login : Login) (ss : List Span) (closed : Bool) (p : Place) → Holds p → AllSettled (read_calls login ss closed p).calls → Holds (read_calls login ss closed p).place
unfolding read_calls
calls_hold login [] closed p w h = w
calls_hold login (s ∷ ss) closed p w h =
    calls_hold login ss (closed || is_closing s.call s.ending) (halt_of login closed s p).place (halt_holds login closed s p w h.0) h.1

first_holds : (login : Login) → Holds (first_place login)
first_holds login = ((tt, tt), refl, omega arith)

pub settled_are_kept : SettledAreKept
unfolding reading
settled_are_kept login t h =
    let p = (reading login t).place in
    each_is_kept p.statements [] (exchanges p) (calls_hold login (spans t) false (first_place login) (first_holds login) h).0

-- a call that returned with no error is settled
answer_settles : (call : Call) (s : Stop) → is_answered s ≡ true → is_settled call s ≡ true
answer_settles (Prepare text) s e = answer_leaves_open s e
answer_settles (CloseStmt id) s e = e
answer_settles call s e = refl

pub or_settled : (closed b : Bool) → b ≡ true → (closed || b) ≡ true
or_settled true b e = refl
or_settled false b e = e

returned_settle : (cs : List ReadCall) → AllReturned cs → AllSettled cs
returned_settle [] h = tt
returned_settle (c ∷ cs) h = (or_settled c.closed _ (answer_settles c.span.call c.halt.stop h.0), returned_settle cs h.1)

pub statements_are_kept : StatementsAreKept
statements_are_kept login t h = settled_are_kept login t (returned_settle (reading login t).calls h)
