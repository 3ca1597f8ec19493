-- What is left of a call, and where its steps stop.
use Rattle.std.specs.Prelude.{◌≡◌, List, drop, if◌then◌else◌}
use Rattle.my_grammar.specs.declared.login.Login.{Login}
use Rattle.my_reading.specs.declared.call.Call.{Call}
use Rattle.my_reading.specs.Course.{Part, Stops, parts_of, step}
use Rattle.my_reading.specs.Leads.{Leads}
use Rattle.my_reading.specs.Place.{Place}
use Rattle.my_machine.specs.declared.progress.Progress.{Progress}
use Rattle.my_machine.specs.declared.stand.Stand.{Stand}
use Rattle.my_machine.specs.declared.step.Stop.{Stop as CodeStop}
use Rattle.my_machine.specs.Parts.{reverting_parts}
use Rattle.my_machine.specs.Stands.{IsAt}
use Rattle.my_machine.specs.Stops.{stop_of}

-- some place is where the program is
abbrev pub IsSomewhere : Login → Stand → Type 0
IsSomewhere login s = (p : Place) × IsAt login p s

-- the parts that are left
abbrev pub parts_left : Login → Call → Progress → List Part
parts_left login call o = drop o.done (if o.reverting then reverting_parts else parts_of login call)

-- The steps of the reading lead from the place to a stop, and the program is there.
pub record Runs (login : Login) (call : Call) (old : Progress) (p : Place) (stop : CodeStop) (new : Progress) (now : Stand) : Type 0 where
  pub rest : List Part
  pub place : Place
  pub leads : Leads login call (parts_left login call old) p rest place
  pub end : Place
  pub stops : step login call rest place ≡ Stops end (stop_of stop)
  pub at : IsAt login end now
  pub left : parts_left login call new ≡ rest

-- from each place at which the program may be
abbrev pub EachRuns : Login → Call → Progress → Stand → CodeStop → Progress → Stand → Type 0
EachRuns login call old before stop new now = (p : Place) → IsAt login p before → Runs login call old p stop new now
