-- Where the steps of a call lead, and what that says of the whole call.
use Rattle.std.specs.Prelude.{◌≡◌, ℕ, List}
use Rattle.my_grammar.specs.declared.login.Login.{Login}
use Rattle.my_reading.specs.declared.call.Call.{Call}
use Rattle.my_reading.specs.Course.{Part, Stop, Goes, Stops, step, parts_of, course, halt}
use Rattle.my_reading.specs.Place.{Place, with_bytes}

-- Steps that go on lead from these parts and this place to those.
pub data Leads (login : Login) (call : Call) : List Part → Place → List Part → Place → Type 0 where
  Here : (parts : List Part) (p : Place) → Leads login call parts p parts p
  Then : (parts : List Part) (p : Place) (more : List Part) (q : Place) (rest : List Part) (r : Place)
      → step login call parts p ≡ Goes more q → Leads login call more q rest r → Leads login call parts p rest r

-- A step that goes on does the same once more bytes were sent or received.
abbrev pub StepStays : Type 0
StepStays = (login : Login) (call : Call) (parts : List Part) (p : Place) (sent taken : List ℕ) (rest : List Part) (q : Place)
    → step login call parts p ≡ Goes rest q
    → step login call parts (with_bytes sent taken p) ≡ Goes rest (with_bytes sent taken q)

-- So do the steps that lead somewhere.
abbrev pub LeadingStays : Type 0
LeadingStays = (login : Login) (call : Call) (parts : List Part) (p : Place) (rest : List Part) (q : Place) (sent taken : List ℕ)
    → Leads login call parts p rest q
    → Leads login call parts (with_bytes sent taken p) rest (with_bytes sent taken q)

-- Where the steps from a call's first parts lead to a stop, that is what the call comes to.
abbrev pub LeadsToCourse : Type 0
LeadsToCourse = (login : Login) (call : Call) (p : Place) (rest : List Part) (r q : Place) (s : Stop)
    → Leads login call (parts_of login call) p rest r → step login call rest r ≡ Stops q s → course login call p ≡ halt q s
