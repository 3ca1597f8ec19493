-- What callers were given, as the reading has it: of each exchange a beginning of its sets.
use Rattle.std.specs.Prelude.{◌≡◌, List, [], ◌∷◌, Option, Some, None, is_some, Bool, true, false, ◌&&◌}
use Rattle.my_flags.specs.Sets.{deprecates_eof}
use Rattle.my_grammar.specs.declared.login.Login.{Login}
use Rattle.my_grammar.specs.FitSets.{FitSets}
use Rattle.my_grammar.specs.Sets.{Sets, NoSets, ByText}
use Rattle.my_grammar.specs.Talk.{Talk, Queried}
use Rattle.my_reading.specs.declared.call.Call.{Call}
use Rattle.my_reading.specs.declared.call.Call.TheVariants.{DropResult, SkipTaken}
use Rattle.my_reading.specs.Calls.{is_connect, kind_of}
use Rattle.my_reading.specs.Endings.{AreCalls, IsTape}
use Rattle.my_reading.specs.Place.{Place, Exchange, exchanges, first_place}
use Rattle.my_reading.specs.Reading.{read_calls, reading}
use Rattle.my_reading.specs.Tape.{Span, Tape, spans}
use Rattle.my_reading.specs.Told.{Told, ToldRow, ToldEnd}
use Rattle.history_laws.specs.Groups.{Group, Made, given, groups, IsEarlier}

abbrev pub sets_of : Talk → Sets
sets_of (Queried terms c sets) = sets
sets_of _ = NoSets ByText

-- whether the server ends the sets by an OK; where there are none, it doesn't matter
abbrev pub ends_with_ok : Talk → Bool
ends_with_ok (Queried terms c sets) = deprecates_eof terms.kept
ends_with_ok _ = true

-- what was given is what the response was at some moment, at which it was one that a server may send
abbrev pub IsGiven : Option (List Group) → Talk → Type 0
IsGiven None t = Unit {0}
IsGiven (Some g) t = (y : Sets) × IsEarlier (ends_with_ok t) y (sets_of t) × (g ≡ groups y) × FitSets (ends_with_ok t) y

abbrev pub AreGiven : List (Option (List Group)) → List Exchange → Type 0
AreGiven [] [] = Unit {0}
AreGiven (g ∷ gs) (e ∷ es) = IsGiven g e.talk × AreGiven gs es
AreGiven [] (e ∷ es) = ⊥
AreGiven (g ∷ gs) [] = ⊥

abbrev pub onto : Option (List Group) → List (List Group) → List (List Group)
onto None gs = gs
onto (Some g) gs = g ∷ gs

abbrev pub givens : List (Option (List Group)) → List (List Group)
givens [] = []
givens (g ∷ gs) = onto g (givens gs)

-- what a call passes over: rows and ends
abbrev pub passes_over : Call → Bool
passes_over DropResult = true
passes_over SkipTaken = true
passes_over c = false

abbrev pub IsItem : Told → Type 0
IsItem (ToldRow row) = Unit {0}
IsItem ToldEnd = Unit {0}
IsItem t = ⊥

-- these calls with what they passed over, after those
pub data Passed (c : Call) (ms : List Made) : List Made → Type 0 where
  NonePassed : Passed c ms ms
  MorePassed : (more : List Made) (t : Told) → passes_over c ≡ true → IsItem t → Passed c ms more → Passed c ms (record { call = c; what = t } ∷ more)

abbrev pub with_ending : Call → Option Told → List Made → List Made
with_ending c None ms = ms
with_ending c (Some t) ms = record { call = c; what = t } ∷ ms

-- the calls of a tape, the newest first, each with what it passed over and how it ended
pub data AreMade : List Made → List Span → List Made → Type 0 where
  NoCalls : (ms : List Made) → AreMade ms [] ms
  OneCall : (ms mid all : List Made) (s : Span) (ss : List Span) → Passed s.call ms mid → AreMade (with_ending s.call s.ending mid) ss all → AreMade ms (s ∷ ss) all

-- only the newest call may be open
abbrev pub have_ended : List Span → Bool
have_ended [] = true
have_ended (s ∷ []) = true
have_ended (s ∷ t ∷ ss) = is_some s.ending && have_ended (t ∷ ss)

-- the first of these calls connects
abbrev pub connects : List Span → Bool
connects [] = true
connects (s ∷ ss) = is_connect (kind_of s.call)

-- what callers were given of the exchanges where the reading stands
pub record IsGivenOf (ss : List Span) (p : Place) : Type 0 where
  pub made : List Made
  pub of_calls : AreMade [] ss made
  pub shares : List (Option (List Group))
  pub given_is : given made ≡ givens shares
  pub each : AreGiven shares (exchanges p)

-- so it is of each list of calls that ended as the reading has it
abbrev pub PrefixesAreGiven : Type 0
PrefixesAreGiven = (login : Login) (ss : List Span) → have_ended ss ≡ true → connects ss ≡ true
    → AreCalls login (read_calls login ss false (first_place login)).calls → IsGivenOf ss (read_calls login ss false (first_place login)).place

-- and of each tape that the reading accepts
abbrev pub EachTapeGives : Type 0
EachTapeGives = (login : Login) (t : Tape) → IsTape login t → IsGivenOf (spans t) (reading login t).place
