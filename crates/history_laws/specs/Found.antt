-- What callers were given, by the exchanges that the grammar finds in the bytes that were received.
use Rattle.std.specs.Prelude.{◌≡◌, ℕ, List, [], ◌∷◌, ◌++◌, Option}
use Rattle.my_frame.specs.FrontLaws.{AreBytes}
use Rattle.my_grammar.specs.declared.login.Login.{Login}
use Rattle.my_grammar.specs.Cut.{cut}
use Rattle.my_grammar.specs.Talk.{Talk, origin}
use Rattle.my_reading.specs.Endings.{IsTape}
use Rattle.my_reading.specs.Place.{Exchange, Place, exchanges}
use Rattle.my_reading.specs.Reading.{reading}
use Rattle.my_reading.specs.Tape.{Span, Tape, spans}
use Rattle.history_laws.specs.Given.{AreMade, IsGiven, givens}
use Rattle.history_laws.specs.Groups.{Group, Made, given}

-- a list that is newest first, oldest first
abbrev pub in_order : {A : Type 0} → List A → List A
in_order [] = []
in_order (x ∷ xs) = in_order xs ++ x ∷ []

-- how the exchanges began
abbrev pub origins : List Exchange → List Talk
origins [] = []
origins (e ∷ es) = origin e.talk ∷ origins es

-- of each of these exchanges this was given
abbrev pub AreGivenIn : List (Option (List Group)) → List Talk → Type 0
AreGivenIn [] [] = Unit {0}
AreGivenIn (g ∷ gs) (t ∷ ts) = IsGiven g t × AreGivenIn gs ts
AreGivenIn [] (t ∷ ts) = ⊥
AreGivenIn (g ∷ gs) [] = ⊥

-- What these calls gave is, exchange by exchange, what was at some moment in the exchanges that the grammar finds in the bytes.
pub record IsFoundOf (ss : List Span) (p : Place) (taken : List ℕ) : Type 0 where
  pub made : List Made
  pub of_calls : AreMade [] ss made
  pub shares : List (Option (List Group))
  pub given_is : given made ≡ givens shares
  pub found : AreGivenIn (in_order shares) (cut (in_order (origins (exchanges p))) taken).talks

-- so it is of each tape that the reading accepts
abbrev pub EachIsFound : Type 0
EachIsFound = (login : Login) (t : Tape) → AreBytes t.taken → IsTape login t → IsFoundOf (spans t) (reading login t).place t.taken
