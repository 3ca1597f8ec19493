-- What the bytes that a connection took say of a call.
use Rattle.std.specs.Prelude.{ℕ, ◌≡◌, ◌++◌, List, [], ◌∷◌, true}
use Rattle.my_value.specs.RowParts.{RowParts}
use Rattle.my_grammar.specs.declared.spot.RowFormat.{RowFormat}
use Rattle.my_grammar.specs.Cut.{cut, is_over}
use Rattle.my_grammar.specs.Sets.{format_in}
use Rattle.my_grammar.specs.Talk.{Talk, origin}
use Rattle.my_reading.specs.declared.call.Call.{Call}
use Rattle.my_reading.specs.Place.{Place, exchanges}
use Rattle.history_laws.specs.Errors.{errors_in}
use Rattle.history_laws.specs.Found.{in_order, origins}
use Rattle.history_laws.specs.Fronts.{Set, sets_in}
use Rattle.history_laws.specs.Given.{sets_of}

-- Where the reading stands here, after these bytes: the newest exchange that the grammar finds in them. It is this call's, and began so.
pub record IsNewest (call : Call) (begins : Talk → Type 0) (p : Place) (taken : List ℕ) (talk : Talk) : Type 0 where
  pub older : List Talk
  pub found : (cut (in_order (origins (exchanges p))) taken).talks ≡ older ++ talk ∷ []
  pub call_is : p.call ≡ call
  pub began : begins (origin talk)

-- The set has these rows, the newest first, and no others, and its end.
abbrev pub IsWhole : List RowParts → Set → Type 0
IsWhole rows s = (s.rows ≡ rows) × (s.done ≡ true)

-- The set begins with this row.
abbrev pub BeginsWith : RowParts → Set → Type 0
BeginsWith row s = (newer : List RowParts) × (s.rows ≡ newer ++ row ∷ [])

-- the oldest of sets, of which this holds
abbrev pub Oldest : (Set → Type 0) → List Set → Type 0
Oldest holds ss = (later : List Set) × (s : Set) × (ss ≡ later ++ s ∷ []) × holds s

-- Rows of that exchange are read in this format, and of its first set this holds.
pub record IsAnswered (call : Call) (begins : Talk → Type 0) (format : RowFormat) (first : Set → Type 0) (p : Place) (taken : List ℕ)
    : Type 0 where
  pub talk : Talk
  pub newest : IsNewest call begins p taken talk
  pub format_is : format_in (sets_of talk) ≡ format
  pub set : Oldest first (sets_in (sets_of talk))

-- It is over, with no ERR in it.
pub record IsDone (call : Call) (begins : Talk → Type 0) (p : Place) (taken : List ℕ) : Type 0 where
  pub talk : Talk
  pub newest : IsNewest call begins p taken talk
  pub over : is_over talk ≡ true
  pub calm : errors_in talk ≡ []
