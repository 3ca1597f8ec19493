-- Set by set, what was given is the beginning of what was received.
use Rattle.std.specs.Prelude.{◌≡◌, ℕ, List, [], ◌∷◌, ◌++◌, Option, Some, None, Bool, true, false}
use Rattle.my_frame.specs.FrontLaws.{AreBytes}
use Rattle.my_grammar.specs.declared.login.Login.{Login}
use Rattle.my_grammar.specs.declared.spot.RowFormat.{RowFormat}
use Rattle.my_grammar.specs.Cut.{cut}
use Rattle.my_grammar.specs.Sets.{Sets, NoSets, Lone, Failed, Heading, Headed, Begun, Ended, Broken, format_in, head_columns}
use Rattle.my_grammar.specs.Talk.{Talk}
use Rattle.my_reply.specs.declared.column.Column.{Column}
use Rattle.my_value.specs.RowParts.{RowParts}
use Rattle.my_reading.specs.Endings.{IsTape}
use Rattle.my_reading.specs.Place.{Place, exchanges}
use Rattle.my_reading.specs.Reading.{reading}
use Rattle.my_reading.specs.Rows.{row_of}
use Rattle.my_reading.specs.Tape.{Span, Tape, spans}
use Rattle.history_laws.specs.Found.{in_order, origins}
use Rattle.history_laws.specs.Given.{AreMade, givens, sets_of}
use Rattle.history_laws.specs.Groups.{Group, Made, given}

-- a set's rows, the newest first, and whether its end was read
pub record Set : Type 0 where
  pub rows : List RowParts
  pub done : Bool

abbrev pub rows_in : RowFormat → List Column → List (List ℕ) → List RowParts
rows_in format columns [] = []
rows_in format columns (p ∷ ps) = row_of format columns p ∷ rows_in format columns ps

-- the sets of a response, the newest first
abbrev pub sets_in : Sets → List Set
sets_in (NoSets asking) = []
sets_in (Lone older p status) = record { rows = []; done = true } ∷ sets_in older
sets_in (Failed older p) = record { rows = []; done = false } ∷ sets_in older
sets_in (Heading older head left) = record { rows = []; done = false } ∷ sets_in older
sets_in (Headed older head) = record { rows = []; done = false } ∷ sets_in older
sets_in (Begun older head rows) = record { rows = rows_in (format_in older) (head_columns head) rows; done = false } ∷ sets_in older
sets_in (Ended older head rows last status) = record { rows = rows_in (format_in older) (head_columns head) rows; done = true } ∷ sets_in older
sets_in (Broken older head rows last) = record { rows = rows_in (format_in older) (head_columns head) rows; done = false } ∷ sets_in older

-- each of these was given whole
abbrev pub AreWhole : List Group → List Set → Type 0
AreWhole [] [] = Unit {0}
AreWhole (g ∷ gs) (s ∷ ss) = (g.rows ≡ s.rows) × (g.ended ≡ true) × (s.done ≡ true) × AreWhole gs ss
AreWhole [] (s ∷ ss) = ⊥
AreWhole (g ∷ gs) [] = ⊥

-- The older rows were given, and the end is returned only after all of them.
pub record IsPart (g : Group) (s : Set) : Type 0 where
  pub newer : List RowParts
  pub items : newer ++ g.rows ≡ s.rows
  pub end : g.ended ≡ true → (newer ≡ []) × (s.done ≡ true)

-- the newest group is a part, and those before it are whole
abbrev pub Covers : List Group → List Set → Type 0
Covers [] [] = Unit {0}
Covers (g ∷ gs) (s ∷ ss) = IsPart g s × AreWhole gs ss
Covers [] (s ∷ ss) = ⊥
Covers (g ∷ gs) [] = ⊥

-- The groups are those of the first sets.
pub record IsFront (gs : List Group) (ss : List Set) : Type 0 where
  pub newer : List Set
  pub older : List Set
  pub all : ss ≡ newer ++ older
  pub covers : Covers gs older

abbrev pub IsFrontOf : Option (List Group) → Talk → Type 0
IsFrontOf None t = Unit {0}
IsFrontOf (Some gs) t = IsFront gs (sets_in (sets_of t))

abbrev pub AreFronts : List (Option (List Group)) → List Talk → Type 0
AreFronts [] [] = Unit {0}
AreFronts (g ∷ gs) (t ∷ ts) = IsFrontOf g t × AreFronts gs ts
AreFronts [] (t ∷ ts) = ⊥
AreFronts (g ∷ gs) [] = ⊥

-- Callers were given of each set that the grammar finds in the bytes a beginning, in order, and an end only after the whole.
pub record IsFrontedOf (ss : List Span) (p : Place) (taken : List ℕ) : Type 0 where
  pub made : List Made
  pub of_calls : AreMade [] ss made
  pub shares : List (Option (List Group))
  pub given_is : given made ≡ givens shares
  pub fronts : AreFronts (in_order shares) (cut (in_order (origins (exchanges p))) taken).talks

abbrev pub EachIsFronted : Type 0
EachIsFronted = (login : Login) (t : Tape) → AreBytes t.taken → IsTape login t → IsFrontedOf (spans t) (reading login t).place t.taken
