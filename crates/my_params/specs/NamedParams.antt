-- Named parameters of an SQL text.
use Rattle.std.specs.Prelude.{◌≡◌, ℕ, Bool, true, false, not, ◌&&◌, ◌||◌, List, [], ◌∷◌, ◌++◌, length, Result, Ok, Err, ⊤, ◌==◌}
use Rattle.my_params.specs.SqlText.{SqlPiece, kept, name, mark}
use Rattle.my_params.specs.declared.named.ParseFault.{ParseFault}
use Rattle.my_params.specs.declared.named.ParseFault.TheVariants.{MixedParams, NoMemory}

-- a text that can be prepared, and the names of its parameters in order, each at each of its places
pub record Named : Type 0 where
  pub query : List ℕ
  pub names : List (List ℕ)

-- what is sent for a piece: a question mark in the place of a name
abbrev pub sent_of : SqlPiece → List ℕ
sent_of (kept bytes) = bytes
sent_of (name bytes) = 63 ∷ []
sent_of mark = 63 ∷ []

-- the name in a piece
abbrev pub names_of : SqlPiece → List (List ℕ)
names_of (kept bytes) = []
names_of (name bytes) = bytes ∷ []
names_of mark = []

-- whether a piece is a question mark of the text itself
abbrev pub is_mark : SqlPiece → Bool
is_mark (kept bytes) = false
is_mark (name bytes) = false
is_mark mark = true

abbrev pub all_sent : List SqlPiece → List ℕ
all_sent [] = []
all_sent (p ∷ ps) = sent_of p ++ all_sent ps

abbrev pub all_names : List SqlPiece → List (List ℕ)
all_names [] = []
all_names (p ∷ ps) = names_of p ++ all_names ps

abbrev pub has_mark : List SqlPiece → Bool
has_mark [] = false
has_mark (p ∷ ps) = is_mark p || has_mark ps

-- the text and the names that the pieces give
abbrev pub named_by : List SqlPiece → Named
named_by pieces = record { query = all_sent pieces; names = all_names pieces }

-- whether there are both a name and a question mark of the text itself
abbrev pub is_mixed : List SqlPiece → Bool
is_mixed pieces = has_mark pieces && not (length (all_names pieces) == 0)

-- What parsing a text of these pieces returns: names and marks together are refused, exactly; out of memory may come at
-- any time.
abbrev pub ParsesTo : Result Named ParseFault → List SqlPiece → Type 0
ParsesTo (Ok named) pieces = (named ≡ named_by pieces) × (is_mixed pieces ≡ false)
ParsesTo (Err MixedParams) pieces = is_mixed pieces ≡ true
ParsesTo (Err NoMemory) pieces = ⊤
