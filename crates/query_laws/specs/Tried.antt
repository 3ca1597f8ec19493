-- Values that these definitions accept, and wrong ones that they refute.
use Rattle.std.specs.Prelude.{◌≡◌, ℕ, List, [], ◌∷◌, true, false}
use Rattle.my_grammar.specs.declared.spot.Terms.{Terms}
use Rattle.my_grammar.specs.Cut.{is_over}
use Rattle.my_grammar.specs.Sets.{ByText, NoSets}
use Rattle.my_grammar.specs.Talk.{Asked, Queried}
use Rattle.my_value.specs.RowParts.{RowParts}
use Rattle.my_value.specs.declared.value.Value.TheVariants.{Bytes}
use Rattle.my_reading.specs.Commands.{queried}
use Rattle.history_laws.specs.Fronts.{Set}
use Rattle.query_laws.specs.Answers.{Became}
use Rattle.query_laws.specs.Begins.{IsQuery}
use Rattle.query_laws.specs.Found.{BeginsWith, IsWhole, Oldest}

-- a row of one cell, and a set of rows, the newest first
abbrev pub row : ℕ → RowParts
row n = record { cells = Bytes (n ∷ []) ∷ []; columns = [] }

abbrev pub whole : List RowParts → Set
whole rows = record { rows = rows; done = true }

abbrev pub cut_off : List RowParts → Set
cut_off rows = record { rows = rows; done = false }

pub record Accepted : Type 0 where
  -- the text of a query
  pub text : (terms : Terms) → IsQuery (1 ∷ []) (queried terms (1 ∷ []))
  -- the first of two sets, with both rows, and its first row
  pub rows : Oldest (IsWhole (row 2 ∷ row 1 ∷ [])) (whole (row 3 ∷ []) ∷ whole (row 2 ∷ row 1 ∷ []) ∷ [])
  pub first : Oldest (BeginsWith (row 1)) (whole (row 3 ∷ []) ∷ whole (row 2 ∷ row 1 ∷ []) ∷ [])
  -- values in the order of the rows
  pub values : Became (λ r n. r ≡ row n) (row 2 ∷ row 1 ∷ []) (1 ∷ 2 ∷ [])

pub record Refuted : Type 0 where
  -- another text, and another command
  pub text : (terms : Terms) → IsQuery (1 ∷ []) (queried terms (2 ∷ [])) → ⊥
  pub command : (terms : Terms) (c : List ℕ) → IsQuery (1 ∷ []) (Asked terms c) → ⊥
  -- another row, another order, a row too few and one too many
  pub other : Oldest (IsWhole (row 1 ∷ [])) (whole (row 2 ∷ []) ∷ []) → ⊥
  pub order : Oldest (IsWhole (row 2 ∷ row 1 ∷ [])) (whole (row 1 ∷ row 2 ∷ []) ∷ []) → ⊥
  pub fewer : Oldest (IsWhole (row 1 ∷ [])) (whole (row 2 ∷ row 1 ∷ []) ∷ []) → ⊥
  pub more : Oldest (IsWhole (row 2 ∷ row 1 ∷ [])) (whole (row 1 ∷ []) ∷ []) → ⊥
  -- a set without its end, a later set, and no set
  pub endless : Oldest (IsWhole (row 1 ∷ [])) (cut_off (row 1 ∷ []) ∷ []) → ⊥
  pub later : Oldest (IsWhole (row 1 ∷ [])) (whole (row 1 ∷ []) ∷ whole (row 2 ∷ []) ∷ []) → ⊥
  pub none : Oldest (IsWhole []) [] → ⊥
  -- the last row for the first
  pub last : Oldest (BeginsWith (row 2)) (whole (row 2 ∷ row 1 ∷ []) ∷ []) → ⊥
  -- values in the other order
  pub values : Became (λ r n. r ≡ row n) (row 2 ∷ row 1 ∷ []) (2 ∷ 1 ∷ []) → ⊥
  -- a command that wasn't answered
  pub unanswered : (terms : Terms) (c : List ℕ) → is_over (Queried terms c (NoSets ByText)) ≡ true → ⊥

abbrev pub AreTried : Type 0
AreTried = Accepted × Refuted
