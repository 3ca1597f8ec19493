-- Steps on prepared statements: what follows their first word.
use Rattle.std.specs.Prelude.{ℕ, List, [], ◌∷◌, ◌++◌, Option, Some, None, option_map}
use Rattle.my_frame.specs.Numbers.{◌>>=◌}
use Rattle.my_value.specs.declared.value.Value.{Value}
use Rattle.my_params.specs.declared.params.Params.{Params}
use Rattle.my_params.specs.declared.params.Params.TheVariants.{Empty, Named, Positional}
use Rattle.my_script.specs.declared.reading.execution.StatementParts.{StatementParts}
use Rattle.my_script.specs.Cut.{first_of, rest_of, words_in}
use Rattle.my_script.specs.Number.{number_of}
use Rattle.my_script.specs.ValueWord.{value_of}

-- the numbers of a connection and of a statement, and what follows a blank after them
pub record StatementWords : Type 0 where
  pub connection : ℕ
  pub statement : ℕ
  pub rest : Option (List ℕ)

unfoldable pub statement_parts : List ℕ → Option StatementWords
statement_parts rest = do
  connection ← number_of (first_of 32 rest)
  more ← rest_of 32 rest
  statement ← number_of (first_of 32 more)
  Some (record { connection = connection; statement = statement; rest = rest_of 32 more })

abbrev pub statement_view : StatementParts → StatementWords
statement_view p = record { connection = p.connection; statement = p.statement; rest = option_map (λ r. r.now) p.rest }

-- `name=value`, where the name isn't empty
abbrev pub pair_with : List ℕ → Option (List ℕ) → Option (List ℕ × Value)
pair_with [] value = None
pair_with (b ∷ name) None = None
pair_with (b ∷ name) (Some value) = option_map (λ v. (b ∷ name, v)) (value_of value)

abbrev pub pair_of : List ℕ → Option (List ℕ × Value)
pair_of word = pair_with (first_of 61 word) (rest_of 61 word)

-- parameters, and one more that a word says
abbrev pub with_word : Params → List ℕ → Option Params
with_word Empty word = None
with_word (Positional values) word = option_map (λ v. Positional (values ++ v ∷ [])) (value_of word)
with_word (Named pairs) word = option_map (λ p. Named (pairs ++ p ∷ [])) (pair_of word)

-- and those that all words say which follow; none where one of them doesn't read
abbrev pub params_in : Params → Option (List ℕ) → Option Params
params_in params rest = words_in with_word params rest
