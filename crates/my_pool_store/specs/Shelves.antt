-- Connections by their numbers.
use Rattle.std.specs.Prelude.{ℕ, Bool, ◌==◌, Option, Some, None, List, [], ◌∷◌, ◌++◌, option_map, find}
use Rattle.my_frame.specs.Lists.{without}
use Rattle.my_pool_core.specs.declared.event.PollAnswer.{PollAnswer}
use Rattle.my_pool_core.specs.declared.event.PollAnswer.TheVariants.{Wait, Take, Dial, Closed, Full}
use Rattle.my_pool_core.specs.declared.event.Verdict.{Verdict}
use Rattle.my_pool_core.specs.declared.event.Verdict.TheVariants.{Drop, Clean, Close, Reset, Keep}

-- a connection with its number
pub record Entry (C : Type 0) : Type 0 where
  pub number : ℕ
  pub conn : C

-- the kept connections, in the order in which they came, and for how many there is room
pub record Shelved (C : Type 0) : Type 0 where
  pub kept : List (Entry C)
  pub room : ℕ

abbrev pub entry : {C : Type 0} → ℕ → C → Entry C
entry number conn = record { number = number; conn = conn }

abbrev pub has : {C : Type 0} → ℕ → Entry C → Bool
has number e = e.number == number

-- the connection of a number, and those without it
abbrev pub kept_at : {C : Type 0} → ℕ → List (Entry C) → Option C
kept_at number es = option_map (λ e. e.conn) (find (has number) es)

abbrev pub without_number : {C : Type 0} → ℕ → List (Entry C) → List (Entry C)
without_number number es = without (has number) es

-- what a polled request takes, and what is left
abbrev pub taken_by : {C : Type 0} → PollAnswer → List (Entry C) → Option C
taken_by Wait es = None
taken_by (Take number) es = kept_at number es
taken_by (Dial number) es = None
taken_by Closed es = None
taken_by (Full waiting limit) es = None

abbrev pub left_by : {C : Type 0} → PollAnswer → List (Entry C) → List (Entry C)
left_by Wait es = es
left_by (Take number) es = without_number number es
left_by (Dial number) es = es
left_by Closed es = es
left_by (Full waiting limit) es = es

-- a verdict on a connection: it is counted no more, or kept from now on
abbrev pub put_by : {C : Type 0} → Verdict → Entry C → List (Entry C) → List (Entry C)
put_by Drop e es = es
put_by Clean e es = es ++ e ∷ []
put_by Close e es = es ++ e ∷ []
put_by Reset e es = es ++ e ∷ []
put_by Keep e es = es ++ e ∷ []

-- what a verdict doesn't keep
abbrev pub rest_by : {C : Type 0} → Verdict → C → Option C
rest_by Drop c = Some c
rest_by Clean c = None
rest_by Close c = None
rest_by Reset c = None
rest_by Keep c = None

-- what is left of a connection, with its number
abbrev pub numbered : {C : Type 0} → ℕ → Option C → Option (ℕ × C)
numbered number None = None
numbered number (Some c) = Some (number, c)

-- it comes last, where something is left
abbrev pub with_left : {C : Type 0} → Option (ℕ × C) → List (Entry C) → List (Entry C)
with_left None es = es
with_left (Some l) es = es ++ entry l.0 l.1 ∷ []
