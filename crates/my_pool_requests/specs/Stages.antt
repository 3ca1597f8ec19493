-- What contracts see of a request.
use Rattle.std.specs.Prelude.{ℕ, Option, None}
use Rattle.my_client.specs.declared.tape.Tape.{Tape}
use Rattle.my_pool_core.specs.Owners.{Token, Free, Making, Looking}
use Rattle.my_pool_store.specs.Shelves.{numbered}
use Rattle.my_pool.specs.Fit.{IsFit}
use Rattle.my_pool_requests.specs.Being.{IsBeingMade}
use Rattle.my_pool_requests.specs.declared.request.Stage.{Stage}
use Rattle.my_pool_requests.specs.declared.request.Stage.TheVariants as stages

-- its age, and what it does
pub record Asked (L : Type 0) : Type 0 where
  pub age : ℕ
  pub stage : Stage L

abbrev pub asked : {L : Type 0} → ℕ → Stage L → Asked L
asked age stage = record { age = age; stage = stage }

-- what the core says that it has
abbrev pub token_in : {L : Type 0} → Stage L → Token
token_in stages.Free = Free
token_in (stages.Dials n) = Making n
token_in (stages.Makes n making) = Making n
token_in (stages.Looks n conn) = Looking n

-- what is left of its connection where it is given up: its tape
abbrev pub left_in : {L : Type 0} → Stage L → Option (ℕ × Tape)
left_in stages.Free = None
left_in (stages.Dials n) = None
left_in (stages.Makes n making) = numbered n making.tape
left_in (stages.Looks n conn) = numbered n conn.tape

-- a connection that it makes did nothing else yet, and an idle one that it looks at is fit
abbrev pub IsReady : {L : Type 0} → Stage L → Type 0
IsReady stages.Free = Unit {0}
IsReady (stages.Dials n) = Unit {0}
IsReady (stages.Makes n making) = IsBeingMade making
IsReady (stages.Looks n conn) = IsFit conn
