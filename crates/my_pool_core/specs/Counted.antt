-- Counts of a pool's connections that bound how long its loops go on, and how much room it has.
use Rattle.std.specs.Prelude.{ℕ, ◌+◌, length}
use Rattle.my_pool_parts.specs.Lists.{how_many}
use Rattle.my_pool_parts.specs.Connections.{is_idle, is_at_work}
use Rattle.my_pool_core.specs.State.{State}
use Rattle.my_pool_core.specs.Moves.{is_due_place}

-- the connections that are counted or may still be made without more memory
abbrev pub room : State → ℕ
room s = length s.connections + s.spare

-- those that wait to be cleaned: returned ones, and where the pool is closed idle ones
abbrev pub due : State → ℕ
due s = how_many (λ c. is_due_place s.closed c.place) s.connections

-- idle ones
abbrev pub idle : State → ℕ
idle s = how_many is_idle s.connections

-- those whose cleaning, reset or close goes on
abbrev pub working : State → ℕ
working s = how_many is_at_work s.connections
