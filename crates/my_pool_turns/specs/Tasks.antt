-- The work of a turn: its calls, and the places at which they are made.
use Rattle.std.specs.Prelude.{◌≡◌, ◌⊎◌, Bool, Option, Some, None}
use Rattle.my_pool_parts.specs.declared.connection.Place.{Place}
use Rattle.my_pool_parts.specs.declared.connection.PlaceKind.{PlaceKind}
use Rattle.my_pool_parts.specs.declared.connection.PlaceKind.TheVariants.{Cleaning, Resetting, Closing}
use Rattle.my_pool_parts.specs.Connections.{is_kind}
use Rattle.my_reading.specs.declared.call.Call.{Call}
use Rattle.my_reading.specs.declared.call.Call.TheVariants as calls
use Rattle.my_reading.specs.declared.call.CallKind.{CallKind}
use Rattle.my_reading.specs.declared.call.CallKind.TheVariants as kinds
use Rattle.my_conn.specs.Conn.{ConnSeen}
use Rattle.my_pool_turns.specs.declared.task.Task.{Task}
use Rattle.my_pool_turns.specs.declared.task.Task.TheVariants as tasks

abbrev pub call_for : Task → Call
call_for tasks.Clean = calls.CleanForPool
call_for tasks.Reset = calls.ResetForPool
call_for tasks.Close = calls.Quit

abbrev pub kind_for : Task → CallKind
kind_for tasks.Clean = kinds.CleanForPool
kind_for tasks.Reset = kinds.ResetForPool
kind_for tasks.Close = kinds.Quit

abbrev pub kind_at : Task → PlaceKind
kind_at tasks.Clean = Cleaning
kind_at tasks.Reset = Resetting
kind_at tasks.Close = Closing

-- the place at which the call of a task is made
abbrev pub is_place_of : Task → Place → Bool
is_place_of task place = is_kind (kind_at task) place

-- the call begins where none is open
abbrev pub call_where : Option CallKind → Task → Option Call
call_where None task = Some (call_for task)
call_where (Some kind) task = None

-- its call is open, or may begin
abbrev pub MayDo : {L : Type 0} → Task → ConnSeen L → Type 0
MayDo task c = (c.pending ≡ None) ⊎ (c.pending ≡ Some (kind_for task))
