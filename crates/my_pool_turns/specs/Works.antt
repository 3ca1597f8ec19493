-- What a poll of the call of a task does, and leaves.
use Rattle.std.specs.Prelude.{ℕ, ◌≡◌, Some}
use Rattle.my_link.specs.Looks.{Looks}
use Rattle.my_link.specs.declared.met.Met.{Met}
use Rattle.my_client.specs.declared.poll.After.{After}
use Rattle.my_client.specs.declared.poll.After.TheVariants as afters
use Rattle.my_conn.specs.Calls.{CallIs}
use Rattle.my_conn.specs.Conn.{ConnSeen}
use Rattle.my_pool.specs.Fit.{IsFit, IsStill}
use Rattle.my_pool_turns.specs.declared.task.Task.{Task}
use Rattle.my_pool_turns.specs.declared.task.Task.TheVariants as tasks
use Rattle.my_pool_turns.specs.declared.task.Worked.{Worked}
use Rattle.my_pool_turns.specs.declared.task.Worked.TheVariants.{Pending, Done, Failed}
use Rattle.my_pool_turns.specs.Tasks.{call_where, kind_for}

abbrev pub state_of : After → Worked
state_of afters.Pending = Pending
state_of (afters.Answered answer) = Done
state_of (afters.Failed e) = Failed

-- an answered reset is done only where the connection is fit
abbrev pub ResetBy : {L : Type 0} → ConnSeen L → Worked → Type 0
ResetBy c Pending = ⊥
ResetBy c Done = IsFit c
ResetBy c Failed = IsFit c → ⊥

-- each other answered call is done
abbrev pub EndsBy : {L : Type 0} → Task → ConnSeen L → Worked → Type 0
EndsBy tasks.Clean c worked = worked ≡ Done
EndsBy tasks.Reset c worked = ResetBy c worked
EndsBy tasks.Close c worked = worked ≡ Done

-- what a poll comes to: an answered call ends, and each other is as it is
abbrev pub ComesTo : {L : Type 0} → Task → After → ConnSeen L → Worked → Type 0
ComesTo task afters.Pending c worked = worked ≡ Pending
ComesTo task (afters.Answered answer) c worked = EndsBy task c worked
ComesTo task (afters.Failed e) c worked = worked ≡ Failed

-- one poll of the call of a task
pub record WorkIs {L : Type 0} (look : L → Looks) (task : Task) (now : ℕ) (old new : ConnSeen L) (worked : Worked)
    : Type 0 where
  pub met : Met
  pub after : After
  pub call : CallIs look now (kind_for task) (call_where old.pending task) old new met after
  pub comes : ComesTo task after new worked

-- what it leaves of the connection
abbrev pub WorkLeaves : {L : Type 0} → Task → ConnSeen L → Worked → Type 0
WorkLeaves task c Pending = c.pending ≡ Some (kind_for task)
WorkLeaves task c Done = IsStill c × (task ≡ tasks.Reset → IsFit c)
WorkLeaves task c Failed = IsStill c
