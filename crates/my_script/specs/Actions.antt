-- What a step does: the call that it begins, or what else.
use Rattle.std.specs.Prelude.{ℕ, Option, Some, None, Bool, true, false}
use Rattle.my_params.specs.declared.params.Params.{Params}
use Rattle.my_statements.specs.Prepared.{StatementView}
use Rattle.my_reading.specs.declared.call.Call.{Call}
use Rattle.my_reading.specs.declared.call.Call.TheVariants as calls
use Rattle.my_link.specs.declared.line.WorldLine.TheVariants as lines
use Rattle.my_script.specs.declared.action.Action.{Action}
use Rattle.my_script.specs.declared.action.Action.TheVariants as actions
use Rattle.my_script.specs.declared.action.Work.{Work}
use Rattle.my_script.specs.declared.action.Work.TheVariants as works
use Rattle.my_script.specs.declared.aim.Aim.{Aim}
use Rattle.my_script.specs.declared.aim.Aim.TheVariants as aims
use Rattle.my_script.specs.declared.step.Step.{Step}
use Rattle.my_script.specs.declared.step.Step.TheVariants as steps

-- this is done where the step finds what it needs
abbrev pub found_work : Bool → Work → Work
found_work true work = work
found_work false work = works.Miss

-- a statement is executed, and closed by its id, where the step names one that is there
abbrev pub execute_work : Option StatementView → Params → Work
execute_work (Some s) params = works.Begin (calls.Execute s params)
execute_work None params = works.Miss

abbrev pub close_work : Option StatementView → Work
close_work (Some s) = works.Begin (calls.CloseStmt s.inner.id)
close_work None = works.Miss

-- work at number n
abbrev pub at_place : ℕ → Work → Action
at_place n work = actions.Visit n work

-- what a step does: it dials, does something at the number that it names, where it finds its stream or its transaction
-- or doesn't, with this aim of the call that is open there, and with the statement that it names, or moves the world
abbrev pub action_of : Bool → Aim → Option StatementView → Step → Action
action_of found aim named steps.Conn = actions.Dial
action_of found aim named (steps.Query n text) = at_place n (works.Begin (calls.Query text))
action_of found aim named (steps.Prepare n text) = at_place n (works.Begin (calls.Prepare text))
action_of found aim named (steps.Execute n number params) = at_place n (execute_work named params)
action_of found aim named (steps.CloseStatement n number) = at_place n (close_work named)
action_of found aim named (steps.Next n) = at_place n (works.Read aims.Row)
action_of found aim named (steps.Drop n) = at_place n (works.Begin calls.DropResult)
action_of found aim named (steps.Ping n) = at_place n (works.Begin calls.Ping)
action_of found aim named (steps.Reset n) = at_place n (works.Begin calls.Reset)
action_of found aim named (steps.User n change) = at_place n (works.Begin (calls.ChangeUser change))
action_of found aim named (steps.Begin n opts) = at_place n (works.Begin (calls.Begin opts))
action_of found aim named (steps.Commit n) = at_place n (found_work found (works.Begin calls.Commit))
action_of found aim named (steps.Rollback n) = at_place n (found_work found (works.Begin calls.Rollback))
action_of found aim named (steps.ForgetTransaction n) =
    at_place n (found_work found (works.Begin calls.ForgetTransaction))
action_of found aim named (steps.Quit n) = at_place n (works.Begin calls.Quit)
action_of found aim named (steps.Fields n) = at_place n works.Fields
action_of found aim named (steps.Cancel n) = at_place n works.Cancel
action_of found aim named (steps.Collect n) = at_place n (works.Read aims.Rows)
action_of found aim named (steps.Poll n) = at_place n (works.Poll aim)
action_of found aim named (steps.Stream n) = at_place n (works.Read aims.Take)
action_of found aim named (steps.Item n) = at_place n (found_work found works.Item)
action_of found aim named (steps.Unstream n) = at_place n (found_work found works.LetGo)
action_of found aim named (steps.Advance by) = actions.Move (lines.Advance by)
action_of found aim named (steps.Random word) = actions.Move (lines.Random word)

-- the call that takes a set, or reads its rows, or the one that passes over the rest of an earlier one first
abbrev pub next_call : Aim → Call
next_call aims.Take = calls.TakeSet
next_call aims.Row = calls.NextRow
next_call aims.Rows = calls.NextRow

abbrev pub reading_call : Bool → Aim → Call
reading_call true aim = calls.SkipTaken
reading_call false aim = next_call aim

-- the first call that is begun so, where a stream took the set that is read, or whose end is left, or none did
abbrev pub work_call : Bool → Work → Option Call
work_call taken (works.Begin call) = Some call
work_call taken (works.Read aim) = Some (reading_call taken aim)
work_call taken works.Item = Some calls.NextRow
work_call taken work = None

abbrev pub first_call : Bool → Action → Option Call
first_call taken actions.Dial = Some calls.Connect
first_call taken (actions.Move line) = None
first_call taken (actions.Visit n work) = work_call taken work
