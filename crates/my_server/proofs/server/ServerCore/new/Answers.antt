use Rattle.std.proofs.Common.{◌≡◌, ℕ, List, [], None}
use Rattle.my_frame.specs.Chunks.{chunks}
use Rattle.my_server.specs.declared.phase.Phase.TheVariants.{Login}
use Rattle.my_server.specs.declared.script.ServerScript.{ServerScript}
use Rattle.my_server.specs.Faults.{script_fault}
use Rattle.my_server.specs.History.{Stands, beginning}
use Rattle.my_server.specs.Machine.{greeting_payload}
use Rattle.my_server.proofs.Standing.{new_stands}
use Rattle.my_server.proofs.server.ServerCore.new.Goals as goal

stands : (script : ServerScript) (unread owed : List ℕ) → unread ≡ [] → owed ≡ chunks (greeting_payload script) 0 → script_fault script ≡ None → Stands (record { script = script; phase = Login; unread = unread; owed = owed }) (beginning script)
stands script unread owed u o e = rw (u, o) (new_stands script e)

pub returns-clause-stands : goal.returns-clause-stands
returns-clause-stands c = stands c.args.script c.new.result.items c.in_ok-owed.owed.items c.new.ensures.items c.in_ok-owed.ensures.0 c.in_ok-owed.ensures.1
