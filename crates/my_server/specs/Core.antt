-- What holds of a core's fields.
use Rattle.std.specs.Prelude.{◌≡◌, true}
use Rattle.my_frame.specs.FrontLaws.{AreBytes}
use Rattle.my_server.specs.declared.server.ServerCore.TheInside.{Inside}
use Rattle.my_server.specs.Faults.{is_served}
use Rattle.my_server.specs.Machine.{Served}

abbrev pub served : Inside → Served
served c = record { script = c.script; phase = c.phase; unread = c.unread.items; owed = c.owed.items }

-- The script can be served, and what was received are bytes.
pub record IsSound (c : Inside) : Type 0 where
  pub script : is_served c.script ≡ true
  pub unread : AreBytes c.unread.items
