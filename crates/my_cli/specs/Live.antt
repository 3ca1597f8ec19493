-- Whether a command goes to real servers.
use Rattle.std.specs.Prelude.{Option, Some, None, Bool, false}
use Rattle.my_script.specs.Words.{CommandWords}

abbrev pub has_live : Option CommandWords → Bool
has_live None = false
has_live (Some command) = command.live
