-- What a world tells that tells nothing.
use Rattle.std.specs.Prelude.{None}
use Rattle.my_link.specs.World.{Plans}

-- of no link a plan is told
abbrev pub nothing_told : Plans
nothing_told = record { reads = λ n. None; writes = λ n. None; dials = λ n. None }
