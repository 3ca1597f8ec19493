-- What was met in a dial or a poll, with the connection's number.
use Rattle.std.specs.Prelude.{ℕ}
use Rattle.my_link.specs.Met.{nothing_met}
use Rattle.my_link.specs.declared.met.Met.{Met}
use Rattle.my_script.specs.declared.transcript.Use.{Use}

-- what was met at connection n
abbrev pub use_of : ℕ → Met → Use
use_of n met = record { number = n; met = met }

-- a dial that gave a link, one that wasn't ready, and one that failed
abbrev pub quiet : ℕ → Use
quiet n = use_of n nothing_met

abbrev pub held_use : ℕ → Use
held_use n = use_of n (record nothing_met { holds = 1 })

abbrev pub failed_use : ℕ → Use
failed_use n = use_of n (record nothing_met { faults = 1 })
