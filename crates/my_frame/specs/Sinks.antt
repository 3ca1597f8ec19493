-- What the steps of a sink mean, as those of POSIX write(2): from one byte to all that it was given, or a fault.
use Rattle.std.specs.Prelude.{◌≡◌, ℕ, ◌<◌, ◌≤◌, ◌==◌, min, List, length, take, Option, if◌then◌else◌}
use Rattle.my_frame.specs.declared.sink.SinkStep.{SinkStep}
use Rattle.my_frame.specs.declared.sink.SinkStep.TheVariants.{Took, Failed}
use Rattle.my_frame.specs.Outside.{Rose, Comes}

-- what clauses see of a sink: the bytes that it took, where they are known, and how often a write failed
pub record SinkSeen : Type 0 where
  pub took : Option (List ℕ)
  pub faults : ℕ

-- what the sink took after a step, by what it took before and by the bytes given
abbrev pub TookBytes : Option (List ℕ) → List ℕ → Option (List ℕ) → SinkStep → Type 0
TookBytes before bytes now (Took n) = (0 < n) × (n ≤ length bytes) × Comes before (take n bytes) now
TookBytes before bytes now Failed = now ≡ before

-- a fault is counted, and nothing else is
abbrev pub SinkCounts : ℕ → ℕ → SinkStep → Type 0
SinkCounts before now (Took n) = now ≡ before
SinkCounts before now Failed = Rose before now

-- A sink in memory: what it took, its room in bytes, and the number of writes that failed.
pub record Held : Type 0 where
  pub taken : List ℕ
  pub room : ℕ
  pub faults : ℕ

-- a sink in memory takes all that fits, and fails where it has no room
abbrev pub held_step : ℕ → List ℕ → SinkStep
held_step room bytes = if room == 0 then Failed else Took (min room (length bytes))
