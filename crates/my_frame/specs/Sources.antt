-- What the steps of a source mean, as those of POSIX read(2): from one byte to as many as the buffer has, the end, or a
-- fault.
use Rattle.std.specs.Prelude.{◌≡◌, ℕ, ◌<◌, ◌≤◌, ◌==◌, min, List, drop, length, take, Option, if◌then◌else◌}
use Rattle.my_frame.specs.declared.source.SourceStep.{SourceStep}
use Rattle.my_frame.specs.declared.source.SourceStep.TheVariants.{Got, End, Failed}
use Rattle.my_frame.specs.Outside.{Rose, Leaves, IsOver}

-- what clauses see of a source: the bytes that it has left, where they are known, how often a read failed, and how often
-- one returned the end
pub record SourceSeen : Type 0 where
  pub left : Option (List ℕ)
  pub faults : ℕ
  pub ends : ℕ

-- what the source has left after a step, by what it had and by the buffer after the call
abbrev pub Gave : Option (List ℕ) → List ℕ → Option (List ℕ) → SourceStep → Type 0
Gave before buffer now (Got n) = (0 < n) × (n ≤ length buffer) × Leaves before (take n buffer) now
Gave before buffer now End = (now ≡ before) × IsOver now
Gave before buffer now Failed = now ≡ before

-- a fault and an end are counted, each by itself
abbrev pub SourceCounts : SourceSeen → SourceSeen → SourceStep → Type 0
SourceCounts before now (Got n) = (now.faults ≡ before.faults) × (now.ends ≡ before.ends)
SourceCounts before now End = (now.faults ≡ before.faults) × Rose before.ends now.ends
SourceCounts before now Failed = Rose before.faults now.faults × (now.ends ≡ before.ends)

-- A source in memory: the bytes that it has left, and how often a read returned the end.
pub record Supply : Type 0 where
  pub left : List ℕ
  pub ends : ℕ

-- a source in memory gives all that it has and that fits
abbrev pub mem_step : List ℕ → List ℕ → SourceStep
mem_step left buffer = if length left == 0 then End else Got (min (length buffer) (length left))

-- the buffer is as it was after the bytes that came
abbrev pub KeepsRest : List ℕ → List ℕ → SourceStep → Type 0
KeepsRest before now (Got n) = drop n now ≡ drop n before
KeepsRest before now End = now ≡ before
KeepsRest before now Failed = now ≡ before
