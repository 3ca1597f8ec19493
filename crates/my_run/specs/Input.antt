-- What came of a source that was read.
use Rattle.std.specs.Prelude.{ℕ, ◌≡◌, ◌<◌, ◌≤◌, List, length}
use Rattle.my_frame.specs.Outside.{Rose, Leaves, IsOver}
use Rattle.my_frame.specs.Sources.{SourceSeen}
use Rattle.my_run.specs.declared.input.Came.{Came}
use Rattle.my_run.specs.declared.input.Came.TheVariants.{Whole, Broken, TooLong}

-- the source was read to its end, and these bytes came, which are no more than the most
pub record IsRead (most : ℕ) (before now : SourceSeen) (bytes : List ℕ) : Type 0 where
  pub came : Leaves before.left bytes now.left
  pub over : IsOver now.left
  pub within : length bytes ≤ most
  pub ended : Rose before.ends now.ends
  pub no_fault : now.faults ≡ before.faults

-- more bytes than the most came
pub record IsTooLong (most : ℕ) (before now : SourceSeen) : Type 0 where
  pub bytes : List ℕ
  pub came : Leaves before.left bytes now.left
  pub above : most < length bytes
  pub no_fault : now.faults ≡ before.faults

-- a read failed, after no more bytes than the most
pub record IsBroken (most : ℕ) (before now : SourceSeen) : Type 0 where
  pub bytes : List ℕ
  pub came : Leaves before.left bytes now.left
  pub within : length bytes ≤ most
  pub fault : Rose before.faults now.faults

abbrev pub CameIs : ℕ → SourceSeen → SourceSeen → Came → Type 0
CameIs most before now (Whole bytes) = IsRead most before now bytes.items
CameIs most before now Broken = IsBroken most before now
CameIs most before now TooLong = IsTooLong most before now
