-- What a check of a link says.
use Rattle.std.specs.Prelude.{◌≡◌, List, [], ◌∷◌, Option, Some, None, Bool, true, false}
use Rattle.my_frame.specs.declared.source.SourceStep.{SourceStep}
use Rattle.my_frame.specs.declared.source.SourceStep.TheVariants as sources
use Rattle.my_link.specs.declared.link.CheckStep.{CheckStep}
use Rattle.my_link.specs.declared.link.CheckStep.TheVariants as checks
use Rattle.my_link.specs.declared.link.ReadItem.{ReadItem}
use Rattle.my_link.specs.declared.link.ReadItem.TheVariants as items
use Rattle.my_link.specs.declared.link.ReadStep.{ReadStep}
use Rattle.my_link.specs.declared.link.ReadStep.TheVariants as reads
use Rattle.my_link.specs.Looks.{Looks}
use Rattle.my_link.specs.Outside.{FaultRose, HoldRose, DeathRose}

-- bytes or the end can be read now
abbrev pub can_be_read : List ReadItem → Bool
can_be_read [] = false
can_be_read (items.Bytes bytes ∷ more) = true
can_be_read (items.Turn ∷ more) = false
can_be_read (items.Wait ∷ more) = false
can_be_read (items.Fail ∷ more) = false
can_be_read (items.End ∷ more) = true

-- where a link tells its items, it is dead exactly where bytes or the end can be read
abbrev pub IsDead : Option (List ReadItem) → Bool → Type 0
IsDead None dead = Unit {0}
IsDead (Some left) dead = can_be_read left ≡ dead

-- nothing was read or written
pub record IsUntouched (x y : Looks) : Type 0 where
  pub items : y.items ≡ x.items
  pub writes : y.writes ≡ x.writes
  pub got : y.got ≡ x.got

-- What a check did. A check of a link that tells its items is ready and doesn't fail.
abbrev pub CheckIs : Looks → Looks → CheckStep → Type 0
CheckIs x y checks.Alive = (y ≡ x) × IsDead x.items false
CheckIs x y checks.Dead = IsUntouched x y × DeathRose x.counts y.counts × IsDead x.items true
CheckIs x y checks.NotYet = IsUntouched x y × HoldRose x.counts y.counts × (x.items ≡ None)
CheckIs x y checks.Failed = IsUntouched x y × FaultRose x.counts y.counts × (x.items ≡ None)

-- what a link that is always ready returns, as a read of any link returns it
abbrev pub read_of : SourceStep → ReadStep
read_of (sources.Got n) = reads.Got n
read_of sources.End = reads.End
read_of sources.Failed = reads.Failed
