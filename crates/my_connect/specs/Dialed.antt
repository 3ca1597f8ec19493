-- What a dial of the link of a new client does to its world: the link has the number 0, and no other is dialed.
use Rattle.std.specs.Prelude.{◌≡◌, ◌⊎◌, List, Option}
use Rattle.std.specs.declared.result.Result.{Result}
use Rattle.std.specs.declared.result.Result.TheVariants.{Ok, Err}
use Rattle.my_link.specs.Looks.{Looks}
use Rattle.my_link.specs.Outside.{no_counts}
use Rattle.my_link.specs.declared.dialer.DialItem.{DialItem}
use Rattle.my_reading.specs.declared.error.Error.{Error}
use Rattle.my_reading.specs.declared.error.Error.TheVariants as errors
use Rattle.my_reading.specs.declared.error.IoError.TheVariants as io_errors
use Rattle.my_reading.specs.declared.error.IoKind.TheVariants as kinds
use Rattle.my_link.specs.World.{DialCounts, DialFailed, DialHeld, FailedBy, GivenBy, HeldBy, IsFresh, SameBut, SameLink, SamePlans, WorldSeen, drawn}

-- a dial gave no link
abbrev pub undialed : Error
undialed = errors.Io (io_errors.Io (record { kind = kinds.Dial; place = 0 }))

-- The moment and a random word were told: the word is drawn, and nothing else changes.
pub record IsTold (old new : WorldSeen) : Type 0 where
  pub plans : SamePlans old.plans new.plans
  pub dials : new.dials ≡ old.dials
  pub takes : new.takes ≡ old.takes
  pub chance : new.chance ≡ drawn old.chance
  pub back : new.back ≡ old.back

-- A dial of the link 0 changes its plan and the counts of dials alone.
pub record IsNear (old new : WorldSeen) : Type 0 where
  pub others : SameBut 0 old.plans new.plans
  pub takes : new.takes ≡ old.takes
  pub chance : new.chance ≡ old.chance
  pub back : new.back ≡ old.back

-- It gave this link, as its plan has it, which is fresh.
pub record IsGiven {L : Type 0} (look : L → Looks) (old new : WorldSeen) (link : L) : Type 0 where
  pub near : IsNear old new
  pub items : (look link).items ≡ old.plans.reads 0
  pub writes : (look link).writes ≡ old.plans.writes 0
  pub got : IsFresh (look link).got
  pub counts : (look link).counts ≡ no_counts
  pub told : GivenBy (old.plans.dials 0) (new.plans.dials 0)
  pub dials : new.dials ≡ old.dials

-- It failed, or it wasn't ready, as its plan has it, and that was counted.
abbrev pub NoLink : Option (List DialItem) → Option (List DialItem) → DialCounts → DialCounts → Type 0
NoLink old new c d = (FailedBy old new × DialFailed c d) ⊎ (HeldBy old new × DialHeld c d)

-- It gave no link, which stays to be dialed.
pub record IsRefused (old new : WorldSeen) : Type 0 where
  pub near : IsNear old new
  pub kept : SameLink old.plans new.plans 0
  pub no_link : NoLink (old.plans.dials 0) (new.plans.dials 0) old.dials new.dials

-- The link, or why there is none: out of memory before the dial, or the dial gave none.
abbrev pub DialIs : {L : Type 0} → (L → Looks) → WorldSeen → WorldSeen → Result L Error → Type 0
DialIs look old new (Ok link) = IsGiven look old new link
DialIs look old new (Err e) = ((e ≡ errors.NoMemory) × (new ≡ old)) ⊎ ((e ≡ undialed) × IsRefused old new)
