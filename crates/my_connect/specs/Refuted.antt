-- What connecting doesn't return.
use Rattle.std.specs.Prelude.{◌≡◌, ◌<◌, ◌^◌, ◌-◌, Bool}
use Rattle.std.specs.declared.result.Result.TheVariants.{Err}
use Rattle.my_link.specs.Looks.{Looks}
use Rattle.my_opts.specs.Opts.{OptsView}
use Rattle.my_link.specs.World.{DialCounts, WorldSeen}
use Rattle.my_connect.specs.Connected.{ConnectIs}
use Rattle.my_connect.specs.Dialed.{undialed}

-- a count of neither is at its greatest value
abbrev pub AreCounted : DialCounts → Type 0
AreCounted c = (c.faults < 2 ^ 64 - 1) × (c.holds < 2 ^ 64 - 1)

-- The error of a dial, where the counts of the dials say that each gave its link.
abbrev pub DialsAreCounted : Type 0 → Type 0
DialsAreCounted L = (look : L → Looks) (socket : L → Bool) (opts : OptsView) (old new : WorldSeen) → AreCounted old.dials
    → new.dials ≡ old.dials → ConnectIs look socket opts old new (Err undialed) → ⊥
