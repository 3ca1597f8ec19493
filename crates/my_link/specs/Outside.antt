-- The counts of a link.
use Rattle.std.specs.Prelude.{ℕ, ◌≡◌}
use Rattle.my_frame.specs.Outside.{Rose}

-- how often a link failed, wasn't ready, ended, and was found dead by a check
pub record Counts : Type 0 where
  pub faults : ℕ
  pub holds : ℕ
  pub ends : ℕ
  pub deaths : ℕ

abbrev pub no_counts : Counts
no_counts = record { faults = 0; holds = 0; ends = 0; deaths = 0 }

-- the faults rose, and nothing else
pub record FaultRose (c d : Counts) : Type 0 where
  pub faults : Rose c.faults d.faults
  pub holds : d.holds ≡ c.holds
  pub ends : d.ends ≡ c.ends
  pub deaths : d.deaths ≡ c.deaths

-- the holds rose, and nothing else
pub record HoldRose (c d : Counts) : Type 0 where
  pub faults : d.faults ≡ c.faults
  pub holds : Rose c.holds d.holds
  pub ends : d.ends ≡ c.ends
  pub deaths : d.deaths ≡ c.deaths

-- the ends rose, and nothing else
pub record EndRose (c d : Counts) : Type 0 where
  pub faults : d.faults ≡ c.faults
  pub holds : d.holds ≡ c.holds
  pub ends : Rose c.ends d.ends
  pub deaths : d.deaths ≡ c.deaths

-- the deaths rose, and nothing else
pub record DeathRose (c d : Counts) : Type 0 where
  pub faults : d.faults ≡ c.faults
  pub holds : d.holds ≡ c.holds
  pub ends : d.ends ≡ c.ends
  pub deaths : Rose c.deaths d.deaths
