-- What a check of a connection says.
use Rattle.std.specs.Prelude.{ℕ, ◌≡◌, List, [], ◌∷◌}
use Rattle.my_link.specs.Check.{CheckIs}
use Rattle.my_link.specs.Looks.{Looks}
use Rattle.my_link.specs.Met.{nothing_met}
use Rattle.my_link.specs.declared.link.CheckStep.{CheckStep}
use Rattle.my_link.specs.declared.link.CheckStep.TheVariants.{Alive, Dead, NotYet, Failed}
use Rattle.my_link.specs.declared.met.Met.{Met}
use Rattle.my_conn.specs.Conn.{ConnSeen}

-- it is dead where bytes were received that no call read, and else it is what its link says
abbrev pub ChecksBy : {L : Type 0} → (L → Looks) → List ℕ → L → L → CheckStep → Type 0
ChecksBy look [] x y step = CheckIs (look x) (look y) step
ChecksBy look (b ∷ bytes) x y step = (step ≡ Dead) × (y ≡ x)

-- what a link meets that says so
abbrev pub met_at : CheckStep → Met
met_at Alive = nothing_met
met_at Dead = record nothing_met { deaths = 1 }
met_at NotYet = record nothing_met { holds = 1 }
met_at Failed = record nothing_met { faults = 1 }

-- the link isn't asked where bytes are unread
abbrev pub met_by : List ℕ → CheckStep → Met
met_by [] step = met_at step
met_by (b ∷ bytes) step = nothing_met

pub record CheckedIs {L : Type 0} (look : L → Looks) (old new : ConnSeen L) (m : Met) (step : CheckStep) : Type 0 where
  pub checks : ChecksBy look old.seen.stand.unread old.link new.link step
  pub met : m ≡ met_by old.seen.stand.unread step
  pub rest : new ≡ record old { link = new.link }
