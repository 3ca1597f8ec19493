-- What the two questions before a dial do to a world.
use Rattle.std.proofs.Common.{ℕ, ◌≡◌, ◌∙◌, Bool, Result, ap, subst}
use Rattle.my_link.specs.Looks.{Looks}
use Rattle.my_opts.specs.Opts.{OptsView}
use Rattle.my_reading.specs.declared.error.Error.{Error}
use Rattle.my_link.specs.World.{Chance, IsDrawn, IsMoment, Plans, SamePlans, WorldSeen, drawn}
use Rattle.my_conn.specs.Conn.{ConnSeen}
use Rattle.my_connect.specs.Connected.{ConnectIs, MadeOver}
use Rattle.my_connect.specs.Dialed.{DialIs, IsTold}

pub both_same : {p q r : Plans} → SamePlans p q → SamePlans q r → SamePlans p r
both_same s t n = record { reads = (t n).reads ∙ (s n).reads; writes = (t n).writes ∙ (s n).writes; dials = (t n).dials ∙ (s n).dials }

-- the moment is told first, then the word
pub both_told : {a b c : WorldSeen} → SamePlans a.plans b.plans → SamePlans b.plans c.plans → b.dials ≡ a.dials → c.dials ≡ b.dials
    → b.takes ≡ a.takes → c.takes ≡ b.takes → b.chance ≡ a.chance → c.chance ≡ drawn b.chance → b.back ≡ a.back → c.back ≡ b.back → IsTold a c
both_told p q d e t u h i k l = record { plans = both_same p q; dials = e ∙ d; takes = u ∙ t; chance = i ∙ ap drawn h; back = l ∙ k }

pub connects : {L : Type 0} → (look : L → Looks) (socket : L → Bool) (opts : OptsView) (first next mid after last : WorldSeen) (now random : ℕ)
    (link : Result L Error) (result : Result (ConnSeen L) Error) → IsMoment first.chance.moment now → IsDrawn next.chance.randoms random
    → next.chance ≡ first.chance → IsTold first mid → DialIs look mid after link
    → MadeOver look socket opts (record { now = now; random = random }) link after last result → ConnectIs look socket opts first last result
connects look socket opts first next mid after last now random link result moment drawn same told dialed made = record {
  told = record { now = now; random = random };
  moment = moment;
  random = subst (λ (h : Chance). IsDrawn h.randoms random) same drawn;
  mid = mid;
  is_told = told;
  link = link;
  after = after;
  dialed = dialed;
  made = made;
}
