-- What follows of a poll of a request.
use Rattle.std.specs.Prelude.{◌≡◌, ◌⊎◌, ℕ, List, []}
use Rattle.my_link.specs.Looks.{Looks}
use Rattle.my_link.specs.Outside.{DeathRose, FaultRose}
use Rattle.my_reading.specs.declared.error.Error.{Error}
use Rattle.my_conn.specs.Conn.{ConnSeen}
use Rattle.my_pool_core.specs.declared.event.PollAnswer.{PollAnswer}
use Rattle.my_pool_core.specs.declared.event.PollAnswer.TheVariants.{Wait, Take, Dial, Closed, Full}
use Rattle.my_pool_requests.specs.Looks.{pool_disconnected, pool_full}

-- the bytes that were received and that no call read
abbrev pub left_over : {L : Type 0} → ConnSeen L → List ℕ
left_over c = c.seen.stand.unread

-- why a connection isn't good: a byte is left over, or its link is dead, or failed
pub record IsntGood {L : Type 0} (look : L → Looks) (c : ConnSeen L) : Type 0 where
  pub after : L
  pub why : (left_over c ≡ [] → ⊥) ⊎ (DeathRose (look c.link).counts (look after).counts
      ⊎ FaultRose (look c.link).counts (look after).counts)

-- a request ends without a connection where the core answers that the pool is closed, or full, and nowhere else
abbrev pub WhyRefused : PollAnswer → Error → Type 0
WhyRefused Wait e = ⊥
WhyRefused (Take n) e = ⊥
WhyRefused (Dial n) e = ⊥
WhyRefused Closed e = e ≡ pool_disconnected
WhyRefused (Full waiting_ limit) e = e ≡ pool_full waiting_ limit
