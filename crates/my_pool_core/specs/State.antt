-- The state of a pool on plain numbers.
use Rattle.std.specs.Prelude.{ℕ, ◌+◌, ◌-◌, ◌^◌, Bool, nat_lt, List, if◌then◌else◌}
use Rattle.my_pool_parts.specs.declared.connection.Connection.{Connection}
use Rattle.my_pool_parts.specs.declared.request.Request.{Request}
use Rattle.my_pool_core.specs.declared.limits.Limits.{Limits}
use Rattle.my_pool_core.specs.declared.limits.Counts.{Counts}

-- what a pool is made with, whether it is closed, and whether its last connection was seen to be gone; the counted
-- connections with their places; the live requests; the next age and the next number; for how many more
-- connections there is room; and the counts of what happened
pub record State : Type 0 where
  pub limits : Limits
  pub closed : Bool
  pub settled : Bool
  pub connections : List Connection
  pub requests : List Request
  pub next_age : ℕ
  pub next_number : ℕ
  pub spare : ℕ
  pub counts : Counts

-- one more, except at the greatest value of the type
abbrev pub one_more : ℕ → ℕ
one_more n = if nat_lt n (2 ^ 64 - 1) then n + 1 else n
