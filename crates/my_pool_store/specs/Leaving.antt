-- How many connections may still go before one more request is made.
use Rattle.std.specs.Prelude.{ℕ, ◌+◌, length}
use Rattle.my_pool_parts.specs.Lists.{how_many}
use Rattle.my_pool_core.specs.Sound.{is_dialer}
use Rattle.my_pool_core.specs.State.{State}

-- those that are counted, and those that live requests may still make
abbrev pub leaving : State → ℕ
leaving s = length s.connections + how_many is_dialer s.requests
