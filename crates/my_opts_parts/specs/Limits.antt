-- Numbers that options keep within bounds.
use Rattle.std.specs.Prelude.{ℕ, ◌≤◌, min, max, Option}
use Rattle.std.specs.Option.{ForSome}
use Rattle.my_frame.specs.declared.limits.TheConstants.{GREATEST_MAX_ALLOWED_PACKET, LEAST_MAX_ALLOWED_PACKET}
use Rattle.my_opts_parts.specs.declared.limits.TheConstants.{LONGEST_WAIT_TIMEOUT}

-- a packet's limit within 1,024 to 1,073,741,824 bytes
abbrev pub packet_limit : ℕ → ℕ
packet_limit bytes = max LEAST_MAX_ALLOWED_PACKET (min bytes GREATEST_MAX_ALLOWED_PACKET)

-- a waiting time is at most 31,536,000 seconds, a year
abbrev pub waiting_limit : ℕ → ℕ
waiting_limit seconds = min seconds LONGEST_WAIT_TIMEOUT

-- a packet's limit, where there is one, is within its bounds
abbrev pub IsPacketLimit : Option ℕ → Type 0
IsPacketLimit limit = ForSome limit (λ n. (LEAST_MAX_ALLOWED_PACKET ≤ n) × (n ≤ GREATEST_MAX_ALLOWED_PACKET))

-- a waiting time, where there is one, is within its bound
abbrev pub IsWaitingLimit : Option ℕ → Type 0
IsWaitingLimit limit = ForSome limit (λ n. n ≤ LONGEST_WAIT_TIMEOUT)
