use Rattle.std.proofs.Common.{◌≡◌, ◌+◌, length}
use Rattle.my_params.specs.SqlText.{quote_len}
use Rattle.my_params.proofs.sql_text.quote_len.Given as goal

abbrev pub invariant-loop-rest : goal.invariant-loop-rest
invariant-loop-rest l = (l.len + quote_len l.quote l.rest ≡ quote_len l.quote l.bytes) × (l.len + length l.rest ≡ length l.bytes)

abbrev pub decreases-loop-rest : goal.decreases-loop-rest
decreases-loop-rest l = length l.rest
