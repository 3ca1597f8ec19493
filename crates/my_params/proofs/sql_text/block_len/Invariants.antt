use Rattle.std.proofs.Common.{◌≡◌, ◌+◌, length}
use Rattle.my_params.specs.SqlText.{block_len}
use Rattle.my_params.proofs.sql_text.block_len.Given as goal

abbrev pub invariant-loop-rest : goal.invariant-loop-rest
invariant-loop-rest l = (l.len + block_len l.rest ≡ block_len l.bytes) × (l.len + length l.rest ≡ length l.bytes)

abbrev pub decreases-loop-rest : goal.decreases-loop-rest
decreases-loop-rest l = length l.rest
