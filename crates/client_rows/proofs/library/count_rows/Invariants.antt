use Rattle.std.proofs.Common.{◌≡◌, None}
use Rattle.client_rows.proofs.library.count_rows.Given as goal

abbrev pub invariant-rows : goal.invariant-rows
invariant-rows g l = l.conn.pending ≡ None
