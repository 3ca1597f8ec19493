use Rattle.std.proofs.Common.{length}
use Rattle.my_run_judge.proofs.Rows.{RowsSo}
use Rattle.my_run_judge.proofs.answered.are_rows.Given as goal

abbrev pub invariant-rows : goal.invariant-rows
invariant-rows l = RowsSo l.fn.rows l.fn.calls l.left l.others

abbrev pub decreases-rows : goal.decreases-rows
decreases-rows l = length l.left
