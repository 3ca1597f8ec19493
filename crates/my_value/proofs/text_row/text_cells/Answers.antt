use Rattle.my_value.proofs.Rows.{text_more}
use Rattle.my_value.proofs.text_row.text_cells.Goals as goal

pub loop-preserved : goal.loop-preserved
loop-preserved c = text_more _ _ _ _ _ _ _ _ c.loop-test.true c.in-Some.ensures (rw c.in_ok-own-in-Some.ensures at c.in_ok-push-in-Some.ensures.items) c.loop.invariant
