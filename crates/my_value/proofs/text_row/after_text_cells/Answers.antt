use Rattle.my_value.proofs.Rows.{after_more}
use Rattle.my_value.proofs.text_row.after_text_cells.Goals as goal

pub loop-preserved : goal.loop-preserved
loop-preserved c = after_more _ _ _ _ _ _ c.loop-test.true c.in_ok-after.ensures c.loop.invariant
