use Rattle.std.proofs.Common.{◌∙◌, sym}
use Rattle.my_value.proofs.Conversions.OneCells.{row_back}
use Rattle.my_value.proofs.tuples.one_cell.Goals as goal

pub returns-in-Err-Value-clause-refused : goal.returns-in-Err-Value-clause-refused
returns-in-Err-Value-clause-refused g c =
    let r = rw c.in-Err-Value.field-0-is at c.in-Err-Value.ensures.refused in
    row_back _ _ _ _ _ _ (sym c.len.ensures ∙ c.if-len-ne1.false) c.in-Some.ensures.value r.0 c.take.ensures.cells c.take.ensures.columns c.put.ensures.cells c.put.ensures.columns r.1
