use Rattle.my_server.specs.Answer.{row_payload}
use Rattle.my_server.proofs.Adding.{added_more}
use Rattle.my_server.proofs.answer.add_rows.Goals as goal

pub loop-row-preserved : goal.loop-row-preserved
loop-row-preserved c =
    added_more row_payload c.args.rows.now c.loop-row.row-index c.row-item.result c.args.payloads.now c.loop-row.payloads c.add_row.new.payloads c.loop-row-test.true c.row-item.is c.loop-row.invariant c.in_ok-add_row.ensures
