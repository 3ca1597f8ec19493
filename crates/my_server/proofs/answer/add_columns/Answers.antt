use Rattle.my_server.specs.Answer.{column_payload}
use Rattle.my_server.proofs.Adding.{added_more}
use Rattle.my_server.proofs.answer.add_columns.Goals as goal

pub loop-name-preserved : goal.loop-name-preserved
loop-name-preserved c =
    added_more column_payload c.args.names.now c.loop-name.name-index c.name-item.result c.args.payloads.now c.loop-name.payloads c.add.new.payloads c.loop-name-test.true c.name-item.is c.loop-name.invariant (c.in_ok-add.ensures _ c.column_payload.ensures)
