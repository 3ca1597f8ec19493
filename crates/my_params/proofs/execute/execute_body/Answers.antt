use Rattle.my_params.proofs.Bodies.{body_is}
use Rattle.my_params.proofs.execute.execute_body.Goals as goal

pub returns-clause-body : goal.returns-clause-body
returns-clause-body c =
    body_is c.args.id _ c.args.values.now _ _ _ c.is_long-long.ensures c.in_ok-heads.ensures (rw (c.new-body.ensures.items, c.as_slice.ensures.value) at c.in_ok-put_execute_head.ensures) c.in_ok-put_values.ensures
