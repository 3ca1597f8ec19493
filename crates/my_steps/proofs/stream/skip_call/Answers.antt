use Rattle.std.proofs.lemmas.Result.{IfOk-weaker}
use Rattle.my_steps.proofs.Working.Streaming.{skipped_so}
use Rattle.my_steps.proofs.stream.skip_call.Goals as goal

pub returns-in-Ok-clause-did : goal.returns-in-Ok-clause-did
returns-in-Ok-clause-did g c = IfOk-weaker c.then_read.result.1 _ _
    (λ d f login w. skipped_so g.L.Link.looks c.args.number login c.args.aim c.args.conn c.begin_call.new.conn c.then_read.result.0 c.in-Ok.skipped d (c.in-Ok.ensures login w) f) c.then_read.ensures.did
