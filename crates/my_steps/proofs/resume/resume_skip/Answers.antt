use Rattle.std.proofs.lemmas.Result.{IfOk-weaker}
use Rattle.my_steps.proofs.Working.Resuming.{skip_resumed}
use Rattle.my_steps.proofs.resume.resume_skip.Goals as goal

pub returns-in-Ok-clause-did : goal.returns-in-Ok-clause-did
returns-in-Ok-clause-did g c = IfOk-weaker c.then_read.result.1 _ _
    (λ d f login w. skip_resumed g.L.Link.looks login c.args.aim c.args.number c.args.conn c.args.kind c.requires.pending w c.requires.skips c.poll_shown.new.conn c.then_read.result.0 c.in-Ok.skipped d (c.in-Ok.ensures login w) f) c.then_read.ensures.did
