use Rattle.std.proofs.lemmas.Result.{IfOk-weaker}
use Rattle.my_steps.proofs.Working.Gathered.{collect_closed}
use Rattle.my_steps.proofs.gather.collect_refused.Goals as goal

pub returns-clause-did : goal.returns-clause-did
returns-clause-did g c = IfOk-weaker c.refused_call-did.result _ _ (λ d f login w. collect_closed g.L.Link.looks login c.args.number c.args.conn c.refused_call-did.new.conn d.outcome d.uses.items c.requires.pending c.requires.refused (f login w) w) c.refused_call-did.ensures
