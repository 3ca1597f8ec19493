use Rattle.std.proofs.lemmas.Result.{IfOk-weaker}
use Rattle.my_session.specs.Login.{login_of}
use Rattle.my_steps.proofs.Working.Connecting.{joins_first}
use Rattle.my_steps.proofs.connect.first_call.Goals as goal

pub returns-clause-joins : goal.returns-clause-joins
returns-clause-joins g c =
    let begun = c.in_ok-conn.ensures in
    IfOk-weaker c.first_poll.result.1 _ _ (λ d f. joins_first g.L.Link.looks (login_of c.args.opts.now) c.args.number c.args.link c.in_ok-conn.conn c.first_poll.result.0 d begun.begins begun.taped begun.at begun.link f) c.first_poll.ensures.did
