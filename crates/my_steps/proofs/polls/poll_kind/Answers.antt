use Rattle.std.proofs.Common.{◌≡◌, false, rules}
use Rattle.my_steps.specs.Polled.{ran_out}
use Rattle.my_steps.proofs.Working.Polling.{conn_polled}
use Rattle.my_steps.proofs.polls.poll_kind.Goals as goal

pub returns-clause-polled : goal.returns-clause-polled
returns-clause-polled g c =
    let u = c.poll_call-after in
    let kept : ran_out u.result.0 ≡ false = search rules in
    conn_polled g.L.Link.looks c.args.now c.args.kind c.args.call c.args.conn.now u.new.self u.result.1 u.result.0 c.requires kept u.ensures
