use Rattle.std.proofs.Common.{◌≡◌, ◌||◌, true, ap, ◌∙◌}
use Rattle.my_reading.specs.Calls.{kind_of}
use Rattle.my_session.specs.Sessions.{is_refused}
use Rattle.my_steps.proofs.Working.Beginning.{conn_refused}
use Rattle.my_steps.proofs.polls.refused_call.Goals as goal

pub returns : goal.returns
returns g c =
    let old = c.args.conn.now in
    let shut : is_refused (old.lost || old.seen.closed) (kind_of c.args.call) ≡ true = ap (is_refused (old.lost || old.seen.closed)) c.requires.may.1 ∙ c.requires.refused in
    λ login w. conn_refused g.L.Link.looks login c.args.call old c.poll_kind.new.conn _ c.in_ok-after.after c.unused.result.outcome c.unused.result.uses.items shut w (c.in_ok-after.ensures.polled login w) (c.unused.ensures.outcome ∙ c.shown.ensures) c.unused.ensures.uses
