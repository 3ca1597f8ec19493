use Rattle.std.proofs.Common.{◌∙◌}
use Rattle.my_steps.proofs.Working.Beginning.{shown_so}
use Rattle.my_steps.proofs.Working.Numbers.{did_ok}
use Rattle.my_steps.proofs.polls.poll_shown.Goals as goal

pub returns : goal.returns
returns g c =
    did_ok c.used_once.result _ _ _ c.used_once.ensures.outcome c.used_once.ensures.uses
    (λ d e f login w. shown_so g.L.Link.looks login c.args.number c.args.call c.args.conn.now c.poll_kind.new.conn c.in_ok-after.met c.in_ok-after.after d.outcome d.uses.items (c.in_ok-after.ensures.polled login w) (e ∙ c.shown.ensures) f)
