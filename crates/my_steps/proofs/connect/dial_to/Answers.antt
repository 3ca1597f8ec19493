use Rattle.std.proofs.Common.{Some, true, sym, subst, ◌∙◌, refl, rules}
use Rattle.my_session.specs.Login.{login_of}
use Rattle.my_link.specs.World.{WorldSeen}
use Rattle.my_steps.specs.Connecting.{Dialed}
use Rattle.my_steps.specs.Dialing.{DialsTo, dial_met}
use Rattle.my_steps.specs.Midst.{Faulted, Waited}
use Rattle.my_steps.specs.Sums.{quiet, held_use, failed_use}
use Rattle.my_steps.proofs.Working.Awaiting.{at_trans}
use Rattle.my_steps.proofs.Working.Connecting.{linked, dial_held, dial_failed, dial_same, dial_met_by}
use Rattle.my_steps.proofs.Working.Midst.{tried_from}
use Rattle.my_steps.proofs.Working.Numbers.{did_ok, did_so}
use Rattle.my_steps.proofs.connect.dial_to.Goals as goal

pub returns-in-Link-clause-dialed : goal.returns-in-Link-clause-dialed
returns-in-Link-clause-dialed g c = did_so c.join_world.result.1 _ _ _ c.join_world.ensures.world c.join_world.ensures.joins (λ k d f. subst (λ (w : WorldSeen). Dialed g.N.L.Link.looks (login_of c.args.opts.now) c.args.number (g.N.Dialer.seen c.args.world.now).plans w.plans c.join_world.result.0 d.outcome d.uses.items) (sym k) (linked g.N.L.Link.looks (login_of c.args.opts.now) c.args.number c.in-Link.link (g.N.Dialer.seen c.args.world.now).plans (g.N.Dialer.seen c.dial.new.self).plans c.join_world.result.0 d.outcome d.uses.items f.0 c.in-Link.ensures.items c.in-Link.ensures.writes c.in-Link.ensures.got c.in-Link.ensures.counts c.in-Link.ensures.told f.1 f.2))

pub returns-in-NotYet-clause-dialed : goal.returns-in-NotYet-clause-dialed
returns-in-NotYet-clause-dialed g c = did_ok c.used_once.result _ _ _ c.used_once.ensures.outcome c.used_once.ensures.uses (λ d o u. dial_held g.N.L.Link.looks (login_of c.args.opts.now) c.args.number (g.N.Dialer.seen c.args.world.now).plans (g.N.Dialer.seen c.dial.new.self).plans d.outcome d.uses.items c.in-NotYet.ensures.told c.in-NotYet.ensures.kept o (u ∙ search rules))

pub returns-in-Failed-clause-dialed : goal.returns-in-Failed-clause-dialed
returns-in-Failed-clause-dialed g c = did_ok c.used_once-in-Failed.result _ _ _ c.used_once-in-Failed.ensures.outcome c.used_once-in-Failed.ensures.uses (λ d o u. dial_failed g.N.L.Link.looks (login_of c.args.opts.now) c.args.number (g.N.Dialer.seen c.args.world.now).plans (g.N.Dialer.seen c.dial.new.self).plans d.outcome d.uses.items c.in-Failed.ensures.told (o ∙ search rules) (u ∙ search rules))

pub returns-in-Link-clause-counts : goal.returns-in-Link-clause-counts
returns-in-Link-clause-counts g c = did_so c.join_world.result.1 _ _ _ c.join_world.ensures.world c.join_world.ensures.joins (λ k d f. subst (λ (w : WorldSeen). DialsTo (g.N.Dialer.seen c.args.world.now).dials w.dials (dial_met true d.uses.items)) (sym k) (dial_same (g.N.Dialer.seen c.args.world.now).dials (g.N.Dialer.seen c.dial.new.self).dials d.uses.items (quiet c.args.number) f.0 c.in-Link.ensures.dials f.1 refl))

pub returns-in-NotYet-clause-counts : goal.returns-in-NotYet-clause-counts
returns-in-NotYet-clause-counts g c = did_ok c.used_once.result _ _ _ c.used_once.ensures.outcome c.used_once.ensures.uses (λ d o u. dial_met_by (g.N.Dialer.seen c.args.world.now).dials (g.N.Dialer.seen c.dial.new.self).dials d.uses.items (held_use c.args.number) (u ∙ search rules) (record { faults = c.in-NotYet.ensures.dials.faults; holds = c.in-NotYet.ensures.dials.holds }))

pub returns-in-Failed-clause-counts : goal.returns-in-Failed-clause-counts
returns-in-Failed-clause-counts g c = did_ok c.used_once-in-Failed.result _ _ _ c.used_once-in-Failed.ensures.outcome c.used_once-in-Failed.ensures.uses (λ d o u. dial_met_by (g.N.Dialer.seen c.args.world.now).dials (g.N.Dialer.seen c.dial.new.self).dials d.uses.items (failed_use c.args.number) (u ∙ search rules) (record { faults = c.in-Failed.ensures.dials.faults; holds = c.in-Failed.ensures.dials.holds }))

pub returns-in-Link-clause-others : goal.returns-in-Link-clause-others
returns-in-Link-clause-others g c = λ n apart. at_trans (g.N.Dialer.seen c.args.world.now).plans (g.N.Dialer.seen c.dial.new.self).plans (g.N.Dialer.seen c.join_world.new.world).plans n (c.dial.ensures.others n apart) (c.join_world.ensures.plans n)

pub returns-in-Link-clause-tried : goal.returns-in-Link-clause-tried
returns-in-Link-clause-tried g c = tried_from (Some c.args.number) (g.N.Dialer.seen c.args.world.now).dials (g.N.Dialer.seen c.dial.new.self).dials (g.N.Dialer.seen c.join_world.new.world).dials (g.N.Dialer.seen c.args.world.now).back (g.N.Dialer.seen c.dial.new.self).back (g.N.Dialer.seen c.join_world.new.world).back c.in-Link.ensures.dials c.dial.ensures.back (c.join_world.ensures.tried c.in-Link.ensures.got)

pub returns-in-NotYet-clause-tried : goal.returns-in-NotYet-clause-tried
returns-in-NotYet-clause-tried g c = Waited c.in-NotYet.ensures.dials c.dial.ensures.back

pub returns-in-Failed-clause-tried : goal.returns-in-Failed-clause-tried
returns-in-Failed-clause-tried g c = Faulted c.in-Failed.ensures.dials c.dial.ensures.back
