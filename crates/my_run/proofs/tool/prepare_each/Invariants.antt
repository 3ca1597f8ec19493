use Rattle.std.proofs.Common.{◌≡◌, true, drop}
use Rattle.my_link.specs.Plan.{plans_after, chance_after}
use Rattle.my_link.specs.World.{SamePlans}
use Rattle.my_run.proofs.tool.prepare_each.Given as goal

abbrev pub invariant-loop-line : goal.invariant-loop-line
invariant-loop-line g l = record {
  takes : (g.N.Dialer.seen l.world).takes ≡ true;
  dials : (g.N.Dialer.seen l.world).dials ≡ (g.N.Dialer.seen l.fn.world).dials;
  back : (g.N.Dialer.seen l.world).back ≡ (g.N.Dialer.seen l.fn.world).back;
  chance : chance_after (drop l.line-index l.plan) (g.N.Dialer.seen l.world).chance ≡ chance_after l.plan (g.N.Dialer.seen l.fn.world).chance;
  so : SamePlans (plans_after l.plan (g.N.Dialer.seen l.fn.world).plans) (plans_after (drop l.line-index l.plan) (g.N.Dialer.seen l.world).plans);
}
