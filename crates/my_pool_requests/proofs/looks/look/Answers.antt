use Rattle.std.proofs.Common.{refl, subst}
use Rattle.my_link.specs.declared.link.CheckStep.{CheckStep}
use Rattle.my_link.specs.declared.link.CheckStep.TheVariants as checks
use Rattle.my_conn.specs.Checks.{CheckedIs}
use Rattle.my_pool_requests.proofs.looks.look.Goals as goal

pub returns-in-Alive-clause-looks : goal.returns-in-Alive-clause-looks
returns-in-Alive-clause-looks g c = record {
  step = checks.Alive;
  after = c.check-step.new.self;
  met = c.check-step.result.1;
  checked = subst (λ (s : CheckStep). CheckedIs g.L.Link.looks c.args.conn c.check-step.new.self c.check-step.result.1 s) c.in-Alive.is c.check-step.ensures;
  comes = (c.lease.result, c.lease.ensures.leased, refl);
}

pub returns-in-NotYet-clause-looks : goal.returns-in-NotYet-clause-looks
returns-in-NotYet-clause-looks g c = record {
  step = checks.NotYet;
  after = c.check-step.new.self;
  met = c.check-step.result.1;
  checked = subst (λ (s : CheckStep). CheckedIs g.L.Link.looks c.args.conn c.check-step.new.self c.check-step.result.1 s) c.in-NotYet.is c.check-step.ensures;
  comes = (refl, refl);
}

pub returns-in-Dead-clause-looks : goal.returns-in-Dead-clause-looks
returns-in-Dead-clause-looks g c = record {
  step = checks.Dead;
  after = c.check-step.new.self;
  met = c.check-step.result.1;
  checked = subst (λ (s : CheckStep). CheckedIs g.L.Link.looks c.args.conn c.check-step.new.self c.check-step.result.1 s) c.in-Dead.is c.check-step.ensures;
  comes = (c.let_go.ensures.failed, refl);
}

pub returns-in-Failed-clause-looks : goal.returns-in-Failed-clause-looks
returns-in-Failed-clause-looks g c = record {
  step = checks.Failed;
  after = c.check-step.new.self;
  met = c.check-step.result.1;
  checked = subst (λ (s : CheckStep). CheckedIs g.L.Link.looks c.args.conn c.check-step.new.self c.check-step.result.1 s) c.in-Failed.is c.check-step.ensures;
  comes = (c.let_go-in-Failed.ensures.failed, refl);
}
