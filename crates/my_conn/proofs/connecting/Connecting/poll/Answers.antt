use Rattle.std.proofs.Common.{inl, inr, refl}
use Rattle.my_client.specs.declared.making.MakeStep.TheVariants as steps
use Rattle.my_conn.proofs.Making.{making_on, making_stands, step_so}
use Rattle.my_conn.proofs.connecting.Connecting.poll.Goals as goal

pub invariant_of-result : goal.invariant_of-result
invariant_of-result g c =
    let v = c.self.inside in
    let look = g.L.Link.looks in
    let texts = g.A.AfterConnect.texts c.args.aid.now in
    making_on texts c.args.now v.at c.in-Pending.at (look v.link) (look c.make.new.link) v.session c.make.new.session v.tape c.make.new.tape c.in-Ok.met
    (step_so texts c.args.now v.at (look v.link) (look c.make.new.link) v.session c.make.new.session v.tape c.make.new.tape c.in-Ok.met c.in-Ok.step (steps.Pending c.in-Pending.at) c.in-Pending.is c.in-Ok.ensures.makes) c.self.invariant

pub made-conn-requires : goal.made-conn-requires
made-conn-requires g c =
    let v = c.self.inside in
    let look = g.L.Link.looks in
    let texts = g.A.AfterConnect.texts c.args.aid.now in
    making_stands texts c.args.now v.at (look v.link) (look c.make.new.link) v.session c.make.new.session v.tape c.make.new.tape c.in-Ok.met
    (step_so texts c.args.now v.at (look v.link) (look c.make.new.link) v.session c.make.new.session v.tape c.make.new.tape c.in-Ok.met c.in-Ok.step steps.Made c.in-Made.is c.in-Ok.ensures.makes) c.self.invariant

pub returns-in-Pending-clause-connects : goal.returns-in-Pending-clause-connects
returns-in-Pending-clause-connects g c =
    let v = c.self.inside in
    let look = g.L.Link.looks in
    let texts = g.A.AfterConnect.texts c.args.aid.now in
    rw (← c.self.view_is) (record { stays = step_so texts c.args.now v.at (look v.link) (look c.make.new.link) v.session c.make.new.session v.tape c.make.new.tape c.in-Ok.met c.in-Ok.step (steps.Pending c.in-Pending.at) c.in-Pending.is c.in-Ok.ensures.makes; keeps = c.in-Ok.ensures.keeps; fixed = refl })

pub returns-in-Made-clause-connects : goal.returns-in-Made-clause-connects
returns-in-Made-clause-connects g c =
    let v = c.self.inside in
    let look = g.L.Link.looks in
    let texts = g.A.AfterConnect.texts c.args.aid.now in
    rw (← c.self.view_is) (rw (c.made-conn.ensures) (record { made = step_so texts c.args.now v.at (look v.link) (look c.make.new.link) v.session c.make.new.session v.tape c.make.new.tape c.in-Ok.met c.in-Ok.step steps.Made c.in-Made.is c.in-Ok.ensures.makes; keeps = c.in-Ok.ensures.keeps; fixed = refl; pending = refl; lost = refl }))

pub returns-in-Failed-clause-connects : goal.returns-in-Failed-clause-connects
returns-in-Failed-clause-connects g c =
    let v = c.self.inside in
    let look = g.L.Link.looks in
    let texts = g.A.AfterConnect.texts c.args.aid.now in
    rw (← c.self.view_is) (inr (record { why = step_so texts c.args.now v.at (look v.link) (look c.make.new.link) v.session c.make.new.session v.tape c.make.new.tape c.in-Ok.met c.in-Ok.step (steps.Failed c.in-Failed.error) c.in-Failed.is c.in-Ok.ensures.makes; keeps = c.in-Ok.ensures.keeps }))

pub returns-in-Err-clause-connects : goal.returns-in-Err-clause-connects
returns-in-Err-clause-connects g c = rw (c.untaped-left.ensures) (inl (record { error = refl; tape = refl; met = c.nothing.ensures }))
