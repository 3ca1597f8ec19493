use Rattle.std.proofs.Common.{ap, ◌∙◌}
use Rattle.my_conn.specs.Conn.{ConnSeen}
use Rattle.my_conn.proofs.Cancelling.{lost_cancelled, open_cancelled, sound_cancelled}
use Rattle.my_conn.proofs.conn.Conn.cancel_call.Goals as goal

pub invariant_of-self : goal.invariant_of-self
invariant_of-self g c =
    let v = c.self.inside in
    sound_cancelled c.args.kind v.session.seen c.cancel_open.new.session.seen v.tape c.cancel_open.new.tape v.pending (ap (λ (s : ConnSeen g.row.L.Denot). s.pending) c.self.view_is ∙ c.requires) c.cancel_open.ensures.does v.lost c.if-self.false c.self.invariant

pub returns : goal.returns
returns g c =
    let v = c.self.inside in
    rw (← c.self.view_is) (open_cancelled c.args.kind v.session.seen c.cancel_open.new.session.seen v.tape c.cancel_open.new.tape v.pending (ap (λ (s : ConnSeen g.row.L.Denot). s.pending) c.self.view_is ∙ c.requires) c.cancel_open.ensures.does v.session.lifetime c.cancel_open.new.session.lifetime v.fixed v.link v.lost c.cancel_open.ensures.lifetime c.cancel_open.ensures.keeps)

pub returns-then-self : goal.returns-then-self
returns-then-self g c =
    let v = c.self.inside in
    rw (← c.self.view_is) (lost_cancelled v.session.lifetime v.fixed v.link v.session.seen v.tape v.pending v.lost c.if-self.true c.self.invariant)
