use Rattle.std.proofs.Common.{ap, ◌∙◌}
use Rattle.my_conn.specs.Conn.{ConnSeen}
use Rattle.my_conn.proofs.Forgetting.{forget_is, may_forget, sound_forgotten}
use Rattle.my_conn.proofs.conn.Conn.forget_transaction.Goals as goal

pub forget_open-requires : goal.forget_open-requires
forget_open-requires g c =
    let v = c.self.inside in
    may_forget v.lost v.session.seen v.tape v.pending (ap (λ (s : ConnSeen g.row.L.Denot). s.pending) c.self.view_is ∙ c.requires) c.if-self.false c.self.invariant

pub invariant_of-self : goal.invariant_of-self
invariant_of-self g c =
    let v = c.self.inside in
    sound_forgotten v.session.seen c.forget_open.new.session.seen v.tape c.forget_open.new.tape v.pending v.lost (ap (λ (s : ConnSeen g.row.L.Denot). s.pending) c.self.view_is ∙ c.requires) c.if-self.false c.in-Ok.ensures.does c.self.invariant

pub returns-in-Ok : goal.returns-in-Ok
returns-in-Ok g c =
    let v = c.self.inside in
    rw (← c.self.view_is) (forget_is v.session.seen c.forget_open.new.session.seen v.tape c.forget_open.new.tape v.pending v.lost (ap (λ (s : ConnSeen g.row.L.Denot). s.pending) c.self.view_is ∙ c.requires) c.if-self.false c.in-Ok.ensures.does v.session.lifetime c.forget_open.new.session.lifetime v.fixed v.link c.forget_open.ensures.lifetime c.in-Ok.ensures.keeps)
