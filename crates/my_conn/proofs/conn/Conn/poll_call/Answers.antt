use Rattle.std.proofs.Common.{sym, subst}
use Rattle.my_client.specs.Calls.{MayPoll}
use Rattle.my_client.proofs.Standing.{may_start}
use Rattle.my_conn.specs.Conn.{ConnSeen}
use Rattle.my_conn.proofs.Standing.{call_is, sound, sound_after}
use Rattle.my_conn.proofs.conn.Conn.poll_call.Goals as goal

pub poll_once-requires : goal.poll_once-requires
poll_once-requires g c =
    let v = c.self.inside in
    let old = sound v.lost v.session.seen v.tape v.pending c.if-self.false c.self.invariant in
    may_start c.args.kind c.args.call old.0 v.session.seen v.tape v.pending old.1 (subst (λ (s : ConnSeen g.row.L.Denot). MayPoll c.args.kind c.args.call s.pending) (sym c.self.view_is) c.requires) old.2

pub invariant_of-self : goal.invariant_of-self
invariant_of-self g c =
    let v = c.self.inside in
    sound_after v.lost v.session.seen c.poll_once.new.session.seen _ _ v.tape c.poll_once.new.tape v.pending c.pending_after-self-inside.result c.args.kind c.args.call c.in-Ok.met c.in-Ok.after c.if-self.false c.pending_after-self-inside.ensures (subst (λ (s : ConnSeen g.row.L.Denot). MayPoll c.args.kind c.args.call s.pending) (sym c.self.view_is) c.requires) c.in-Ok.ensures.does c.self.invariant

pub returns-in-Ok : goal.returns-in-Ok
returns-in-Ok g c =
    let v = c.self.inside in
    rw (← c.self.view_is) (call_is g.L.Link.looks c.args.now c.args.kind c.args.call v.lost v.session c.poll_once.new.session v.link c.poll_once.new.link v.tape c.poll_once.new.tape v.pending c.pending_after-self-inside.result c.in-Ok.met c.in-Ok.after c.if-self.false c.pending_after-self-inside.ensures (subst (λ (s : ConnSeen g.row.L.Denot). MayPoll c.args.kind c.args.call s.pending) (sym c.self.view_is) c.requires) c.in-Ok.ensures.does c.self.invariant v.fixed c.in-Ok.ensures.leaves c.poll_once.ensures.made)
