use Rattle.std.proofs.Common.{ℕ, ◌≡◌, ◌+◌, None, Ok, Err, refl, sym, ap, ◌∙◌, subst, arith}
use Rattle.my_link.specs.declared.met.Met.{Met}
use Rattle.my_client.specs.declared.poll.After.{After}
use Rattle.my_client.specs.Calls.{pending_after}
use Rattle.my_client.proofs.Waiting.{Results}
use Rattle.my_conn.specs.Calls.{CallIs}
use Rattle.my_conn.specs.Conn.{ConnSeen}
use Rattle.my_conn.proofs.Driving.{DriveSoFar, drive_is, drive_long, goes_on}
use Rattle.my_conn.proofs.conn.Conn.drive.Goals as goal

pub returns-then-spent-ge-TOO_LONG : goal.returns-then-spent-ge-TOO_LONG
returns-then-spent-ge-TOO_LONG g c =
    let e = c.give_up.ensures in
    drive_long g.L.Link.looks c.args.kind c.args.call c.args.self.now c.polls.self c.give_up.new.self c.polls.next c.polls.spent _ c.polls.invariant.so (omega (arith, c.if-spent-ge-TOO_LONG.true)) c.polls.invariant.room (ap (λ (o : ConnSeen g.row.L.Denot). o.lost) e) (ap (λ (o : ConnSeen g.row.L.Denot). o.pending) e) (ap (λ (o : ConnSeen g.row.L.Denot). o.link) e) (ap (λ (o : ConnSeen g.row.L.Denot). o.fixed) e) (ap (λ (o : ConnSeen g.row.L.Denot). o.lifetime) e) refl

pub polls-preserved : goal.polls-preserved
polls-preserved g c =
    let u = c.poll_call-after in
    let look = g.L.Link.looks in
    let m : Met = u.result.1 in
    let is : CallIs look c.args.self.now.fixed.now c.args.kind c.polls.next c.polls.self u.new.self m u.result.0 = subst (λ (i : ℕ). CallIs look i c.args.kind c.polls.next c.polls.self u.new.self m u.result.0) c.now-now.ensures u.ensures in
    let on : DriveSoFar look c.args.call None c.args.self.now u.new.self (c.polls.spent + m.taken) = goes_on look c.args.kind c.args.call c.args.self.now u.new.self m u.result.0 c.polls.next c.polls.self c.polls.spent c.polls.invariant.so is c.in-Pending.is (subst (λ l. (look l).counts.holds ≡ 0) c.link.ensures c.never_holds.ensures) (subst (λ l. (look l).counts.holds ≡ 0) c.link-in-polls.ensures c.never_holds-in-polls.ensures) in
    record {
      may = is.pending ∙ ap (pending_after c.args.kind) c.in-Pending.is;
      so = on;
      room = omega (arith, c.if-spent-ge-TOO_LONG.false, is.within);
    }

pub returns-in-Answered : goal.returns-in-Answered
returns-in-Answered g c =
    let u = c.poll_call-after in
    let look = g.L.Link.looks in
    let m : Met = u.result.1 in
    let is : CallIs look c.args.self.now.fixed.now c.args.kind c.polls.next c.polls.self u.new.self m u.result.0 = subst (λ (i : ℕ). CallIs look i c.args.kind c.polls.next c.polls.self u.new.self m u.result.0) c.now-now.ensures u.ensures in
    drive_is look c.args.kind c.args.call c.args.self.now u.new.self m u.result.0 c.polls.next c.polls.self c.polls.spent c.polls.invariant.so is (omega (arith, c.if-spent-ge-TOO_LONG.false)) _ (subst (λ (p : After). Results p (Ok c.in-Answered.answer)) (sym c.in-Answered.is) refl)

pub returns-in-Failed : goal.returns-in-Failed
returns-in-Failed g c =
    let u = c.poll_call-after in
    let look = g.L.Link.looks in
    let m : Met = u.result.1 in
    let is : CallIs look c.args.self.now.fixed.now c.args.kind c.polls.next c.polls.self u.new.self m u.result.0 = subst (λ (i : ℕ). CallIs look i c.args.kind c.polls.next c.polls.self u.new.self m u.result.0) c.now-now.ensures u.ensures in
    drive_is look c.args.kind c.args.call c.args.self.now u.new.self m u.result.0 c.polls.next c.polls.self c.polls.spent c.polls.invariant.so is (omega (arith, c.if-spent-ge-TOO_LONG.false)) _ (subst (λ (p : After). Results p (Err c.in-Failed.error)) (sym c.in-Failed.is) refl)
