use Rattle.std.proofs.Common.{◌≡◌, ◌++◌, ◌∷◌, [], Some, true, length, rules}
use Rattle.std.proofs.lemmas.Result.{IfOk-weaker}
use Rattle.my_session.specs.Login.{login_of}
use Rattle.my_steps.proofs.Working.Connecting.{stepped_dialed}
use Rattle.my_steps.proofs.Working.Midst.{midst_push, midst_same}
use Rattle.my_steps.proofs.connect.connect.Goals as goal

pub returns-clause-steps : goal.returns-clause-steps
returns-clause-steps g c =
    let pushed : c.push_reserved.new.self.items ≡ c.args.slots.now.items ++ c.dial_at-slot.result.0 ∷ [] = search rules in
    let is : c.len-number.result ≡ length c.args.slots.now.items = search rules in
    IfOk-weaker c.dial_at-slot.result.1 _ _ (λ d f plans awaited w. stepped_dialed g.N.L.Link.looks (login_of c.args.opts.now) plans c.len-number.result (g.N.Dialer.seen c.args.world.now).plans (g.N.Dialer.seen c.dial_at-slot.new.world).plans d.outcome d.uses.items c.args.slots.now.items c.push_reserved.new.self.items c.dial_at-slot.result.0 pushed is c.dial_at-slot.ensures.others f awaited w) c.dial_at-slot.ensures.dialed

pub returns-in_err-reserve-clause-midst : goal.returns-in_err-reserve-clause-midst
returns-in_err-reserve-clause-midst g c = midst_same true (Some (length c.args.slots.now.items)) (g.N.Dialer.seen c.args.world.now) c.args.slots.now.items c.reserve.new.self.items (search rules)

pub returns-clause-midst : goal.returns-clause-midst
returns-clause-midst g c =
    let pushed : c.push_reserved.new.self.items ≡ c.args.slots.now.items ++ c.dial_at-slot.result.0 ∷ [] = search rules in
    let is : c.len-number.result ≡ length c.args.slots.now.items = search rules in
    midst_push c.len-number.result (g.N.Dialer.seen c.args.world.now) (g.N.Dialer.seen c.dial_at-slot.new.world) c.args.slots.now.items c.push_reserved.new.self.items c.dial_at-slot.result.0 pushed is c.dial_at-slot.ensures.tried
