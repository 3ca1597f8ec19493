use Rattle.std.proofs.Common.{◌≡◌, ◌<◌, ◌≤◌, Bool, Some, suc, length, get_or, sym, ap, ◌∙◌, refl, subst, rules}
use Rattle.std.proofs.lemmas.Result.{IfOk-weaker}
use Rattle.my_session.specs.Login.{login_of}
use Rattle.my_steps.specs.Dialing.{DialsTo, chance_dialed, dial_met}
use Rattle.my_steps.specs.Did.{redials}
use Rattle.my_steps.specs.Handle.{at_number}
use Rattle.my_steps.specs.Slot.{handle_of, handles_in}
use Rattle.my_steps.proofs.Working.Midst.{midst_put, midst_same}
use Rattle.my_steps.proofs.Working.Numbers.{awaited_here, redials_here, redials_past, stood_here}
use Rattle.my_steps.proofs.Working.Ordering.{on_ok}
use Rattle.my_steps.proofs.Working.{work_past, work_put}
use Rattle.my_steps.proofs.work.work_at.Goals as goal

pub returns-then-number-len-clause-steps : goal.returns-then-number-len-clause-steps
returns-then-number-len-clause-steps g c =
    let past : length c.args.slots.now.items < suc c.args.number = search rules in
    λ plans awaited w. work_past g.N.L.Link.looks (login_of c.args.opts.now) plans (g.N.Dialer.seen c.args.world.now).plans c.args.number c.args.work c.unused.result.outcome c.unused.result.uses.items c.args.slots.now.items c.unused.ensures.outcome c.unused.ensures.uses past awaited w

pub returns-clause-steps : goal.returns-clause-steps
returns-clause-steps g c =
    let within : c.args.number < length c.args.slots.now.items = search rules in
    let got : c.replace-slot.result ≡ get_or c.args.slots.now.items c.args.number c.replace-slot.result = search rules in
    IfOk-weaker c.work_on-slot.result.1 _ _ (λ d f plans awaited w. work_put g.N.L.Link.looks (login_of c.args.opts.now) plans (g.N.Dialer.seen c.args.world.now).plans (g.N.Dialer.seen c.work_on-slot.new.world).plans c.args.number c.args.work d.outcome d.uses.items c.args.slots.now.items _ c.replace-slot.result c.work_on-slot.result.0 within got (search rules) c.work_on-slot.ensures.others (f plans (awaited_here plans (g.N.Dialer.seen c.args.world.now).plans c.args.slots.now.items c.args.number c.replace-slot.result within got awaited) (stood_here (login_of c.args.opts.now) c.args.slots.now.items c.args.number c.replace-slot.result within got w)) awaited w) c.work_on-slot.ensures.did

pub returns-clause-counts : goal.returns-clause-counts
returns-clause-counts g c =
    let within : c.args.number < length c.args.slots.now.items = search rules in
    let got : c.replace-slot.result ≡ get_or c.args.slots.now.items c.args.number c.replace-slot.result = search rules in
    let same : redials (at_number (handles_in g.N.L.Link.looks (g.N.Dialer.seen c.args.world.now).plans c.args.slots.now.items) c.args.number) c.args.work ≡ redials (handle_of g.N.L.Link.looks c.replace-slot.result) c.args.work = redials_here g.N.L.Link.looks (g.N.Dialer.seen c.args.world.now).plans c.args.slots.now.items c.args.number c.replace-slot.result c.args.work within got in
    IfOk-weaker c.work_on-slot.result.1 _ _ (λ d f. subst (λ (b : Bool). DialsTo (g.N.Dialer.seen c.args.world.now).dials (g.N.Dialer.seen c.work_on-slot.new.world).dials (dial_met b d.uses.items)) (sym same) f) c.work_on-slot.ensures.counts

pub returns-clause-chance : goal.returns-clause-chance
returns-clause-chance g c =
    let within : c.args.number < length c.args.slots.now.items = search rules in
    let got : c.replace-slot.result ≡ get_or c.args.slots.now.items c.args.number c.replace-slot.result = search rules in
    let same : redials (at_number (handles_in g.N.L.Link.looks (g.N.Dialer.seen c.args.world.now).plans c.args.slots.now.items) c.args.number) c.args.work ≡ redials (handle_of g.N.L.Link.looks c.replace-slot.result) c.args.work = redials_here g.N.L.Link.looks (g.N.Dialer.seen c.args.world.now).plans c.args.slots.now.items c.args.number c.replace-slot.result c.args.work within got in
    on_ok c.work_on-slot.result.1 _ _ (λ e. e ∙ ap (λ (b : Bool). chance_dialed b (g.N.Dialer.seen c.args.world.now).chance) (sym same)) c.work_on-slot.ensures.chance

pub returns-then-number-len-clause-chance : goal.returns-then-number-len-clause-chance
returns-then-number-len-clause-chance g c =
    let past : length c.args.slots.now.items ≤ c.args.number = search rules in
    ap (λ (b : Bool). chance_dialed b (g.N.Dialer.seen c.args.world.now).chance) (sym (redials_past g.N.L.Link.looks (g.N.Dialer.seen c.args.world.now).plans c.args.slots.now.items c.args.number c.args.work past))

pub returns-then-number-len-clause-midst : goal.returns-then-number-len-clause-midst
returns-then-number-len-clause-midst g c = midst_same (redials (at_number (handles_in g.N.L.Link.looks (g.N.Dialer.seen c.args.world.now).plans c.args.slots.now.items) c.args.number) c.args.work) (Some c.args.number) (g.N.Dialer.seen c.args.world.now) c.args.slots.now.items c.args.slots.now.items refl

pub returns-clause-midst : goal.returns-clause-midst
returns-clause-midst g c =
    let within : c.args.number < length c.args.slots.now.items = search rules in
    let got : c.replace-slot.result ≡ get_or c.args.slots.now.items c.args.number c.replace-slot.result = search rules in
    let same : redials (at_number (handles_in g.N.L.Link.looks (g.N.Dialer.seen c.args.world.now).plans c.args.slots.now.items) c.args.number) c.args.work ≡ redials (handle_of g.N.L.Link.looks c.replace-slot.result) c.args.work = redials_here g.N.L.Link.looks (g.N.Dialer.seen c.args.world.now).plans c.args.slots.now.items c.args.number c.replace-slot.result c.args.work within got in
    midst_put _ (redials (handle_of g.N.L.Link.looks c.replace-slot.result) c.args.work) c.args.number (g.N.Dialer.seen c.args.world.now) (g.N.Dialer.seen c.work_on-slot.new.world) c.args.slots.now.items _ c.replace-slot.result c.work_on-slot.result.0 same within got (search rules) c.work_on-slot.ensures.links c.work_on-slot.ensures.tried
