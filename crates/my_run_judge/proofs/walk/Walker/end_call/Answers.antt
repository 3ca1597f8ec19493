use Rattle.std.proofs.Common.{◌≡◌, length, slice_get, Some, arith, refl, sym, ap, ◌∙◌}
use Rattle.std.proofs.lemmas.Option.{slice_get_read}
use Rattle.my_run_judge.specs.Does.{walk_of}
use Rattle.my_run_judge.specs.Seen.{seen}
use Rattle.my_run_judge.proofs.Ending.{read_there}
use Rattle.my_run_judge.proofs.walk.Walker.end_call.Goals as goal

pub returns : goal.returns
returns c = λ p at.
    let call = c.in-Some.call.now in
    let there : slice_get (seen c.args.tape.now).calls c.args.self.now.spot.next ≡ Some call
    = ap (λ cs. slice_get cs c.args.self.now.spot.next) (sym c.deref.ensures.value)
    ∙ slice_get_read c.deref.result.now (length c.deref.result.now) c.args.self.now.spot.next call refl c.in-Some.ensures.lookup.3.0 c.in-Some.ensures.lookup.1 in
    let from : call.sent_from ≡ length p.sent = grind (arith, c.if-call-sent.false, c.sent_len-sent.ensures c.args.login.now p at) in
    rw c.in_ok-right.ensures.spot (read_there c.args.login.now (seen c.args.tape.now) c.args.cancelled (walk_of p c.args.self.now) call c.in_ok-right.right c.read_call.new.self.reader there
    from (c.in_ok-right.ensures.read p at))
