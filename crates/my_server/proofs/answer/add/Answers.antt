use Rattle.std.proofs.Common.{◌≡◌, [], ◌∷◌, ◌++◌, IfOk, OnOk, subst}
use Rattle.my_server.proofs.answer.add.Goals as goal

pub returns : goal.returns
returns c = λ bytes h.
    let is : c.in_ok-payload.field-0 ≡ bytes = subst (λ r. IfOk r (λ p. p ≡ bytes)) c.in_ok-payload.was h in
    subst (λ x. OnOk c.push.result (c.push.new.self ≡ c.args.payloads.now ++ x ∷ [])) is c.push.ensures.ok
