use Rattle.std.proofs.Common.{◌≡◌, ◌++◌, ◌∷◌, [], rules}
use Rattle.my_run.proofs.Runs.Taping.{call_on}
use Rattle.my_run.proofs.tape.tape_calls.Goals as goal

pub calls-preserved : goal.calls-preserved
calls-preserved c =
    let popped : c.calls.calls.items ≡ c.pop.new.self.items ++ c.in-Some.call ∷ [] = search rules in
    let pushed : c.push.new.self.items ≡ c.calls.tape.items ++ c.tape_call.result ∷ [] = search rules in
    call_on c.calls.calls.items c.pop.new.self.items c.in-Some.call c.calls.tape.items c.push.new.self.items _ c.tape_call.result popped c.tape_call.ensures pushed c.calls.invariant
