use Rattle.std.proofs.Common.{ℕ, List, Option, Ok, Some, IfOk, sym, subst}
use Rattle.my_frame.specs.Front.{Front, front_at}
use Rattle.my_machine.specs.declared.stand.payload.FoundPayload.{FoundPayload}
use Rattle.my_machine.specs.Found.{Finds}
use Rattle.my_machine.specs.Stands.{IsTurn, with_front}
use Rattle.my_machine.proofs.stand.Stand.read.Goals as goal

pub returns-in-Ok-Some : goal.returns-in-Ok-Some
returns-in-Ok-Some c =
    let s = c.args.self.now in
    let n = s.number in
    let limit = s.context.terms.limit in
    let found = c.in-Ok-Some.found in
    let some = subst (λ (o : Option FoundPayload). Finds n c.as_slice.result.now (front_at n limit c.as_slice.result.now) (Ok o)) c.in-Ok-Some.field-0-is c.in-Ok-Some.ensures in
    let here = subst (λ (bytes : List ℕ). Finds n bytes (front_at n limit bytes) (Ok (Some found))) c.as_slice.ensures some in
    subst (λ (f : Front). IfOk c.read_payload-step.result (λ step. IsTurn (with_front c.args.login.now c.args.part s f) step c.read_payload-step.new.self)) (sym here.whole) c.read_payload-step.ensures
