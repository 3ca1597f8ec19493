use Rattle.std.proofs.Common.{List, ℕ, ◌&&◌, ap, sym, ◌∙◌, drop}
use Rattle.my_reading.specs.Place.{begins_with}
use Rattle.my_judge.proofs.Ends.{begins_so}
use Rattle.my_judge.proofs.stand.Stand.is_sent_right.Goals as goal

pub returns-then-self : goal.returns-then-self
returns-then-self c =
    let s = c.args.self.now in
    c.starts_with.ensures.value ∙ begins_so c.as_slice.result.now c.ahead.result.now
    ∙ ap (λ (bytes : List ℕ). begins_with bytes c.ahead.result.now) c.as_slice.ensures
    ∙ ap (begins_with s.machine.owed) c.ahead.ensures
    ∙ ap (λ b. b && begins_with s.machine.owed (drop s.settled s.sent)) (sym c.if-self.true)
