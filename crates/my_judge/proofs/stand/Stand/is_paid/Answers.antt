use Rattle.std.proofs.Common.{◌≡◌, ℕ, List, take, drop, ap, ◌∙◌, subst}
use Rattle.std.specs.Bool.{Decides}
use Rattle.my_judge.proofs.stand.Stand.is_paid.Goals as goal

pub returns : goal.returns
returns c =
    let s = c.args.self.now in
    let n = c.args.count in
    let sent : c.split_at.result.0.now ≡ take n (drop s.settled s.sent) = c.split_at.ensures.front ∙ ap (take n) c.ahead.ensures in
    let owed : c.split_at-2.result.0.now ≡ take n s.machine.owed = c.split_at-2.ensures.front ∙ ap (take n) c.as_slice.ensures in
    subst (λ (xs : List ℕ). Decides c.are_same.result (xs ≡ take n s.machine.owed)) sent
    (subst (λ (ys : List ℕ). Decides c.are_same.result (c.split_at.result.0.now ≡ ys)) owed c.are_same.ensures)
