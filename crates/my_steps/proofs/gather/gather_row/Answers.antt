use Rattle.std.proofs.Common.{◌≡◌, ◌++◌, ◌∷◌, [], rules}
use Rattle.std.proofs.lemmas.Result.{IfOk-weaker}
use Rattle.my_steps.specs.Sums.{use_of}
use Rattle.my_steps.proofs.gather.gather_row.Goals as goal

pub returns-in-Ok : goal.returns-in-Ok
returns-in-Ok g c =
    let more : c.push.new.self.items ≡ c.args.uses.now.items ++ use_of c.args.number c.in_ok-after.met ∷ [] = search rules in
    IfOk-weaker c.keep_row.result _ _ (λ over f. record {
      after = c.in_ok-after.after;
      met = c.in_ok-after.met;
      polled = c.in_ok-after.ensures.polled;
      left = c.in_ok-after.ensures.left;
      keeps = f;
      uses = more;
    }) c.keep_row.ensures
