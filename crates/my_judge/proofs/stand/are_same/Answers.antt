use Rattle.std.proofs.Common.{arith}
use Rattle.std.proofs.lemmas.Bool.Decides.{nat_tests}
use Rattle.std.proofs.lemmas.Slice.Eq.{slice_eq-Decides}
use Rattle.my_judge.proofs.stand.are_same.Goals as goal

pub returns : goal.returns
returns c = slice_eq-Decides (λ a b. (λ e. grind (arith, nat_tests), λ e. grind (arith, nat_tests))) c.args.a.now c.args.b.now c.eq.result c.eq.ensures
