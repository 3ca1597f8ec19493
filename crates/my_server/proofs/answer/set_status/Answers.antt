use Rattle.std.proofs.Common.{◌≡◌, ◌≢◌, ℕ, ap, sym, arith}
use Rattle.std.proofs.lemmas.Bool.Decides.{nat_tests}
use Rattle.my_server.specs.declared.answer.TheConstants.{FURTHER}
use Rattle.my_server.specs.Answer.{set_status}
use Rattle.my_server.proofs.answer.set_status.Goals as goal

further_is : (left : ℕ) → left ≢ 0 → FURTHER ≡ set_status left
further_is left more = grind (arith, nat_tests)

pub returns-then-left-eq0 : goal.returns-then-left-eq0
returns-then-left-eq0 c = ap set_status (sym c.if-left-eq0.true)

pub returns-else-left-eq0 : goal.returns-else-left-eq0
returns-else-left-eq0 c = further_is c.args.left c.if-left-eq0.false
