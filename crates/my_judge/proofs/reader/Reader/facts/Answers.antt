use Rattle.std.proofs.Common.{ap}
use Rattle.my_machine.specs.declared.stand.Stand.{Stand as Machine}
use Rattle.my_judge.proofs.reader.Reader.facts.Goals as goal

pub returns : goal.returns
returns c = λ login p at. ap (λ (m : Machine). m.facts) at.machine_is
