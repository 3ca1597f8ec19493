use Rattle.my_server.proofs.Standing.{step_stands}
use Rattle.my_server.proofs.server.ServerCore.step.Goals as goal

pub returns-clause-stands : goal.returns-clause-stands
returns-clause-stands c = λ h st. step_stands c.args.self.now c.advance.new.self h c.advance.result c.advance.ensures.bytes c.advance.ensures.steps st
