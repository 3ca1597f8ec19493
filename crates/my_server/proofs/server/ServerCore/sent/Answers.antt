use Rattle.my_server.specs.Core.{served}
use Rattle.my_server.proofs.Standing.{sent_stands}
use Rattle.my_server.proofs.server.ServerCore.sent.Goals as goal

pub returns-clause-stands : goal.returns-clause-stands
returns-clause-stands c = rw (c.advance.ensures.items, ← c.self.view_is) (λ h st. sent_stands (served c.self.inside) h c.args.count st)
