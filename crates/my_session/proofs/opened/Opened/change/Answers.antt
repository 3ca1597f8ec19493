use Rattle.std.proofs.Common.{sym}
use Rattle.my_session.proofs.Adopting.{others_unchanging}
use Rattle.my_session.proofs.opened.Opened.change.Goals as goal

pub returns-in_default : goal.returns-in_default
returns-in_default c = sym (others_unchanging c.args.login.now c.args.self.now.call c.args.self.now.progress c.in_default.not-ChangeUser)
