use Rattle.std.proofs.Common.{◌∙◌}
use Rattle.my_server.proofs.LoginLaws.{found_is, login_again}
use Rattle.my_server.proofs.login.read_login.Goals as goal

pub returns-clause-found : goal.returns-clause-found
returns-clause-found c = found_is c.args.payload.now c.login_of.result c.login_of.ensures

pub returns-clause-only : goal.returns-clause-only
returns-clause-only c = λ login w. c.login_of.ensures ∙ login_again c.args.payload.now login w
