use Rattle.my_frame.proofs.ReadingLaws.{finds_exactly}
use Rattle.my_server.specs.ClientLogin.{IsLogin, login_at}
use Rattle.my_server.proofs.LoginLaws.{login_again, login_found}
use Rattle.server_laws.proofs.login_is_read.Goals as goal

pub returns : goal.returns
returns c = finds_exactly login_at IsLogin login_found login_again
