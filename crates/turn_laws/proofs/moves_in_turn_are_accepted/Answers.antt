use Rattle.turn_laws.proofs.Turning as law
use Rattle.turn_laws.proofs.moves_in_turn_are_accepted.Goals as goal

pub returns-clause-login : goal.returns-clause-login
returns-clause-login c = law.right_login

pub returns-clause-ping : goal.returns-clause-ping
returns-clause-ping c = law.ping_in_turn
