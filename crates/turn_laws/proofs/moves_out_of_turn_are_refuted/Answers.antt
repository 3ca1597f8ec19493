use Rattle.turn_laws.proofs.Turning as law
use Rattle.turn_laws.proofs.moves_out_of_turn_are_refuted.Goals as goal

pub returns-clause-login : goal.returns-clause-login
returns-clause-login c = law.no_early_login

pub returns-clause-ping : goal.returns-clause-ping
returns-clause-ping c = law.no_early_ping

pub returns-clause-on : goal.returns-clause-on
returns-clause-on c = law.no_reading_on

pub returns-clause-fault : goal.returns-clause-fault
returns-clause-fault c = law.no_fault_out_of_turn
