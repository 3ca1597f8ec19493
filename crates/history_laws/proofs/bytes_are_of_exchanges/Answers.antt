use Rattle.history_laws.proofs.Sending as sending
use Rattle.history_laws.proofs.Spelling as spelling
use Rattle.history_laws.proofs.bytes_are_of_exchanges.Goals as goal

pub returns-clause-received : goal.returns-clause-received
returns-clause-received c = spelling.each_is_spelled

pub returns-clause-sent : goal.returns-clause-sent
returns-clause-sent c = sending.each_is_sent

pub returns-clause-said : goal.returns-clause-said
returns-clause-said c = sending.each_is_said
