use Rattle.turn_laws.proofs.Deciding as law
use Rattle.turn_laws.proofs.polls_are_decided.Goals as goal

pub returns-clause-decided : goal.returns-clause-decided
returns-clause-decided c = law.each_is_decided

pub returns-clause-cause : goal.returns-clause-cause
returns-clause-cause c = law.each_has_cause

pub returns-clause-returned : goal.returns-clause-returned
returns-clause-returned c = law.each_is_returned

pub returns-clause-answer : goal.returns-clause-answer
returns-clause-answer c = law.each_is_answer
