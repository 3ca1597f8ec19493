use Rattle.turn_laws.proofs.Deciding as law
use Rattle.turn_laws.proofs.errors_are_of_the_reading.Goals as goal

pub returns-clause-step : goal.returns-clause-step
returns-clause-step c = law.each_step_returns

pub returns-clause-call : goal.returns-clause-call
returns-clause-call c = law.each_call_returns

pub returns-clause-poll : goal.returns-clause-poll
returns-clause-poll c = law.each_error_is_own
