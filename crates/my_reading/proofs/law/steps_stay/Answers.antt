use Rattle.my_reading.proofs.Staying as law
use Rattle.my_reading.proofs.law.steps_stay.Goals as goal

pub returns-clause-step : goal.returns-clause-step
returns-clause-step c = law.step_stays

pub returns-clause-leading : goal.returns-clause-leading
returns-clause-leading c = law.leading_stays
