use Rattle.my_params.proofs.Bodies.Dates.{date_back, time_back}
use Rattle.my_params.proofs.laws.dates_are_read_back.Goals as goal

pub returns-clause-dates : goal.returns-clause-dates
returns-clause-dates c = date_back

pub returns-clause-times : goal.returns-clause-times
returns-clause-times c = time_back
