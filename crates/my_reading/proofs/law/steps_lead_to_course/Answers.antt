use Rattle.my_reading.proofs.Leading as law
use Rattle.my_reading.proofs.law.steps_lead_to_course.Goals as goal

pub returns : goal.returns
returns c = law.leads_to_course
