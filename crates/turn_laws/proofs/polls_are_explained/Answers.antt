use Rattle.turn_laws.proofs.Explaining as law
use Rattle.turn_laws.proofs.Standing.{stands_is_explained}
use Rattle.turn_laws.proofs.polls_are_explained.Goals as goal

pub returns-clause-nothing : goal.returns-clause-nothing
returns-clause-nothing c = law.nothing_is_explained

pub returns-clause-begun : goal.returns-clause-begun
returns-clause-begun c = law.begun_is_explained

pub returns-clause-polled : goal.returns-clause-polled
returns-clause-polled c = law.polled_is_explained

pub returns-clause-cancelled : goal.returns-clause-cancelled
returns-clause-cancelled c = law.cancelled_is_explained

pub returns-clause-rest : goal.returns-clause-rest
returns-clause-rest c = law.rest_is_read

pub returns-clause-waiting : goal.returns-clause-waiting
returns-clause-waiting c = law.waiting_is_read

pub returns-clause-stands : goal.returns-clause-stands
returns-clause-stands c = stands_is_explained
