use Rattle.server_laws.proofs.AnswerLaws.{right_answer_known}
use Rattle.server_laws.proofs.answers_are_known.Goals as goal

pub returns-clause-password : goal.returns-clause-password
returns-clause-password c = right_answer_known
