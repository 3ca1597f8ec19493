use Rattle.turn_laws.proofs.Making as law
use Rattle.turn_laws.proofs.wrong_makings_are_refuted.Goals as goal

pub returns-clause-unread : goal.returns-clause-unread
returns-clause-unread c = law.no_unread_result

pub returns-clause-refusal : goal.returns-clause-refusal
returns-clause-refusal c = law.no_passed_refusal

pub returns-clause-cancel : goal.returns-clause-cancel
returns-clause-cancel c = law.no_missed_cancel
