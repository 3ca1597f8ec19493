use Rattle.reading_laws.proofs.Finding as law
use Rattle.reading_laws.proofs.cached_is_returned_at_once.Goals as goal

pub returns-clause-cached : goal.returns-clause-cached
returns-clause-cached c = law.cached_is_returned

pub returns-clause-others : goal.returns-clause-others
returns-clause-others c = law.others_are_asked_for
