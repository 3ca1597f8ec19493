use Rattle.query_laws.proofs.Commits as law
use Rattle.query_laws.proofs.commits_are_answered.Goals as goal

pub returns : goal.returns
returns g c = law.commit_is_answered _
