use Rattle.reading_laws.proofs.Cleaned as law
use Rattle.reading_laws.proofs.cleaned_connections_are_clean.Goals as goal

pub returns-clause-clean : goal.returns-clause-clean
returns-clause-clean c = law.cleaned_is_clean

pub returns-clause-cleaned : goal.returns-clause-cleaned
returns-clause-cleaned c = law.cleaning_cleans

pub returns-clause-renewed : goal.returns-clause-renewed
returns-clause-renewed c = law.renewal_refreshes

pub returns-clause-changed : goal.returns-clause-changed
returns-clause-changed c = law.change_refreshes
