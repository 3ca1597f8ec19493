use Rattle.reading_laws.proofs.Cleaned.{connecting_cleans, dropping_reads}
use Rattle.reading_laws.proofs.Newest.{connected_is_clean, dropped_is_clean, renewed_is_clean}
use Rattle.reading_laws.proofs.newest_call_leaves_clean.Goals as goal

pub returns-clause-made : goal.returns-clause-made
returns-clause-made c = connected_is_clean

pub returns-clause-dropped : goal.returns-clause-dropped
returns-clause-dropped c = dropped_is_clean

pub returns-clause-renewed : goal.returns-clause-renewed
returns-clause-renewed c = renewed_is_clean

pub returns-clause-connecting : goal.returns-clause-connecting
returns-clause-connecting c = connecting_cleans

pub returns-clause-dropping : goal.returns-clause-dropping
returns-clause-dropping c = dropping_reads
