use Rattle.run_laws.proofs.Refuting.Streams as law
use Rattle.run_laws.proofs.no_stream_is_wrong.Goals as goal

pub returns : goal.returns
returns c = law.are_no_streams
