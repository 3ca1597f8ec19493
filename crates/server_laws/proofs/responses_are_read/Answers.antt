use Rattle.server_laws.proofs.ResponseLaws.{response_read_back}
use Rattle.server_laws.proofs.responses_are_read.Goals as goal

pub returns : goal.returns
returns c = response_read_back
