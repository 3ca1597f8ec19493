use Rattle.my_reading.proofs.Quieting as law
use Rattle.my_reading.proofs.law.prepare_tells_nothing.Goals as goal

pub returns : goal.returns
returns c = record { told = law.prepare_tells_nothing }
