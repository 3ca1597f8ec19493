use Rattle.my_reading.proofs.Keeping as law
use Rattle.my_reading.proofs.law.new_statement_is_first.Goals as goal

pub returns : goal.returns
returns c = law.new_is_first
