use Rattle.my_frame.proofs.WritingLaws.{number_read_back, len_read_back, text_read_back, text0_read_back}
use Rattle.my_frame.proofs.laws.written_is_read.Goals as goal

pub returns-clause-number : goal.returns-clause-number
returns-clause-number c = number_read_back

pub returns-clause-len : goal.returns-clause-len
returns-clause-len c = len_read_back

pub returns-clause-text : goal.returns-clause-text
returns-clause-text c = text_read_back

pub returns-clause-text0 : goal.returns-clause-text0
returns-clause-text0 c = text0_read_back
