-- A cut stays.
use Rattle.my_grammar.proofs.Staying.{cut_stays, cut_goes_on}
use Rattle.my_grammar.proofs.laws.cutting_stays.Goals as goal

pub returns-clause-stays : goal.returns-clause-stays
returns-clause-stays c = λ ts bytes more. cut_stays ts bytes more

pub returns-clause-goes_on : goal.returns-clause-goes_on
returns-clause-goes_on c = λ ts us bytes. cut_goes_on ts us bytes
