use Rattle.std.proofs.Common.{Ok, Err, refl}
use Rattle.my_rows.proofs.rest.fold_answer.Goals as goal

pub returns-in-Ok-clause-folds : goal.returns-in-Ok-clause-folds
returns-in-Ok-clause-folds g c = (Ok c.in-Ok.folded, refl, c.in-Ok.ensures.reads)

pub returns-in-Err-clause-folds : goal.returns-in-Err-clause-folds
returns-in-Err-clause-folds g c = (Err c.in-Err.error, refl, c.in-Err.ensures.reads)
