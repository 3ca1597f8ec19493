use Rattle.std.proofs.Common.{inl, inr}
use Rattle.my_run.proofs.Stopping.{err_at}
use Rattle.my_run.proofs.run.end_tape.Goals as goal

pub returns-in-Err-clause-err : goal.returns-in-Err-clause-err
returns-in-Err-clause-err g c = inr c.in-Err.ensures.untold

pub returns-in_err-calls-in-Ok-clause-err : goal.returns-in_err-calls-in-Ok-clause-err
returns-in_err-calls-in-Ok-clause-err g c = err_at c.from_residual.result _ (inl c.in-Ok.ensures.back)
