use Rattle.std.proofs.Common.{Some, ap, sym, slice_get}
use Rattle.my_reading.specs.Transactions.{level_texts}
use Rattle.my_reading.proofs.transaction.level_text.Goals as goal

pub returns-in-ReadUncommitted : goal.returns-in-ReadUncommitted
returns-in-ReadUncommitted c = ap (λ level. slice_get (level_texts (Some level)) 0) (sym c.in-ReadUncommitted.is)

pub returns-in-ReadCommitted : goal.returns-in-ReadCommitted
returns-in-ReadCommitted c = ap (λ level. slice_get (level_texts (Some level)) 0) (sym c.in-ReadCommitted.is)

pub returns-in-RepeatableRead : goal.returns-in-RepeatableRead
returns-in-RepeatableRead c = ap (λ level. slice_get (level_texts (Some level)) 0) (sym c.in-RepeatableRead.is)

pub returns-in-Serializable : goal.returns-in-Serializable
returns-in-Serializable c = ap (λ level. slice_get (level_texts (Some level)) 0) (sym c.in-Serializable.is)
