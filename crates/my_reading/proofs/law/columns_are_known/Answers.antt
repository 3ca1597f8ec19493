-- What a client knows of the columns.
use Rattle.my_reading.proofs.Described.{at_rows, kind_known}
use Rattle.my_reading.proofs.law.columns_are_known.Goals as goal

pub returns-clause-known : goal.returns-clause-known
returns-clause-known c = λ t f fits e. (at_rows t fits e).known f

pub returns-clause-all : goal.returns-clause-all
returns-clause-all c = λ t fits e. (at_rows t fits e).all

pub returns-clause-kind : goal.returns-clause-kind
returns-clause-kind c = λ t f p fits. kind_known t f p fits
