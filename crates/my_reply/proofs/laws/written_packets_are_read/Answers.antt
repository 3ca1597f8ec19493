use Rattle.std.proofs.Common.{ℕ, Bool, Some, sym, ap, ◌∙◌}
use Rattle.my_reply.specs.declared.column_count.ColumnCount.{ColumnCount}
use Rattle.my_reply.proofs.ServerLaws.{greeting_read_back, ok_read_back, end_ok_read_back, err_read_back, count_read_back, column_read_back}
use Rattle.my_reply.proofs.laws.written_packets_are_read.Goals as goal

pub returns-clause-greeting : goal.returns-clause-greeting
returns-clause-greeting c = greeting_read_back

pub returns-clause-ok : goal.returns-clause-ok
returns-clause-ok c = ok_read_back

pub returns-clause-end_ok : goal.returns-clause-end_ok
returns-clause-end_ok c = λ ok w. end_ok_read_back ok w.fields w.short

pub returns-clause-err : goal.returns-clause-err
returns-clause-err c = err_read_back

pub returns-clause-count : goal.returns-clause-count
returns-clause-count c = λ cached n w.
    count_read_back cached n.count w.some w.few ∙ ap (λ s. Some (numbered n.count s)) (sym w.follow)
  where
    numbered : ℕ → Bool → ColumnCount
    numbered count skipped = record { count = count; skipped = skipped }

pub returns-clause-column : goal.returns-clause-column
returns-clause-column c = column_read_back
