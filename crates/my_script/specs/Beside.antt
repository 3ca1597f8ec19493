-- What the lines of a run make at a connection beside its calls: a stream, a transaction, and the aim of its open call.
use Rattle.std.specs.Prelude.{ℕ, ◌==◌, Option, Some, None, Bool, true, if◌then◌else◌}
use Rattle.my_script.specs.declared.beside.Beside.{Beside}
use Rattle.my_script.specs.declared.aim.Aim.TheVariants as aims
use Rattle.my_script.specs.declared.step.Step.{Step}
use Rattle.my_script.specs.declared.step.Step.TheVariants as steps
use Rattle.my_script.specs.declared.stream.Stream.TheVariants as streams
use Rattle.my_script.specs.declared.transaction.Transaction.TheVariants as transactions
use Rattle.my_script.specs.declared.transcript.Outcome.{Outcome}
use Rattle.my_script.specs.declared.transcript.Outcome.TheVariants.{NoSuchHandle}
use Rattle.my_script.specs.Aims.{aim_after}
use Rattle.my_script.specs.Streams.{is_there, stream_after, target}
use Rattle.my_script.specs.Transactions.{is_begun, transaction_after}

-- before the first line
abbrev pub nothing_beside : Beside
nothing_beside = record { stream = streams.Without; transaction = transactions.Without; aim = aims.Row }

-- a step that is refused changes nothing
abbrev pub beside_after : Beside → Step → Outcome → Beside
beside_after b step NoSuchHandle = b
beside_after b step outcome = record {
  stream = stream_after b.stream step outcome;
  transaction = transaction_after b.transaction step outcome;
  aim = aim_after b.aim step;
}

-- at connection n, where the step names this number
abbrev pub beside_named : ℕ → Option ℕ → Beside → Step → Outcome → Beside
beside_named n None b step outcome = b
beside_named n (Some m) b step outcome = if m == n then beside_after b step outcome else b

abbrev pub beside_by : ℕ → Beside → Step → Outcome → Beside
beside_by n b step outcome = beside_named n (target step) b step outcome

-- whether a step finds the stream that it reads or lets go, or the transaction that it ends; the others need neither
abbrev pub finds : Beside → Step → Bool
finds b (steps.Item n) = is_there b.stream
finds b (steps.Unstream n) = is_there b.stream
finds b (steps.Commit n) = is_begun b.transaction
finds b (steps.Rollback n) = is_begun b.transaction
finds b (steps.ForgetTransaction n) = is_begun b.transaction
finds b step = true
