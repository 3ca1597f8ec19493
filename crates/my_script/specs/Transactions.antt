-- What the lines of a run make of a transaction at a connection: it follows from the steps and their answers alone.
use Rattle.std.specs.Prelude.{Bool, true, false}
use Rattle.my_script.specs.declared.step.Step.{Step}
use Rattle.my_script.specs.declared.step.Step.TheVariants as steps
use Rattle.my_script.specs.declared.transaction.Transaction.{Transaction}
use Rattle.my_script.specs.declared.transaction.Transaction.TheVariants.{Without, Beginning, There, Nesting, Ending}
use Rattle.my_script.specs.declared.transcript.Outcome.{Outcome}
use Rattle.my_script.specs.declared.transcript.Outcome.TheVariants.{Done, Pending}

-- one begins: it is there once that was answered
abbrev pub after_beginning : Outcome → Transaction
after_beginning Done = There
after_beginning Pending = Beginning
after_beginning outcome = Without

-- a second one is to begin: the first stays there
abbrev pub after_nesting : Outcome → Transaction
after_nesting Pending = Nesting
after_nesting outcome = There

-- it is committed or rolled back: it isn't there any more then, also where that failed
abbrev pub after_ending : Outcome → Transaction
after_ending Pending = Ending
after_ending outcome = Without

abbrev pub after_begin : Transaction → Outcome → Transaction
after_begin Without outcome = after_beginning outcome
after_begin transaction outcome = after_nesting outcome

-- the open call goes on
abbrev pub after_poll : Transaction → Outcome → Transaction
after_poll Without outcome = Without
after_poll Beginning outcome = after_beginning outcome
after_poll There outcome = There
after_poll Nesting outcome = after_nesting outcome
after_poll Ending outcome = after_ending outcome

-- the open call is cancelled: what was there before it is there
abbrev pub after_cancel : Transaction → Transaction
after_cancel Without = Without
after_cancel Beginning = Without
after_cancel There = There
after_cancel Nesting = There
after_cancel Ending = There

-- After a step at its number that isn't refused: all but these leave it.
abbrev pub transaction_after : Transaction → Step → Outcome → Transaction
transaction_after transaction (steps.Begin n opts) outcome = after_begin transaction outcome
transaction_after transaction (steps.Commit n) outcome = after_ending outcome
transaction_after transaction (steps.Rollback n) outcome = after_ending outcome
transaction_after transaction (steps.ForgetTransaction n) outcome = Without
transaction_after transaction (steps.Poll n) outcome = after_poll transaction outcome
transaction_after transaction (steps.Cancel n) outcome = after_cancel transaction
transaction_after transaction step outcome = transaction

-- one is committed, rolled back or given up only where it is there and no begin, commit or rollback of it is open
abbrev pub is_begun : Transaction → Bool
is_begun There = true
is_begun transaction = false
