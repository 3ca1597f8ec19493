-- Transactions: where one stands, the queries that begin and end one, and why one isn't begun.
-- MySQL reference manual, "START TRANSACTION, COMMIT, and ROLLBACK Statements" and "SET TRANSACTION Statement".
use Rattle.std.specs.Prelude.{ℕ, List, [], ◌∷◌, ◌++◌, codes, Option, Some, None, Bool, true, false}
use Rattle.my_handshake.specs.declared.version.ServerVersion.{ServerVersion}
use Rattle.my_opts_parts.specs.declared.transaction.IsolationLevel.{IsolationLevel}
use Rattle.my_opts_parts.specs.Transaction.{level_text}
use Rattle.my_opts_parts.specs.TransactionOptions.{TxView}
use Rattle.my_reading.specs.declared.error.DriverError.{DriverError}
use Rattle.my_reading.specs.declared.error.DriverError.TheVariants.{NestedTransaction, ReadOnlyTransNotSupported}
use Rattle.my_reading.specs.declared.transaction.TxStatus.{TxStatus}
use Rattle.my_reading.specs.declared.transaction.TxStatus.TheVariants as txs
use Rattle.my_reading.specs.Versions.{can_set_access}

-- a transaction that was given up is rolled back before the next command
abbrev pub given_up : TxStatus → TxStatus
given_up txs.None = txs.None
given_up txs.InTransaction = txs.RequiresRollback
given_up txs.RequiresRollback = txs.RequiresRollback

-- and then there is none any more
abbrev pub rolled_back : TxStatus → TxStatus
rolled_back txs.None = txs.None
rolled_back txs.InTransaction = txs.InTransaction
rolled_back txs.RequiresRollback = txs.None

abbrev pub is_given_up : TxStatus → Bool
is_given_up txs.None = false
is_given_up txs.InTransaction = false
is_given_up txs.RequiresRollback = true

abbrev pub commit_text : List ℕ
commit_text = codes "COMMIT"

abbrev pub rollback_text : List ℕ
rollback_text = codes "ROLLBACK"

-- what is set for the next transaction: its level, and whether it only reads
abbrev pub level_texts : Option IsolationLevel → List (List ℕ)
level_texts None = []
level_texts (Some level) = (codes "SET TRANSACTION ISOLATION LEVEL " ++ level_text level) ∷ []

abbrev pub access_texts : Option Bool → List (List ℕ)
access_texts None = []
access_texts (Some true) = codes "SET TRANSACTION READ ONLY" ∷ []
access_texts (Some false) = codes "SET TRANSACTION READ WRITE" ∷ []

abbrev pub start_text : Bool → List ℕ
start_text false = codes "START TRANSACTION"
start_text true = codes "START TRANSACTION WITH CONSISTENT SNAPSHOT"

-- the queries that begin a transaction, in the order in which they are sent
abbrev pub begin_texts : TxView → List (List ℕ)
begin_texts t = level_texts t.isolation_level ++ (access_texts t.readonly ++ start_text t.consistent_snapshot ∷ [])

-- a server that is too old can't be told whether a transaction only reads
abbrev pub access_refusal : Option Bool → Bool → Option DriverError
access_refusal None known = None
access_refusal (Some readonly) true = None
access_refusal (Some readonly) false = Some ReadOnlyTransNotSupported

-- why a transaction isn't begun, where it isn't: there is one
abbrev pub begin_refusal : TxView → ServerVersion → TxStatus → Option DriverError
begin_refusal t v txs.InTransaction = Some NestedTransaction
begin_refusal t v status = access_refusal t.readonly (can_set_access v)
