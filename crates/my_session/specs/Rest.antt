-- Whether something is left of earlier calls: something of a response is unread, or a transaction is neither committed nor rolled back.
use Rattle.std.specs.Prelude.{Bool, true, false}
use Rattle.my_grammar.specs.declared.spot.Spot.{Spot}
use Rattle.my_grammar.specs.declared.spot.Spot.TheVariants.{Idle}
use Rattle.my_reading.specs.declared.transaction.TxStatus.{TxStatus}
use Rattle.my_reading.specs.declared.transaction.TxStatus.TheVariants as txs

-- the end of a lone OK may be still to be returned where nothing is awaited
abbrev pub rest_at : Spot → Bool → Bool
rest_at Idle end_left = end_left
rest_at _ end_left = true

abbrev pub has_transaction : TxStatus → Bool
has_transaction txs.None = false
has_transaction txs.InTransaction = true
has_transaction txs.RequiresRollback = true
