-- The named transactions of one server are short.
use Rattle.std.proofs.Common.{◌≡◌, ◌<◌, ◌^◌, List, [], ◌∷◌, length, ap, ◌∙◌, arith}
use Rattle.my_command.specs.Client.Transactions.{Transactions}
use Rattle.my_command.specs.Client.Replica.{gtid_block, block_length}

pub one_sid_short : (sids : List Transactions) (s : Transactions) → length (gtid_block sids) ≡ block_length sids → sids ≡ s ∷ [] → length s.uuid ≡ 16 → length s.intervals ≡ 1 → length (gtid_block sids) < 2 ^ 32
one_sid_short sids s long e uuid one =
    let all : length (gtid_block sids) ≡ block_length (s ∷ []) = long ∙ ap block_length e in
    omega arith
