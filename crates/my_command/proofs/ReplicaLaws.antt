-- How long the named transactions are when written.
use Rattle.std.proofs.Common.{◌≡◌, ℕ, ◌+◌, ◌*◌, List, [], ◌∷◌, ◌++◌, length, refl, sym, ap, ◌∙◌, arith, length-append}
use Rattle.std.proofs.lemmas.List.Concat.{flat_map-cons}
use Rattle.std.proofs.lemmas.List.Sums.{sum_by-cons}
use Rattle.std.specs.List.{flat_map, sum_by}
use Rattle.my_frame.specs.Writing.{le_bytes}
use Rattle.my_command.specs.Client.Transactions.{Transactions}
use Rattle.my_command.specs.Client.Replica.{interval_bytes, intervals_bytes, sid_bytes, sid_length, gtid_block, block_length}
use Rattle.my_frame.proofs.WritingLaws.{length-le_bytes}

intervals_length : (intervals : List (ℕ × ℕ)) → length (intervals_bytes intervals) ≡ 16 * length intervals
intervals_length [] = refl
intervals_length (i ∷ intervals) =
    let e : length (intervals_bytes (i ∷ intervals)) ≡ length (interval_bytes i) + length (intervals_bytes intervals) =
    ap length (flat_map-cons interval_bytes i intervals) ∙ length-append (interval_bytes i) (intervals_bytes intervals) in
    let one : length (interval_bytes i) ≡ length (le_bytes 8 i.0) + length (le_bytes 8 i.1) = length-append (le_bytes 8 i.0) (le_bytes 8 i.1) in
    let a = length-le_bytes 8 i.0 in
    let b = length-le_bytes 8 i.1 in
    let h = intervals_length intervals in
    omega arith

sid_long : (s : Transactions) → length (sid_bytes s) ≡ sid_length s
sid_long s =
    let count = le_bytes 8 (length s.intervals) in
    let pairs = intervals_bytes s.intervals in
    let e : length (sid_bytes s) ≡ length (s.uuid ++ count) + length pairs = length-append (s.uuid ++ count) pairs in
    let f : length (s.uuid ++ count) ≡ length s.uuid + length count = length-append s.uuid count in
    let a = length-le_bytes 8 (length s.intervals) in
    let b = intervals_length s.intervals in
    omega arith

sids_long : (sids : List Transactions) → length (flat_map sid_bytes sids) ≡ sum_by sid_length sids
sids_long [] = refl
sids_long (s ∷ sids) =
    ap length (flat_map-cons sid_bytes s sids) ∙ length-append (sid_bytes s) (flat_map sid_bytes sids) ∙ ap (λ n. n + length (flat_map sid_bytes sids)) (sid_long s) ∙ ap (λ n. sid_length s + n) (sids_long sids) ∙ sym (sum_by-cons sid_length s sids)

pub block_long : (sids : List Transactions) → length (gtid_block sids) ≡ block_length sids
unfolding gtid_block
block_long sids =
    length-append (le_bytes 8 (length sids)) (flat_map sid_bytes sids) ∙ ap (λ n. n + length (flat_map sid_bytes sids)) (length-le_bytes 8 (length sids)) ∙ ap (λ n. 8 + n) (sids_long sids)
