use Rattle.wire_rows.proofs.Sids.{one_sid_short}
use Rattle.wire_rows.proofs.client.sids.Goals as goal

pub returns : goal.returns
returns c = one_sid_short _ _ (c.gtid_block_has_this_length.ensures _) (rw c.new-all.ensures at c.in_ok-push.ensures.ok) c.in_ok-sid.ensures.uuid c.in_ok-sid.ensures.intervals
