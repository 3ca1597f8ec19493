use Rattle.my_handshake.proofs.AttributeLaws.{put_keeps_order}
use Rattle.my_handshake.proofs.laws.attributes_stay_in_order.Goals as goal

pub returns : goal.returns
returns c = put_keeps_order
