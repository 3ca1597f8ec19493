use Rattle.my_params.proofs.Pieces.{piece_added}
use Rattle.my_params.proofs.ahead.add_pieces.Goals as goal

pub pieces-preserved : goal.pieces-preserved
pieces-preserved c = rw (c.in_ok-push.ensures.ok, c.in_ok-long_payload.ensures, c.split_at.ensures.front, c.split_at.ensures.back) (piece_added _ _ _ _ _ c.pieces-test.true c.pieces.invariant)
