use Rattle.std.proofs.Common.{◌≡◌, ◌++◌, length, map}
use Rattle.my_command.specs.Client.Packet.{long_data_bytes}
use Rattle.my_params.specs.LongData.{pieces_of}
use Rattle.my_params.proofs.ahead.add_pieces.Given as goal

abbrev pub invariant-pieces : goal.invariant-pieces
invariant-pieces l = l.payloads ++ map (long_data_bytes l.id l.place) (pieces_of l.rest)
    ≡ l.fn.payloads ++ map (long_data_bytes l.id l.place) (pieces_of l.bytes)

abbrev pub decreases-pieces : goal.decreases-pieces
decreases-pieces l = length l.rest
