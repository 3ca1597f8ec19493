-- The payloads of a value's pieces.
use Rattle.std.proofs.Common.{◌≡◌, ℕ, suc, ◌-◌, ◌<◌, List, [], ◌∷◌, ◌++◌, length, take, drop, map, sym, ap, ◌∙◌, arith, append_assoc, length-drop}
use Rattle.std.specs.Prelude.{◌/◌}
use Rattle.my_command.specs.Client.Packet.{long_data_bytes}
use Rattle.my_params.specs.declared.ahead.TheConstants.{MOST_LONG_PIECE}
use Rattle.my_params.specs.LongData.{pieces_of, split_pieces}

more_pieces : (bytes : List ℕ) → MOST_LONG_PIECE < length bytes → pieces_of bytes ≡ take MOST_LONG_PIECE bytes ∷ pieces_of (drop MOST_LONG_PIECE bytes)
more_pieces bytes long =
    let more : (length bytes - 1) / MOST_LONG_PIECE ≡ suc ((length (drop MOST_LONG_PIECE bytes) - 1) / MOST_LONG_PIECE) = omega (arith, length-drop MOST_LONG_PIECE bytes) in
    ap (λ count. split_pieces count bytes) more

-- a piece goes from the front of what is left to what was sent
pub piece_added : (id place : ℕ) (sent all : List (List ℕ)) (rest : List ℕ) → MOST_LONG_PIECE < length rest → sent ++ map (long_data_bytes id place) (pieces_of rest) ≡ all
    → (sent ++ long_data_bytes id place (take MOST_LONG_PIECE rest) ∷ []) ++ map (long_data_bytes id place) (pieces_of (drop MOST_LONG_PIECE rest)) ≡ all
piece_added id place sent all rest long e =
    append_assoc sent (long_data_bytes id place (take MOST_LONG_PIECE rest) ∷ []) (map (long_data_bytes id place) (pieces_of (drop MOST_LONG_PIECE rest)))
    ∙ ap (λ pieces. sent ++ map (long_data_bytes id place) pieces) (sym (more_pieces rest long)) ∙ e
