-- A poll that reads goes on from one read to the next, and ends.
use Rattle.std.proofs.Common.{◌≡◌, refl, sym, ap, subst, ◌∙◌, ◌+◌, ◌-◌, ◌≤◌, ℕ, List, [], ◌∷◌, ◌++◌, length, arith}
use Rattle.std.proofs.lemmas.List.{append_assoc, append-nil, length-append}
use Rattle.my_frame.specs.declared.limits.TheConstants.{MOST_TAKEN}
use Rattle.my_frame.specs.Codec.{Codec}
use Rattle.my_link.specs.Looks.{Looks}
use Rattle.my_link.specs.Moves.{Move, Received as Came, Leads, received_by}
use Rattle.my_packets.specs.Reading.{HasNone, Comes, EachNeeded}

-- so far in a poll that goes on
pub record ReadSoFar (x y : Looks) (c d : Codec) (before after : List ℕ) (taken : ℕ) : Type 0 where
  pub moves : List Move
  pub leads : Leads moves x y
  pub needed : EachNeeded c before moves
  pub count : length (received_by moves) ≡ taken
  pub within : taken ≤ MOST_TAKEN
  pub bytes : after ≡ before ++ received_by moves
  pub codec : d ≡ c

-- nothing was read yet
pub unread : (x : Looks) (c : Codec) (before : List ℕ) → ReadSoFar x x c c before before 0
unread x c before = record {
  moves = [];
  leads = refl;
  needed = _;
  count = refl;
  within = omega (arith);
  bytes = sym (append-nil before);
  codec = refl;
}

-- one read more, where no payload was there
pub came_too : (x y z : Looks) (c d e : Codec) (before after same later : List ℕ) (taken n : ℕ)
    → ReadSoFar x y c d before after taken → (e ≡ d) × (same ≡ after) × HasNone d after
    → Comes y z same later (MOST_TAKEN - taken) n → ReadSoFar x z c e before later (taken + n)
came_too x y z c d e before after same later taken n so (codec, bytes, none) w = record {
  moves = Came w.bytes ∷ so.moves;
  leads = (y, so.leads, (omega (arith, w.count, w.some), w.looks));
  needed = (subst (λ front. HasNone c front) so.bytes (subst (λ k. HasNone k after) so.codec none), so.needed);
  count = omega (arith, so.count, w.count, length-append (received_by so.moves) w.bytes);
  within = omega (arith, so.within, w.within);
  bytes = w.added ∙ ap (λ front. front ++ w.bytes) (bytes ∙ so.bytes) ∙ append_assoc before (received_by so.moves) w.bytes;
  codec = codec ∙ so.codec;
}
