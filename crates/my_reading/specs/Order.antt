-- The order in which the calls of a tape stand.
use Rattle.std.specs.Prelude.{◌≡◌, ◌==◌, nat_le, List, [], ◌∷◌, length, is_some, Bool, true, ◌&&◌}
use Rattle.my_reading.specs.Tape.{Tape, TapeCall}

-- The first call begins with the first bytes of both sides. Without a call there are no bytes.
abbrev pub begins_first : Tape → List TapeCall → Bool
begins_first t [] = (length t.sent == 0) && (length t.taken == 0)
begins_first t (c ∷ cs) = (c.sent_from == 0) && (c.taken_from == 0)

-- a call begins among the tape's bytes, or at their end
abbrev pub is_within : Tape → TapeCall → Bool
is_within t c = nat_le c.sent_from (length t.sent) && nat_le c.taken_from (length t.taken)

-- a call ended before the next one began, which doesn't begin before it
abbrev pub leads_to : TapeCall → List TapeCall → Bool
leads_to c [] = true
leads_to c (d ∷ cs) = is_some c.ending && nat_le c.sent_from d.sent_from && nat_le c.taken_from d.taken_from

abbrev pub are_in_order : Tape → List TapeCall → Bool
are_in_order t [] = true
are_in_order t (c ∷ cs) = is_within t c && leads_to c cs && are_in_order t cs

-- The calls of a tape stand in order: the first one begins with the first bytes, each other one where an earlier one ended or after it,
-- and only the newest one may be open.
pub record IsInOrder (t : Tape) : Type 0 where
  pub first : begins_first t t.calls ≡ true
  pub order : are_in_order t t.calls ≡ true
