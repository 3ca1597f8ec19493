-- When a connection is as it was when it was made, so that it may go to its next user.
use Rattle.std.specs.Prelude.{◌≡◌, List, [], ◌∷◌, is_some, Bool, true, false, not, ◌&&◌}
use Rattle.my_grammar.specs.declared.login.Login.{Login}
use Rattle.my_grammar.specs.Cut.{is_over}
use Rattle.my_reading.specs.declared.transaction.TxStatus.TheVariants.{None}
use Rattle.my_reading.specs.Place.{Place}
use Rattle.my_reading.specs.Reading.{reading}
use Rattle.my_reading.specs.Tape.{Tape, TapeCall}

-- no call is open
abbrev pub have_ended : List TapeCall → Bool
have_ended [] = true
have_ended (c ∷ cs) = is_some c.ending && have_ended cs

-- nothing is left of the newest response, nor an end to be returned
abbrev pub is_read_whole : Place → Bool
is_read_whole p = is_over p.talk && not p.end_left

-- The connection is open, no call of it is, each response was read whole, and there is no transaction.
pub record IsClean (login : Login) (t : Tape) : Type 0 where
  pub alive : (reading login t).closed ≡ false
  pub ended : have_ended t.calls ≡ true
  pub read : is_read_whole (reading login t).place ≡ true
  pub status : (reading login t).place.status ≡ None
