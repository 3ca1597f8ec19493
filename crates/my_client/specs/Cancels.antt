-- What the cancelling of a call does to a line.
use Rattle.std.specs.Prelude.{◌≡◌, Option, Some}
use Rattle.my_grammar.specs.declared.login.Login.{Login}
use Rattle.my_reading.specs.Calls.{kind_of}
use Rattle.my_reading.specs.Endings.{closes_cancelled}
use Rattle.my_client.specs.declared.tape.Said.TheVariants as says
use Rattle.my_client.specs.declared.tape.Tape.{Tape}
use Rattle.my_client.specs.Kept.{Asked, Kept, ended_by}
use Rattle.my_client.specs.Notes.{Agrees}
use Rattle.my_client.specs.Reads.{place_kept}
use Rattle.my_session.specs.Sessions.{Seen}
use Rattle.my_client.specs.Stands.{Rests}

-- The open call ended so: it closed the connection exactly where the grammar says that its cancelling does.
abbrev pub cancelled_by : Login → Kept → Asked → Kept
cancelled_by login k a = ended_by k a (says.Cancelled (closes_cancelled (kind_of a.call) (place_kept login k)))

-- what is kept after it, for which the session stands
pub record CancelFor (login : Login) (t : Seen) (q : Option Tape) (k : Kept) (a : Asked) : Type 0 where
  pub rests : Rests login t (cancelled_by login k a)
  pub agrees : Agrees q (cancelled_by login k a)

abbrev pub EachCancel : Seen → Seen → Option Tape → Option Tape → Type 0
EachCancel s t p q = (login : Login) (k : Kept) (a : Asked) → Rests login s k → k.pending ≡ Some a → Agrees p k
    → CancelFor login t q k a
