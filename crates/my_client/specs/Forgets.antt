-- What giving a transaction up does to a line.
use Rattle.std.specs.Prelude.{Option, None}
use Rattle.my_grammar.specs.declared.login.Login.{Login}
use Rattle.my_reading.specs.declared.answer.Answer.{Answer}
use Rattle.my_reading.specs.declared.answer.Answer.TheVariants.{Ready}
use Rattle.my_reading.specs.declared.call.Call.TheVariants.{ForgetTransaction}
use Rattle.my_client.specs.declared.tape.Said.TheVariants.{Answered}
use Rattle.my_client.specs.declared.tape.Tape.{Tape}
use Rattle.my_client.specs.Kept.{Asked, Kept, asked_by, asking, ended_by}
use Rattle.my_session.specs.Sessions.{Seen}
use Rattle.my_client.specs.Stands.{Returned, StandsAsked}
use Rattle.my_client.specs.StandsFor.{StandsFor}

-- a step answered the open call so, whatever the session may have done before
abbrev pub EachAnswered : Seen → Seen → Answer → Type 0
EachAnswered s t answer = (login : Login) (k : Kept) (a : Asked) → StandsAsked login s k a
    → Returned login t k a (Answered answer)

-- the call that gives the transaction up began, and was answered before a byte was sent or received
abbrev pub forgotten : Kept → Kept
forgotten k = ended_by (asking k ForgetTransaction None) (asked_by k ForgetTransaction) (Answered Ready)

abbrev pub EachForget : Seen → Seen → Option Tape → Option Tape → Type 0
EachForget s t p q = (login : Login) (k : Kept) → StandsFor login s p None k → StandsFor login t q None (forgotten k)
