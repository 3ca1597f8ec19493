-- What no making of a connection does, and no cancelling of a call.
use Rattle.std.specs.Prelude.{ℕ, ◌≡◌, List, Some}
use Rattle.my_grammar.specs.declared.login.Login.{Login}
use Rattle.my_link.specs.Aid.{IsTold}
use Rattle.my_link.specs.declared.aid.AfterStep.{AfterStep}
use Rattle.my_link.specs.declared.aid.AfterStep.TheVariants.{Refuse}
use Rattle.my_reading.specs.declared.call.Call.TheVariants.{Query}
use Rattle.my_session.specs.Sessions.{Seen}
use Rattle.my_client.specs.Cancels.{EachCancel}
use Rattle.my_client.specs.Kept.{Asked, Kept}
use Rattle.my_client.specs.Notes.{Agrees}
use Rattle.my_client.specs.Stands.{Rests}
use Rattle.my_client.specs.Texts.{Ends, Follows}
use Rattle.my_client.specs.declared.tape.Tape.{Tape}
use Rattle.my_client.specs.declared.texts.Making.TheVariants.{Shakes, Asks}

-- the next text is sent before the result of the one in front of it was read
abbrev pub NoUnreadResult : Type 0
NoUnreadResult = (texts : ℕ → AfterStep) (n m : ℕ) (text : List ℕ) → Follows (Some texts) (Asks n) (Asks m) (Query text) → ⊥

-- the aid refuses the connection after the login, and it is said to be made
abbrev pub NoPassedRefusal : Type 0
NoPassedRefusal = (texts : ℕ → AfterStep) (text : List ℕ) → IsTold (Some texts) 0 (Refuse text)
    → Ends (Some texts) Shakes → ⊥

-- a call is cancelled, and stays open on the tape
abbrev pub NoMissedCancel : Type 0
NoMissedCancel = (login : Login) (s later : Seen) (tape : Tape) (k : Kept) (a : Asked) → Rests login s k
    → k.pending ≡ Some a → Agrees (Some tape) k → EachCancel s later (Some tape) (Some tape) → ⊥
