-- How a line's open call is cancelled.
use Rattle.std.proofs.Common.{◌≡◌, Bool, Option, Some, ◌∙◌, subst}
use Rattle.my_grammar.specs.declared.login.Login.{Login}
use Rattle.my_client.specs.declared.tape.Said.TheVariants as says
use Rattle.my_client.specs.declared.tape.Tape.{Tape}
use Rattle.my_client.specs.Kept.{Asked, Kept, ended_by}
use Rattle.my_client.specs.Notes.{Agrees}
use Rattle.my_session.specs.Sessions.{Seen}
use Rattle.my_client.specs.Drives.{CancelLeaves, closes_by}
use Rattle.my_client.specs.Stands.{Stands, Waits, WaitsIn}
use Rattle.my_client.specs.Cancels.{EachCancel}

abbrev pub NotesCancel : Option Tape → Option Tape → Bool → Type 0
NotesCancel p q closing = (k : Kept) (a : Asked) → Agrees p k → k.pending ≡ Some a → Agrees q (ended_by k a (says.Cancelled closing))

pub each_cancel : (s t : Seen) (p q : Option Tape) (closing : Bool) → ((login : Login) (k : Kept) (a : Asked) → Waits login s k a → CancelLeaves login s t k a) → closing ≡ closes_by s t
    → NotesCancel p q closing → EachCancel s t p q
each_cancel s t p q closing cancels is noted login k a rests pending agrees =
    let w : CancelLeaves login s t k a = cancels login k a (subst (WaitsIn login s k) pending rests.waits) in
    record {
      rests = record { stands = subst (λ (b : Bool). Stands login t (ended_by k a (says.Cancelled b))) w.closes w.stands; waits = tt };
      agrees = subst (λ (b : Bool). Agrees q (ended_by k a (says.Cancelled b))) (is ∙ w.closes) (noted k a agrees pending);
    }
