-- What notes say of a connection.
use Rattle.std.specs.Prelude.{ℕ, ◌≡◌, List, ◌++◌, Option, Some, None}
use Rattle.my_client.specs.declared.tape.Tape.{Tape}
use Rattle.my_client.specs.Conn.{kept_in}
use Rattle.my_client.specs.Kept.{Kept}

-- where a tape is kept, it keeps this
abbrev pub Agrees : Option Tape → Kept → Type 0
Agrees None k = Unit {0}
Agrees (Some t) k = kept_in t ≡ k

-- these bytes were sent, or taken
abbrev pub with_sent : Kept → List ℕ → Kept
with_sent k bytes = record { sent = k.sent ++ bytes; taken = k.taken; calls = k.calls; pending = k.pending }

abbrev pub with_taken : Kept → List ℕ → Kept
with_taken k bytes = record { sent = k.sent; taken = k.taken ++ bytes; calls = k.calls; pending = k.pending }

-- a tape that agreed with what was kept agrees with it and these bytes
abbrev pub NotesSent : Option Tape → Option Tape → List ℕ → Type 0
NotesSent p q bytes = (k : Kept) → Agrees p k → Agrees q (with_sent k bytes)

abbrev pub NotesTaken : Option Tape → Option Tape → List ℕ → Type 0
NotesTaken p q bytes = (k : Kept) → Agrees p k → Agrees q (with_taken k bytes)
