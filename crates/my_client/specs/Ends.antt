-- How the open call is kept once it ended.
use Rattle.std.specs.Prelude.{◌≡◌, Some}
use Rattle.my_client.specs.declared.poll.After.{After}
use Rattle.my_client.specs.declared.poll.After.TheVariants.{Pending, Answered, Failed}
use Rattle.my_client.specs.declared.tape.Said.{Said}
use Rattle.my_client.specs.declared.tape.Said.TheVariants as says
use Rattle.my_client.specs.Kept.{Asked, Kept, ended_by}

-- what a poll returned is kept
abbrev pub kept_after : Kept → Asked → After → Kept
kept_after k a Pending = k
kept_after k a (Answered answer) = ended_by k a (says.Answered answer)
kept_after k a (Failed e) = ended_by k a (says.Failed e)

-- where a call was open, it is kept as ended so, or as the poll left it
abbrev pub EndsBy : Kept → Kept → Said → Type 0
EndsBy k end said = (a : Asked) → k.pending ≡ Some a → end ≡ ended_by k a said

abbrev pub KeepsBy : Kept → Kept → After → Type 0
KeepsBy k end after = (a : Asked) → k.pending ≡ Some a → end ≡ kept_after k a after
