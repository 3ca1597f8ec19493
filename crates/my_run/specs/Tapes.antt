-- Tapes as a transcript shows them.
use Rattle.std.specs.Prelude.{ℕ, suc, List, [], ◌∷◌, ◌++◌, map, Option, Some, None, option_map, Result, Ok, Err}
use Rattle.my_reading.specs.declared.answer.Answer.{Answer}
use Rattle.my_reading.specs.declared.error.Error.{Error}
use Rattle.my_client.specs.declared.tape.DoneCall.{DoneCall}
use Rattle.my_client.specs.declared.tape.Said.{Said}
use Rattle.my_client.specs.declared.tape.Said.TheVariants.{Answered, Failed, Cancelled}
use Rattle.my_script.specs.declared.transcript.Tape.{Tape}
use Rattle.my_script.specs.declared.transcript.TapeCall.{TapeCall}
use Rattle.my_steps.specs.Handle.{Handle, Absent, Dialing, Joined}
use Rattle.my_client.specs.Kept.{Asked, Kept}
use Rattle.my_link.specs.World.{Back}

-- a call that was cancelled has no answer
abbrev pub answer_in : Said → Option (Result Answer Error)
answer_in (Answered answer) = Some (Ok answer)
answer_in (Failed error) = Some (Err error)
answer_in (Cancelled closing) = None

abbrev pub tape_call : DoneCall → TapeCall
tape_call d = record { call = d.call; sent_from = d.sent_from; answer = answer_in d.said }

-- nor has one that is open
abbrev pub open_call : Option Asked → List TapeCall
open_call None = []
open_call (Some a) = record { call = a.call; sent_from = a.sent_from; answer = None } ∷ []

-- a tape, without where it lies in memory
pub record TapeView : Type 0 where
  pub number : ℕ
  pub sent : List ℕ
  pub taken : List ℕ
  pub calls : List TapeCall

abbrev pub tape_view : Tape → TapeView
tape_view t = record { number = t.number; sent = t.sent.items; taken = t.taken.items; calls = t.calls.items }

abbrev pub tape_of : ℕ → Kept → TapeView
tape_of n k =
    record { number = n; sent = k.sent; taken = k.taken; calls = map tape_call k.calls ++ open_call k.pending }

-- a number whose dial didn't give a link has no tape
abbrev pub tape_at : ℕ → Handle → List TapeView
tape_at n Absent = []
tape_at n (Dialing left) = []
tape_at n (Joined there k x) = tape_of n k ∷ []

-- what these numbers have, from this one on
abbrev pub all_in : {T : Type 0} → (ℕ → Handle → List T) → ℕ → List Handle → List T
all_in at n [] = []
all_in at n (h ∷ hs) = at n h ++ all_in at (suc n) hs

abbrev pub tapes_in : ℕ → List Handle → List TapeView
tapes_in n hs = all_in tape_at n hs

-- the link of a number
abbrev pub links_at : ℕ → Handle → List Back
links_at n Absent = []
links_at n (Dialing left) = []
links_at n (Joined there k x) = record { number = n; looks = x } ∷ []

abbrev pub links_in : ℕ → List Handle → List Back
links_in n hs = all_in links_at n hs

-- these links more were handed back, where that is told
abbrev pub with_links : List Back → Option (List Back) → Option (List Back)
with_links links back = option_map (λ bs. bs ++ links) back
