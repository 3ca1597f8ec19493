-- What the judge reads of a tape: bytes and calls, without where they lie in memory.
use Rattle.std.specs.Prelude.{ℕ, List, [], ◌∷◌, ◌==◌, if◌then◌else◌}
use Rattle.my_script.specs.declared.transcript.Tape.{Tape}
use Rattle.my_script.specs.declared.transcript.TapeCall.{TapeCall}

pub record TapeSeen : Type 0 where
  pub sent : List ℕ
  pub taken : List ℕ
  pub calls : List TapeCall

abbrev pub seen : Tape → TapeSeen
seen t = record { sent = t.sent.items; taken = t.taken.items; calls = t.calls.items }

abbrev pub nothing_seen : TapeSeen
nothing_seen = record { sent = []; taken = []; calls = [] }

-- the tape with this number; without one the connection had no link
abbrev pub seen_at : ℕ → List Tape → TapeSeen
seen_at n [] = nothing_seen
seen_at n (t ∷ ts) = if t.number == n then seen t else seen_at n ts
