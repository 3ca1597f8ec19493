-- What the lines so far made of a connection, by its tape and the one reading of it.
use Rattle.std.specs.Prelude.{◌≡◌, ◌+◌, ℕ, length, slice_get, Option, Some, None, Result, Ok, Err, Bool, true, false, ◌||◌}
use Rattle.my_grammar.specs.declared.login.Login.{Login}
use Rattle.my_reading.specs.declared.answer.Answer.{Answer}
use Rattle.my_reading.specs.declared.error.Error.{Error}
use Rattle.my_reading.specs.Endings.{IsCall}
use Rattle.my_reading.specs.Place.{Place, first_place}
use Rattle.my_reading.specs.Reading.{ReadCall, is_closing}
use Rattle.my_reading.specs.Tape.{Span, between}
use Rattle.my_reading.specs.Told.{Told, ToldError, Dropped, told}
use Rattle.my_run_judge.specs.Seen.{TapeSeen}
use Rattle.my_script.specs.declared.transcript.TapeCall.{TapeCall}
use Rattle.my_judge.specs.Reads.{read_of}
use Rattle.my_judge.specs.Settled.{settled}
use Rattle.my_run_judge.specs.declared.act.Status.{Status}
use Rattle.my_run_judge.specs.declared.act.Status.TheVariants.{Ahead}
use Rattle.my_run_judge.specs.declared.walk.Spot.{Spot}

-- where the lines are, and the place of the reading of the calls that ended
pub record Walk : Type 0 where
  pub spot : Spot
  pub closed : Bool
  pub place : Place

-- before the first line, at connection n
abbrev pub start : Login → ℕ → Walk
start login n = record { spot = record { status = Ahead n; next = 0; from = 0; taken = 0 }; closed = false; place = first_place login }

abbrev pub with_status : Status → Walk → Walk
with_status status w = record {
  spot = record { status = status; next = w.spot.next; from = w.spot.from; taken = w.spot.taken };
  closed = w.closed;
  place = w.place;
}

-- more bytes were taken
abbrev pub with_taken : ℕ → Walk → Walk
with_taken n w = record {
  spot = record { status = w.spot.status; next = w.spot.next; from = w.spot.from; taken = w.spot.taken + n };
  closed = w.closed;
  place = w.place;
}

-- the bytes that a call sent end where the next one begins, or at the end of the tape
abbrev pub sent_end : Option TapeCall → TapeSeen → ℕ
sent_end None t = length t.sent
sent_end (Some d) t = d.sent_from

-- what the tape says of a call's end
abbrev pub told_in : Option (Result Answer Error) → Option Told
told_in None = None
told_in (Some (Ok answer)) = Some (told answer)
told_in (Some (Err e)) = Some (ToldError e)

-- a call that is cancelled has no answer
abbrev pub ending_of : Bool → TapeCall → Option Told
ending_of true c = Some (Dropped false)
ending_of false c = told_in c.answer

-- the call in turn with its bytes, as it is read
abbrev pub span_of : TapeSeen → Bool → Spot → TapeCall → Span
span_of t cancelled s c = record {
  call = c.call;
  sent = between c.sent_from (sent_end (slice_get t.calls (s.next + 1)) t) t.sent;
  taken = between s.from s.taken t.taken;
  ending = ending_of cancelled c;
}

abbrev pub read_at : Login → TapeSeen → Bool → Walk → TapeCall → ReadCall
read_at login t cancelled w c =
    read_of login w.closed (settled login w.closed (span_of t cancelled w.spot c) w.place) w.place

-- The call begins where what was sent before it ends, and ends as the reading says.
pub record EndsRight (login : Login) (t : TapeSeen) (cancelled : Bool) (w : Walk) (c : TapeCall) : Type 0 where
  pub sent_from : c.sent_from ≡ length w.place.sent
  pub call : IsCall login (read_at login t cancelled w c)

abbrev pub EndsAt : Login → TapeSeen → Bool → Walk → Option TapeCall → Type 0
EndsAt login t cancelled w None = ⊥
EndsAt login t cancelled w (Some c) = EndsRight login t cancelled w c

abbrev pub IsEnded : Login → TapeSeen → Bool → Walk → Type 0
IsEnded login t cancelled w = EndsAt login t cancelled w (slice_get t.calls w.spot.next)

-- after that call
abbrev pub after_read : Walk → ReadCall → Walk
after_read w c = record {
  spot = record { status = w.spot.status; next = w.spot.next + 1; from = w.spot.taken; taken = w.spot.taken };
  closed = c.closed || is_closing c.span.call c.span.ending;
  place = c.halt.place;
}

abbrev pub ended_at : Login → TapeSeen → Bool → Walk → Option TapeCall → Walk
ended_at login t cancelled w None = w
ended_at login t cancelled w (Some c) = after_read w (read_at login t cancelled w c)

abbrev pub ended : Login → TapeSeen → Bool → Walk → Walk
ended login t cancelled w = ended_at login t cancelled w (slice_get t.calls w.spot.next)
