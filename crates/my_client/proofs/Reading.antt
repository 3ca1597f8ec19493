-- Where a session rests, what its connection kept is what the reading of the tape says.
use Rattle.std.proofs.Common.{◌≡◌, List, false, Option, Some, None, inl, inr, refl, sym, ap, ◌∙◌, subst}
use Rattle.std.proofs.lemmas.Bool.{false≢true}
use Rattle.my_grammar.specs.declared.login.Login.{Login}
use Rattle.my_reading.specs.Course.{Stop, Owes, Awaits}
use Rattle.my_reading.specs.Endings.{AreCalls}
use Rattle.my_reading.specs.Place.{first_place}
use Rattle.my_reading.specs.Reading.{read_calls, reading}
use Rattle.my_reading.specs.Tape.{Span, spans_from}
use Rattle.my_client.specs.Kept.{Asked, Kept}
use Rattle.my_client.specs.Reads.{IsRead, IsWaiting, calls_kept, tape_kept}
use Rattle.my_client.proofs.TapeRead.Lists.{spans_at_rest}
use Rattle.my_session.specs.Sessions.{Seen}
use Rattle.my_client.specs.Stands.{Rests, StandsAt, StandsIdle, Stopped, Waits, WaitsIn}
use Rattle.my_client.proofs.Ending.{waiting_read}
use Rattle.my_client.proofs.Moving.{said_stopped, stop_stopped}

-- no call is open
idle_read : (login : Login) (s : Seen) (k : Kept) → k.pending ≡ None → StandsIdle login s k → IsRead login k
unfolding reading
idle_read login s k none i =
    subst (λ (ss : List Span). AreCalls login (read_calls login ss false (first_place login)).calls)
    (sym (ap (λ p. spans_from (tape_kept k) (calls_kept k.calls p)) none ∙ spans_at_rest k.sent k.taken (tape_kept k) refl refl k.calls)) i.ended.calls

-- the open call waits for its link
stopped_read : (stop : Stop) (login : Login) (s : Seen) (k : Kept) (a : Asked) → Stopped stop login s k a → IsWaiting login k → IsRead login k
stopped_read stop login s k a w waiting =
    waiting_read login k a false w.so_far.before w.so_far.ended w.stands.asked (said_stopped stop login s k a w) (λ e. absurd (false≢true e)) waiting

pub waits_read : (login : Login) (s : Seen) (k : Kept) (a : Asked) → Waits login s k a → IsRead login k
waits_read login s k a (inl w) = stopped_read Owes login s k a w (inl (stop_stopped Owes login s k a w))
waits_read login s k a (inr w) = stopped_read Awaits login s k a w (inr (stop_stopped Awaits login s k a w))

by_call : (login : Login) (s : Seen) (k : Kept) (q : Option Asked) → k.pending ≡ q → StandsAt login s k q → WaitsIn login s k q → IsRead login k
by_call login s k None e at w = idle_read login s k e at
by_call login s k (Some a) e at w = waits_read login s k a w

pub rests_read : (login : Login) (s : Seen) (k : Kept) → Rests login s k → IsRead login k
rests_read login s k r = by_call login s k k.pending refl r.stands.at r.waits
