-- What is kept with more bytes, and where its open call stands with them.
use Rattle.std.proofs.Common.{◌≡◌, ℕ, zero, suc, List, [], ◌∷◌, ◌++◌, length, take, drop, Bool, true, false, Some, inl, refl, sym, ap, ◌∙◌, subst, arith}
use Rattle.std.proofs.lemmas.Bool.Decides.{nat_tests}
use Rattle.std.proofs.lemmas.List.{append-nil, drop-append-le}
use Rattle.my_grammar.specs.declared.login.Login.{Login}
use Rattle.my_link.specs.Moves.{Move, Received, Sent}
use Rattle.my_machine.proofs.Places.{at_sent_bytes, at_taken_bytes}
use Rattle.my_machine.specs.declared.stand.Stand.{Stand}
use Rattle.my_machine.specs.Runs.{parts_left}
use Rattle.my_machine.specs.Stands.{IsAt, with_bytes as with_more, with_owed}
use Rattle.my_reading.proofs.Leading.{leads_to_course}
use Rattle.my_reading.proofs.Staying.{leading_stays}
use Rattle.my_reading.specs.Course.{Stop, Owes, Awaits, Halt, course, halt, parts_of}
use Rattle.my_reading.specs.Leads.{Leads}
use Rattle.my_reading.specs.Place.{Place, begins_with, owed, with_bytes}
use Rattle.my_client.specs.Kept.{Asked, Kept}
use Rattle.my_client.specs.Notes.{with_sent, with_taken}
use Rattle.my_client.specs.Reads.{EndedRead, place_kept, stop_kept}
use Rattle.my_client.proofs.TapeRead.{bytes_more, ended_more}
use Rattle.my_client.proofs.TapeRead.Stopping.{place_open, stop_open}
use Rattle.my_session.specs.Sessions.{Seen}
use Rattle.my_client.specs.Polls.{moved_by, moved_on}
use Rattle.my_client.specs.Stands.{IsSaid, StandsAsked, StandsAt, StandsOpen, Stopped}

-- a list begins with its front
begins_so : (xs ys : List ℕ) → begins_with (xs ++ ys) xs ≡ true
begins_so [] ys = refl
begins_so (x ∷ xs) ys = let rest : begins_with (xs ++ ys) xs ≡ true = begins_so xs ys in grind (arith, nat_tests)

begins_take : (n : ℕ) (xs : List ℕ) → begins_with xs (take n xs) ≡ true
begins_take zero xs = refl
begins_take (suc n) [] = refl
begins_take (suc n) (x ∷ xs) = let rest : begins_with xs (take n xs) ≡ true = begins_take n xs in grind (arith, nat_tests)

drop_front : (xs ys : List ℕ) → drop (length xs) (xs ++ ys) ≡ ys
drop_front [] ys = refl
drop_front (x ∷ xs) ys = drop_front xs ys

-- where the session is, it knows what is owed, and what was sent is what the exchanges say
pub owed_at : (login : Login) (p : Place) (s : Stand) → IsAt login p s → owed p ≡ s.owed
owed_at login p s at = ap (drop (length p.sent)) (sym at.owed_is) ∙ drop_front p.sent s.owed

pub said_at : (login : Login) (p : Place) (s : Stand) → IsAt login p s → IsSaid p
said_at login p s at = subst (λ bytes. begins_with bytes p.sent ≡ true) at.owed_is (begins_so p.sent s.owed)

-- where the open call began, with the bytes since
abbrev pub started : Kept → Asked → Place → Place
started k a before = with_bytes (drop a.sent_from k.sent) (drop a.taken_from k.taken) before

abbrev pub bytes_on : List ℕ → List ℕ → Kept → Kept
bytes_on out come k = record { sent = k.sent ++ out; taken = k.taken ++ come; calls = k.calls; pending = k.pending }

pub started_on : (login : Login) (k : Kept) (a : Asked) (closed : Bool) (before : Place) (out come : List ℕ) → EndedRead login k a.sent_from a.taken_from closed before
    → started (bytes_on out come k) a before ≡ with_bytes out come (started k a before)
started_on login k a closed before out come w =
    ap (λ x. with_bytes x (drop a.taken_from (k.taken ++ come)) before) (drop-append-le a.sent_from k.sent out w.sent_within)
    ∙ ap (λ x. with_bytes (drop a.sent_from k.sent ++ out) x before) (drop-append-le a.taken_from k.taken come w.taken_within)
    ∙ bytes_more (drop a.sent_from k.sent) (drop a.taken_from k.taken) out come before

-- the bytes of one side alone
pub only_sent : (P : Kept → Type 0) (k : Kept) (out : List ℕ) → P (bytes_on out [] k) → P (with_sent k out)
only_sent P k out w = subst (λ (xs : List ℕ). P (record { sent = k.sent ++ out; taken = xs; calls = k.calls; pending = k.pending })) (append-nil k.taken) w

pub only_taken : (P : Kept → Type 0) (k : Kept) (come : List ℕ) → P (bytes_on [] come k) → P (with_taken k come)
only_taken P k come w = subst (λ (xs : List ℕ). P (record { sent = xs; taken = k.taken ++ come; calls = k.calls; pending = k.pending })) (append-nil k.sent) w

-- moves leave the open call
moved_pending : (k : Kept) (m : Move) → (moved_on k m).pending ≡ k.pending
moved_pending k (Received bytes) = refl
moved_pending k (Sent offered bytes) = refl

pub all_pending : (k : Kept) (ms : List Move) → (moved_by k ms).pending ≡ k.pending
all_pending k [] = refl
all_pending k (m ∷ ms) = moved_pending (moved_by k ms) m ∙ all_pending k ms

-- the open call as bytes move
pub open_moved : (login : Login) (s : Seen) (k : Kept) (a : Asked) (out come : List ℕ) (stand : Stand) (o : StandsOpen login s k a) → IsAt login (with_bytes out come o.place) stand
    → StandsOpen login (record s { stand = stand }) (bytes_on out come k) a
open_moved login s k a out come stand o at = record {
  before = o.before;
  ended = ended_more login k a.sent_from a.taken_from false o.before out come o.ended;
  unclosed = o.unclosed;
  sound = o.sound;
  progress = o.progress;
  opened = o.opened;
  place = with_bytes out come o.place;
  leads = subst (λ (p : Place). Leads login a.call (parts_of login a.call) p (parts_left login a.call o.progress) (with_bytes out come o.place)) (sym (started_on login k a false o.before out come o.ended))
      (leading_stays login a.call (parts_of login a.call) (started k a o.before) (parts_left login a.call o.progress) o.place out come o.leads);
  at = at;
}

-- where the reading of the open call stops, where it stops for bytes
module _ (stop : Stop) (login : Login) (s : Seen) (k : Kept) (a : Asked) (w : Stopped stop login s k a) where
  course_stopped : course login a.call (started k a w.so_far.before) ≡ halt w.so_far.place stop
  course_stopped =
      leads_to_course login a.call (started k a w.so_far.before) (parts_left login a.call w.so_far.progress) w.so_far.place w.so_far.place stop w.so_far.leads w.stops

  pub stop_stopped : stop_kept login k ≡ Some stop
  stop_stopped = stop_open login k a false w.so_far.before w.so_far.ended w.stands.asked ∙ ap (λ (h : Halt). Some h.stop) course_stopped

  pub place_stopped : place_kept login k ≡ w.so_far.place
  place_stopped = place_open login k a false w.so_far.before w.so_far.ended w.stands.asked ∙ ap (λ (h : Halt). h.place) course_stopped

  pub said_stopped : IsSaid (place_kept login k)
  said_stopped = subst IsSaid (sym place_stopped) (said_at login w.so_far.place s.stand w.so_far.at)

-- and it stands so
asked_so : (login : Login) (s : Seen) (k next : Kept) (a : Asked) (stand : Stand) → StandsAsked login s k a → next.pending ≡ k.pending → StandsOpen login (record s { stand = stand }) next a
    → StandsAsked login (record s { stand = stand }) next a
asked_so login s k next a stand w same o =
    let pending : next.pending ≡ Some a = same ∙ w.asked in
    record {
      stands = record { login_is = w.stands.login_is; alive = w.stands.alive; at = subst (StandsAt login (record s { stand = stand }) next) (sym pending) (inl o) };
      asked = pending;
    }

-- bytes that are owed are sent
module _ (login : Login) (s : Seen) (k : Kept) (a : Asked) (n : ℕ) (w : Stopped Owes login s k a) where
  abbrev sent_stand : Stand
  sent_stand = with_owed (drop n s.stand.owed) s.stand

  pub sent_turn : (stop_kept login k ≡ Some Owes) × (begins_with (owed (place_kept login k)) (take n s.stand.owed) ≡ true)
  sent_turn = (
    stop_stopped Owes login s k a w,
    ap (λ (p : Place). begins_with (owed p) (take n s.stand.owed)) (place_stopped Owes login s k a w)
        ∙ ap (λ bytes. begins_with bytes (take n s.stand.owed)) (owed_at login w.so_far.place s.stand w.so_far.at) ∙ begins_take n s.stand.owed,
  )

  pub sent_asked : StandsAsked login (record s { stand = sent_stand }) (with_sent k (take n s.stand.owed)) a
  sent_asked =
      asked_so login s k (with_sent k (take n s.stand.owed)) a sent_stand w.stands refl
      (only_sent (λ next. StandsOpen login (record s { stand = sent_stand }) next a) k (take n s.stand.owed)
      (open_moved login s k a (take n s.stand.owed) [] sent_stand w.so_far (at_sent_bytes login w.so_far.place s.stand n w.so_far.at)))

-- bytes that are awaited are received
pub taken_asked : (login : Login) (s : Seen) (k : Kept) (a : Asked) (bytes : List ℕ) → Stopped Awaits login s k a
    → StandsAsked login (record s { stand = with_more [] bytes s.stand }) (with_taken k bytes) a
taken_asked login s k a bytes w =
    let stand : Stand = with_more [] bytes s.stand in
    asked_so login s k (with_taken k bytes) a stand w.stands refl
    (only_taken (λ next. StandsOpen login (record s { stand = stand }) next a) k bytes
    (open_moved login s k a [] bytes stand w.so_far (at_taken_bytes login w.so_far.place s.stand bytes w.so_far.at)))
