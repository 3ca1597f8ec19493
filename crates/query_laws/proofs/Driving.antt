-- A call that waits and returns an answer comes to it by the bytes that it sent and took, from where the connection stood.
use Rattle.std.proofs.Common.{◌≡◌, ◌⊎◌, inl, inr, ℕ, List, [], ◌∷◌, ◌++◌, length, drop, Bool, true, false, cond, Option, Some, None, Result, Ok, Err, option_map, refl, sym, ap, ◌∙◌, subst}
use Rattle.std.proofs.lemmas.List.{append-nil, append_assoc}
use Rattle.my_grammar.specs.declared.login.Login.{Login}
use Rattle.my_link.specs.Looks.{Looks}
use Rattle.my_link.specs.Moves.{Move, Received, Sent}
use Rattle.my_reading.specs.declared.answer.Answer.{Answer}
use Rattle.my_reading.specs.declared.answer.Answer.TheVariants as answers
use Rattle.my_reading.specs.declared.call.Call.{Call}
use Rattle.my_reading.specs.declared.call.CallKind.{CallKind}
use Rattle.my_reading.specs.declared.error.Error.{Error}
use Rattle.my_reading.specs.Calls.{is_connect, is_unrefused, kind_of}
use Rattle.my_reading.specs.Endings.{IsTape}
use Rattle.my_reading.specs.Course.{Halt, Stop, Returns, course, halt}
use Rattle.my_reading.specs.Errors.{connection_closed}
use Rattle.my_reading.specs.Place.{Place, first_place, with_bytes}
use Rattle.my_reading.specs.Reading.{Reading, closed_answer, halt_of, read_calls, reading}
use Rattle.my_reading.specs.Tape.{Span, between, spans_from}
use Rattle.my_reading.specs.Told.{Told, ToldReady, ToldError, told}
use Rattle.my_client.specs.declared.tape.DoneCall.{DoneCall}
use Rattle.my_client.specs.declared.tape.Said.{Said}
use Rattle.my_client.specs.declared.tape.Said.TheVariants as says
use Rattle.my_client.specs.Kept.{Asked, Kept, asked_by, asking, ended_by, told_by}
use Rattle.my_client.specs.Polls.{moved_by}
use Rattle.my_client.specs.Reads.{EndedRead, calls_kept, place_kept, span_to, spans_to, stop_kept, tape_kept}
use Rattle.my_client.specs.Stands.{StandsAt, StandsIdle}
use Rattle.my_client.proofs.Moving.{bytes_on}
use Rattle.my_client.proofs.Reading.{rests_read}
use Rattle.my_client.proofs.TapeRead.{ended_more, open_reading, reading_before, span_open}
use Rattle.my_client.proofs.TapeRead.Lists.{between_end, one_read, read_one_more, spans_at_rest, spans_end, with_one}
use Rattle.my_client.proofs.TapeRead.Stopping.{place_open, stop_open}
use Rattle.my_client.proofs.Polled.{answer_comes}
use Rattle.my_client.specs.StandsFor.{StandsFor, kind_kept}
use Rattle.my_client.specs.Waits.{DriveRefused, Driven}
use Rattle.my_conn.specs.Conn.{ConnSeen}
use Rattle.my_conn.specs.Drives.{DriveIs, lost_result}
use Rattle.my_session.specs.Sessions.{Seen}
use Rattle.query_laws.proofs.Taping.{tape_more}

-- the bytes of moves
pub record Moved (k : Kept) (ms : List Move) : Type 0 where
  pub out : List ℕ
  pub come : List ℕ
  pub moved_is : moved_by k ms ≡ bytes_on out come k

no_more : (k : Kept) → k ≡ bytes_on [] [] k
no_more k =
    ap (λ (xs : List ℕ). let f : Kept = record { sent = xs; taken = k.taken; calls = k.calls; pending = k.pending } in f) (sym (append-nil k.sent))
    ∙ ap (λ (xs : List ℕ). let f : Kept = record { sent = k.sent ++ []; taken = xs; calls = k.calls; pending = k.pending } in f) (sym (append-nil k.taken))

pub moved : (k : Kept) (ms : List Move) → Moved k ms
moved k [] = record { out = []; come = []; moved_is = no_more k }
moved k (Received bytes ∷ ms) =
    let w = moved k ms in
    record {
      out = w.out;
      come = w.come ++ bytes;
      moved_is = ap (λ (f : Kept). let g : Kept = record { sent = f.sent; taken = f.taken ++ bytes; calls = f.calls; pending = f.pending } in g) w.moved_is
          ∙ ap (λ (xs : List ℕ). let g : Kept = record { sent = k.sent ++ w.out; taken = xs; calls = k.calls; pending = k.pending } in g) (append_assoc k.taken w.come bytes);
    }
moved k (Sent offered bytes ∷ ms) =
    let w = moved k ms in
    record {
      out = w.out ++ bytes;
      come = w.come;
      moved_is = ap (λ (f : Kept). let g : Kept = record { sent = f.sent ++ bytes; taken = f.taken; calls = f.calls; pending = f.pending } in g) w.moved_is
          ∙ ap (λ (xs : List ℕ). let g : Kept = record { sent = xs; taken = k.taken ++ w.come; calls = k.calls; pending = k.pending } in g) (append_assoc k.sent w.out bytes);
    }

-- how the open call ends leaves the place
halt_same : (login : Login) (closed : Bool) (call : Call) (sent taken : List ℕ) (e f : Option Told) (p : Place)
    → halt_of login closed (record { call = call; sent = sent; taken = taken; ending = e }) p ≡ halt_of login closed (record { call = call; sent = sent; taken = taken; ending = f }) p
halt_same login true call sent taken e f p = refl
halt_same login false call sent taken e f p = refl

place_ended : (login : Login) (f : Kept) (a : Asked) (said : Said) → f.pending ≡ Some a → place_kept login (ended_by f a said) ≡ place_kept login f
unfolding reading
place_ended login f a said pending =
    let d : DoneCall = record { call = a.call; sent_from = a.sent_from; taken_from = a.taken_from; said = said } in
    let r : Reading = reading_before login f a in
    let last : Span = span_to f.sent f.taken d (length f.sent) (length f.taken) in
    let spans_are : spans_from (tape_kept (ended_by f a said)) (calls_kept (f.calls ++ d ∷ []) None) ≡ spans_to f.sent f.taken f.calls a.sent_from a.taken_from ++ last ∷ [] =
    spans_at_rest f.sent f.taken (tape_kept (ended_by f a said)) refl refl (f.calls ++ d ∷ []) ∙ spans_end f.sent f.taken f.calls d (length f.sent) (length f.taken) in
    ap (λ (ss : List Span). (read_calls login ss false (first_place login)).place) spans_are
    ∙ ap (λ (x : Reading). x.place) (read_one_more login (spans_to f.sent f.taken f.calls a.sent_from a.taken_from) last false (first_place login))
    ∙ ap (λ (xs : List ℕ). (halt_of login r.closed (record { call = a.call; sent = xs; taken = last.taken; ending = last.ending }) r.place).place) (between_end a.sent_from f.sent)
    ∙ ap (λ (xs : List ℕ). (halt_of login r.closed (record { call = a.call; sent = drop a.sent_from f.sent; taken = xs; ending = last.ending }) r.place).place) (between_end a.taken_from f.taken)
    ∙ ap (λ (h : Halt). h.place) (halt_same login r.closed a.call (drop a.sent_from f.sent) (drop a.taken_from f.taken) last.ending None r.place)
    ∙ sym (ap (λ (x : Reading). x.place) (open_reading login f a pending))

-- where no call is open
place_idle : (login : Login) (k : Kept) → k.pending ≡ None → (closed : Bool) (before : Place) → EndedRead login k (length k.sent) (length k.taken) closed before → before ≡ place_kept login k
unfolding reading
place_idle login k none closed before w =
    sym w.place_is ∙ sym (ap (λ (ss : List Span). (read_calls login ss false (first_place login)).place) (ap (λ q. spans_from (tape_kept k) (calls_kept k.calls q)) none ∙ spans_at_rest k.sent k.taken (tape_kept k) refl refl k.calls))

no_open : (k : Kept) (q : Option Asked) → None ≡ option_map (λ (a : Asked). kind_of a.call) q → q ≡ None
no_open k None e = refl
no_open k (Some a) e = cc

-- an answer is no error
no_error : (answer : Answer) (e : Error) → told answer ≡ ToldError e → ⊥
no_error answers.Ready e f = cc
no_error (answers.Row r) e f = cc
no_error answers.SetEnd e f = cc
no_error answers.NoSet e f = cc
no_error (answers.Stmt s) e f = cc
no_error (answers.Flag b) e f = cc

-- what a call did that returned this answer
pub record Came (login : Login) (call : Call) (answer : Answer) (k end : Kept) : Type 0 where
  pub out : List ℕ
  pub come : List ℕ
  pub sent_is : end.sent ≡ k.sent ++ out
  pub taken_is : end.taken ≡ k.taken ++ come
  pub calls_is : end.calls ≡ k.calls ++ (let d : DoneCall = record { call = call; sent_from = length k.sent; taken_from = length k.taken; said = says.Answered answer } in d) ∷ []
  pub idle : end.pending ≡ None
  pub sent : List ℕ
  pub taken : List ℕ
  pub course_is : course login call (with_bytes sent taken (place_kept login k)) ≡ halt (place_kept login end) (Returns (told answer))

module _ (login : Login) (call : Call) (asks : is_unrefused (kind_of call) ≡ false) (answer : Answer) (k : Kept) (none : k.pending ≡ None) (closed : Bool) (before : Place) (ended : EndedRead login k (length k.sent) (length k.taken) closed before) (out come : List ℕ) where
  abbrev a : Asked
  a = asked_by k call

  abbrev f : Kept
  f = bytes_on out come (asking k call None)

  read_so : EndedRead login f (length k.sent) (length k.taken) closed before
  read_so = ended_more login (asking k call None) (length k.sent) (length k.taken) closed before out come
      (record { within = ended.within; sent_within = ended.sent_within; taken_within = ended.taken_within; calls = ended.calls; place_is = ended.place_is; closed_is = ended.closed_is })

  came_so : stop_kept login f ≡ Some (Returns (told answer)) → Came login call answer k (ended_by f a (says.Answered answer))
  came_so stops = record {
    out = out;
    come = come;
    sent_is = refl;
    taken_is = refl;
    calls_is = refl;
    idle = refl;
    sent = drop (length k.sent) f.sent;
    taken = drop (length k.taken) f.taken;
    course_is = subst (λ p. course login call (with_bytes (drop (length k.sent) f.sent) (drop (length k.taken) f.taken) p) ≡ halt (place_kept login (ended_by f a (says.Answered answer))) (Returns (told answer))) (place_idle login k none closed before ended)
        (by_closed closed read_so);
  }
    where
      same : (x y : Stop) → Some x ≡ Some y → x ≡ y
      same x y e = cc

      told_same : (x y : Told) → Returns x ≡ Returns y → x ≡ y
      told_same x y e = cc

      whole : (h : Halt) (q : Place) (s : Stop) → h.place ≡ q → h.stop ≡ s → h ≡ halt q s
      whole h q s e g = ap (λ (x : Place). halt x h.stop) e ∙ ap (halt q) g

      by_closed : (b : Bool) → EndedRead login f (length k.sent) (length k.taken) b before → course login call (with_bytes (drop (length k.sent) f.sent) (drop (length k.taken) f.taken) before) ≡ halt (place_kept login (ended_by f a (says.Answered answer))) (Returns (told answer))
      by_closed true w =
          let stop = same _ _ (sym (stop_open login f a true before w refl) ∙ stops) in
          let closing : closed_answer call ≡ ToldError connection_closed = ap (λ b. cond b ToldReady (ToldError connection_closed)) asks in
          absurd (no_error answer connection_closed (sym (told_same _ _ stop) ∙ closing))
      by_closed false w =
          let stop = same _ _ (sym (stop_open login f a false before w refl) ∙ stops) in
          whole _ _ _ (sym (place_open login f a false before w refl) ∙ sym (place_ended login f a (says.Answered answer) refl)) stop

-- of a call that was driven to this answer
module _ (login : Login) (call : Call) (asks : is_unrefused (kind_of call) ≡ false) (answer : Answer) (x y : Looks) (k end : Kept) (n : ℕ) (none : k.pending ≡ None) (s : Seen) (idle : StandsIdle login s k) where
  driven_came : Driven login call x y k n (Ok answer) end → Came login call answer k end
  driven_came d =
      let m = moved (asking k call None) d.moves in
      let end_is : end ≡ ended_by (bytes_on m.out m.come (asking k call None)) (asked_by k call) (says.Answered answer) = d.end_is ∙ ap (λ (g : Kept). ended_by g (asked_by k call) (says.Answered answer)) m.moved_is in
      let stops = (answer_comes login (moved_by (asking k call None) d.moves) d.stop n answer d.comes).1 in
      subst (Came login call answer k) (sym end_is)
      (came_so login call asks answer k none s.closed idle.place idle.ended m.out m.come (subst (λ (g : Kept). stop_kept login g ≡ Some (Returns (told answer))) m.moved_is stops))

  pub drive_came : Driven login call x y k n (Ok answer) end ⊎ DriveRefused call x y k n (Ok answer) end → Came login call answer k end
  drive_came (inl d) = driven_came d
  drive_came (inr d) = let e : Ok answer ≡ Err connection_closed = d.result_is in absurd (cc)

idle_at : (login : Login) (s : Seen) (k : Kept) (q : Option Asked) → q ≡ None → StandsAt login s k q → StandsIdle login s k
idle_at login s k None e w = w
idle_at login s k (Some a) e w = absurd (cc)

-- an answer is no loss
abbrev answered : Answer → Result Answer Error
answered answer = Ok answer

lost_so : (answer : Answer) (e f : Error) (X : Type 0) → (answered answer ≡ Err e) ⊎ ((answered answer ≡ Err f) × X) → ⊥
lost_so answer e f X (inl w) = cc
lost_so answer e f X (inr w) = let no = w.0 in cc

-- it ended with what the connection keeps now
pub record Ended {L : Type 0} (login : Login) (call : Call) (answer : Answer) (k : Kept) (new : ConnSeen L) : Type 0 where
  pub end : Kept
  pub stands : StandsFor login new.seen new.tape new.pending end
  pub came : Came login call answer k end
  pub tape : IsTape login (tape_kept k) → IsTape login (tape_kept end)

-- a call of an open connection that returned this answer
pub record Stepped {L : Type 0} (call : Call) (answer : Answer) (old new : ConnSeen L) : Type 0 where
  pub was : old.lost ≡ false
  pub is : new.lost ≡ false
  pub pending : new.pending ≡ None
  pub each : (login : Login) (k : Kept) → StandsFor login old.seen old.tape old.pending k → Ended login call answer k new

module _ {L : Type 0} (look : L → Looks) (c : CallKind) (call : Call) (answer : Answer) (old new : ConnSeen L) (idle : old.pending ≡ None) (asks : is_unrefused (kind_of call) ≡ false) (other : is_connect (kind_of call) ≡ false)
    (refuses : lost_result c ≡ Err connection_closed) (d : DriveIs look c call old new (Ok answer)) where
  was_open : (b : Bool) → old.lost ≡ b → old.lost ≡ false
  was_open false e = e
  was_open true e = let r = (d.lost e).1 ∙ refuses in absurd (cc)

  is_open : old.lost ≡ false → (b : Bool) → new.lost ≡ b → new.lost ≡ false
  is_open was false e = e
  is_open was true e = absurd (lost_so answer _ _ _ (d.loses was e))

  one_more : old.lost ≡ false → new.lost ≡ false → (login : Login) (k : Kept) → StandsFor login old.seen old.tape old.pending k → Ended login call answer k new
  one_more was is login k w =
      let e = d.each was is login k w in
      let none = no_open k k.pending (sym idle ∙ w.pending_is) in
      let came = drive_came login call asks answer (look old.link) (look new.link) k e.0 d.count none old.seen (idle_at login old.seen k k.pending none w.rests.stands.at) e.2 in
      record {
        end = e.0;
        stands = subst (λ o. StandsFor login new.seen new.tape o e.0) (sym d.pending) e.1;
        came = came;
        tape = tape_more login k e.0 (record { call = call; sent_from = length k.sent; taken_from = length k.taken; said = says.Answered answer }) came.out came.come none came.idle came.calls_is came.sent_is came.taken_is refl refl other w.connected (rests_read login new.seen e.0 e.1.rests);
      }

  pub stepped : Stepped call answer old new
  stepped =
      let was = was_open old.lost refl in
      let is = is_open was new.lost refl in
      record { was = was; is = is; pending = d.pending; each = one_more was is }
