-- What polls keep is what the reading of the tape says.
use Rattle.std.proofs.Common.{◌≡◌, ◌⊎◌, ℕ, List, [], ◌∷◌, length, drop, Bool, true, false, ◌||◌, Option, Some, None, inl, inr, refl, sym, ap, ◌∙◌, subst, arith}
use Rattle.std.proofs.lemmas.Bool.{false≢true}
use Rattle.std.proofs.lemmas.List.{drop_all}
use Rattle.my_value.specs.RowParts.{RowParts}
use Rattle.my_grammar.specs.declared.login.Login.{Login}
use Rattle.my_grammar.specs.Talk.{Fits}
use Rattle.my_link.specs.Moves.{Move, Received, Sent, Stop as LinkStop, NoStop, ReadHold, WriteHold, ReadFault, WriteFault, LinkEnd}
use Rattle.my_reading.specs.declared.call.Call.{Call}
use Rattle.my_reading.specs.declared.error.Error.{Error}
use Rattle.my_reading.specs.declared.error.IoKind.TheVariants.{Link}
use Rattle.my_reading.specs.Calls.{kind_of}
use Rattle.my_reading.specs.Course.{Part, Stop, Owes, Awaits, Returns, Stops, Halt, course, halt, parts_of, step}
use Rattle.my_reading.specs.Endings.{AreCalls, closes_cancelled}
use Rattle.my_reading.specs.Errors.{io_error}
use Rattle.my_reading.specs.Leads.{Leads}
use Rattle.my_reading.specs.Place.{Place, begins_with, client_side, exchanges, first_place, owed, with_bytes}
use Rattle.my_reading.specs.Reading.{closed_answer, halt_of, read_calls, reading}
use Rattle.my_reading.specs.Tape.{Span, spans_from}
use Rattle.my_reading.specs.Told.{closes}
use Rattle.my_reading.proofs.Leading.{leads_to_course}
use Rattle.my_reading.proofs.Staying.{leading_stays}
use Rattle.my_client.specs.declared.poll.After.{After}
use Rattle.my_client.specs.declared.poll.After.TheVariants.{Pending, Answered, Failed}
use Rattle.my_client.specs.declared.tape.Said.{Said}
use Rattle.my_client.specs.declared.tape.Said.TheVariants as says
use Rattle.my_client.specs.Ends.{kept_after}
use Rattle.my_client.specs.Kept.{Asked, Kept, asking, ended_by, told_by}
use Rattle.my_client.specs.Reads.{ComesTo, EndedRead, IsWaiting, calls_kept, facts_kept, place_kept, spans_to, stop_kept, tape_kept}
use Rattle.my_client.proofs.TapeRead.{ended_more, no_bytes, span_open}
use Rattle.my_client.proofs.TapeRead.Lists.{spans_at_rest}
use Rattle.my_client.proofs.TapeRead.Stopping.{place_open, stop_open}
use Rattle.my_client.specs.Polls.{AreInTurn, IsInTurn, moved_by, moved_on}
use Rattle.my_client.specs.Stands.{IsSaid}
use Rattle.my_client.proofs.Ending.{broken_read, cancelled_read, cut_read, no_return, place_is, returned_read, same_stop, waiting_read}
use Rattle.my_client.proofs.Moving.{all_pending, bytes_on, only_sent, only_taken, started, started_on}
use Rattle.my_client.proofs.Stopping.{awaits_here, both_lead, owes_here}
use Rattle.history_laws.proofs.Keeping.{calls_keep}
use Rattle.turn_laws.specs.Decided.{IsBecause, IsFailed}
use Rattle.turn_laws.specs.Explained.{BegunIsExplained, CancelledIsExplained, IsExplained, IsExplainedBy, IsRest, IsSoFar, NothingIsExplained, PolledIsExplained, RestIsRead, WaitingIsRead}
use Rattle.turn_laws.proofs.Deciding.{poll_cause}
use Rattle.turn_laws.proofs.Leading.{Led, Sound, begins_on, fits_moved, leads_fit, led, led_sound}

-- the newest exchange of the place before the open call fits the grammar
before_fits : (login : Login) (k : Kept) (n m : ℕ) (closed : Bool) (before : Place) → EndedRead login k n m closed before → Fits before.talk
before_fits login k n m closed before w =
    subst (λ (p : Place). Fits p.talk) w.place_is
    (calls_keep login (λ a b p. Fits p.talk) (λ a b p q f moved. fits_moved p q f moved) (λ a b p sent taken f. f)
    (spans_to k.sent k.taken k.calls n m) false [] [] (first_place login) (record { kinds = tt; within = tt }))

-- what the open call does on an open connection
module _ (login : Login) (k : Kept) (a : Asked) (before : Place) (w : EndedRead login k a.sent_from a.taken_from false before) (pending : k.pending ≡ Some a) where
  here : Led login a.call (parts_of login a.call) (started k a before)
  here = led login a.call (parts_of login a.call) (started k a before)

  course_here : course login a.call (started k a before) ≡ halt here.end here.stop
  course_here = leads_to_course login a.call (started k a before) here.rest here.place here.end here.stop here.leads here.stops

  place_here : place_kept login k ≡ here.end
  place_here = place_open login k a false before w pending ∙ ap (λ (h : Halt). h.place) course_here

  stop_here : stop_kept login k ≡ Some here.stop
  stop_here = stop_open login k a false before w pending ∙ ap (λ (h : Halt). Some h.stop) course_here

  -- it stands at a place from which its steps lead on as bytes come
  mid_is : (s : Stop) → ((q : Place) → step login a.call here.rest here.place ≡ Stops q s → q ≡ here.place) → stop_kept login k ≡ Some s → here.end ≡ here.place
  mid_is s same e = let is : here.stop ≡ s = same_stop here.stop s (sym stop_here ∙ e) in same here.end (here.stops ∙ ap (λ x. Stops here.end x) is)

-- bytes that move in turn
module _ (login : Login) (k : Kept) (a : Asked) (w : IsSoFar login k a) (pending : k.pending ≡ Some a) (out come : List ℕ) where
  grown : EndedRead login (bytes_on out come k) a.sent_from a.taken_from w.closed w.before
  grown = ended_more login k a.sent_from a.taken_from w.closed w.before out come w.ended

  -- on a closed connection no byte moves
  closed_returns : w.closed ≡ true → stop_kept login k ≡ Some (Returns (closed_answer a.call))
  closed_returns e =
      stop_open login k a w.closed w.before w.ended pending ∙ ap (λ b. Some (halt_of login b (span_open k a) w.before).stop) e

  module _ (s : Stop) (same : (parts : List Part) (p q : Place) → step login a.call parts p ≡ Stops q s → q ≡ p) (waits : s ≡ Returns (closed_answer a.call) → ⊥)
      (stops : stop_kept login k ≡ Some s) (begins : begins_with (owed (place_kept login k)) out ≡ true) where
    not_closed : w.closed ≡ true → ⊥
    not_closed e = waits (same_stop s (Returns (closed_answer a.call)) (sym stops ∙ closed_returns e))

    on_open : EndedRead login k a.sent_from a.taken_from false w.before → EndedRead login (bytes_on out come k) a.sent_from a.taken_from false w.before → IsSaid (place_kept login (bytes_on out come k))
    on_open ended more =
        let before : Led login a.call (parts_of login a.call) (started k a w.before) = here login k a w.before ended pending in
        let mid : before.end ≡ before.place = mid_is login k a w.before ended pending s (λ q e. same before.rest before.place q e) stops in
        let at : place_kept login k ≡ before.place = place_here login k a w.before ended pending ∙ mid in
        let fits : Fits before.place.talk =
        leads_fit login a.call (parts_of login a.call) before.rest (started k a w.before) before.place before.leads (before_fits login k a.sent_from a.taken_from false w.before ended) in
        let said : IsSaid before.place = subst IsSaid at w.said in
        let owes : begins_with (owed before.place) out ≡ true = subst (λ (p : Place). begins_with (owed p) out ≡ true) at begins in
        let next : Place = with_bytes out come before.place in
        let sound : Sound next = record { fits = fits; said = begins_on (client_side (exchanges before.place)) before.place.sent out said owes } in
        let after : Led login a.call before.rest next = led login a.call before.rest next in
        let leads : Leads login a.call (parts_of login a.call) (started (bytes_on out come k) a w.before) before.rest next =
        subst (λ (p : Place). Leads login a.call (parts_of login a.call) p before.rest next) (sym (started_on login k a w.closed w.before out come w.ended))
        (leading_stays login a.call (parts_of login a.call) (started k a w.before) before.rest before.place out come before.leads) in
        let course_is : course login a.call (started (bytes_on out come k) a w.before) ≡ halt after.end after.stop =
        leads_to_course login a.call (started (bytes_on out come k) a w.before) after.rest after.place after.end after.stop
        (both_lead login a.call (parts_of login a.call) _ before.rest next after.rest after.place leads after.leads) after.stops in
        subst IsSaid (sym (place_open login (bytes_on out come k) a false w.before more pending ∙ ap (λ (h : Halt). h.place) course_is)) (led_sound login a.call before.rest next after sound).said

    moves_on : IsSoFar login (bytes_on out come k) a
    moves_on = by_closed w.closed refl
      where
        by_closed : (b : Bool) → w.closed ≡ b → IsSoFar login (bytes_on out come k) a
        by_closed true e = absurd (not_closed e)
        by_closed false e = record {
          closed = false;
          before = w.before;
          ended = subst (λ (b : Bool). EndedRead login (bytes_on out come k) a.sent_from a.taken_from b w.before) e grown;
          said = on_open (subst (λ (b : Bool). EndedRead login k a.sent_from a.taken_from b w.before) e w.ended)
              (subst (λ (b : Bool). EndedRead login (bytes_on out come k) a.sent_from a.taken_from b w.before) e grown);
          quiet = λ f. absurd (false≢true f);
        }

one_move : (login : Login) (k : Kept) (a : Asked) (m : Move) → k.pending ≡ Some a → IsSoFar login k a → IsInTurn login k m → IsSoFar login (moved_on k m) a
one_move login k a (Received bytes) pending w t =
    only_taken (λ next. IsSoFar login next a) k bytes
    (moves_on login k a w pending [] bytes Awaits (λ parts p q e. awaits_here login a.call parts p q e) (λ f. no_return Awaits _ (inr refl) f) t refl)
one_move login k a (Sent offered bytes) pending w t =
    only_sent (λ next. IsSoFar login next a) k bytes
    (moves_on login k a w pending bytes [] Owes (λ parts p q e. owes_here login a.call parts p q e) (λ f. no_return Owes _ (inl refl) f) t.0 t.1)

all_moves : (login : Login) (k : Kept) (a : Asked) (ms : List Move) → k.pending ≡ Some a → IsSoFar login k a → AreInTurn login k ms → IsSoFar login (moved_by k ms) a
all_moves login k a [] pending w t = w
all_moves login k a (m ∷ ms) pending w t = one_move login (moved_by k ms) a m (all_pending k ms ∙ pending) (all_moves login k a ms pending w t.0) t.1

-- the open call ends
module _ (login : Login) (k : Kept) (a : Asked) (w : IsSoFar login k a) (pending : k.pending ≡ Some a) where
  abbrev place_at : Place
  place_at = (halt_of login w.closed (span_open k a) w.before).place

  rested : (how : Said) → EndedRead login (ended_by k a how) (length k.sent) (length k.taken) (w.closed || closes (told_by how) (kind_of a.call)) place_at → IsRest login (ended_by k a how)
  rested how ended = record {
    closed = w.closed || closes (told_by how) (kind_of a.call);
    place = place_at;
    ended = ended;
    said = subst IsSaid (place_is login k a w.closed w.before w.ended pending w.said w.quiet) w.said;
  }

  returned_so : (how : Said) → ComesTo login k (told_by how) → IsRest login (ended_by k a how)
  returned_so how e = rested how (returned_read login k a w.closed w.before w.ended pending w.said w.quiet how e)

  broken_so : (s : Stop) (e : Error) → stop_kept login k ≡ Some s → s ≡ Owes ⊎ s ≡ Awaits → e ≡ io_error Link (facts_kept login k).place → IsRest login (ended_by k a (says.Failed e))
  broken_so s e stops waits is = rested (says.Failed e) (broken_read login k a w.closed w.before w.ended pending w.said w.quiet s e stops waits is)

  failed_so : (stop : LinkStop) (e : Error) → IsFailed login k stop e → IsRest login (ended_by k a (says.Failed e))
  failed_so NoStop e f = returned_so (says.Failed e) f
  failed_so ReadHold e f = absurd f
  failed_so WriteHold e f = absurd f
  failed_so ReadFault e f = broken_so Awaits e f.0 (inr refl) f.1
  failed_so WriteFault e f = broken_so Owes e f.0 (inl refl) f.1
  failed_so LinkEnd e f = rested (says.Failed e) (cut_read login k a w.closed w.before w.ended pending w.said w.quiet e f.0 f.1)

  cancelled_so : IsWaiting login k → IsRest login (ended_by k a (says.Cancelled (closes_cancelled (kind_of a.call) (place_kept login k))))
  cancelled_so waiting =
      let closing : Bool = closes_cancelled (kind_of a.call) (place_kept login k) in
      rested (says.Cancelled closing) (cancelled_read login k a w.closed w.before w.ended pending w.said w.quiet waiting closing refl)

-- by which call is open
explained_by : (login : Login) (k : Kept) (q : Option Asked) → k.pending ≡ q → IsExplainedBy login k q → IsExplained login k
explained_by login k q e w = subst (IsExplainedBy login k) (sym e) w

explained_as : (login : Login) (k : Kept) (q : Option Asked) → k.pending ≡ q → IsExplained login k → IsExplainedBy login k q
explained_as login k q e w = subst (IsExplainedBy login k) e w

pub nothing_is_explained : NothingIsExplained
unfolding read_calls
nothing_is_explained login = record {
  closed = false;
  place = first_place login;
  ended = record { within = tt; sent_within = omega arith; taken_within = omega arith; calls = tt; place_is = refl; closed_is = refl };
  said = refl;
}

-- a call that begins
module _ (login : Login) (k : Kept) (call : Call) (rows : Option (List RowParts)) (w : IsRest login k) where
  abbrev asked : Asked
  asked = record { call = call; sent_from = length k.sent; taken_from = length k.taken; rows = rows }

  abbrev begins_at : Place
  begins_at = started (asking k call rows) asked w.place

  begun : EndedRead login (asking k call rows) (length k.sent) (length k.taken) w.closed w.place
  begun = record {
    within = w.ended.within;
    sent_within = w.ended.sent_within;
    taken_within = w.ended.taken_within;
    calls = w.ended.calls;
    place_is = w.ended.place_is;
    closed_is = w.ended.closed_is;
  }

  none : begins_at ≡ w.place
  none =
      ap (λ x. with_bytes x (drop (length k.taken) k.taken) w.place) (drop_all (length k.sent) k.sent (omega arith))
      ∙ ap (λ x. with_bytes [] x w.place) (drop_all (length k.taken) k.taken (omega arith)) ∙ no_bytes w.place

  said_by : (b : Bool) → IsSaid (halt_of login b (span_open (asking k call rows) asked) w.place).place
  said_by true = subst IsSaid (sym none) w.said
  said_by false =
      let l : Led login call (parts_of login call) begins_at = led login call (parts_of login call) begins_at in
      let course_is : course login call begins_at ≡ halt l.end l.stop = leads_to_course login call begins_at l.rest l.place l.end l.stop l.leads l.stops in
      let sound : Sound begins_at = subst Sound (sym none) (record { fits = before_fits login k (length k.sent) (length k.taken) w.closed w.place w.ended; said = w.said }) in
      subst IsSaid (sym (ap (λ (h : Halt). h.place) course_is)) (led_sound login call (parts_of login call) begins_at l sound).said

  begun_so_far : IsSoFar login (asking k call rows) asked
  begun_so_far = record {
    closed = w.closed;
    before = w.place;
    ended = begun;
    said = subst IsSaid (sym (place_open login (asking k call rows) asked w.closed w.place begun refl)) (said_by w.closed);
    quiet = λ e. (refl, refl);
  }

pub begun_is_explained : BegunIsExplained
begun_is_explained login k call rows pending explained = begun_so_far login k call rows (explained_as login k None pending explained)

-- a poll, from the call's open state to what it returned
polled_to : (login : Login) (a : Asked) (k : Kept) (stop : LinkStop) (n : ℕ) (after : After) → k.pending ≡ Some a → IsSoFar login k a → IsBecause login k stop n after
    → IsExplained login (kept_after k a after)
polled_to login a k stop n Pending still moved w = explained_by login k (Some a) still moved
polled_to login a k stop n (Answered answer) still moved w = returned_so login k a moved still (says.Answered answer) w.1
polled_to login a k stop n (Failed e) still moved w = failed_so login k a moved still stop e w

pub polled_is_explained : PolledIsExplained
polled_is_explained login a k x y u after end pending explained p =
    subst (IsExplained login) (sym p.ends)
    (polled_to login a (moved_by k p.moves) p.stop u.taken after (all_pending k p.moves ∙ pending)
    (all_moves login k a p.moves pending (explained_as login k (Some a) pending explained) p.turns)
    (poll_cause login a k x y u after end p))

pub cancelled_is_explained : CancelledIsExplained
cancelled_is_explained login a k pending explained waiting = cancelled_so login k a (explained_as login k (Some a) pending explained) pending waiting

pub waiting_is_read : WaitingIsRead
waiting_is_read login a k pending explained waiting =
    let w : IsSoFar login k a = explained_as login k (Some a) pending explained in
    waiting_read login k a w.closed w.before w.ended pending w.said w.quiet waiting

pub rest_is_read : RestIsRead
unfolding reading
rest_is_read login k none explained =
    let w : IsRest login k = explained_as login k None none explained in
    subst (λ (ss : List Span). AreCalls login (read_calls login ss false (first_place login)).calls)
    (sym (ap (λ p. spans_from (tape_kept k) (calls_kept k.calls p)) none ∙ spans_at_rest k.sent k.taken (tape_kept k) refl refl k.calls)) w.ended.calls
