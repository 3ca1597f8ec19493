-- A connection that was made is fit: it did nothing but what makes one.
use Rattle.std.proofs.Common.{◌≡◌, ◌++◌, ℕ, Bool, true, false, ◌||◌, ◌&&◌, List, [], ◌∷◌, Option, Some, None, is_some, length, refl, sym, ap, ◌∙◌, subst, inl, inr}
use Rattle.std.specs.Prelude.{option_map}
use Rattle.my_grammar.specs.declared.login.Login.{Login}
use Rattle.my_link.specs.Aid.{Texts}
use Rattle.my_link.specs.Looks.{Looks}
use Rattle.my_link.specs.Moves.{Move, Received, Sent}
use Rattle.my_link.specs.declared.met.Met.{Met}
use Rattle.my_reading.specs.declared.answer.Answer.TheVariants.{Ready}
use Rattle.my_reading.specs.declared.call.Call.{Call}
use Rattle.my_reading.specs.declared.call.CallKind.{CallKind}
use Rattle.my_reading.specs.declared.call.CallKind.TheVariants as kinds
use Rattle.my_reading.specs.Calls.{kind_of}
use Rattle.my_reading.specs.Clean.{IsClean, have_ended, is_read_whole}
use Rattle.my_reading.specs.Course.{Returns, course}
use Rattle.my_reading.specs.Endings.{AreCalls, IsCall}
use Rattle.my_reading.specs.Place.{Place, first_place, with_bytes}
use Rattle.my_reading.specs.Reading.{ReadCall, Reading, halt_of, is_closing, read_calls, reading, with_call}
use Rattle.my_reading.specs.Tape.{Span, spans_from}
use Rattle.my_reading.specs.Told.{ToldReady}
use Rattle.my_client.specs.declared.poll.After.{After}
use Rattle.my_client.specs.declared.poll.After.TheVariants.{Pending, Answered}
use Rattle.my_client.specs.declared.tape.DoneCall.{DoneCall}
use Rattle.my_client.specs.declared.tape.Said.TheVariants as says
use Rattle.my_client.specs.declared.tape.Tape.{Tape}
use Rattle.my_client.specs.Kept.{Asked, Kept, first_asked, first_kept, told_by}
use Rattle.my_client.specs.Polls.{moved_by, moved_on}
use Rattle.my_client.specs.Reads.{calls_kept, span_to, spans_to, tape_kept}
use Rattle.my_client.proofs.Resting.{idle_at}
use Rattle.my_client.proofs.TapeRead.Lists.{spans_at_rest}
use Rattle.my_session.specs.Sessions.{Seen}
use Rattle.my_client.specs.Calls.{Does, PollsOn, asked_for}
use Rattle.my_client.specs.Makes.{ConnectsFor, GoesOn, MakesFor, Leads, Passes, Point, Polls, first_point}
use Rattle.my_client.specs.StandsFor.{StandsFor, kind_kept}
use Rattle.my_client.specs.Texts.{Ends, Follows, asked_at, kind_at}
use Rattle.my_client.specs.declared.texts.Making.{Making}
use Rattle.my_client.specs.declared.texts.Making.TheVariants.{Shakes, Asks, Drops}
use Rattle.my_client.proofs.Standing.{no_asked}
use Rattle.my_conn.specs.Conn.{ConnSeen}
use Rattle.my_conn.specs.Connected.{MakesIt, Stays}
use Rattle.my_conn.specs.Connects.{ConnectSeen}
use Rattle.my_conn.proofs.Resting.{clean_by}
use Rattle.my_pool.specs.Fit.{IsFit}
use Rattle.my_opts.specs.Opts.{OptsView}
use Rattle.my_session.specs.Login.{login_of}
use Rattle.reading_laws.proofs.Cleaned.{connecting_cleans, dropping_reads, ready_stop}
use Rattle.my_pool_requests.specs.declared.request.Moment.{Moment}
use Rattle.my_pool_requests.specs.Being.{AreMaking, IsBeingMade, IsMakingCall, makes_one}
use Rattle.my_pool_requests.specs.Makes.{Begins}
use Rattle.my_pool_requests.proofs.Outside.{IsOutside, Makes, Connects, Queries, Passes as PassesOver, stays_open, stays_outside, which}

-- ---- calls that were answered, one after the other ----

-- the last one is a handshake or a pass over a result
abbrev ends_one : CallKind → Bool
ends_one kinds.Connect = true
ends_one kinds.DropResult = true
ends_one kind = false

abbrev EndsWell : List DoneCall → Type 0
EndsWell [] = ⊥
EndsWell (d ∷ []) = ends_one (kind_of d.call) ≡ true
EndsWell (d ∷ e ∷ ds) = EndsWell (e ∷ ds)

making-more : (ds : List DoneCall) (d : DoneCall) → AreMaking ds → IsMakingCall d → AreMaking (ds ++ d ∷ [])
making-more [] d all one = (one, tt)
making-more (x ∷ ds) d all one = (all.0, making-more ds d all.1 one)

ends-more : (ds : List DoneCall) (d : DoneCall) → ends_one (kind_of d.call) ≡ true → EndsWell (ds ++ d ∷ [])
ends-more [] d e = e
ends-more (x ∷ []) d e = e
ends-more (x ∷ y ∷ ds) d e = ends-more (y ∷ ds) d e

-- where the reading stands after them
record IsMadeAt (r : Reading) : Type 0 where
  outside : IsOutside r.place
  read : is_read_whole r.place ≡ true
  open_ : r.closed ≡ false

module _ (login : Login) (sent taken : List ℕ) where
  abbrev read-at : DoneCall → ℕ → ℕ → Place → ReadCall
  read-at d n m p = record { span = span_to sent taken d n m; closed = false; halt = halt_of login false (span_to sent taken d n m) p }

  stops-ready : (d : DoneCall) (n m : ℕ) (p : Place) → IsMakingCall d → IsCall login (read-at d n m p) → (halt_of login false (span_to sent taken d n m) p).stop ≡ Returns ToldReady
  stops-ready d n m p one call = ready_stop login (read-at d n m p) (halt_of login false (span_to sent taken d n m) p).stop call.ends (ap Some one.ready)

  outside-after : (d : DoneCall) (n m : ℕ) (p : Place) → IsMakingCall d → IsOutside p → IsOutside (halt_of login false (span_to sent taken d n m) p).place
  outside-after d n m p one h =
      let s = span_to sent taken d n m in
      stays_outside login d.call (with_bytes s.sent s.taken p) (which d.call one.makes) (record { status = h.status; trial = h.trial })

  open-after : (d : DoneCall) → IsMakingCall d → (false || is_closing d.call (Some (told_by d.said))) ≡ false
  open-after d one = ap (λ t. is_closing d.call (Some t)) one.ready ∙ stays_open d.call (which d.call one.makes)

  read-after : (call : Call) (p : Place) → Makes call → ends_one (kind_of call) ≡ true → IsOutside p → (course login call p).stop ≡ Returns ToldReady → is_read_whole (course login call p).place ≡ true
  read-after call p Connects ends h stop = (connecting_cleans login p h.status stop).read
  read-after call p (Queries text) ends h stop = absurd (cc)
  read-after call p PassesOver ends h stop = dropping_reads login p stop

  same : (c : ReadCall) (r : Reading) → IsMadeAt r → IsMadeAt (with_call c r)
  same c r w = record { outside = w.outside; read = w.read; open_ = w.open_ }

  folded : (ds : List DoneCall) (n m : ℕ) (p : Place) → AreMaking ds → EndsWell ds → IsOutside p → AreCalls login (read_calls login (spans_to sent taken ds n m) false p).calls
      → IsMadeAt (read_calls login (spans_to sent taken ds n m) false p)
  unfolding read_calls
  folded [] n m p all ends h calls = absurd ends
  folded (d ∷ []) n m p all ends h calls =
      let s = span_to sent taken d n m in
      record {
        outside = outside-after d n m p all.0 h;
        read = read-after d.call (with_bytes s.sent s.taken p) (which d.call all.0.makes) ends (record { status = h.status; trial = h.trial }) (stops-ready d n m p all.0 calls.0);
        open_ = open-after d all.0;
      }
  folded (d ∷ e ∷ ds) n m p all ends h calls =
      let c = read-at d e.sent_from e.taken_from p in
      let q = c.halt.place in
      let ss = spans_to sent taken (e ∷ ds) n m in
      subst (λ b. AreCalls login (read_calls login ss b q).calls → IsMadeAt (with_call c (read_calls login ss b q))) (sym (open-after d all.0))
      (λ cs. same c (read_calls login ss false q) (folded (e ∷ ds) n m q all.1 ends (outside-after d e.sent_from e.taken_from p all.0 h) cs))
      calls.1

all-ended : (ds : List DoneCall) → have_ended (calls_kept ds None) ≡ true
all-ended [] = refl
all-ended (d ∷ ds) = all-ended ds

made-clean : (login : Login) (s : Seen) (t : Option Tape) (k : Kept) → StandsFor login s t None k → AreMaking k.calls → EndsWell k.calls → IsClean login (tape_kept k)
unfolding reading
made-clean login s t k w all ends =
    let none = no_asked k.pending w.pending_is in
    let ss = spans_to k.sent k.taken k.calls (length k.sent) (length k.taken) in
    let ended = (idle_at login s k w.rests.stands none).ended in
    let at : IsMadeAt (read_calls login ss false (first_place login)) = folded login k.sent k.taken k.calls (length k.sent) (length k.taken) (first_place login) all ends (record { status = refl; trial = refl }) ended.calls in
    let whole : reading login (tape_kept k) ≡ read_calls login ss false (first_place login) =
    ap (λ (xs : List Span). read_calls login xs false (first_place login))
    (ap (λ p. spans_from (tape_kept k) (calls_kept k.calls p)) none ∙ spans_at_rest k.sent k.taken (tape_kept k) refl refl k.calls) in
    record {
      alive = ap (λ r. r.closed) whole ∙ at.open_;
      ended = ap (λ p. have_ended (calls_kept k.calls p)) none ∙ all-ended k.calls;
      read = ap (λ r. is_read_whole r.place) whole ∙ at.read;
      status = ap (λ r. r.place.status) whole ∙ at.outside.status;
    }

-- ---- what a poll adds to them ----

moved-same : (k : Kept) (ms : List Move) → (moved_by k ms).calls ≡ k.calls
moved-same k [] = refl
moved-same k (m ∷ ms) = by-move m ∙ moved-same k ms
  where
    by-move : (m : Move) → (moved_on (moved_by k ms) m).calls ≡ (moved_by k ms).calls
    by-move (Received bytes) = refl
    by-move (Sent offered bytes) = refl

-- the call that is open, or begins, is that of the point
abbrev OpenAt : Making → Option Call → Kept → Type 0
OpenAt at None k = kind_kept k ≡ Some (kind_at at)
OpenAt at (Some call) k = kind_of call ≡ kind_at at

asked-same : (call : Option Call) (k : Kept) → (asked_for call k).calls ≡ k.calls
asked-same None k = refl
asked-same (Some call) k = refl

some-is : {X : Type 0} (x y : X) → Some x ≡ Some y → x ≡ y
some-is x y e = cc

asked-kind : (at : Making) (call : Option Call) (k : Kept) (a : Asked) → OpenAt at call k → (asked_for call k).pending ≡ Some a → kind_of a.call ≡ kind_at at
asked-kind at None k a open_ e = some-is (kind_of a.call) (kind_at at) (sym (ap (option_map (λ (b : Asked). kind_of b.call)) e) ∙ open_)
asked-kind at (Some call) k a open_ e = sym (some-is (kind_of call) (kind_of a.call) (ap (option_map (λ (b : Asked). kind_of b.call)) e)) ∙ open_

kind-makes : (at : Making) → makes_one (kind_at at) ≡ true
kind-makes Shakes = refl
kind-makes (Asks n) = refl
kind-makes (Drops n) = refl

-- one more call was answered, of this kind
record OneMore (at : Making) (ds es : List DoneCall) : Type 0 where
  one : DoneCall
  kind : kind_of one.call ≡ kind_at at
  ready : told_by one.said ≡ ToldReady
  more : es ≡ ds ++ one ∷ []

answered-more : (login : Login) (at : Making) (call : Option Call) (x y : Looks) (k end : Kept) (m : Met) → OpenAt at call k → Does login call x y k end m (Answered Ready) → OneMore at k.calls end.calls
answered-more login at call x y k end m open_ (inl w) = record {
  one = record { call = w.asked.call; sent_from = w.asked.sent_from; taken_from = w.asked.taken_from; said = says.Answered Ready };
  kind = asked-kind at call k w.asked open_ w.pending;
  ready = refl;
  more = ap (λ (f : Kept). f.calls) w.polled.ends ∙ ap (λ ds. ds ++ record { call = w.asked.call; sent_from = w.asked.sent_from; taken_from = w.asked.taken_from; said = says.Answered Ready } ∷ []) (moved-same (asked_for call k) w.polled.moves ∙ asked-same call k);
}
answered-more login at call x y k end m open_ (inr w) = absurd (let e = w.after_is in cc)

pending-same : (login : Login) (call : Option Call) (x y : Looks) (k end : Kept) (m : Met) → Does login call x y k end m Pending → end.calls ≡ k.calls
pending-same login call x y k end m (inl w) = ap (λ (f : Kept). f.calls) w.polled.ends ∙ moved-same (asked_for call k) w.polled.moves ∙ asked-same call k
pending-same login call x y k end m (inr w) = absurd (let e = w.after_is in cc)

one-made : (at : Making) (ds es : List DoneCall) → OneMore at ds es → AreMaking ds → AreMaking es
one-made at ds es w all = subst AreMaking (sym w.more) (making-more ds w.one all (record { makes = ap makes_one w.kind ∙ kind-makes at; ready = w.ready }))

record IsAtPoint (p : Point) : Type 0 where
  calls : AreMaking p.kept.calls
  open_ : OpenAt p.at p.call p.kept

follows-kind : (texts : Texts) (at to : Making) (call : Call) → Follows texts at to call → kind_of call ≡ kind_at to
follows-kind texts Shakes to call w = rw (w.2, w.3) refl
follows-kind texts (Asks n) to call w = rw (w.0, w.1) refl
follows-kind texts (Drops n) to call w = rw (w.2, w.3) refl

passed : (texts : Texts) (login : Login) (p q : Point) → Passes texts login p q → IsAtPoint p → IsAtPoint q
passed texts login p q w h = record {
  calls = one-made p.at p.kept.calls q.kept.calls (answered-more login p.at p.call p.looks q.looks p.kept q.kept w.met h.open_ w.does) h.calls;
  open_ = subst (λ c. OpenAt q.at c q.kept) (sym w.call_is) (follows-kind texts p.at q.at w.call w.follows);
}

walked : (texts : Texts) (login : Login) (p q : Point) (ms : List Point) → Leads texts login p ms q → IsAtPoint p → IsAtPoint q
walked texts login p q [] w h = subst IsAtPoint (sym w) h
walked texts login p q (m ∷ ms) w h = passed texts login m q w.1 (walked texts login p m ms w.0 h)

goes-on : (login : Login) (kind : CallKind) (s : Seen) (t : Option Tape) (k : Kept) → GoesOn login kind None s t k → kind_kept k ≡ Some kind
goes-on login kind s t k w = sym w.1.pending_is ∙ w.2

opens : (login : Login) (at : Making) (s : Seen) (t : Option Tape) (k : Kept) → MakesFor login at None s t k → kind_kept k ≡ Some (kind_at at)
opens login Shakes s t k w = ap (option_map (λ (a : Asked). kind_of a.call)) w.2.asked.asked ∙ ap Some w.2.connects
opens login (Asks n) s t k w = goes-on login (kind_at (Asks n)) s t k w
opens login (Drops n) s t k w = goes-on login (kind_at (Drops n)) s t k w

-- the point of the last call of a poll
last-point : (texts : Texts) (login : Login) (at : Making) (x y : Looks) (s : Seen) (t : Option Tape) (k end : Kept) (m : Met) (after : After) → MakesFor login at None s t k → AreMaking k.calls
    → (c : Polls texts login at x y k end m after) → IsAtPoint c.last
last-point texts login at x y s t k end m after w all c =
    walked texts login (first_point at x k) c.last c.earlier c.leads (record { calls = all; open_ = opens login at s t k w })

ends-kind : (texts : Texts) (at : Making) → Ends texts at → ends_one (kind_at at) ≡ true
ends-kind texts Shakes w = refl
ends-kind texts (Asks n) w = absurd (let e = w.1 in cc)
ends-kind texts (Drops n) w = refl

-- ---- the making of a connection ----

module _ {L : Type 0} where
  pub stays-being : (look : L → Looks) (texts : Texts) (now : ℕ) (old new : ConnectSeen L) (m : Met) → IsBeingMade old → Stays look texts now old new m → IsBeingMade new
  stays-being look texts now old new m b w =
      let e = w.stays.each b.login b.kept b.makes in
      let c = e.2 in
      let at = last-point texts b.login old.at (look old.link) (look new.link) old.seen old.tape b.kept e.0 m Pending b.makes b.calls c in
      record {
        login = b.login;
        kept = e.0;
        makes = e.1;
        calls = subst AreMaking (sym (pending-same b.login c.last.call c.last.looks (look new.link) c.last.kept e.0 c.met c.does)) at.calls;
      }

  pub made-fit : (look : L → Looks) (texts : Texts) (now : ℕ) (old : ConnectSeen L) (conn : ConnSeen L) (m : Met) → IsBeingMade old → MakesIt look texts now old conn m → IsFit conn
  made-fit look texts now old conn m b w =
      let e = w.made.each b.login b.kept b.makes in
      let c = e.2 in
      let at = last-point texts b.login old.at (look old.link) (look conn.link) old.seen old.tape b.kept e.0 m (Answered Ready) b.makes b.calls c in
      let more = answered-more b.login c.last.at c.last.call c.last.looks (look conn.link) c.last.kept e.0 c.met at.open_ c.does in
      let all : AreMaking e.0.calls = one-made c.last.at c.last.kept.calls e.0.calls more at.calls in
      let ends : EndsWell e.0.calls = subst EndsWell (sym more.more) (ends-more c.last.kept.calls more.one (ap ends_one more.kind ∙ ends-kind texts c.last.at e.3)) in
      let clean = (clean_by b.login conn.seen conn.tape e.0 e.1).0 (made-clean b.login conn.seen conn.tape e.0 e.1 all ends) in
      record {
        alive = ap (λ a. a || conn.seen.closed) w.lost ∙ clean.0;
        clean = clean.1;
        still = w.pending;
      }

  pub begins-being : (socket : L → Bool) (opts : OptsView) (moment : Moment) (link : L) (c : ConnectSeen L) → Begins socket opts moment link c → IsBeingMade c
  begins-being socket opts moment link c w = record {
    login = login_of opts;
    kept = first_kept;
    makes = subst (λ at. MakesFor (login_of opts) at None c.seen c.tape first_kept) (sym w.first) (refl, first_asked, w.begins);
    calls = tt;
  }
