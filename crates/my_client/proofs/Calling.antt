-- A call over a session, for all that may have been done before it.
use Rattle.std.proofs.Common.{ℕ, ◌≡◌, ◌≤◌, [], length, drop, inl, inr, ◌⊎◌, Option, Some, None, Bool, false, true, ◌&&◌, cond, not, is_some, refl, sym, ap, ◌∙◌, subst, arith}
use Rattle.std.proofs.lemmas.Bool.{false≢true}
use Rattle.std.proofs.lemmas.List.{drop_all}
use Rattle.my_frame.specs.declared.limits.TheConstants.{MOST_TAKEN}
use Rattle.my_grammar.specs.declared.login.Login.{Login}
use Rattle.my_link.specs.Looks.{Looks}
use Rattle.my_link.specs.Met.{nothing_met}
use Rattle.my_link.specs.declared.met.Met.{Met}
use Rattle.my_reading.specs.Calls.{kind_of, is_unrefused}
use Rattle.my_reading.specs.Course.{Returns}
use Rattle.my_reading.specs.Errors.{connection_closed}
use Rattle.my_reading.specs.Place.{Place, with_bytes}
use Rattle.my_reading.specs.Told.{ToldReady, ToldError}
use Rattle.my_reading.specs.declared.call.Call.{Call}
use Rattle.my_reading.specs.declared.error.Error.{Error}
use Rattle.my_client.specs.declared.poll.After.{After}
use Rattle.my_client.specs.declared.poll.After.TheVariants.{Pending, Answered, Failed}
use Rattle.my_client.specs.declared.tape.Tape.{Tape}
use Rattle.my_client.specs.declared.tape.Said.TheVariants as says
use Rattle.my_client.specs.Ends.{kept_after}
use Rattle.my_client.specs.Kept.{Asked, Kept, asking, asked_by, ended_by}
use Rattle.my_client.specs.Notes.{Agrees}
use Rattle.my_client.specs.Reads.{ComesTo, EndedRead, place_kept}
use Rattle.my_client.proofs.TapeRead.{no_bytes}
use Rattle.my_client.proofs.TapeRead.Stopping.{place_open, stop_open}
use Rattle.my_session.specs.Sessions.{Seen, begun, is_refused}
use Rattle.my_session.specs.View.{View}
use Rattle.my_client.specs.Drives.{Drives}
use Rattle.my_client.specs.Lives.{Lives}
use Rattle.my_client.specs.Polls.{moved_by}
use Rattle.my_client.specs.Stands.{IsSaid, Rests, Stands, StandsAsked, StandsIdle, WaitsIn}
use Rattle.my_client.specs.Turns.{EachPoll, PollFor, WaitsBy}
use Rattle.my_client.proofs.Beginning.{begun_closed, begun_open}
use Rattle.my_client.proofs.Driving.{drives_for}
use Rattle.my_client.proofs.Ending.{returned_read}
use Rattle.my_client.proofs.Living.{lives_still, lives_then}
use Rattle.my_client.proofs.Moving.{all_pending, said_at, started}
use Rattle.my_client.proofs.Resting.{idle_at, rests_closed}
use Rattle.my_client.specs.Calls.{CallFor, Does, EachCall, IsAdmitted, Leaves}

-- what the tape keeps of it
abbrev pub NotesCall : Option Tape → Option Tape → Call → Type 0
NotesCall p q call = (k : Kept) → Agrees p k → Agrees q (asking k call None)

abbrev pub NotesAfter : Option Tape → Option Tape → After → Type 0
NotesAfter p q after = (k : Kept) (a : Asked) → Agrees p k → k.pending ≡ Some a → Agrees q (kept_after k a after)

-- what is kept after a poll, and where its session rests
rests_after : (login : Login) (t : Seen) (next : Kept) (a : Asked) (after : After) → next.pending ≡ Some a → Stands login t (kept_after next a after) → WaitsBy login t (kept_after next a after) a after
    → Rests login t (kept_after next a after)
rests_after login t next a Pending e stands w = record { stands = stands; waits = subst (WaitsIn login t next) (sym e) w }
rests_after login t next a (Answered answer) e stands w = record { stands = stands; waits = tt }
rests_after login t next a (Failed x) e stands w = record { stands = stands; waits = tt }

same_asked : (a b : Asked) → Some a ≡ Some b → a ≡ b
same_asked a b e = cc

-- the open call was polled
pub polled_call : (s t : Seen) (x y : Looks) (p q r : Option Tape) (m : Met) (after : After) → m.taken ≤ MOST_TAKEN → EachPoll s t x y p q m after → NotesAfter q r after
    → EachCall None s t x y p r m after
polled_call s t x y p q r m after within each noted login k w agrees =
    let u : PollFor (Agrees q) s t x y k m after = each k agrees in
    let a : Asked = w.0 in
    let next : Kept = moved_by k u.moves in
    let pending : next.pending ≡ Some a = all_pending k u.moves ∙ w.1.asked in
    let d : Drives login a t x y k (kept_after next a after) m after =
    drives_for (Agrees q) s t x y k m after u (kept_after next a after) within (λ b e. ap (λ (c : Asked). kept_after next c after) (same_asked a b (sym pending ∙ e))) login a w.1 in
    record {
      end = kept_after next a after;
      rests = rests_after login t next a after pending d.stands d.waits;
      agrees = noted next a u.noted pending;
      does = inl (record { admitted = tt; asked = a; pending = w.1.asked; polled = d.polled });
    }

-- a call that begins
does_begun : (login : Login) (call : Call) (x y : Looks) (k end : Kept) (m : Met) (after : After) → IsAdmitted (Some call) k → Does login None x y (asking k call None) end m after → Does login (Some call) x y k end m after
does_begun login call x y k end m after admitted (inl w) = inl (record { admitted = admitted; asked = w.asked; pending = w.pending; polled = w.polled })
does_begun login call x y k end m after admitted (inr w) = absurd (no_call w.given w.call_is)
  where
    no_call : (c : Call) → None ≡ Some c → ⊥
    no_call c e = cc

not_true : (b : Bool) → (b ≡ true → ⊥) → b ≡ false
not_true true f = absurd (f refl)
not_true false f = refl

bool_cases : (b : Bool) → (b ≡ true) ⊎ (b ≡ false)
bool_cases true = inl refl
bool_cases false = inr refl

-- it is open, where it isn't refused
pub asked_begun : (login : Login) (s r : Seen) (k : Kept) (call : Call) → (is_refused s.closed (kind_of call) ≡ true → ⊥) → r ≡ begun call s → Stands login s k → k.pending ≡ None
    → StandsAsked login r (asking k call None) (asked_by k call)
asked_begun login s r k call unrefused is w none =
    subst (λ (v : Seen). StandsAsked login v (asking k call None) (asked_by k call)) (sym is) (by_closed (bool_cases s.closed) (bool_cases (is_unrefused (kind_of call))))
  where
    by_closed : (s.closed ≡ true) ⊎ (s.closed ≡ false) → (is_unrefused (kind_of call) ≡ true) ⊎ (is_unrefused (kind_of call) ≡ false)
        → StandsAsked login (begun call s) (asking k call None) (asked_by k call)
    by_closed (inr alive) other = begun_open login s k call None w none alive
    by_closed (inl shut) (inl free) = begun_closed login s k call None w none shut free
    by_closed (inl shut) (inr held) = absurd (unrefused (ap (λ b. b && not (is_unrefused (kind_of call))) shut ∙ ap not held))

pub begun_call : (s r t : Seen) (x y : Looks) (p q u : Option Tape) (call : Call) (m : Met) (after : After) → (is_refused s.closed (kind_of call) ≡ true → ⊥) → NotesCall p q call → r ≡ begun call s
    → EachCall None r t x y q u m after → EachCall (Some call) s t x y p u m after
begun_call s r t x y p q u call m after unrefused noted is each login k w agrees =
    let asked : StandsAsked login r (asking k call None) (asked_by k call) = asked_begun login s r k call unrefused is w.0 w.1 in
    let f : CallFor login None t u x y (asking k call None) m after = each login (asking k call None) (asked_by k call, asked) (noted k agrees) in
    record {
      end = f.end;
      rests = f.rests;
      agrees = f.agrees;
      does = does_begun login call x y k f.end m after (ap (λ (b : Bool). is_refused b (kind_of call)) (rests_closed login s k w.0 w.1) ∙ not_true (is_refused s.closed (kind_of call)) unrefused) f.does;
    }

-- a closed connection refuses it, and stands for that
module _ (login : Login) (s : Seen) (k : Kept) (call : Call) (w : Stands login s k) (none : k.pending ≡ None) (shut : s.closed ≡ true) (held : is_unrefused (kind_of call) ≡ false) where
  abbrev asked : Asked
  asked = asked_by k call

  abbrev began : Kept
  began = asking k call None

  abbrev refused : Kept
  refused = ended_by began asked (says.Failed connection_closed)

  before_read : (i : StandsIdle login s k) → EndedRead login began asked.sent_from asked.taken_from true i.place
  before_read i =
      let was : EndedRead login k (length k.sent) (length k.taken) true i.place = subst (λ (c : Bool). EndedRead login k (length k.sent) (length k.taken) c i.place) shut i.ended in
      record {
        within = was.within;
        sent_within = was.sent_within;
        taken_within = was.taken_within;
        calls = was.calls;
        place_is = was.place_is;
        closed_is = was.closed_is;
      }

  no_more : (p : Place) → started began asked p ≡ p
  no_more p =
      ap (λ x. with_bytes x (drop (length k.taken) k.taken) p) (drop_all (length k.sent) k.sent (omega arith))
      ∙ ap (λ x. with_bytes [] x p) (drop_all (length k.taken) k.taken (omega arith)) ∙ no_bytes p

  comes : (i : StandsIdle login s k) → ComesTo login began (ToldError connection_closed)
  comes i = stop_open login began asked true i.place (before_read i) refl ∙ ap (λ b. Some (Returns (cond b ToldReady (ToldError connection_closed)))) held

  said : (i : StandsIdle login s k) → IsSaid (place_kept login began)
  said i = subst IsSaid (sym (place_open login began asked true i.place (before_read i) refl ∙ no_more i.place)) (said_at login i.place s.stand i.at)

  pub refused_stands : Stands login s refused
  refused_stands =
      let i : StandsIdle login s k = idle_at login s k w none in
      record {
        login_is = w.login_is;
        alive = w.alive;
        at = record {
          place = i.place;
          ended = subst (λ (c : Bool). EndedRead login refused (length k.sent) (length k.taken) c i.place) (sym shut)
              (subst (λ (p : Place). EndedRead login refused (length k.sent) (length k.taken) true p) (no_more i.place)
              (returned_read login began asked true i.place (before_read i) refl (said i) (λ e. (refl, refl)) (says.Failed connection_closed) (comes i)));
          at = i.at;
          idle = i.idle;
        };
      }

both_true : (a b : Bool) → a && not b ≡ true → (a ≡ true) × (b ≡ false)
both_true true true e = absurd (false≢true e)
both_true true false e = (refl, refl)
both_true false b e = absurd (false≢true e)

pub refused_call : (s t : Seen) (x y : Looks) (p q r : Option Tape) (call : Call) (m : Met) (e : Error) → NotesCall p q call → is_refused s.closed (kind_of call) ≡ true → t ≡ s → e ≡ connection_closed → y ≡ x
    → m ≡ nothing_met → NotesAfter q r (Failed e) → EachCall (Some call) s t x y p r m (Failed e)
refused_call s t x y p q r call m e noted refused same why link none after login k w agrees =
    let parts = both_true s.closed (is_unrefused (kind_of call)) refused in
    let end : Kept = ended_by (asking k call None) (asked_by k call) (says.Failed connection_closed) in
    record {
      end = end;
      rests = record { stands = subst (λ (v : Seen). Stands login v end) (sym same) (refused_stands login s k call w.0 w.1 parts.0 parts.1); waits = tt };
      agrees = subst (λ (x : Error). Agrees r (ended_by (asking k call None) (asked_by k call) (says.Failed x))) why (after (asking k call None) (asked_by k call) (noted k agrees) refl);
      does = inr (record {
        given = call;
        call_is = refl;
        closed = rests_closed login s k w.0 w.1 ∙ parts.0;
        other = parts.1;
        after_is = ap Failed why;
        end_is = refl;
        link_is = link;
        none = none;
      });
    }

-- the beginning of a call reads nothing
lives_begun : (now n : ℕ) (a b c : View) (call : Call) → b.seen ≡ begun call a.seen → b.lifetime ≡ a.lifetime → Lives now n b c → Lives now n a c
lives_begun now n a b c call seen same w =
    let unread : length b.seen.stand.unread ≡ length a.seen.stand.unread = ap (λ (v : Seen). length v.stand.unread) seen in
    lives_then now n a b c (lives_still now 0 a b (omega (arith, unread)) same) w

pub leaves_begun : (now n : ℕ) (a b c : View) (p q u : Option Tape) (call : Call) → b.seen ≡ begun call a.seen → b.lifetime ≡ a.lifetime → is_some q ≡ is_some p → Leaves now n b c q u → Leaves now n a c p u
leaves_begun now n a b c p q u call seen same kept w = record {
  within = w.within;
  lives = lives_begun now n a b c call seen same w.lives;
  keeps = w.keeps ∙ kept;
}

-- nor does a call that is refused
pub leaves_refused : (now n : ℕ) (a b : View) (p q : Option Tape) → n ≡ 0 → b.seen ≡ a.seen → b.lifetime ≡ a.lifetime → is_some q ≡ is_some p → Leaves now n a b p q
leaves_refused now n a b p q none seen same kept =
    let unread : length b.seen.stand.unread ≡ length a.seen.stand.unread = ap (λ (v : Seen). length v.stand.unread) seen in
    record {
      within = omega (arith, none);
      lives = lives_still now n a b (omega (arith, none, unread)) same;
      keeps = kept;
    }
