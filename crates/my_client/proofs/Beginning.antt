-- How a call begins, and how one is cancelled.
use Rattle.std.proofs.Common.{◌≡◌, List, [], ◌∷◌, length, drop, Bool, true, false, ◌||◌, ◌&&◌, not, Option, Some, None, inl, inr, refl, sym, ap, ◌∙◌, subst, arith}
use Rattle.std.proofs.lemmas.Bool.{false≢true}
use Rattle.std.proofs.lemmas.List.{drop_all}
use Rattle.my_value.specs.RowParts.{RowParts}
use Rattle.my_grammar.specs.declared.login.Login.{Login}
use Rattle.my_grammar.specs.Talk.{context_of}
use Rattle.my_machine.specs.declared.stand.Stand.{Stand}
use Rattle.my_reading.specs.declared.call.Call.{Call}
use Rattle.my_reading.specs.declared.call.Call.TheVariants as calls
use Rattle.my_reading.specs.declared.call.CallKind.{CallKind}
use Rattle.my_reading.specs.declared.call.CallKind.TheVariants.{NextRow, DropResult, TakeSet, SkipTaken}
use Rattle.my_reading.specs.Calls.{is_unrefused, kind_of}
use Rattle.my_reading.specs.Course.{Part, Stop, Owes, Awaits, parts_of}
use Rattle.my_reading.specs.Endings.{closes_cancelled}
use Rattle.my_reading.specs.Leads.{Leads, Here}
use Rattle.my_reading.specs.Place.{Place, first_place, with_bytes}
use Rattle.my_reading.specs.Reading.{read_calls}
use Rattle.my_session.specs.declared.opened.Opened.{Opened}
use Rattle.my_session.specs.Sessions.{IsBegun, Seen, begun, closes_at, ended_by as closed_by, first_progress}
use Rattle.my_client.specs.declared.tape.Said.TheVariants as says
use Rattle.my_client.specs.Kept.{Asked, Kept, asking, ended_by, first_asked, first_kept, nothing_kept}
use Rattle.my_client.specs.Reads.{EndedRead, IsWaiting, place_kept}
use Rattle.my_client.proofs.TapeRead.{no_bytes}
use Rattle.my_client.proofs.TapeRead.Stopping.{place_open}
use Rattle.my_client.specs.declared.tape.Tape.{Tape}
use Rattle.my_client.specs.Makes.{ConnectsFor}
use Rattle.my_client.specs.Notes.{Agrees}
use Rattle.my_client.specs.Drives.{CancelLeaves, closes_by}
use Rattle.my_client.specs.Stands.{Stands, StandsAsked, StandsAt, StandsIdle, StandsOpen, Stopped, Waits}
use Rattle.my_client.proofs.Ending.{cancelled_read}
use Rattle.my_client.proofs.Moving.{place_stopped, said_stopped, started, stop_stopped}

all_left : (ps : List Part) → ps ≡ drop 0 ps
all_left [] = refl
all_left (x ∷ ps) = refl

-- a call begins where none is open
module _ (login : Login) (s : Seen) (k : Kept) (call : Call) (rows : Option (List RowParts)) (w : Stands login s k) (none : k.pending ≡ None) where
  abbrev asked : Asked
  asked = record { call = call; sent_from = length k.sent; taken_from = length k.taken; rows = rows }

  idle : StandsIdle login s k
  idle = subst (StandsAt login s k) none w.at

  pub ended : (i : StandsIdle login s k) (b : Bool) → s.closed ≡ b → EndedRead login (asking k call rows) (length k.sent) (length k.taken) b i.place
  ended i b e =
      let was : EndedRead login k (length k.sent) (length k.taken) b i.place = subst (λ (c : Bool). EndedRead login k (length k.sent) (length k.taken) c i.place) e i.ended in
      record {
        within = was.within;
        sent_within = was.sent_within;
        taken_within = was.taken_within;
        calls = was.calls;
        place_is = was.place_is;
        closed_is = was.closed_is;
      }

  pub no_more : (p : Place) → started (asking k call rows) asked p ≡ p
  no_more p =
      ap (λ x. with_bytes x (drop (length k.taken) k.taken) p) (drop_all (length k.sent) k.sent (omega arith))
      ∙ ap (λ x. with_bytes [] x p) (drop_all (length k.taken) k.taken (omega arith)) ∙ no_bytes p

  pub begun_open : s.closed ≡ false → StandsAsked login (begun call s) (asking k call rows) asked
  begun_open e =
      let i : StandsIdle login s k = idle in
      record {
        stands = record {
          login_is = w.login_is;
          alive = w.alive;
          at = inl (record {
            before = i.place;
            ended = ended i false e;
            unclosed = e;
            sound = refl;
            progress = first_progress;
            opened = refl;
            place = i.place;
            leads = subst (λ (p : Place). Leads login call (parts_of login call) p (drop 0 (parts_of login call)) i.place) (sym (no_more i.place))
                (subst (λ ps. Leads login call (parts_of login call) i.place ps i.place) (all_left (parts_of login call)) (Here (parts_of login call) i.place));
            at = i.at;
          });
        };
        asked = refl;
      }

  pub begun_closed : s.closed ≡ true → is_unrefused (kind_of call) ≡ true → StandsAsked login (begun call s) (asking k call rows) asked
  begun_closed closed unrefused =
      let i : StandsIdle login s k = idle in
      record {
        stands = record {
          login_is = w.login_is;
          alive = w.alive;
          at = inr (record {
            before = i.place;
            ended = ended i true closed;
            closed = closed;
            sound = refl;
            opened = refl;
            unrefused = unrefused;
            nothing_sent = refl;
            nothing_taken = refl;
            at = i.at;
          });
        };
        asked = refl;
      }

-- before the first call
pub first_stands : (login : Login) (s : Seen) → IsBegun login s → Stands login s nothing_kept
unfolding read_calls
first_stands login s w = record {
  login_is = w.login_is;
  alive = λ e. w.ended;
  at = record {
    place = first_place login;
    ended = subst (λ (b : Bool). EndedRead login nothing_kept 0 0 b (first_place login)) (sym w.closed)
        (record { within = tt; sent_within = omega arith; taken_within = omega arith; calls = tt; place_is = refl; closed_is = refl });
    at = w.at;
    idle = w.idle;
  };
}

pub first_begins : (login : Login) (s : Seen) → IsBegun login s → StandsAsked login (begun calls.Connect s) first_kept first_asked
first_begins login s w = begun_open login s nothing_kept calls.Connect None (first_stands login s w) refl w.closed

-- a session whose handshake is begun, with its tape
pub first_connects : (login : Login) (s t : Seen) (p q : Option Tape) → IsBegun login s → t ≡ begun calls.Connect s → Agrees p nothing_kept
    → ((k : Kept) → Agrees p k → Agrees q (asking k calls.Connect None)) → ConnectsFor login t q first_kept first_asked
first_connects login s t p q w is agrees noted = record {
  asked = subst (λ (u : Seen). StandsAsked login u first_kept first_asked) (sym is) (first_begins login s w);
  agrees = noted nothing_kept agrees;
  connects = refl;
}

-- the call is cancelled
same_closing : (c : CallKind) (p : Place) → closes_at c (context_of p.talk).spot ≡ closes_cancelled c p
same_closing NextRow p = refl
same_closing DropResult p = refl
same_closing TakeSet p = refl
same_closing SkipTaken p = refl
same_closing _ p = refl

and_true : (b : Bool) → b && true ≡ b
and_true true = refl
and_true false = refl

module _ (login : Login) (s t : Seen) (k : Kept) (a : Asked) where
  cancels_at : (stop : Stop) (w : Stopped stop login s k a) → IsWaiting login k → t ≡ closed_by (s.closed || closes_at (kind_of a.call) s.stand.context.spot) s → CancelLeaves login s t k a
  cancels_at stop w waiting is =
      let o : StandsOpen login s k a = w.so_far in
      let b : Bool = closes_at (kind_of a.call) s.stand.context.spot in
      let place : place_kept login k ≡ o.place = place_stopped stop login s k a w in
      let t_is : t ≡ closed_by b s = is ∙ ap (λ (c : Bool). closed_by (c || b) s) o.unclosed in
      let closing : closes_by s t ≡ b = ap (λ (u : Seen). u.closed && not s.closed) t_is ∙ ap (λ c. b && not c) o.unclosed ∙ and_true b in
      let same : b ≡ closes_cancelled (kind_of a.call) (place_kept login k) =
      ap (λ (x : Stand). closes_at (kind_of a.call) x.context.spot) o.at.stand_is ∙ same_closing (kind_of a.call) o.place
      ∙ ap (closes_cancelled (kind_of a.call)) (sym place) in
      let ended : EndedRead login (ended_by k a (says.Cancelled b)) (length k.sent) (length k.taken) b o.place =
      subst (λ (p : Place). EndedRead login (ended_by k a (says.Cancelled b)) (length k.sent) (length k.taken) b p)
      (sym (place_open login k a false o.before o.ended w.stands.asked) ∙ place)
      (cancelled_read login k a false o.before o.ended w.stands.asked (said_stopped stop login s k a w) (λ x. absurd (false≢true x)) waiting b same) in
      record {
        closes = closing ∙ same;
        stands = subst (λ (c : Bool). Stands login t (ended_by k a (says.Cancelled c))) (sym closing)
            (subst (λ (u : Seen). Stands login u (ended_by k a (says.Cancelled b))) (sym t_is) (record {
              login_is = w.stands.stands.login_is;
              alive = λ x. w.stands.stands.alive o.unclosed;
              at = record { place = o.place; ended = ended; at = o.at; idle = refl };
            }));
      }

  pub cancels : ((o : Opened) → s.opened ≡ Some o → t ≡ closed_by (s.closed || closes_at (kind_of o.call) s.stand.context.spot) s) → Waits login s k a → CancelLeaves login s t k a
  cancels is (inl w) = cancels_at Owes w (inl (stop_stopped Owes login s k a w)) (is (record { call = a.call; progress = w.so_far.progress }) w.so_far.opened)
  cancels is (inr w) = cancels_at Awaits w (inr (stop_stopped Awaits login s k a w)) (is (record { call = a.call; progress = w.so_far.progress }) w.so_far.opened)
