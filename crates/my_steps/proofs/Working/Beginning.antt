-- How a call begins on a connection.
use Rattle.std.proofs.Common.{ℕ, ◌≡◌, ◌||◌, List, [], ◌∷◌, Bool, true, false, Option, Some, None, refl, sym, ap, ◌∙◌, subst}
use Rattle.my_grammar.specs.declared.login.Login.{Login}
use Rattle.my_link.specs.Looks.{Looks}
use Rattle.my_link.specs.declared.met.Met.{Met}
use Rattle.my_reading.specs.Calls.{kind_of}
use Rattle.my_reading.specs.Errors.{connection_closed}
use Rattle.my_reading.specs.declared.call.Call.{Call}
use Rattle.my_reading.specs.declared.call.CallKind.{CallKind}
use Rattle.my_session.specs.Sessions.{is_refused}
use Rattle.my_script.specs.declared.transcript.Outcome.{Outcome}
use Rattle.my_script.specs.declared.transcript.Outcome.TheVariants.{NoSuchHandle}
use Rattle.my_script.specs.declared.transcript.Use.{Use}
use Rattle.my_client.specs.declared.poll.After.{After}
use Rattle.my_client.specs.declared.tape.Said.TheVariants as says
use Rattle.my_client.specs.Calls.{PollsOn, Refuses}
use Rattle.my_client.specs.Kept.{Asked, Kept, asked_by, asking, ended_by, made_of}
use Rattle.my_client.specs.Made.{has_closed}
use Rattle.my_client.specs.Polls.{IsPolled}
use Rattle.my_conn.specs.Conn.{ConnSeen}
use Rattle.my_steps.specs.declared.slot.Slot.TheVariants.{There}
use Rattle.my_steps.specs.Did.{Did}
use Rattle.my_steps.specs.Grows.{Begins, BeginsOn, Calls, PolledOnce, shown}
use Rattle.my_steps.specs.Handle.{Joined}
use Rattle.my_steps.specs.Keeps.{StandsBy}
use Rattle.my_steps.specs.Polled.{ConnPolled, ConnRefused, ConnShown}
use Rattle.my_steps.specs.Slot.{kept_of}
use Rattle.my_steps.specs.Sums.{use_of}
use Rattle.my_steps.proofs.Working.Polling.{asked_same, none_open, polls_begun, refused_so, refuses_begun, some_open}

-- a poll, as a step shows it
pub shown_so : {L : Type 0} (look : L → Looks) (login : Login) (n : ℕ) (call : Option Call) (c d : ConnSeen L) (m : Met) (p : After) (o : Outcome) (us : List Use) → ConnPolled look login call c d m p → o ≡ shown p → us ≡ use_of n m ∷ [] → ConnShown look login n call c d o us
shown_so look login n call c d m p o us w e f = record { after = p; used = use_of n m; polled = w; number = refl; uses = f; outcome = e }

-- it is the one poll of a call
pub polled_once : (login : Login) (n : ℕ) (a : Asked) (k end : Kept) (x y : Looks) (u : Use) (p : After) (o : Outcome) (us : List Use) → IsPolled login a k x u.met p end y → u.number ≡ n → us ≡ u ∷ [] → o ≡ shown p → PolledOnce login n a k x o us (Joined true end y)
polled_once login n a k end x y u p o us w number uses e = record { used = u; uses = uses; number = number; after = p; end = end; link = y; polled = w; outcome = e; left = refl }

-- a step that finds an open call
pub begin_refused : {L : Type 0} (look : L → Looks) (login : Login) (n : ℕ) (call : Call) (c : ConnSeen L) (kind : CallKind) (o : Outcome) (us : List Use) → c.pending ≡ Some kind → o ≡ NoSuchHandle → us ≡ [] → StandsBy login c → Did look login (Calls login n call) o us (There c) (There c)
begin_refused look login n call c kind o us e f g w = record {
  stood = w;
  does = subst (λ (p : Option Asked). BeginsOn p login n call (kept_of c) (look c.link) o us (Joined true (kept_of c) (look c.link))) (sym (some_open login c w kind e).1) (record { outcome = f; uses = g; same = refl });
}

module _ {L : Type 0} (look : L → Looks) (login : Login) (n : ℕ) (call : Call) (c d : ConnSeen L) (o : Outcome) (us : List Use) (idle : c.pending ≡ None) (w : StandsBy login c) where
  -- by whether the connection refuses the call
  begins : (b : Bool) → is_refused (has_closed (made_of (kept_of c).calls)) (kind_of call) ≡ b → Begins b login n call (kept_of c) (look c.link) o us (Joined true (kept_of d) (look d.link)) → Calls login n call (Joined true (kept_of c) (look c.link)) o us (Joined true (kept_of d) (look d.link))
  begins b e r =
      subst (λ (p : Option Asked). BeginsOn p login n call (kept_of c) (look c.link) o us (Joined true (kept_of d) (look d.link))) (sym (none_open login c w idle))
      (subst (λ (b : Bool). Begins b login n call (kept_of c) (look c.link) o us (Joined true (kept_of d) (look d.link))) (sym e) r)

  -- the call is polled
  pub begun_did : is_refused (c.lost || c.seen.closed) (kind_of call) ≡ false → ConnShown look login n (Some call) c d o us → Did look login (Calls login n call) o us (There c) (There d)
  begun_did e v =
      let no = refused_so login c w (kind_of call) false e in
      let p : PollsOn login (Some call) (look c.link) (look d.link) (kept_of c) (kept_of d) v.used.met v.after = polls_begun login call (look c.link) (look d.link) (kept_of c) (kept_of d) v.used.met v.after no v.polled.does in
      let same : p.asked ≡ asked_by (kept_of c) call = asked_same (asking (kept_of c) call None).pending p.asked (asked_by (kept_of c) call) p.pending refl in
      let polled : IsPolled login (asked_by (kept_of c) call) (asking (kept_of c) call None) (look c.link) v.used.met v.after (kept_of d) (look d.link) = subst (λ (a : Asked). IsPolled login a (asking (kept_of c) call None) (look c.link) v.used.met v.after (kept_of d) (look d.link)) same p.polled in
      record {
        stood = v.polled.stood;
        does = begins false no (polled_once login n (asked_by (kept_of c) call) (asking (kept_of c) call None) (kept_of d) (look c.link) (look d.link) v.used v.after o us polled v.number v.uses v.outcome);
      }

  -- or refused
  pub refused_did : is_refused (c.lost || c.seen.closed) (kind_of call) ≡ true → ConnRefused look login call c d o us → Did look login (Calls login n call) o us (There c) (There d)
  refused_did e v = record { stood = v.stood; does = begins true (refused_so login c w (kind_of call) true e) v.closed }

-- a call that a closed connection refuses
pub conn_refused : {L : Type 0} (look : L → Looks) (login : Login) (call : Call) (c d : ConnSeen L) (m : Met) (p : After) (o : Outcome) (us : List Use) → is_refused (c.lost || c.seen.closed) (kind_of call) ≡ true → StandsBy login c → ConnPolled look login (Some call) c d m p → o ≡ shown p → us ≡ [] → ConnRefused look login call c d o us
conn_refused {L} look login call c d m p o us e w v f g =
    let r : Refuses (Some call) (look c.link) (look d.link) (kept_of c) (kept_of d) m p = refuses_begun login call (look c.link) (look d.link) (kept_of c) (kept_of d) m p (refused_so login c w (kind_of call) true e) v.does in
    let same : r.given ≡ call = let is : Some call ≡ Some r.given = r.call_is in cc in
    let end : kept_of d ≡ ended_by (asking (kept_of c) call None) (asked_by (kept_of c) call) (says.Failed connection_closed) =
    r.end_is ∙ ap (λ (z : Call). ended_by (asking (kept_of c) z None) (asked_by (kept_of c) z) (says.Failed connection_closed)) same in
    record {
      stood = v.stood;
      closed = record {
        outcome = f ∙ ap shown r.after_is;
        uses = g;
        left = ap (λ (k : Kept). Joined true k (look d.link)) end ∙ ap (λ (y : Looks). Joined true (ended_by (asking (kept_of c) call None) (asked_by (kept_of c) call) (says.Failed connection_closed)) y) r.link_is;
      };
    }

-- of a kind that is known
pub kind_refused : {L : Type 0} (c : ConnSeen L) (kind : CallKind) (call : Call) (r b : Bool) → kind ≡ kind_of call → r ≡ is_refused (c.lost || c.seen.closed) kind → r ≡ b → is_refused (c.lost || c.seen.closed) (kind_of call) ≡ b
kind_refused c kind call r b e f g = ap (is_refused (c.lost || c.seen.closed)) (sym e) ∙ sym f ∙ g
