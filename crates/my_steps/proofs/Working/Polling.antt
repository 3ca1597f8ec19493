-- How a connection stands as its calls are polled.
use Rattle.std.proofs.Common.{ℕ, ◌≡◌, inl, inr, ◌||◌, Bool, true, false, not, Option, Some, None, is_some, refl, sym, ap, ◌∙◌, subst}
use Rattle.std.proofs.lemmas.Bool.{false≢true}
use Rattle.my_grammar.specs.declared.login.Login.{Login}
use Rattle.my_link.specs.Looks.{Looks}
use Rattle.my_link.specs.declared.met.Met.{Met}
use Rattle.my_reading.specs.Calls.{kind_of, is_connect, is_unrefused}
use Rattle.my_reading.specs.declared.call.Call.{Call}
use Rattle.my_reading.specs.declared.call.CallKind.{CallKind}
use Rattle.my_reading.specs.declared.error.Error.TheVariants.{NoMemory}
use Rattle.my_session.specs.Sessions.{is_refused}
use Rattle.my_client.specs.declared.poll.After.{After}
use Rattle.my_client.specs.declared.poll.After.TheVariants.{Pending, Answered, Failed}
use Rattle.my_client.specs.declared.tape.Tape.{Tape}
use Rattle.my_client.specs.Calls.{Does, MayPoll, PollsOn, Refuses, asked_for}
use Rattle.my_client.specs.Ends.{kept_after}
use Rattle.my_client.specs.Kept.{Asked, Kept, made_of}
use Rattle.my_client.specs.Made.{has_closed}
use Rattle.my_client.specs.Notes.{Agrees}
use Rattle.my_client.specs.Polls.{moved_by}
use Rattle.my_client.specs.StandsFor.{StandsFor}
use Rattle.my_client.proofs.Moving.{all_pending}
use Rattle.my_client.proofs.Resting.{stands_closed}
use Rattle.my_client.proofs.Standing.{asked_kind, no_asked}
use Rattle.my_conn.specs.Calls.{CallIs}
use Rattle.my_conn.specs.Conn.{ConnSeen}
use Rattle.my_steps.specs.Keeps.{IsPlain, StandsBy}
use Rattle.my_steps.specs.Polled.{EachPolled, ran_out}
use Rattle.my_steps.specs.Slot.{kept_of, kept_some}

-- what a tape that is kept has is what the connection did
pub tape_has : (p : Option Tape) (k : Kept) → is_some p ≡ true → Agrees p k → k ≡ kept_some p
tape_has None k e w = absurd (false≢true e)
tape_has (Some t) k e w = sym w

-- where memory didn't run out, the connection isn't lost
not_lost : (b : Bool) (after : After) → ran_out after ≡ false → (b ≡ true → after ≡ Failed NoMemory) → b ≡ false
not_lost false after e f = refl
not_lost true after e f = absurd (false≢true (sym e ∙ ap ran_out (f refl)))

-- the open call is no handshake, and has no rows
module _ (b : Kept) (a : Asked) (end : Kept) (has : b.pending ≡ Some a) (plain : IsPlain (Some a)) where
  ends_plain : (after : After) → end ≡ kept_after b a after → IsPlain end.pending
  ends_plain Pending e = subst IsPlain (sym (ap (λ (q : Kept). q.pending) e ∙ has)) plain
  ends_plain (Answered answer) e = subst (λ (q : Kept). IsPlain q.pending) (sym e) tt
  ends_plain (Failed x) e = subst (λ (q : Kept). IsPlain q.pending) (sym e) tt

asked_plain : (kind : CallKind) (call : Option Call) (p : Option CallKind) (k : Kept) → MayPoll kind call p → IsPlain k.pending → IsPlain (asked_for call k).pending
asked_plain kind None p k may plain = plain
asked_plain kind (Some call) p k may plain = (refl, ap is_connect may.1 ∙ may.2)

plain_after : (login : Login) (kind : CallKind) (call : Option Call) (p : Option CallKind) (x y : Looks) (k end : Kept) (m : Met) (after : After) → MayPoll kind call p → IsPlain k.pending → Does login call x y k end m after → IsPlain end.pending
plain_after login kind call p x y k end m after may plain (inl d) =
    ends_plain (moved_by (asked_for call k) d.polled.moves) d.asked end (all_pending (asked_for call k) d.polled.moves ∙ d.pending)
    (subst IsPlain d.pending (asked_plain kind call p k may plain)) after d.polled.ends
plain_after login kind call p x y k end m after may plain (inr d) = subst (λ (q : Kept). IsPlain q.pending) (sym d.end_is) tt

-- a poll
pub conn_polled : {L : Type 0} (look : L → Looks) (now : ℕ) (kind : CallKind) (call : Option Call) (c d : ConnSeen L) (m : Met) (after : After) → MayPoll kind call c.pending → ran_out after ≡ false → CallIs look now kind call c d m after → EachPolled look call c d m after
conn_polled look now kind call c d m after may ran is login w =
    let alive : d.lost ≡ false = not_lost d.lost after ran (λ e. (is.loses w.alive e).0) in
    let each = is.each w.alive alive login (kept_of c) w.stands in
    let taped : is_some d.tape ≡ true = is.keeps alive ∙ w.taped in
    let same : each.0 ≡ kept_of d = tape_has d.tape each.0 taped each.1.agrees in
    let does : Does login call (look c.link) (look d.link) (kept_of c) (kept_of d) m after = subst (λ (q : Kept). Does login call (look c.link) (look d.link) (kept_of c) q m after) same each.2 in
    record {
      stood = record {
        alive = alive;
        taped = taped;
        stands = subst (StandsFor login d.seen d.tape d.pending) same each.1;
        plain = plain_after login kind call c.pending (look c.link) (look d.link) (kept_of c) (kept_of d) m after may w.plain does;
      };
      does = does;
    }

-- whether a call is open
module _ {L : Type 0} (login : Login) (c : ConnSeen L) (w : StandsBy login c) where
  pub none_open : c.pending ≡ None → (kept_of c).pending ≡ None
  none_open e = no_asked (kept_of c).pending (sym e ∙ w.stands.pending_is)

  pub some_open : (kind : CallKind) → c.pending ≡ Some kind → (a : Asked) × ((kept_of c).pending ≡ Some a) × (kind_of a.call ≡ kind)
  some_open kind e = asked_kind (kept_of c).pending kind (sym e ∙ w.stands.pending_is)

  pub plain_open : (a : Asked) → (kept_of c).pending ≡ Some a → (a.rows ≡ None) × (is_connect (kind_of a.call) ≡ false)
  plain_open a e = subst IsPlain e w.plain

  -- whether it is closed, as the calls that ended say
  pub closed_so : has_closed (made_of (kept_of c).calls) ≡ c.lost || c.seen.closed
  closed_so = stands_closed login c.seen (kept_of c) w.stands.rests.stands ∙ sym (ap (λ (b : Bool). b || c.seen.closed) w.alive)

  pub refused_so : (kind : CallKind) (b : Bool) → is_refused (c.lost || c.seen.closed) kind ≡ b → is_refused (has_closed (made_of (kept_of c).calls)) kind ≡ b
  refused_so kind b e = ap (λ (closed : Bool). is_refused closed kind) closed_so ∙ e

-- an open call continues
pub polls_open : (login : Login) (x y : Looks) (k end : Kept) (m : Met) (after : After) → Does login None x y k end m after → PollsOn login None x y k end m after
polls_open login x y k end m after (inl d) = d
polls_open login x y k end m after (inr d) = absurd (no_call d.given d.call_is)
  where
    no_call : (call : Call) → None ≡ Some call → ⊥
    no_call call e = cc

-- a call that begins is polled, or refused
call_same : (call given : Call) → Some call ≡ Some given → call ≡ given
call_same call given e = cc

pub polls_begun : (login : Login) (call : Call) (x y : Looks) (k end : Kept) (m : Met) (after : After) → is_refused (has_closed (made_of k.calls)) (kind_of call) ≡ false → Does login (Some call) x y k end m after → PollsOn login (Some call) x y k end m after
polls_begun login call x y k end m after e (inl d) = d
polls_begun login call x y k end m after e (inr d) =
    let yes : is_refused (has_closed (made_of k.calls)) (kind_of call) ≡ true =
    ap (λ (b : Bool). is_refused b (kind_of call)) d.closed ∙ ap (λ (z : Call). not (is_unrefused (kind_of z))) (call_same call d.given d.call_is) ∙ ap not d.other in
    absurd (false≢true (sym e ∙ yes))

pub refuses_begun : (login : Login) (call : Call) (x y : Looks) (k end : Kept) (m : Met) (after : After) → is_refused (has_closed (made_of k.calls)) (kind_of call) ≡ true → Does login (Some call) x y k end m after → Refuses (Some call) x y k end m after
refuses_begun login call x y k end m after e (inl d) = absurd (false≢true (sym d.admitted ∙ e))
refuses_begun login call x y k end m after e (inr d) = d

-- the call that is asked for
pub asked_same : (q : Option Asked) (a b : Asked) → q ≡ Some a → q ≡ Some b → a ≡ b
asked_same q a b e f = let same : Some a ≡ Some b = sym e ∙ f in cc

-- a tape that was kept isn't gone, nor is a call that is open
pub none_taped : {A : Type 0} (q p : Option Tape) → q ≡ None → is_some q ≡ is_some p → is_some p ≡ true → A
none_taped q p e keeps taped = absurd (false≢true (sym (ap is_some e) ∙ keeps ∙ taped))

pub none_pending : {A : Type 0} (p : Option CallKind) (kind : CallKind) → p ≡ None → p ≡ Some kind → A
none_pending p kind e f = let no : None ≡ Some kind = sym e ∙ f in cc
