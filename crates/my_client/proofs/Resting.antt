-- What the calls that ended say of a session that stands for them, and what the session knows where the reading of its tape stands.
use Rattle.std.proofs.Common.{◌≡◌, inl, inr, ℕ, List, [], ◌∷◌, ◌++◌, length, Bool, true, false, ◌||◌, Option, Some, None, refl, sym, ap, ◌∙◌, subst}
use Rattle.my_grammar.specs.declared.login.Login.{Login}
use Rattle.my_grammar.specs.declared.spot.Context.{Context}
use Rattle.my_grammar.specs.Talk.{context_of}
use Rattle.my_machine.specs.declared.stand.Stand.{Stand}
use Rattle.my_machine.specs.Stands.{IsAt}
use Rattle.my_reading.specs.Calls.{kind_of}
use Rattle.my_reading.specs.Course.{Owes, Awaits}
use Rattle.my_reading.specs.Place.{Place, facts_at, first_place}
use Rattle.my_reading.specs.Reading.{read_calls, reading}
use Rattle.my_reading.specs.Tape.{Span, spans_from}
use Rattle.my_reading.specs.Told.{closes}
use Rattle.my_client.specs.Made.{Made, has_closed}
use Rattle.my_client.specs.declared.tape.DoneCall.{DoneCall}
use Rattle.my_client.specs.Kept.{Asked, Kept, made_of, told_by}
use Rattle.my_client.specs.Reads.{EndedRead, calls_kept, place_kept, spans_to, tape_kept}
use Rattle.my_client.proofs.TapeRead.Lists.{spans_at_rest}
use Rattle.my_session.specs.Sessions.{Seen}
use Rattle.my_client.specs.Stands.{Rests, Stands, StandsAt, StandsIdle, Waits, WaitsIn}
use Rattle.my_client.proofs.Moving.{place_stopped}

or_or : (a b c : Bool) → (a || b) || c ≡ a || (b || c)
or_or true b c = refl
or_or false b c = refl

or_swap : (a b c : Bool) → a || (b || c) ≡ b || (a || c)
or_swap true true c = refl
or_swap true false c = refl
or_swap false b c = refl

or_false : (a : Bool) → a ≡ a || false
or_false true = refl
or_false false = refl

closed_end : (ms : List Made) (m : Made) → has_closed (ms ++ m ∷ []) ≡ closes m.what (kind_of m.call) || has_closed ms
closed_end [] m = refl
closed_end (x ∷ ms) m =
    ap (λ b. closes x.what (kind_of x.call) || b) (closed_end ms m) ∙ or_swap (closes x.what (kind_of x.call)) (closes m.what (kind_of m.call)) (has_closed ms)

-- a call that ended closes the reading exactly where it closes the connection
pub spans_closed : (login : Login) (sent taken : List ℕ) (ds : List DoneCall) (n m : ℕ) (closed : Bool) (p : Place)
    → (read_calls login (spans_to sent taken ds n m) closed p).closed ≡ closed || has_closed (made_of ds)
unfolding read_calls
spans_closed login sent taken [] n m closed p = or_false closed
spans_closed login sent taken (d ∷ []) n m closed p = ap (λ b. closed || b) (or_false (closes (told_by d.said) (kind_of d.call)))
spans_closed login sent taken (d ∷ e ∷ ds) n m closed p =
    spans_closed login sent taken (e ∷ ds) n m (closed || closes (told_by d.said) (kind_of d.call)) _
    ∙ or_or closed (closes (told_by d.said) (kind_of d.call)) (has_closed (made_of (e ∷ ds)))
    ∙ ap (λ b. closed || b) (sym (closed_end (made_of (e ∷ ds)) (record { call = d.call; what = told_by d.said })))

-- whether the calls that ended closed it, by their reading
pub closed_ended : (login : Login) (k : Kept) (n m : ℕ) (closed : Bool) (place : Place) → EndedRead login k n m closed place
    → has_closed (made_of k.calls) ≡ closed
closed_ended login k n m closed place w = sym (spans_closed login k.sent k.taken k.calls n m false (first_place login)) ∙ w.closed_is

module _ (login : Login) (s : Seen) (k : Kept) where
  pub idle_at : Stands login s k → k.pending ≡ None → StandsIdle login s k
  idle_at w none = subst (StandsAt login s k) none w.at

  closed_at : (q : Option Asked) → StandsAt login s k q → has_closed (made_of k.calls) ≡ s.closed
  closed_at None i = closed_ended login k (length k.sent) (length k.taken) s.closed i.place i.ended
  closed_at (Some a) (inl o) = closed_ended login k a.sent_from a.taken_from false o.before o.ended ∙ sym o.unclosed
  closed_at (Some a) (inr c) = closed_ended login k a.sent_from a.taken_from true c.before c.ended ∙ sym c.closed

  -- so it is of a session that stands for them, whether a call is open or not
  pub stands_closed : Stands login s k → has_closed (made_of k.calls) ≡ s.closed
  stands_closed w = closed_at k.pending w.at

  pub rests_closed : Stands login s k → k.pending ≡ None → has_closed (made_of k.calls) ≡ s.closed
  rests_closed w none = stands_closed w

  -- no call is open
  pub rests_idle : Stands login s k → k.pending ≡ None → s.opened ≡ None
  rests_idle w none = (idle_at w none).idle

  pub place_rest : (w : Stands login s k) (none : k.pending ≡ None) → place_kept login k ≡ (idle_at w none).place
  unfolding reading
  place_rest w none =
      ap (λ (ss : List Span). (read_calls login ss false (first_place login)).place)
      (ap (λ p. spans_from (tape_kept k) (calls_kept k.calls p)) none ∙ spans_at_rest k.sent k.taken (tape_kept k) refl refl k.calls)
      ∙ (idle_at w none).ended.place_is

  pub rests_at : Stands login s k → k.pending ≡ None → IsAt login (place_kept login k) s.stand
  rests_at w none = subst (λ (p : Place). IsAt login p s.stand) (sym (place_rest w none)) (idle_at w none).at

  -- the open call waits for its link
  module _ (a : Asked) where
    pub waits_asked : Waits login s k a → k.pending ≡ Some a
    waits_asked (inl w) = w.stands.asked
    waits_asked (inr w) = w.stands.asked

    pub waits_unclosed : Waits login s k a → s.closed ≡ false
    waits_unclosed (inl w) = w.so_far.unclosed
    waits_unclosed (inr w) = w.so_far.unclosed

    pub waits_open : Waits login s k a → has_closed (made_of k.calls) ≡ false
    waits_open (inl w) = stands_closed w.stands.stands ∙ w.so_far.unclosed
    waits_open (inr w) = stands_closed w.stands.stands ∙ w.so_far.unclosed

    pub waits_at : Waits login s k a → k.pending ≡ Some a → IsAt login (place_kept login k) s.stand
    waits_at (inl w) e = subst (λ (p : Place). IsAt login p s.stand) (sym (place_stopped Owes login s k a w)) w.so_far.at
    waits_at (inr w) e = subst (λ (p : Place). IsAt login p s.stand) (sym (place_stopped Awaits login s k a w)) w.so_far.at

  in_place : (q : Option Asked) → k.pending ≡ q → Stands login s k → WaitsIn login s k q → IsAt login (place_kept login k) s.stand
  in_place None e w i = rests_at w e
  in_place (Some a) e w i = waits_at a i e

  -- between two polls
  pub kept_at : Rests login s k → IsAt login (place_kept login k) s.stand
  kept_at w = in_place k.pending refl w.stands w.waits

-- what it knows where it is
module _ (login : Login) (p : Place) (s : Stand) (at : IsAt login p s) where
  pub at_facts : facts_at login p ≡ s.facts
  at_facts = sym (ap (λ (x : Stand). x.facts) at.stand_is)

  pub at_context : context_of p.talk ≡ s.context
  at_context = sym (ap (λ (x : Stand). x.context) at.stand_is)

  pub at_spot : (context_of p.talk).spot ≡ s.context.spot
  at_spot = ap (λ (c : Context). c.spot) at_context

  pub at_end_left : p.end_left ≡ s.end_left
  at_end_left = sym (ap (λ (x : Stand). x.end_left) at.stand_is)

  pub at_taken : p.taken ≡ s.taken
  at_taken = sym (ap (λ (x : Stand). x.taken) at.stand_is)

  pub at_status : p.status ≡ s.status
  at_status = sym (ap (λ (x : Stand). x.status) at.stand_is)

  pub at_account : p.account ≡ s.account
  at_account = sym (ap (λ (x : Stand). x.account) at.stand_is)

  pub at_unread : p.unread ≡ s.unread
  at_unread = sym (ap (λ (x : Stand). x.unread) at.stand_is)
