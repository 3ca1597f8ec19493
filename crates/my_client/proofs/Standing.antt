-- A line continues to stand for what it did.
use Rattle.std.proofs.Common.{ℕ, ◌≡◌, ◌⊎◌, inl, inr, ◌||◌, ◌≤◌, List, [], ◌∷◌, ◌++◌, Bool, true, false, Option, Some, None, option_map, refl, sym, ap, ◌∙◌, subst, arith}
use Rattle.my_frame.specs.Outside.{Rose}
use Rattle.my_frame.specs.declared.limits.TheConstants.{MOST_TAKEN}
use Rattle.my_grammar.specs.declared.login.Login.{Login}
use Rattle.my_link.specs.Looks.{Looks}
use Rattle.my_link.specs.Moves.{Stop as LinkStop, NoStop, ReadHold, WriteHold, ReadFault, WriteFault, LinkEnd, StopsAt}
use Rattle.my_link.specs.Outside.{Counts}
use Rattle.my_link.specs.declared.met.Met.{Met}
use Rattle.my_reading.specs.Calls.{kind_of}
use Rattle.my_reading.specs.Errors.{connection_closed}
use Rattle.my_reading.specs.Told.{told}
use Rattle.my_reading.specs.declared.call.Call.{Call}
use Rattle.my_reading.specs.declared.call.CallKind.{CallKind}
use Rattle.my_client.specs.Made.{connects, has_connected}
use Rattle.my_client.specs.declared.poll.After.{After}
use Rattle.my_client.specs.declared.poll.After.TheVariants.{Pending, Answered, Failed}
use Rattle.my_client.specs.declared.tape.DoneCall.{DoneCall}
use Rattle.my_client.specs.declared.tape.Said.{Said}
use Rattle.my_client.specs.declared.tape.Said.TheVariants as says
use Rattle.my_client.specs.declared.tape.Tape.{Tape}
use Rattle.my_client.specs.Ends.{kept_after}
use Rattle.my_client.specs.Kept.{Asked, Kept, asked_by, asking, ended_by, made_of, told_by}
use Rattle.my_client.specs.Reads.{facts_kept, stop_kept}
use Rattle.my_session.specs.Sessions.{Seen}
use Rattle.my_client.specs.Polls.{IsPolled, comes_at, moved_by, told_of}
use Rattle.my_client.proofs.Fitting.{answer_fits}
use Rattle.my_client.proofs.Moving.{all_pending}
use Rattle.my_client.proofs.Resting.{rests_idle}
use Rattle.my_client.specs.StandsFor.{StandsFor, kind_kept}
use Rattle.my_client.specs.Calls.{AfterFits, CallFor, Does, EachCall, IsCallable, MayPoll, MayStart, PendsBy, asked_for, pending_after}
use Rattle.my_client.proofs.Polled.{IsHeld, answer_comes, comes_held, moved_calls, moves_count}

-- the open call is of the kind that is kept
pub asked_kind : (q : Option Asked) (c : CallKind) → Some c ≡ option_map (λ a. kind_of a.call) q → (a : Asked) × (q ≡ Some a) × (kind_of a.call ≡ c)
asked_kind None c e = absurd (no_kind e)
  where
    no_kind : Some c ≡ None → ⊥
    no_kind e = cc
asked_kind (Some a) c e = (a, refl, cc)

pub no_asked : (q : Option Asked) → None ≡ option_map (λ (a : Asked). kind_of a.call) q → q ≡ None
no_asked None e = refl
no_asked (Some a) e = cc

pub bool_cases : (b : Bool) → (b ≡ true) ⊎ (b ≡ false)
bool_cases true = inl refl
bool_cases false = inr refl

-- where a poll may come, by what was kept
pub callable : (kind : CallKind) (call : Option Call) (login : Login) (s : Seen) (p : Option Tape) (o : Option CallKind) (k : Kept) → MayPoll kind call o → StandsFor login s p o k → IsCallable call login s k
callable kind None login s p o k may w =
    let a = asked_kind k.pending kind (sym may ∙ w.pending_is) in
    (a.0, record { stands = w.rests.stands; asked = a.1 })
callable kind (Some call) login s p o k may w = (w.rests.stands, no_asked k.pending (sym may.0 ∙ w.pending_is))

pub may_start : (kind : CallKind) (call : Option Call) (login : Login) (s : Seen) (p : Option Tape) (o : Option CallKind) (k : Kept) → MayPoll kind call o → StandsFor login s p o k → MayStart call s
may_start kind None login s p o k may w = tt
may_start kind (Some call) login s p o k may w = rests_idle login s k w.rests.stands (no_asked k.pending (sym may.0 ∙ w.pending_is))

-- a connection that was made stays so
pub or_true : (b c : Bool) → c ≡ true → b || c ≡ true
or_true true c e = refl
or_true false c e = e

pub made_more : (ds : List DoneCall) (d : DoneCall) → made_of (ds ++ d ∷ []) ≡ record { call = d.call; what = told_by d.said } ∷ made_of ds
made_more [] d = refl
made_more (x ∷ ds) d = ap (λ ms. ms ++ record { call = x.call; what = told_by x.said } ∷ []) (made_more ds d)

pub connected_by : (k : Kept) (a : Asked) (said : Said) → has_connected (made_of k.calls) ≡ true → has_connected (made_of (ended_by k a said).calls) ≡ true
connected_by k a said e =
    ap has_connected (made_more k.calls (record { call = a.call; sent_from = a.sent_from; taken_from = a.taken_from; said = said }))
    ∙ or_true (connects (told_by said) (kind_of a.call)) (has_connected (made_of k.calls)) e

connected_on : (k b : Kept) → b.calls ≡ k.calls → has_connected (made_of k.calls) ≡ true → has_connected (made_of b.calls) ≡ true
connected_on k b e w = ap (λ (ds : List DoneCall). has_connected (made_of ds)) e ∙ w

module _ (kind : CallKind) (a : Asked) (kind_is : kind_of a.call ≡ kind) (b end : Kept) where
  ends_connected : (after : After) → has_connected (made_of b.calls) ≡ true → end ≡ kept_after b a after → has_connected (made_of end.calls) ≡ true
  ends_connected Pending w e = subst (λ (g : Kept). has_connected (made_of g.calls) ≡ true) (sym e) w
  ends_connected (Answered answer) w e = subst (λ (g : Kept). has_connected (made_of g.calls) ≡ true) (sym e) (connected_by b a (says.Answered answer) w)
  ends_connected (Failed x) w e = subst (λ (g : Kept). has_connected (made_of g.calls) ≡ true) (sym e) (connected_by b a (says.Failed x) w)

  ends_pending : (after : After) → b.pending ≡ Some a → end ≡ kept_after b a after → pending_after kind after ≡ kind_kept end
  ends_pending Pending p e = ap Some (sym kind_is) ∙ sym (ap (option_map (λ (x : Asked). kind_of x.call)) (ap (λ (g : Kept). g.pending) e ∙ p))
  ends_pending (Answered answer) p e = sym (ap kind_kept e)
  ends_pending (Failed x) p e = sym (ap kind_kept e)

  ends_fit : (login : Login) (stop : LinkStop) (n : ℕ) (after : After) → b.pending ≡ Some a → comes_at login b stop n ≡ Some (told_of after) → AfterFits kind after
  ends_fit login stop n Pending p e = tt
  ends_fit login stop n (Answered answer) p e =
      let c = answer_comes login b stop n answer e in
      subst (λ (c : CallKind). AfterFits c (Answered answer)) kind_is (answer_fits login b a (told answer) p c.1)
  ends_fit login stop n (Failed x) p e = tt

module _ (login : Login) (b : Kept) (u : Met) (x z y : Looks) (same : z.counts ≡ x.counts) where
  rose_by : Rose z.counts.holds y.counts.holds → Rose x.counts.holds y.counts.holds
  rose_by = subst (λ (c : Counts). Rose c.holds y.counts.holds) same

  held_pends : (st : LinkStop) → u.taken ≤ MOST_TAKEN → StopsAt st z y → IsHeld st u.taken → PendsBy Pending x y u
  held_pends NoStop h s w = inr (omega (arith, h, w))
  held_pends ReadHold h s w = inl (rose_by s.counts.holds)
  held_pends WriteHold h s w = inl (rose_by s.counts.holds)
  held_pends ReadFault h s w = absurd w
  held_pends WriteFault h s w = absurd w
  held_pends LinkEnd h s w = absurd w

  ends_pend : (st : LinkStop) (after : After) → u.taken ≤ MOST_TAKEN → StopsAt st z y → comes_at login b st u.taken ≡ Some (told_of after) → PendsBy after x y u
  ends_pend st Pending h s e = held_pends st h s (comes_held st (stop_kept login b) u.taken (facts_kept login b).place e)
  ends_pend st (Answered answer) h s e = tt
  ends_pend st (Failed x) h s e = tt

pub polled_pends : (login : Login) (a : Asked) (x y : Looks) (k end : Kept) (m : Met) (after : After) → IsPolled login a k x m after end y → PendsBy after x y m
polled_pends login a x y k end m after w = ends_pend login (moved_by k w.moves) m x w.moved y (moves_count w.moves x w.moved w.leads) w.stop after w.within w.stops w.comes

pub does_pend : (login : Login) (call : Option Call) (x y : Looks) (k end : Kept) (m : Met) (after : After) → Does login call x y k end m after → PendsBy after x y m
does_pend login call x y k end m after (inl d) = polled_pends login d.asked x y (asked_for call k) end m after d.polled
does_pend login call x y k end m after (inr d) = subst (λ (g : After). PendsBy g x y m) (sym d.after_is) tt

-- the kind of the call that is polled
kind_polled : (kind : CallKind) (call : Option Call) (o : Option CallKind) (k : Kept) (a : Asked) → MayPoll kind call o → o ≡ kind_kept k → (asked_for call k).pending ≡ Some a → kind_of a.call ≡ kind
kind_polled kind None o k a may e p =
    let same : Some kind ≡ Some (kind_of a.call) = sym may ∙ e ∙ ap (option_map (λ (x : Asked). kind_of x.call)) p in
    cc
kind_polled kind (Some call) o k a may e p =
    ap kind_of (sym (same_call (asked_by k call) a p)) ∙ may.1
  where
    same_call : (b c : Asked) → Some b ≡ Some c → b.call ≡ c.call
    same_call b c e = cc

module _ (kind : CallKind) (call : Option Call) (s t : Seen) (x y : Looks) (p q : Option Tape) (o : Option CallKind) (m : Met) (after : After)
    (may : MayPoll kind call o) (each : EachCall call s t x y p q m after) where
  -- all that may have been done before is still done
  does_connected : (login : Login) (k end : Kept) → StandsFor login s p o k → Does login call x y k end m after → has_connected (made_of end.calls) ≡ true
  does_connected login k end w (inl d) =
      let next : Kept = moved_by (asked_for call k) d.polled.moves in
      ends_connected kind d.asked (kind_polled kind call o k d.asked may w.pending_is d.pending) next end after
      (connected_on (asked_for call k) next (moved_calls (asked_for call k) d.polled.moves) (asked_connected call)) d.polled.ends
    where
      asked_connected : (c : Option Call) → has_connected (made_of (asked_for c k).calls) ≡ true
      asked_connected None = w.connected
      asked_connected (Some c) = w.connected
  does_connected login k end w (inr d) =
      subst (λ (g : Kept). has_connected (made_of g.calls) ≡ true) (sym d.end_is) (connected_by (asking k d.given None) (asked_by k d.given) (says.Failed connection_closed) w.connected)

  does_pending : (login : Login) (k end : Kept) → StandsFor login s p o k → Does login call x y k end m after → pending_after kind after ≡ kind_kept end
  does_pending login k end w (inl d) =
      ends_pending kind d.asked (kind_polled kind call o k d.asked may w.pending_is d.pending) (moved_by (asked_for call k) d.polled.moves) end after
      (all_pending (asked_for call k) d.polled.moves ∙ d.pending) d.polled.ends
  does_pending login k end w (inr d) = ap (pending_after kind) d.after_is ∙ sym (ap kind_kept d.end_is)

  pub stands_after : (login : Login) (k : Kept) → StandsFor login s p o k → (end : Kept) × StandsFor login t q (pending_after kind after) end × Does login call x y k end m after
  stands_after login k w =
      let f : CallFor login call t q x y k m after = each login k (callable kind call login s p o k may w) w.agrees in (
        f.end,
        record {
          rests = f.rests;
          agrees = f.agrees;
          connected = does_connected login k f.end w f.does;
          pending_is = does_pending login k f.end w f.does;
        },
        f.does,
      )

  does_fit : (login : Login) (k end : Kept) → StandsFor login s p o k → Does login call x y k end m after → AfterFits kind after
  does_fit login k end w (inl d) =
      ends_fit kind d.asked (kind_polled kind call o k d.asked may w.pending_is d.pending) (moved_by (asked_for call k) d.polled.moves) end login d.polled.stop m.taken after
      (all_pending (asked_for call k) d.polled.moves ∙ d.pending) d.polled.comes
  does_fit login k end w (inr d) = subst (AfterFits kind) (sym d.after_is) tt

  pub fits_after : (login : Login) × (k : Kept) × StandsFor login s p o k → AfterFits kind after
  fits_after w =
      let n = stands_after w.0 w.1 w.2 in
      does_fit w.0 w.1 n.0 w.2 n.2

  pub pends_after : (login : Login) × (k : Kept) × StandsFor login s p o k → PendsBy after x y m
  pends_after w =
      let n = stands_after w.0 w.1 w.2 in
      does_pend w.0 call x y w.1 n.0 m after n.2

pub not_both : (b : Bool) → b ≡ false → b ≡ true → ⊥
not_both true e f = no e
  where
    no : true ≡ false → ⊥
    no e = cc
not_both false e f = no f
  where
    no : false ≡ true → ⊥
    no e = cc
