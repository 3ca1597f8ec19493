-- How a call that waits continues from poll to poll.
use Rattle.std.proofs.Common.{ℕ, ◌≡◌, inl, inr, ◌+◌, List, [], ◌++◌, length, Some, None, Result, Ok, Err, refl, sym, ap, ◌∙◌, subst, arith}
use Rattle.std.proofs.lemmas.List.{length-append}
use Rattle.my_frame.specs.Outside.{Rose}
use Rattle.my_frame.specs.declared.limits.TheConstants.{MOST_TAKEN}
use Rattle.my_grammar.specs.declared.login.Login.{Login}
use Rattle.my_link.specs.Looks.{Looks}
use Rattle.my_link.specs.Moves.{Leads, Move, Stop as LinkStop, NoStop, ReadHold, WriteHold, ReadFault, WriteFault, LinkEnd, StopsAt, received_by}
use Rattle.my_link.specs.Outside.{Counts}
use Rattle.my_link.specs.declared.met.Met.{Met}
use Rattle.my_reading.specs.declared.answer.Answer.{Answer}
use Rattle.my_reading.specs.declared.call.Call.{Call}
use Rattle.my_reading.specs.declared.error.Error.{Error}
use Rattle.my_reading.specs.Calls.{kind_of}
use Rattle.my_reading.specs.Told.{Told, told}
use Rattle.my_client.specs.declared.poll.After.{After}
use Rattle.my_client.specs.declared.poll.After.TheVariants.{Pending, Answered, Failed}
use Rattle.my_client.specs.Ends.{kept_after}
use Rattle.my_client.specs.Kept.{Asked, Kept, asked_by, asking, ended_by}
use Rattle.my_client.specs.Reads.{facts_kept, stop_kept}
use Rattle.my_client.specs.Polls.{AreInTurn, IsPolled, comes_at, moved_by, told_of}
use Rattle.my_client.proofs.Fitting.{answer_fits}
use Rattle.my_client.proofs.Moving.{all_pending}
use Rattle.my_client.specs.Calls.{PendsBy}
use Rattle.my_client.specs.Waits.{Driven, Goes, ResultFits, said_in, told_in}
use Rattle.my_client.proofs.Polled.{IsHeld, answer_comes, comes_held, comes_more, leads_more, met_taken, moved_more, moves_count, received_more, turns_more}

-- what a call returned, as a result
abbrev pub Results : After → Result Answer Error → Type 0
Results Pending r = ⊥
Results (Answered answer) r = r ≡ Ok answer
Results (Failed e) r = r ≡ Err e

same_some : (b a : Asked) → Some b ≡ Some a → b ≡ a
same_some b a e = cc

-- a call that begins moved nothing yet
pub goes_begins : (login : Login) (call : Call) (x : Looks) (k : Kept) → Goes login call x x k (asking k call None) 0
goes_begins login call x k = record { moves = []; leads = refl; turns = tt; kept_is = refl; count = refl }

-- a poll returns no answer yet over a link that was ready only where it received all bytes that it may
module _ (u : Met) (x z y : Looks) (same : z.counts ≡ x.counts) (none : x.counts.holds ≡ 0) (quiet : y.counts.holds ≡ 0) where
  no_rise : Rose z.counts.holds y.counts.holds → ⊥
  no_rise r = let rose : Rose x.counts.holds y.counts.holds = subst (λ (c : Counts). Rose c.holds y.counts.holds) same r in
      omega (arith, rose.1, none, quiet)

  held_full : (st : LinkStop) → IsHeld st u.taken → StopsAt st z y → st ≡ NoStop
  held_full NoStop h s = refl
  held_full ReadHold h s = absurd (no_rise s.counts.holds)
  held_full WriteHold h s = absurd (no_rise s.counts.holds)
  held_full ReadFault h s = absurd h
  held_full WriteFault h s = absurd h
  held_full LinkEnd h s = absurd h

-- a poll of the call continues it
module _ (login : Login) (call : Call) (k b end : Kept) (n : ℕ) (w x y : Looks) (m : Met) (after : After) (a : Asked) (g : Goes login call w x k b n) (at : b.pending ≡ Some a) (d : IsPolled login a b x m after end y) where
  abbrev first : Kept
  first = asking k call None

  abbrev all : List Move
  all = d.moves ++ g.moves

  begun_as : a ≡ asked_by k call
  begun_as = same_some a (asked_by k call) (sym at ∙ ap (λ (f : Kept). f.pending) g.kept_is ∙ all_pending first g.moves)

  moved_is : moved_by b d.moves ≡ moved_by first all
  moved_is = ap (λ (f : Kept). moved_by f d.moves) g.kept_is ∙ sym (moved_more first d.moves g.moves)

  all_lead : Leads all w d.moved
  all_lead = leads_more g.moves d.moves w x d.moved g.leads d.leads

  all_turns : AreInTurn login first all
  all_turns = turns_more login first d.moves g.moves g.turns (subst (λ (f : Kept). AreInTurn login f d.moves) g.kept_is d.turns)

  all_counted : n + m.taken ≡ length (received_by all)
  all_counted =
      let joined = ap length (received_more d.moves g.moves) in
      omega (arith, joined, length-append (received_by g.moves) (received_by d.moves), g.count, met_taken m d.moves d.stop d.met)

  comes_all : (t : Told) → told_of after ≡ Some t → comes_at login (moved_by first all) d.stop (n + m.taken) ≡ Some (Some t)
  comes_all t e =
      let here : comes_at login (moved_by b d.moves) d.stop m.taken ≡ Some (Some t) = d.comes ∙ ap Some e in
      subst (λ (f : Kept). comes_at login f d.stop (n + m.taken) ≡ Some (Some t)) moved_is
      (comes_more d.stop (stop_kept login (moved_by b d.moves)) m.taken (n + m.taken) (facts_kept login (moved_by b d.moves)).place t here)

  told_so : (p : After) (r : Result Answer Error) → Results p r → told_of p ≡ Some (told_in r)
  told_so Pending r e = absurd e
  told_so (Answered answer) r e = sym (ap (λ (x : Result Answer Error). Some (told_in x)) e)
  told_so (Failed x) r e = sym (ap (λ (y : Result Answer Error). Some (told_in y)) e)

  fits_so : (p : After) (r : Result Answer Error) → after ≡ p → Results p r → ResultFits (kind_of call) r
  fits_so Pending r is e = absurd e
  fits_so (Answered answer) r is e =
      let here : comes_at login (moved_by b d.moves) d.stop m.taken ≡ Some (Some (told answer)) = d.comes ∙ ap (λ p. Some (told_of p)) is in
      let comes = answer_comes login (moved_by b d.moves) d.stop m.taken answer here in
      subst (λ (x : Result Answer Error). ResultFits (kind_of call) x) (sym e)
      (subst (λ (c : Asked). ResultFits (kind_of c.call) (Ok answer)) begun_as (answer_fits login (moved_by b d.moves) a (told answer) (all_pending b d.moves ∙ at) comes.1))
  fits_so (Failed x) r is e = subst (λ (y : Result Answer Error). ResultFits (kind_of call) y) (sym e) tt

  ends_so : (p : After) (r : Result Answer Error) → after ≡ p → Results p r → end ≡ ended_by (moved_by first all) (asked_by k call) (said_in r)
  ends_so Pending r is e = absurd e
  ends_so (Answered answer) r is e =
      d.ends ∙ ap (kept_after (moved_by b d.moves) a) is ∙ ap (λ (c : Asked). kept_after (moved_by b d.moves) c (Answered answer)) begun_as
      ∙ ap (λ (f : Kept). kept_after f (asked_by k call) (Answered answer)) moved_is ∙ sym (ap (λ (x : Result Answer Error). ended_by (moved_by first all) (asked_by k call) (said_in x)) e)
  ends_so (Failed x) r is e =
      d.ends ∙ ap (kept_after (moved_by b d.moves) a) is ∙ ap (λ (c : Asked). kept_after (moved_by b d.moves) c (Failed x)) begun_as
      ∙ ap (λ (f : Kept). kept_after f (asked_by k call) (Failed x)) moved_is ∙ sym (ap (λ (y : Result Answer Error). ended_by (moved_by first all) (asked_by k call) (said_in y)) e)

  pub driven : (r : Result Answer Error) → Results after r → Driven login call w y k (n + m.taken) r end
  driven r e = record {
    moves = all;
    stop = d.stop;
    moved = d.moved;
    leads = all_lead;
    stops = d.stops;
    turns = all_turns;
    count = all_counted;
    comes = comes_all (told_in r) (told_so after r e);
    fits = fits_so after r refl e;
    end_is = ends_so after r refl e;
  }

  pub goes_so : after ≡ Pending → x.counts.holds ≡ 0 → y.counts.holds ≡ 0 → Goes login call w y k end (n + m.taken)
  goes_so e none quiet =
      let held : IsHeld d.stop m.taken = comes_held d.stop (stop_kept login (moved_by b d.moves)) m.taken (facts_kept login (moved_by b d.moves)).place (d.comes ∙ ap (λ p. Some (told_of p)) e) in
      let full : d.stop ≡ NoStop = held_full m x d.moved y (moves_count d.moves x d.moved d.leads) none quiet d.stop held d.stops in
      let same : y ≡ d.moved = subst (λ (st : LinkStop). StopsAt st d.moved y) full d.stops in
      record {
        moves = all;
        leads = subst (λ (l : Looks). Leads all w l) (sym same) all_lead;
        turns = all_turns;
        kept_is = d.ends ∙ ap (kept_after (moved_by b d.moves) a) e ∙ moved_is;
        count = all_counted;
      }

-- a poll over a link that never holds returns no answer yet only where it received all that it may
pub all_taken : (x y : Looks) (m : Met) (after : After) → PendsBy after x y m → after ≡ Pending → x.counts.holds ≡ 0 → y.counts.holds ≡ 0 → m.taken ≡ MOST_TAKEN
all_taken x y m after w e f g = by_pending (subst (λ (p : After). PendsBy p x y m) e w)
  where
    by_pending : PendsBy Pending x y m → m.taken ≡ MOST_TAKEN
    by_pending (inl rose) = omega (arith, rose.1, f, g)
    by_pending (inr full) = full
