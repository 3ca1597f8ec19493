-- What follows of a poll of the open call: what it sent, received and met, and what it returned by what stopped it.
use Rattle.std.proofs.Common.{◌≡◌, ◌≤◌, ℕ, List, ◌++◌, length, Some, true, sym, ap, ◌∙◌}
use Rattle.my_frame.specs.declared.limits.TheConstants.{MOST_TAKEN}
use Rattle.my_grammar.specs.declared.login.Login.{Login}
use Rattle.my_link.specs.declared.met.Met.{Met}
use Rattle.my_link.specs.Looks.{Looks}
use Rattle.my_link.specs.Moves.{Stop as LinkStop, NoStop, ends_at, faults_at, holds_at, received_by, sent_by}
use Rattle.my_reading.specs.Calls.{kind_of}
use Rattle.my_reading.specs.Told.{told}
use Rattle.my_session.specs.Fits.{may_be}
use Rattle.my_client.specs.declared.poll.After.{After}
use Rattle.my_client.specs.declared.poll.After.TheVariants.{Pending, Answered, Failed}
use Rattle.my_client.specs.declared.tape.Said.TheVariants as says
use Rattle.my_client.specs.Ends.{kept_after}
use Rattle.my_client.specs.Kept.{Asked, Kept, ended_by}
use Rattle.my_client.specs.Reads.{ComesTo}
use Rattle.my_client.specs.Polls.{IsPolled, moved_by}
use Rattle.my_client.proofs.Fitting.{answer_fits}
use Rattle.my_client.proofs.Moving.{all_pending}
use Rattle.my_run.proofs.Polls.{all_calls, all_sent, all_taken}
use Rattle.my_run_judge.specs.Meets.{HasMet, met_at}
use Rattle.turn_laws.specs.Decided.{IsBecause, IsFailed, IsPending}
use Rattle.turn_laws.proofs.Deciding.{poll_cause}

-- what a poll of the open call returned, by what stopped it, and what is kept then
abbrev pub PollEnds : Login → Asked → Kept → Met → LinkStop → After → Kept → Type 0
PollEnds login a k u stop Pending end = (end ≡ k) × IsPending login k stop u.taken
PollEnds login a k u stop (Answered answer) end = (end ≡ ended_by k a (says.Answered answer)) × ComesTo login k (told answer)
    × (may_be (kind_of a.call) (told answer) ≡ true) × (stop ≡ NoStop)
PollEnds login a k u stop (Failed e) end = (end ≡ ended_by k a (says.Failed e)) × IsFailed login k stop e

pub record Polled (login : Login) (a : Asked) (k : Kept) (u : Met) (after : After) (end : Kept) : Type 0 where
  pub within : u.taken ≤ MOST_TAKEN
  pub sent : List ℕ
  pub taken : List ℕ
  pub stop : LinkStop
  pub count : u.taken ≡ length taken
  pub met : HasMet u (faults_at stop) (holds_at stop) (ends_at stop)
  pub following : Kept
  pub sent_is : following.sent ≡ k.sent ++ sent
  pub taken_is : following.taken ≡ k.taken ++ taken
  pub calls : following.calls ≡ k.calls
  pub pending : following.pending ≡ Some a
  pub ends : PollEnds login a following u stop after end

ends_so : (login : Login) (a : Asked) (k end : Kept) (u : Met) (stop : LinkStop) (p : After) → k.pending ≡ Some a → end ≡ kept_after k a p → IsBecause login k stop u.taken p → PollEnds login a k u stop p end
ends_so login a k end u stop Pending kp e w = (e, w)
ends_so login a k end u stop (Answered answer) kp e w = (e, w.1, answer_fits login k a (told answer) kp w.1, w.0)
ends_so login a k end u stop (Failed x) kp e w = (e, w)

pub polled_of : {login : Login} {a : Asked} {k end : Kept} {x y : Looks} {u : Met} {p : After} → k.pending ≡ Some a → IsPolled login a k x u p end y → Polled login a k u p end
polled_of {login} {a} {k} {end} {x} {y} {u} {p} kp w =
    let count : u.taken ≡ length (received_by w.moves) = ap (λ (m : Met). m.taken) w.met in
    record {
      within = w.within;
      sent = sent_by w.moves;
      taken = received_by w.moves;
      stop = w.stop;
      count = count;
      met = w.met ∙ ap (λ n. met_at n (faults_at w.stop) (holds_at w.stop) (ends_at w.stop)) (sym count);
      following = moved_by k w.moves;
      sent_is = all_sent k w.moves;
      taken_is = all_taken k w.moves;
      calls = all_calls k w.moves;
      pending = all_pending k w.moves ∙ kp;
      ends = ends_so login a (moved_by k w.moves) end u w.stop p (all_pending k w.moves ∙ kp) w.ends (poll_cause login a k x y u p end w);
    }
