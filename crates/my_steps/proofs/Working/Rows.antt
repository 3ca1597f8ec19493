-- The rows that a gathering has so far change nothing of how what is kept is read.
use Rattle.std.proofs.Common.{ℕ, ◌≡◌, List, [], ◌∷◌, Option, Some, None, option_map, refl, sym, ap, ◌∙◌, subst}
use Rattle.my_value.specs.RowParts.{RowParts}
use Rattle.my_grammar.specs.declared.login.Login.{Login}
use Rattle.my_link.specs.Looks.{Looks}
use Rattle.my_link.specs.Moves.{Move, Received, Sent, Stop as LinkStop}
use Rattle.my_link.specs.declared.met.Met.{Met}
use Rattle.my_reading.specs.Course.{Stop}
use Rattle.my_reading.specs.Endings.{AreCalls}
use Rattle.my_reading.specs.Place.{Place, begins_with, owed, facts_at}
use Rattle.my_reading.specs.Reading.{reading}
use Rattle.my_reading.specs.Tape.{Tape, TapeCall}
use Rattle.my_client.specs.declared.poll.After.{After}
use Rattle.my_client.specs.declared.poll.After.TheVariants.{Pending, Answered, Failed}
use Rattle.my_client.specs.declared.tape.DoneCall.{DoneCall}
use Rattle.my_client.specs.Ends.{kept_after}
use Rattle.my_client.specs.Kept.{Asked, Kept, told_by}
use Rattle.my_client.specs.Notes.{with_sent, with_taken}
use Rattle.my_client.specs.Polls.{AreInTurn, IsInTurn, IsPolled, comes_at, comes_to, moved_by}
use Rattle.my_client.specs.Reads.{IsRead, calls_kept, facts_kept, newest_stop, place_kept, stop_kept, tape_kept}
use Rattle.my_steps.specs.Slot.{asked_with, with_rows}

module _ (rows : List RowParts) where
  calls_rows : (ds : List DoneCall) (q : Option Asked) → calls_kept ds (option_map (asked_with rows) q) ≡ calls_kept ds q
  calls_rows [] None = refl
  calls_rows [] (Some a) = refl
  calls_rows (d ∷ ds) q = ap (λ (cs : List TapeCall). record { call = d.call; sent_from = d.sent_from; taken_from = d.taken_from; ending = Some (told_by d.said) } ∷ cs) (calls_rows ds q)

  tape_rows : (k : Kept) → tape_kept (with_rows rows k) ≡ tape_kept k
  tape_rows k = ap (λ (cs : List TapeCall). record { sent = k.sent; taken = k.taken; calls = cs }) (calls_rows k.calls k.pending)

  pub place_rows : (login : Login) (k : Kept) → place_kept login (with_rows rows k) ≡ place_kept login k
  place_rows login k = ap (λ (t : Tape). (reading login t).place) (tape_rows k)

  stop_rows : (login : Login) (k : Kept) → stop_kept login (with_rows rows k) ≡ stop_kept login k
  stop_rows login k = ap (λ (t : Tape). newest_stop (reading login t).calls) (tape_rows k)

  -- moves, and how they come in turn
  moved_rows : (k : Kept) (ms : List Move) → moved_by (with_rows rows k) ms ≡ with_rows rows (moved_by k ms)
  moved_rows k [] = refl
  moved_rows k (Received bytes ∷ ms) = ap (λ (q : Kept). with_taken q bytes) (moved_rows k ms)
  moved_rows k (Sent offered bytes ∷ ms) = ap (λ (q : Kept). with_sent q bytes) (moved_rows k ms)

  turn_rows : (login : Login) (k : Kept) (m : Move) → IsInTurn login k m → IsInTurn login (with_rows rows k) m
  turn_rows login k (Received bytes) w = stop_rows login k ∙ w
  turn_rows login k (Sent offered bytes) w = (stop_rows login k ∙ w.0, ap (λ (p : Place). begins_with (owed p) bytes) (place_rows login k) ∙ w.1)

  turns_rows : (login : Login) (k : Kept) (ms : List Move) → AreInTurn login k ms → AreInTurn login (with_rows rows k) ms
  turns_rows login k [] w = tt
  turns_rows login k (m ∷ ms) w = (turns_rows login k ms w.0, subst (λ (q : Kept). IsInTurn login q m) (sym (moved_rows k ms)) (turn_rows login (moved_by k ms) m w.1))

  -- what a poll comes to
  comes_rows : (login : Login) (k : Kept) (stop : LinkStop) (n : ℕ) → comes_at login (with_rows rows k) stop n ≡ comes_at login k stop n
  comes_rows login k stop n =
      ap (λ (o : Option Stop). comes_to stop o n (facts_kept login (with_rows rows k)).place) (stop_rows login k)
      ∙ ap (λ (p : Place). comes_to stop (stop_kept login k) n (facts_at login p).place) (place_rows login k)

  after_rows : (k : Kept) (a : Asked) (after : After) → with_rows rows (kept_after k a after) ≡ kept_after (with_rows rows k) (asked_with rows a) after
  after_rows k a Pending = refl
  after_rows k a (Answered answer) = refl
  after_rows k a (Failed e) = refl

  -- a poll of the open call
  pub polled_rows : (login : Login) (a : Asked) (k end : Kept) (x y : Looks) (m : Met) (after : After) → IsPolled login a k x m after end y
      → IsPolled login (asked_with rows a) (with_rows rows k) x m after (with_rows rows end) y
  polled_rows login a k end x y m after w = record {
    moves = w.moves;
    stop = w.stop;
    moved = w.moved;
    leads = w.leads;
    stops = w.stops;
    turns = turns_rows login k w.moves w.turns;
    met = w.met;
    within = w.within;
    comes = ap (λ (q : Kept). comes_at login q w.stop m.taken) (moved_rows k w.moves) ∙ comes_rows login (moved_by k w.moves) w.stop m.taken ∙ w.comes;
    ends = ap (with_rows rows) w.ends ∙ after_rows (moved_by k w.moves) a after ∙ ap (λ (q : Kept). kept_after q (asked_with rows a) after) (sym (moved_rows k w.moves));
  }

-- they change nothing of what is said of it
pub read_rows : (rows : List RowParts) (login : Login) (k : Kept) → IsRead login k → IsRead login (with_rows rows k)
read_rows rows login k w = subst (λ (t : Tape). AreCalls login (reading login t).calls) (sym (tape_rows rows k)) w

-- where no call is open, there are none
pub no_rows : (rows : List RowParts) (k : Kept) → k.pending ≡ None → with_rows rows k ≡ k
no_rows rows k e = ap (λ (q : Option Asked). record { sent = k.sent; taken = k.taken; calls = k.calls; pending = option_map (asked_with rows) q }) e ∙ ap (λ (q : Option Asked). record { sent = k.sent; taken = k.taken; calls = k.calls; pending = q }) (sym e)
