-- What a poll sent, received and met, by the moves of its link, and what it keeps.
use Rattle.std.proofs.Common.{◌≡◌, ℕ, List, [], ◌∷◌, ◌++◌, Option, Some, None, refl, sym, ap, ◌∙◌}
use Rattle.std.proofs.lemmas.List.{append-nil, append_assoc}
use Rattle.my_grammar.specs.declared.login.Login.{Login}
use Rattle.my_link.specs.declared.met.Met.{Met}
use Rattle.my_link.specs.Looks.{Looks}
use Rattle.my_link.specs.Moves.{Move, Received, Sent, received_by, sent_by, Stop as LinkStop, NoStop, ReadHold, WriteHold, ReadFault, WriteFault, LinkEnd, IsMet, IsUsed}
use Rattle.my_reading.specs.declared.answer.Answer.{Answer}
use Rattle.my_reading.specs.declared.answer.Answer.TheVariants as answers
use Rattle.my_reading.specs.declared.error.Error.{Error}
use Rattle.my_reading.specs.Course.{Stop, Owes, Awaits, Returns}
use Rattle.my_reading.specs.Told.{Told, ToldError, told}
use Rattle.my_client.specs.declared.poll.After.{After}
use Rattle.my_client.specs.declared.poll.After.TheVariants.{Pending, Answered, Failed}
use Rattle.my_client.specs.Ends.{kept_after}
use Rattle.my_client.specs.Kept.{Asked, Kept}
use Rattle.my_client.specs.Polls.{IsPolled, comes_to, moved_by}

-- what the moves sent and received, after what was kept
pub all_sent : (k : Kept) (ms : List Move) → (moved_by k ms).sent ≡ k.sent ++ sent_by ms
all_sent k [] = sym (append-nil k.sent)
all_sent k (Received bytes ∷ ms) = all_sent k ms
all_sent k (Sent offered bytes ∷ ms) = ap (λ bs. bs ++ bytes) (all_sent k ms) ∙ append_assoc k.sent (sent_by ms) bytes

pub all_taken : (k : Kept) (ms : List Move) → (moved_by k ms).taken ≡ k.taken ++ received_by ms
all_taken k [] = sym (append-nil k.taken)
all_taken k (Received bytes ∷ ms) = ap (λ bs. bs ++ bytes) (all_taken k ms) ∙ append_assoc k.taken (received_by ms) bytes
all_taken k (Sent offered bytes ∷ ms) = all_taken k ms

-- moves leave the calls that ended
pub all_calls : (k : Kept) (ms : List Move) → (moved_by k ms).calls ≡ k.calls
all_calls k [] = refl
all_calls k (Received bytes ∷ ms) = all_calls k ms
all_calls k (Sent offered bytes ∷ ms) = all_calls k ms

-- what a poll returned is kept beside the bytes
after_sent : (k : Kept) (a : Asked) (p : After) → (kept_after k a p).sent ≡ k.sent
after_sent k a Pending = refl
after_sent k a (Answered answer) = refl
after_sent k a (Failed e) = refl

after_taken : (k : Kept) (a : Asked) (p : After) → (kept_after k a p).taken ≡ k.taken
after_taken k a Pending = refl
after_taken k a (Answered answer) = refl
after_taken k a (Failed e) = refl

module _ (login : Login) (a : Asked) (k : Kept) (x : Looks) (u : Met) (p : After) (end : Kept) (y : Looks) (w : IsPolled login a k x u p end y) where
  pub used_so : IsUsed x y (sent_by w.moves) (received_by w.moves) w.stop
  used_so = record { moves = w.moves; moved = w.moved; leads = w.leads; stops = w.stops; sent_is = refl; received_is = refl }

  pub met_so : IsMet u (received_by w.moves) w.stop
  met_so = record {
    taken = ap (λ (m : Met). m.taken) w.met;
    faults = ap (λ (m : Met). m.faults) w.met;
    holds = ap (λ (m : Met). m.holds) w.met;
    ends = ap (λ (m : Met). m.ends) w.met;
  }

  pub sent_so : end.sent ≡ k.sent ++ sent_by w.moves
  sent_so = ap (λ (z : Kept). z.sent) w.ends ∙ after_sent (moved_by k w.moves) a p ∙ all_sent k w.moves

  pub taken_so : end.taken ≡ k.taken ++ received_by w.moves
  taken_so = ap (λ (z : Kept). z.taken) w.ends ∙ after_taken (moved_by k w.moves) a p ∙ all_taken k w.moves

-- where the call returns by its bytes, the link stopped nothing, and the poll returned that
pub returned_by : (stop : LinkStop) (t : Told) (n place : ℕ) (o : Option Told) → comes_to stop (Some (Returns t)) n place ≡ Some o → (stop ≡ NoStop) × (o ≡ Some t)
returned_by NoStop t n place o e = (refl, cc)
returned_by ReadHold t n place o e = cc
returned_by WriteHold t n place o e = cc
returned_by ReadFault t n place o e = cc
returned_by WriteFault t n place o e = cc
returned_by LinkEnd t n place o e = cc

-- a poll that answered wasn't stopped by its link
no_error : (answer : Answer) (e : Error) → Some (Some (ToldError e)) ≡ Some (Some (told answer)) → ⊥
no_error answers.Ready e f = cc
no_error (answers.Row row) e f = cc
no_error answers.SetEnd e f = cc
no_error answers.NoSet e f = cc
no_error (answers.Stmt statement) e f = cc
no_error (answers.Flag flag) e f = cc

pub answered_by : (stop : LinkStop) (s : Option Stop) (n place : ℕ) (answer : Answer) → comes_to stop s n place ≡ Some (Some (told answer)) → stop ≡ NoStop
answered_by NoStop s n place answer e = refl
answered_by ReadHold (Some Awaits) n place answer e = cc
answered_by ReadHold (Some Owes) n place answer e = cc
answered_by ReadHold (Some (Returns t)) n place answer e = cc
answered_by ReadHold None n place answer e = cc
answered_by WriteHold (Some Awaits) n place answer e = cc
answered_by WriteHold (Some Owes) n place answer e = cc
answered_by WriteHold (Some (Returns t)) n place answer e = cc
answered_by WriteHold None n place answer e = cc
answered_by ReadFault (Some Awaits) n place answer e = absurd (no_error answer _ e)
answered_by ReadFault (Some Owes) n place answer e = cc
answered_by ReadFault (Some (Returns t)) n place answer e = cc
answered_by ReadFault None n place answer e = cc
answered_by WriteFault (Some Owes) n place answer e = absurd (no_error answer _ e)
answered_by WriteFault (Some Awaits) n place answer e = cc
answered_by WriteFault (Some (Returns t)) n place answer e = cc
answered_by WriteFault None n place answer e = cc
answered_by LinkEnd (Some Awaits) n place answer e = absurd (no_error answer _ e)
answered_by LinkEnd (Some Owes) n place answer e = cc
answered_by LinkEnd (Some (Returns t)) n place answer e = cc
answered_by LinkEnd None n place answer e = cc
