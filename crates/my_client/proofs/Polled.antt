-- What one poll says, by its moves and by what stopped it.
use Rattle.std.proofs.Common.{ℕ, ◌≡◌, ◌≤◌, nat_le, List, [], ◌∷◌, ◌++◌, length, Bool, true, false, cond, Option, Some, None, refl, sym, ap, ◌∙◌, subst, append_assoc}
use Rattle.std.proofs.lemmas.List.{append-nil}
use Rattle.std.proofs.lemmas.Bool.{leb-true}
use Rattle.my_frame.specs.declared.limits.TheConstants.{MOST_TAKEN}
use Rattle.my_grammar.specs.declared.login.Login.{Login}
use Rattle.my_link.specs.declared.met.Met.{Met}
use Rattle.my_link.specs.Looks.{Looks}
use Rattle.my_link.specs.Moves.{Leads, Move, Received, Sent, Stop as LinkStop, NoStop, ReadHold, WriteHold, ReadFault, WriteFault, LinkEnd, received_by, sent_by}
use Rattle.my_reading.specs.declared.answer.Answer.{Answer}
use Rattle.my_reading.specs.declared.answer.Answer.TheVariants as answers
use Rattle.my_reading.specs.declared.error.Error.{Error}
use Rattle.my_reading.specs.declared.error.IoKind.TheVariants.{Link}
use Rattle.my_reading.specs.Course.{Stop, Owes, Awaits, Returns}
use Rattle.my_reading.specs.Errors.{io_error, unexpected_eof}
use Rattle.my_reading.specs.Told.{Told, ToldError, told}
use Rattle.my_client.specs.Kept.{Kept}
use Rattle.my_client.specs.Reads.{stop_kept}
use Rattle.my_client.specs.Polls.{AreInTurn, IsInTurn, comes_at, comes_to, if_full, met_in, moved_by, moved_on}

-- moves leave the calls that ended, and add their bytes
calls_on : (k : Kept) (m : Move) → (moved_on k m).calls ≡ k.calls
calls_on k (Received bytes) = refl
calls_on k (Sent offered bytes) = refl

pub moved_calls : (k : Kept) (ms : List Move) → (moved_by k ms).calls ≡ k.calls
moved_calls k [] = refl
moved_calls k (m ∷ ms) = calls_on (moved_by k ms) m ∙ moved_calls k ms

pub moved_taken : (k : Kept) (ms : List Move) → (moved_by k ms).taken ≡ k.taken ++ received_by ms
moved_taken k [] = sym (append-nil k.taken)
moved_taken k (Received bytes ∷ ms) = ap (λ (bs : List ℕ). bs ++ bytes) (moved_taken k ms) ∙ append_assoc k.taken (received_by ms) bytes
moved_taken k (Sent offered bytes ∷ ms) = moved_taken k ms

pub moved_sent : (k : Kept) (ms : List Move) → (moved_by k ms).sent ≡ k.sent ++ sent_by ms
moved_sent k [] = sym (append-nil k.sent)
moved_sent k (Received bytes ∷ ms) = moved_sent k ms
moved_sent k (Sent offered bytes ∷ ms) = ap (λ (bs : List ℕ). bs ++ bytes) (moved_sent k ms) ∙ append_assoc k.sent (sent_by ms) bytes

-- moves leave the counts
pub moves_count : (ms : List Move) (x y : Looks) → Leads ms x y → y.counts ≡ x.counts
moves_count [] x y e = ap (λ (l : Looks). l.counts) e
moves_count (Received bytes ∷ ms) x y w = w.2.1.counts ∙ moves_count ms x w.0 w.1
moves_count (Sent offered bytes ∷ ms) x y w = w.2.1.counts ∙ moves_count ms x w.0 w.1

-- moves after moves
pub leads_more : (ms ns : List Move) (x y z : Looks) → Leads ms x y → Leads ns y z → Leads (ns ++ ms) x z
leads_more ms [] x y z l w = subst (λ (v : Looks). Leads ms x v) (sym w) l
leads_more ms (n ∷ ns) x y z l w = (w.0, leads_more ms ns x y w.0 l w.1, w.2)

pub received_more : (ns ms : List Move) → received_by (ns ++ ms) ≡ received_by ms ++ received_by ns
received_more [] ms = sym (append-nil (received_by ms))
received_more (Received bytes ∷ ns) ms = ap (λ (bs : List ℕ). bs ++ bytes) (received_more ns ms) ∙ append_assoc (received_by ms) (received_by ns) bytes
received_more (Sent offered bytes ∷ ns) ms = received_more ns ms

pub moved_more : (k : Kept) (ns ms : List Move) → moved_by k (ns ++ ms) ≡ moved_by (moved_by k ms) ns
moved_more k [] ms = refl
moved_more k (n ∷ ns) ms = ap (λ (f : Kept). moved_on f n) (moved_more k ns ms)

pub turns_more : (login : Login) (k : Kept) (ns ms : List Move) → AreInTurn login k ms → AreInTurn login (moved_by k ms) ns → AreInTurn login k (ns ++ ms)
turns_more login k [] ms w v = w
turns_more login k (n ∷ ns) ms w v = (turns_more login k ns ms w v.0, subst (λ (f : Kept). IsInTurn login f n) (sym (moved_more k ns ms)) v.1)

-- a poll received what its moves did
pub met_taken : (u : Met) (ms : List Move) (stop : LinkStop) → u ≡ met_in ms stop → u.taken ≡ length (received_by ms)
met_taken u ms stop e = ap (λ (v : Met). v.taken) e

-- an answer comes by the bytes alone, where the link stopped nothing
full_none : (n : ℕ) (t : Told) → if_full n ≡ Some (Some t) → ⊥
full_none n t e = by_bool (nat_le MOST_TAKEN n) e
  where
    by_bool : (b : Bool) → cond {A = Option (Option Told)} b (Some None) None ≡ Some (Some t) → ⊥
    by_bool true e = cc
    by_bool false e = cc

pub comes_answered : (stop : LinkStop) (o : Option Stop) (n place : ℕ) (t : Told) → ((e : Error) → t ≡ ToldError e → ⊥) → comes_to stop o n place ≡ Some (Some t) → (stop ≡ NoStop) × (o ≡ Some (Returns t))
comes_answered NoStop (Some (Returns x)) n place t some e = (refl, cc)
comes_answered NoStop (Some Awaits) n place t some e = absurd (full_none n t e)
comes_answered NoStop (Some Owes) n place t some e = absurd cc
comes_answered NoStop None n place t some e = absurd cc
comes_answered ReadHold (Some Awaits) n place t some e = absurd cc
comes_answered ReadHold (Some Owes) n place t some e = absurd cc
comes_answered ReadHold (Some (Returns x)) n place t some e = absurd cc
comes_answered ReadHold None n place t some e = absurd cc
comes_answered WriteHold (Some Awaits) n place t some e = absurd cc
comes_answered WriteHold (Some Owes) n place t some e = absurd cc
comes_answered WriteHold (Some (Returns x)) n place t some e = absurd cc
comes_answered WriteHold None n place t some e = absurd cc
comes_answered ReadFault (Some Awaits) n place t some e = absurd (some (io_error Link place) cc)
comes_answered ReadFault (Some Owes) n place t some e = absurd cc
comes_answered ReadFault (Some (Returns x)) n place t some e = absurd cc
comes_answered ReadFault None n place t some e = absurd cc
comes_answered WriteFault (Some Awaits) n place t some e = absurd cc
comes_answered WriteFault (Some Owes) n place t some e = absurd (some (io_error Link place) cc)
comes_answered WriteFault (Some (Returns x)) n place t some e = absurd cc
comes_answered WriteFault None n place t some e = absurd cc
comes_answered LinkEnd (Some Awaits) n place t some e = absurd (some (unexpected_eof place) cc)
comes_answered LinkEnd (Some Owes) n place t some e = absurd cc
comes_answered LinkEnd (Some (Returns x)) n place t some e = absurd cc
comes_answered LinkEnd None n place t some e = absurd cc

no_error : (answer : Answer) (e : Error) → told answer ≡ ToldError e → ⊥
no_error answers.Ready e f = cc
no_error (answers.Row row) e f = cc
no_error answers.SetEnd e f = cc
no_error answers.NoSet e f = cc
no_error (answers.Stmt statement) e f = cc
no_error (answers.Flag flag) e f = cc

pub answer_comes : (login : Login) (k : Kept) (stop : LinkStop) (n : ℕ) (answer : Answer) → comes_at login k stop n ≡ Some (Some (told answer)) → (stop ≡ NoStop) × (stop_kept login k ≡ Some (Returns (told answer)))
answer_comes login k stop n answer e = comes_answered stop (stop_kept login k) n _ (told answer) (no_error answer) e

-- what a poll returned, it returned of whatever number of bytes
pub comes_more : (stop : LinkStop) (o : Option Stop) (n m place : ℕ) (t : Told) → comes_to stop o n place ≡ Some (Some t) → comes_to stop o m place ≡ Some (Some t)
comes_more NoStop (Some (Returns x)) n m place t e = e
comes_more NoStop (Some Awaits) n m place t e = absurd (full_none n t e)
comes_more NoStop (Some Owes) n m place t e = absurd cc
comes_more NoStop None n m place t e = absurd cc
comes_more ReadHold (Some Awaits) n m place t e = absurd cc
comes_more ReadHold (Some Owes) n m place t e = absurd cc
comes_more ReadHold (Some (Returns x)) n m place t e = absurd cc
comes_more ReadHold None n m place t e = absurd cc
comes_more WriteHold (Some Awaits) n m place t e = absurd cc
comes_more WriteHold (Some Owes) n m place t e = absurd cc
comes_more WriteHold (Some (Returns x)) n m place t e = absurd cc
comes_more WriteHold None n m place t e = absurd cc
comes_more ReadFault (Some Awaits) n m place t e = e
comes_more ReadFault (Some Owes) n m place t e = absurd cc
comes_more ReadFault (Some (Returns x)) n m place t e = absurd cc
comes_more ReadFault None n m place t e = absurd cc
comes_more WriteFault (Some Awaits) n m place t e = absurd cc
comes_more WriteFault (Some Owes) n m place t e = e
comes_more WriteFault (Some (Returns x)) n m place t e = absurd cc
comes_more WriteFault None n m place t e = absurd cc
comes_more LinkEnd (Some Awaits) n m place t e = e
comes_more LinkEnd (Some Owes) n m place t e = absurd cc
comes_more LinkEnd (Some (Returns x)) n m place t e = absurd cc
comes_more LinkEnd None n m place t e = absurd cc

-- a poll returns no answer yet where the link wasn't ready, or where it received all bytes that it may
abbrev pub IsHeld : LinkStop → ℕ → Type 0
IsHeld NoStop n = MOST_TAKEN ≤ n
IsHeld ReadHold n = Unit {0}
IsHeld WriteHold n = Unit {0}
IsHeld ReadFault n = ⊥
IsHeld WriteFault n = ⊥
IsHeld LinkEnd n = ⊥

full_held : (n : ℕ) → if_full n ≡ Some None → MOST_TAKEN ≤ n
full_held n e = leb-true MOST_TAKEN n (by_bool (nat_le MOST_TAKEN n) e)
  where
    by_bool : (b : Bool) → cond {A = Option (Option Told)} b (Some None) None ≡ Some None → b ≡ true
    by_bool true e = refl
    by_bool false e = cc

pub comes_held : (stop : LinkStop) (o : Option Stop) (n place : ℕ) → comes_to stop o n place ≡ Some None → IsHeld stop n
comes_held NoStop (Some (Returns x)) n place e = absurd cc
comes_held NoStop (Some Awaits) n place e = full_held n e
comes_held NoStop (Some Owes) n place e = absurd cc
comes_held NoStop None n place e = absurd cc
comes_held ReadHold o n place e = tt
comes_held WriteHold o n place e = tt
comes_held ReadFault (Some Awaits) n place e = absurd cc
comes_held ReadFault (Some Owes) n place e = absurd cc
comes_held ReadFault (Some (Returns x)) n place e = absurd cc
comes_held ReadFault None n place e = absurd cc
comes_held WriteFault (Some Awaits) n place e = absurd cc
comes_held WriteFault (Some Owes) n place e = absurd cc
comes_held WriteFault (Some (Returns x)) n place e = absurd cc
comes_held WriteFault None n place e = absurd cc
comes_held LinkEnd (Some Awaits) n place e = absurd cc
comes_held LinkEnd (Some Owes) n place e = absurd cc
comes_held LinkEnd (Some (Returns x)) n place e = absurd cc
comes_held LinkEnd None n place e = absurd cc
