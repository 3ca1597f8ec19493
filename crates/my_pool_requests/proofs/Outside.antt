-- A call that makes a connection begins no transaction.
use Rattle.std.proofs.Common.{◌≡◌, ℕ, zero, suc, Bool, true, false, cond, List, [], ◌∷◌, Some, refl, ap}
use Rattle.my_grammar.specs.declared.login.Login.{Login}
use Rattle.my_grammar.specs.declared.spot.Kind.{Kind}
use Rattle.my_grammar.specs.declared.spot.Kind.TheVariants as kinds
use Rattle.my_grammar.specs.Cut.{is_over}
use Rattle.my_grammar.specs.Growth.{grow}
use Rattle.my_grammar.specs.Talk.{context_of}
use Rattle.my_reading.specs.declared.call.Call.{Call}
use Rattle.my_reading.specs.declared.call.Call.TheVariants as calls
use Rattle.my_reading.specs.declared.error.ServerError.{ServerError}
use Rattle.my_reading.specs.declared.transaction.Trial.{Trial}
use Rattle.my_reading.specs.declared.transaction.Trial.TheVariants as trials
use Rattle.my_reading.specs.declared.transaction.TxStatus.TheVariants as txs
use Rattle.my_reading.specs.Calls.{kind_of}
use Rattle.my_reading.specs.Commands.{arranging_texts, queried}
use Rattle.my_reading.specs.Course.{Part, All, Head, Command, Undo, Undone, Step, Goes, Stops, after_kind, course, enough, parts_of, parts_of_texts, refused_at, run, step, step_of, undone, unless_owed}
use Rattle.my_reading.specs.Errors.{server_error}
use Rattle.my_reading.specs.Place.{Place, exchanges, is_rows, next_exchange, owed, terms_of, with_end, with_exchange, with_talk, without_end}
use Rattle.my_reading.specs.Reading.{is_closing}
use Rattle.my_reading.specs.Told.{Told, ToldReady}
use Rattle.my_reading.specs.Transactions.{is_given_up, rollback_text, rolled_back}
use Rattle.reading_laws.proofs.Having.{StopsHave, begun_has, command_has, either, reads_have}
use Rattle.my_pool_requests.specs.Being.{makes_one}

-- there is no transaction, and none is being committed
pub record IsOutside (p : Place) : Type 0 where
  pub status : p.status ≡ txs.None
  pub trial : p.trial ≡ trials.Off

-- the parts of such calls
data IsPlain : Part → Type 0 where
  Reads : IsPlain All
  Heads : IsPlain Head
  Commands : IsPlain Command
  Undoes : IsPlain Undo
  Settles : IsPlain Undone

abbrev ArePlain : List Part → Type 0
ArePlain [] = Unit {0}
ArePlain (part ∷ parts) = IsPlain part × ArePlain parts

-- wherever a step leads or stops
abbrev IsFine : Step → Type 0
IsFine (Goes parts p) = ArePlain parts × IsOutside p
IsFine (Stops p s) = IsOutside p

refused_fine : (trial : Trial) (new : Place) (e : ServerError) → trial ≡ trials.Off → IsOutside new → IsFine (refused_at trial new e)
refused_fine trials.Off new e is h = h
refused_fine trials.On new e is h = absurd (cc)
refused_fine (trials.Refused first) new e is h = absurd (cc)

head_fine : (k : Kind) (parts : List Part) (new : Place) (row : Told) → ArePlain parts → IsOutside new → IsFine (after_kind Head parts k new row)
head_fine (kinds.Good status) parts new row left h = (left, record { status = h.status; trial = h.trial })
head_fine k parts new row left h = ((Heads, left), h)

module _ (login : Login) (call : Call) where
  module _ (parts : List Part) (p : Place) (left : ArePlain parts) (h : IsOutside p) where
    stops : StopsHave IsFine p
    stops s open_ = h

    part_fine : (part : Part) → IsPlain part → IsFine (step_of login call (part ∷ parts) p)
    part_fine part Reads =
        either IsFine p.end_left _ _ ((Reads, left), record { status = h.status; trial = h.trial })
        (either IsFine (is_over p.talk) _ _ (left, h)
        (reads_have IsFine p stops login All parts refl
        (λ k q rest _. ((Reads, left), record { status = h.status; trial = h.trial }))
        (λ k q rest row _. ((Reads, left), record { status = h.status; trial = h.trial }))
        (λ q rest e. refused_fine p.trial (with_talk p (grow kinds.Failed p.talk q) rest) (server_error e) h.trial (record { status = h.status; trial = h.trial }))))
    part_fine part Heads =
        either IsFine (is_rows (context_of p.talk).spot) _ _ (left, h)
        (reads_have IsFine p stops login Head parts refl
        (λ k q rest _. ((Heads, left), record { status = h.status; trial = h.trial }))
        (λ k q rest row _. head_fine k parts (with_talk p (grow k p.talk q) rest) row left (record { status = h.status; trial = h.trial }))
        (λ q rest e. refused_fine p.trial (with_talk p (grow kinds.Failed p.talk q) rest) (server_error e) h.trial (record { status = h.status; trial = h.trial })))
    part_fine part Commands =
        command_has IsFine p stops call parts (next_exchange login call p) (left, h)
        (λ t _. (left, record { status = h.status; trial = h.trial }))
    part_fine part Undoes = by_status (is_given_up p.status)
      where
        by_status : (b : Bool) → IsFine (undone login call parts p b)
        by_status false = (left, h)
        by_status true =
            let t = queried (terms_of login (exchanges p)) rollback_text in
            begun_has IsFine p stops call parts t (left, record { status = h.status; trial = h.trial })
    part_fine part Settles = (left, record { status = ap rolled_back h.status; trial = h.trial })

  parts_fine : (parts : List Part) (p : Place) → ArePlain parts → IsOutside p → IsFine (step_of login call parts p)
  parts_fine [] p left h = h
  parts_fine (part ∷ parts) p left h = part_fine parts p left.1 h part left.0

  owed_fine : (bytes : List ℕ) (p : Place) (s : Step) → IsOutside p → IsFine s → IsFine (unless_owed bytes p s)
  owed_fine [] p s h w = w
  owed_fine (b ∷ bytes) p s h w = h

  run_outside : (n : ℕ) (s : Step) → IsFine s → IsOutside (run n login call s).place
  unfolding run step
  run_outside zero (Stops p s) w = w
  run_outside (suc n) (Stops p s) w = w
  run_outside zero (Goes parts p) w = w.1
  run_outside (suc n) (Goes parts p) w = run_outside n (step login call parts p) (owed_fine (owed p) p (step_of login call parts p) w.1 (parts_fine parts p w.0 w.1))

-- ---- the calls that make a connection ----

pub data Makes : Call → Type 0 where
  Connects : Makes calls.Connect
  Queries : (text : List ℕ) → Makes (calls.Query text)
  Passes : Makes calls.DropResult

pub which : (call : Call) → makes_one (kind_of call) ≡ true → Makes call
which calls.Connect e = Connects
which (calls.Query text) e = Queries text
which calls.DropResult e = Passes
which _ e = absurd (cc)

texts_plain : (texts : List (List ℕ)) → ArePlain (All ∷ parts_of_texts texts)
texts_plain [] = (Reads, tt)
texts_plain (text ∷ texts) = (Reads, (Commands, texts_plain texts))

parts_plain : (login : Login) (call : Call) → Makes call → ArePlain (parts_of login call)
parts_plain login call Connects = texts_plain (arranging_texts login)
parts_plain login call (Queries text) = (Reads, (Undoes, (Reads, (Settles, (Commands, (Heads, tt))))))
parts_plain login call Passes = (Reads, tt)

-- wherever it stops
pub stays_outside : (login : Login) (call : Call) (p : Place) → Makes call → IsOutside p → IsOutside (course login call p).place
stays_outside login call p m h = run_outside login call (enough login call p) (Goes (parts_of login call) p) (parts_plain login call m, h)

pub stays_open : (call : Call) → Makes call → is_closing call (Some ToldReady) ≡ false
stays_open call Connects = refl
stays_open call (Queries text) = refl
stays_open call Passes = refl
