-- Each step of a call leaves its exchanges in order.
use Rattle.std.proofs.Common.{◌≡◌, ℕ, suc, zero, List, [], ◌∷◌, Bool, true, false, cond, ◌||◌, Option, Some, None, refl, sym, ap, ◌∙◌, subst}
use Rattle.my_grammar.proofs.Growth.{grows}
use Rattle.my_grammar.specs.declared.login.Login.{Login}
use Rattle.my_grammar.specs.declared.spot.Kind.{Kind}
use Rattle.my_grammar.specs.declared.spot.Kind.TheVariants as kinds
use Rattle.my_grammar.specs.declared.spot.Terms.{Terms}
use Rattle.my_grammar.specs.Cut.{is_over}
use Rattle.my_grammar.specs.Growth.{grow}
use Rattle.my_grammar.specs.Talk.{Talk, Fits, context_of}
use Rattle.my_handshake.specs.Version.{version_of}
use Rattle.my_reading.specs.declared.call.Call.{Call}
use Rattle.my_reading.specs.declared.call.Call.TheVariants.{Prepare}
use Rattle.my_reading.specs.declared.error.DriverError.{DriverError}
use Rattle.my_reading.specs.declared.error.ServerError.{ServerError}
use Rattle.my_reading.specs.declared.transaction.Trial.{Trial}
use Rattle.my_reading.specs.declared.transaction.Trial.TheVariants as trials
use Rattle.my_reply.specs.declared.err.ErrPacket.{ErrPacket}
use Rattle.my_reading.specs.Accounts.{changed}
use Rattle.my_reading.specs.Calls.{id_in, statement_in}
use Rattle.my_reading.specs.Commands.{closing, queried}
use Rattle.my_reading.specs.Course.{Part, All, Head, Item, Set, Rest, Command, Find, Check, Run, Reply, Keep, Give, Learn, Forget, Offered, Clear, Text, Flag, Adopt, Renew, Drain, Undo, Undone, Refuse, Settle, GiveUp, Try, Back, Step, Goes, Stops, after_kind, is_drain, checked, executed, is_rows, offered, reads, refused_at, renewing, step, step_of, undone, parts_of, closing_of, enough, found, returned, run, unless_owed, unless_refused, with_command}
use Rattle.my_reading.specs.Errors.{server_error}
use Rattle.my_reading.specs.Executions.{Values, Fitting, Unfitting, values_for}
use Rattle.my_reading.specs.Place.{Place, connects_in, exchanges, first_place, with_bytes, facts_at, next_exchange, owed, terms_of, with_account, with_end, with_exchange, with_statements, with_status, with_talk, with_trial, without_end}
use Rattle.my_reading.specs.Statements.{Statements, cleared, with_columns, without_statement}
use Rattle.my_reading.specs.Transactions.{begin_refusal, given_up, is_given_up, rollback_text, rolled_back}
use Rattle.my_reading.specs.Versions.{can_reset}
use Rattle.history_laws.proofs.Calls.{is_orderly, parts_orderly}
use Rattle.history_laws.proofs.Growing.{failed_over}
use Rattle.history_laws.proofs.Having.{Comes, begun_has, command_has, drains_have, either, reads_have, row_at}
use Rattle.history_laws.specs.Order.{AreDone, IsOrderly, EachIsOrderly}
use Rattle.history_laws.proofs.Opening.{opened_fits, executed_fits, renewing_new}
use Rattle.history_laws.proofs.Stepping.{both}
use Rattle.my_reading.specs.Reading.{halt_of, is_closing, read_calls, reading}
use Rattle.my_reading.specs.Tape.{Span, spans}
use Rattle.my_reading.specs.Facts.{prepared_by}
use Rattle.my_reading.specs.Calls.{text_in}
use Rattle.my_reading.specs.Statements.{held_in, is_mixed_text, leaving, query_of, with_prepared}
use Rattle.my_statements.specs.Cache.{Held}

abbrev Ordered : List Part → Place → Type 0
Ordered parts p = (over : Bool) × (is_orderly over parts ≡ true) × (over ≡ true → is_over p.talk ≡ true) × IsOrderly p

-- a step that goes on in order, or stops so
abbrev IsFine : Step → Type 0
IsFine (Goes parts q) = Ordered parts q
IsFine (Stops q s) = IsOrderly q

same : (p q : Place) → q.talk ≡ p.talk → q.older ≡ p.older → IsOrderly p → IsOrderly q
same p q t o w = record { done = subst AreDone (sym o) w.done; fits = subst Fits (sym t) w.fits }

grown : (p : Place) (k : Kind) (q rest : List ℕ) → Comes p k q → IsOrderly p → IsOrderly (with_talk p (grow k p.talk q) rest)
grown p k q rest c w = record { done = w.done; fits = (grows p.talk k q c.kind_is c.good c.short w.fits).fits }

begun : (p : Place) (call : Call) (t : Talk) → Fits t → is_over p.talk ≡ true → IsOrderly p → IsOrderly (with_exchange p call t)
begun p call t f over w = record { done = (over, w.fits, w.done); fits = f }

loose : (parts : List Part) (p : Place) → is_orderly false parts ≡ true → IsOrderly p → Ordered parts p
loose parts p e w = (false, e, λ x. absurd (cc), w)

refused_fine : (x : Trial) (new : Place) (e : ServerError) → is_over new.talk ≡ true → IsOrderly new → IsFine (refused_at x new e)
refused_fine trials.Off new e over w = w
refused_fine trials.On new e over w = (true, refl, λ _. over, same new _ refl refl w)
refused_fine (trials.Refused first) new e over w = same new _ refl refl w

module _ (login : Login) (p : Place) (w : IsOrderly p) where
  stays : (part : Part) (parts : List Part) → is_orderly false (part ∷ parts) ≡ true → (k : Kind) (q rest : List ℕ) → Comes p k q → IsFine (Goes (part ∷ parts) (with_talk p (grow k p.talk q) rest))
  stays part parts e k q rest c = loose (part ∷ parts) (with_talk p (grow k p.talk q) rest) e (grown p k q rest c w)

  errs : (q rest : List ℕ) → Comes p kinds.Failed q → (e : ErrPacket) → IsFine (refused_at p.trial (with_talk p (grow kinds.Failed p.talk q) rest) (server_error e))
  errs q rest c e = refused_fine p.trial (with_talk p (grow kinds.Failed p.talk q) rest) (server_error e) (failed_over p.talk q) (grown p kinds.Failed q rest c w)

  whole : (part : Part) (parts : List Part) → is_drain part ≡ false → is_orderly false (part ∷ parts) ≡ true → ((k : Kind) (q rest : List ℕ) → Comes p k q → IsFine (after_kind part parts k (with_talk p (grow k p.talk q) rest) (row_at login p q)))
      → IsFine (reads login part parts p)
  whole part parts tells e other = reads_have IsFine p (λ _ _. w) login part parts tells w (λ k quiet q rest c. stays part parts e k q rest c) other errs

  head_kind : (parts : List Part) → is_orderly false parts ≡ true → (k : Kind) (q rest : List ℕ) → Comes p k q → IsFine (after_kind Head parts k (with_talk p (grow k p.talk q) rest) (row_at login p q))
  head_kind parts e (kinds.Good s) q rest c = loose parts (with_end (with_talk p (grow (kinds.Good s) p.talk q) rest)) e (same (with_talk p (grow (kinds.Good s) p.talk q) rest) _ refl refl (grown p (kinds.Good s) q rest c w))
  head_kind parts e k q rest c = stays Head parts e k q rest c

  item_kind : (parts : List Part) → is_orderly false parts ≡ true → (k : Kind) (q rest : List ℕ) → Comes p k q → IsFine (after_kind Item parts k (with_talk p (grow k p.talk q) rest) (row_at login p q))
  item_kind parts e (kinds.Good s) q rest c = grown p (kinds.Good s) q rest c w
  item_kind parts e kinds.Row q rest c = grown p kinds.Row q rest c w
  item_kind parts e (kinds.End s) q rest c = grown p (kinds.End s) q rest c w
  item_kind parts e k q rest c = stays Item parts e k q rest c

  set_kind : (parts : List Part) → is_orderly false parts ≡ true → (k : Kind) (q rest : List ℕ) → Comes p k q → IsFine (after_kind Set parts k (with_talk p (grow k p.talk q) rest) (row_at login p q))
  set_kind parts e (kinds.Good s) q rest c = same (with_talk p (grow (kinds.Good s) p.talk q) rest) _ refl refl (grown p (kinds.Good s) q rest c w)
  set_kind parts e k q rest c = stays Set parts e k q rest c

  command : (call : Call) (parts : List Part) (o : Option Talk) → ((t : Talk) → o ≡ Some t → Fits t) → is_over p.talk ≡ true → is_orderly false parts ≡ true → IsFine (with_command call parts p o)
  command call parts o f over e = command_has IsFine p (λ _ _. w) call parts o (loose parts p e w) (λ t i. loose parts (with_exchange p call t) e (begun p call t (f t i) over w))

  asked : (call : Call) (parts : List Part) (t : Talk) → Fits t → is_over p.talk ≡ true → is_orderly false parts ≡ true → IsFine (with_command call parts p (Some t))
  asked call parts t f over e = begun_has IsFine p (λ _ _. w) call parts t (loose parts (with_exchange p call t) e (begun p call t f over w))

  undoes : (call : Call) (parts : List Part) (b : Bool) → is_over p.talk ≡ true → is_orderly false parts ≡ true → IsFine (undone login call parts p b)
  undoes call parts true over e = asked call parts (queried (terms_of login (exchanges p)) rollback_text) (record { kinds = tt; within = tt }) over e
  undoes call parts false over e = loose parts p e w

  closes : (call : Call) (parts : List Part) (terms : Terms) (x : Option ℕ) → is_over p.talk ≡ true → is_orderly false parts ≡ true → IsFine (with_command call parts p (closing_of terms x))
  closes call parts terms None over e = loose parts p e w
  closes call parts terms (Some id) over e = asked call parts (closing terms id) (record { kinds = tt; within = tt }) over e

  module _ (over : Bool) (is : over ≡ true → is_over p.talk ≡ true) where
    on : (parts : List Part) (q : Place) → q.talk ≡ p.talk → q.older ≡ p.older → is_orderly over parts ≡ true → Ordered parts q
    on parts q t o e = (over, e, λ x. ap is_over t ∙ is x, same p q t o w)

    finds : (parts : List Part) (text : List ℕ) (x : Option Held) → is_orderly over parts ≡ true → IsFine (found parts p text x)
    finds parts text None e = on parts p refl refl e
    finds parts text (Some h) e = same p _ refl refl w

    checks : (parts : List Part) (v : Values) → is_orderly over parts ≡ true → IsFine (checked parts p v)
    checks parts (Fitting values) e = on parts p refl refl e
    checks parts (Unfitting x) e = w

    offers : (parts : List Part) (b : Bool) → is_orderly over parts ≡ true → IsFine (offered parts p b)
    offers parts true e = on parts p refl refl e
    offers parts false e = w

    refuses : (parts : List Part) (x : Option DriverError) → is_orderly over parts ≡ true → IsFine (unless_refused parts p x)
    refuses parts None e = on parts p refl refl e
    refuses parts (Some x) e = w

    learns : (parts : List Part) (b : Bool) (st : Statements) → is_orderly over parts ≡ true → IsFine (Goes parts (cond b (with_statements st p) p))
    learns parts true st e = on parts (with_statements st p) refl refl e
    learns parts false st e = on parts p refl refl e

    returns : (x : Trial) → IsFine (returned p x)
    returns trials.Off = w
    returns trials.On = w
    returns (trials.Refused first) = same p _ refl refl w

    part_fine : (c : Call) (parts : List Part) → is_orderly over parts ≡ true → IsFine (step_of login c parts p)
    part_fine c [] e = w
    part_fine c (All ∷ parts) e = either IsFine p.end_left _ _ (λ _. loose (All ∷ parts) (without_end p) e (same p _ refl refl w))
        (λ _. either IsFine (is_over p.talk) _ _ (λ x. (true, e, λ _. x, w)) (λ _. whole All parts refl e (stays All parts e)))
    part_fine c (Reply ∷ parts) e = either IsFine (is_over p.talk) _ _ (λ x. (true, e, λ _. x, w)) (λ _. whole Reply parts refl e (stays Reply parts e))
    part_fine c (Drain ∷ parts) e = either IsFine p.end_left _ _ (λ _. loose (Drain ∷ parts) (without_end p) e (same p _ refl refl w))
        (λ _. either IsFine (is_over p.talk) _ _ (λ x. (true, e, λ _. x, w)) (λ _. drains_have IsFine p (λ _ _. w) login parts w (stays Drain parts e)))
    part_fine c (Back ∷ parts) e = either IsFine (is_over p.talk) _ _ (λ _. returns p.trial) (λ _. whole Back parts refl e (stays Back parts e))
    part_fine c (Head ∷ parts) e = either IsFine (is_rows (context_of p.talk).spot) _ _ (λ _. loose parts p e w) (λ _. whole Head parts refl e (head_kind parts e))
    part_fine c (Item ∷ parts) e = either IsFine p.end_left _ _ (λ _. same p _ refl refl w) (λ _. either IsFine (is_over p.talk) _ _ (λ _. w) (λ _. whole Item parts refl e (item_kind parts e)))
    part_fine c (Set ∷ parts) e = either IsFine (p.end_left || is_rows (context_of p.talk).spot) _ _ (λ _. same p _ refl refl w)
        (λ _. either IsFine (is_over p.talk) _ _ (λ _. w) (λ _. whole Set parts refl e (set_kind parts e)))
    part_fine c (Rest ∷ parts) e = either IsFine p.end_left _ _ (λ _. loose (Rest ∷ parts) (without_end p) e (same p _ refl refl w))
        (λ _. either IsFine (is_rows (context_of p.talk).spot) _ _ (λ _. whole Rest parts refl e (stays Rest parts e)) (λ _. loose parts p e w))
    part_fine c (Command ∷ parts) e = let x = both over _ e in command c parts (next_exchange login c p) (opened_fits login (terms_of login (exchanges p)) p.statements c (connects_in (exchanges p))) (is x.0) x.1
    part_fine c (Run params ∷ parts) e = let x = both over _ e in
        command c parts (executed login c p params) (executed_fits (terms_of login (exchanges p)) p.statements (id_in c) (values_for (statement_in c) params)) (is x.0) x.1
    part_fine c (Text text ∷ parts) e = let x = both over _ e in asked c parts (queried (terms_of login (exchanges p)) text) (record { kinds = tt; within = tt }) (is x.0) x.1
    part_fine c (Renew ∷ parts) e = let x = both over _ e in asked c parts (renewing login c p (facts_at login p)) (renewing_new login c p).fits (is x.0) x.1
    part_fine c (Undo ∷ parts) e = let x = both over _ e in undoes c parts (is_given_up p.status) (is x.0) x.1
    part_fine c (Find ∷ parts) e = either IsFine (is_mixed_text (text_in c)) _ _ (λ _. w) (λ _. finds parts (text_in c) (held_in p.statements (query_of (text_in c))) e)
    part_fine c (Check params ∷ parts) e = checks parts (values_for (statement_in c) params) e
    part_fine c (Give ∷ parts) e = w
    part_fine c (Learn ∷ parts) e = learns parts (is_rows (context_of p.talk).spot) (with_columns (id_in c) (facts_at login p).columns p.statements) e
    part_fine c (Forget ∷ parts) e = on parts (with_statements (without_statement (id_in c) p.statements) p) refl refl e
    part_fine c (Offered ∷ parts) e = offers parts (can_reset (version_of (facts_at login p).version)) e
    part_fine c (Clear ∷ parts) e = on parts (with_statements (cleared p.statements) p) refl refl e
    part_fine c (Flag flag ∷ parts) e = w
    part_fine c (Adopt change ∷ parts) e = on parts (with_account (changed change p.account) p) refl refl e
    part_fine c (Undone ∷ parts) e = on parts (with_status (rolled_back p.status) p) refl refl e
    part_fine c (Refuse opts ∷ parts) e = refuses parts (begin_refusal opts (version_of (facts_at login p).version) p.status) e
    part_fine c (Settle status ∷ parts) e = on parts (with_trial trials.Off (with_status status p)) refl refl e
    part_fine c (GiveUp ∷ parts) e = on parts (with_status (given_up p.status) p) refl refl e
    part_fine c (Try ∷ parts) e = on parts (with_trial trials.On p) refl refl e
    part_fine c (Keep ∷ parts) e =
        let x = both over _ e in
        let f = facts_at login p in
        let st = with_prepared (query_of (text_in c)) (prepared_by f) f.reply.fields p.statements in
        closing_at st (with_statements st p) (same p _ refl refl w) (terms_of login (exchanges p)) (leaving (query_of (text_in c)) (prepared_by f) p.statements) (is x.0) x.1
      where
        closing_at : (st : Statements) (q : Place) → IsOrderly q → (terms : Terms) (x : Option ℕ) → is_over q.talk ≡ true → is_orderly false parts ≡ true → IsFine (with_command (Prepare (text_in c)) parts q (closing_of terms x))
        closing_at st q v terms None over e = loose parts q e v
        closing_at st q v terms (Some id) over e = begun_has IsFine q (λ _ _. v) (Prepare (text_in c)) parts (closing terms id) (loose parts (with_exchange q (Prepare (text_in c)) (closing terms id)) e (begun q (Prepare (text_in c)) (closing terms id) (record { kinds = tt; within = tt }) over v))

step_fine : (login : Login) (c : Call) (parts : List Part) (p : Place) → Ordered parts p → IsFine (step login c parts p)
unfolding step
step_fine login c parts p w = by_owed (owed p)
  where
    by_owed : (x : List ℕ) → IsFine (unless_owed x p (step_of login c parts p))
    by_owed (b ∷ bytes) = w.3
    by_owed [] = part_fine login p w.3 w.0 w.2 c parts w.1

run_fine : (n : ℕ) (login : Login) (c : Call) (s : Step) → IsFine s → IsOrderly (run n login c s).place
unfolding run
run_fine zero login c (Stops p s) w = w
run_fine (suc n) login c (Stops p s) w = w
run_fine zero login c (Goes parts p) w = w.3
run_fine (suc n) login c (Goes parts p) w = run_fine n login c (step login c parts p) (step_fine login c parts p w)

halt_orderly : (login : Login) (closed : Bool) (s : Span) (p : Place) → IsOrderly p → IsOrderly (halt_of login closed s p).place
halt_orderly login true s p w = same p _ refl refl w
halt_orderly login false s p w =
    let q : Place = with_bytes s.sent s.taken p in
    run_fine (enough login s.call q) login s.call (Goes (parts_of login s.call) q) (loose (parts_of login s.call) q (parts_orderly login s.call) (same p q refl refl w))

calls_orderly : (login : Login) (ss : List Span) (closed : Bool) (p : Place) → IsOrderly p → IsOrderly (read_calls login ss closed p).place
unfolding read_calls
calls_orderly login [] closed p w = w
calls_orderly login (s ∷ ss) closed p w = calls_orderly login ss (closed || is_closing s.call s.ending) (halt_of login closed s p).place (halt_orderly login closed s p w)

pub each_is_orderly : EachIsOrderly
unfolding reading
each_is_orderly login t = calls_orderly login (spans t) false (first_place login) (record { done = tt; fits = record { kinds = tt; within = tt } })
