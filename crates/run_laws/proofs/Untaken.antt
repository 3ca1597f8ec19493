-- A tape on which no call took a set for a stream has none that is taken.
use Rattle.std.proofs.Common.{◌≡◌, ℕ, zero, suc, List, [], ◌∷◌, ◌++◌, map, Bool, true, false, not, ◌&&◌, ◌||◌, Option, Some, None, cond, refl, ap, ◌∙◌}
use Rattle.my_params.specs.declared.params.Params.{Params}
use Rattle.my_statements.specs.Cache.{Held}
use Rattle.my_grammar.specs.declared.login.Login.{Login}
use Rattle.my_grammar.specs.declared.spot.Kind.{Kind}
use Rattle.my_grammar.specs.declared.spot.Kind.TheVariants as kinds
use Rattle.my_grammar.specs.Cut.{is_over}
use Rattle.my_grammar.specs.Growth.{grow}
use Rattle.my_grammar.specs.Talk.{context_of}
use Rattle.my_handshake.specs.Version.{version_of}
use Rattle.my_reading.specs.declared.call.Call.{Call}
use Rattle.my_reading.specs.declared.call.Call.TheVariants as calls
use Rattle.my_reading.specs.declared.call.CallKind.{CallKind}
use Rattle.my_reading.specs.declared.call.CallKind.TheVariants.{TakeSet}
use Rattle.my_reading.specs.declared.error.DriverError.{DriverError}
use Rattle.my_reading.specs.declared.error.ServerError.{ServerError}
use Rattle.my_reading.specs.declared.facts.Facts.{Facts}
use Rattle.my_reading.specs.declared.transaction.Trial.{Trial}
use Rattle.my_reading.specs.declared.transaction.Trial.TheVariants as trials
use Rattle.my_reading.specs.Calls.{kind_of, id_in, statement_in, text_in}
use Rattle.my_reading.specs.Commands.{arranging_texts, queried, setup_texts}
use Rattle.my_reading.specs.Course.{Part, All, Head, Item, Set, Rest, Command, Find, Check, Run, Reply, Keep, Give, Learn, Forget, Offered, Clear, Text, Flag, Adopt, Renew, Drain, Undo, Undone, Refuse, Settle, GiveUp, Try, Back, Step, Goes, Stops, after_kind, checked, closing_of, enough, executed, found, is_drain, learned, offered, parts_of, parts_of_batch, parts_of_lists, parts_of_queries, parts_of_texts, reads, refused_at, renewing, returned, run, step, step_of, undone, unless_owed, unless_refused}
use Rattle.my_reading.specs.Errors.{server_error}
use Rattle.my_reading.specs.Executions.{Values, Fitting, Unfitting, values_for}
use Rattle.my_reading.specs.Facts.{prepared_by}
use Rattle.my_reading.specs.Place.{Place, exchanges, facts_at, first_place, is_rows, next_exchange, owed, terms_of, with_bytes, with_statements, with_talk}
use Rattle.my_reading.specs.Reading.{halt_of, is_closing, read_calls, reading}
use Rattle.my_reading.specs.Statements.{held_in, is_mixed_text, leaving, query_of, with_columns, with_prepared}
use Rattle.my_reading.specs.Tape.{Span, Tape, TapeCall, spans, spans_from}
use Rattle.my_reading.specs.Told.{Told}
use Rattle.my_reading.specs.Transactions.{begin_refusal, begin_texts, is_given_up, rollback_text}
use Rattle.my_reading.specs.Versions.{can_reset}
use Rattle.reading_laws.proofs.Having.{begun_has, command_has, drains_have, either, reads_have}

-- parts that take no set
abbrev takes_none : List Part → Bool
takes_none [] = true
takes_none (Set ∷ parts) = false
takes_none (part ∷ parts) = takes_none parts

abbrev Untaken : Step → Type 0
Untaken (Goes parts p) = (takes_none parts ≡ true) × (p.taken ≡ false)
Untaken (Stops p s) = p.taken ≡ false

and_false : (b c : Bool) → b ≡ false → b && c ≡ false
and_false true c e = cc
and_false false c e = refl

refused_untaken : (trial : Trial) (new : Place) (e : ServerError) → new.taken ≡ false → Untaken (refused_at trial new e)
refused_untaken trials.Off new e w = w
refused_untaken trials.On new e w = (refl, w)
refused_untaken (trials.Refused first) new e w = w

-- a call that takes no set, at each of its parts
module _ (login : Login) (call : Call) where
  kind_untaken : (part : Part) (parts : List Part) → takes_none (part ∷ parts) ≡ true → (k : Kind) (new : Place) (row : Told) → new.taken ≡ false → Untaken (after_kind part parts k new row)
  kind_untaken Set parts e k new row w = absurd (cc)
  kind_untaken Head parts e (kinds.Good status) new row w = (e, w)
  kind_untaken Item parts e (kinds.Good status) new row w = w
  kind_untaken Item parts e (kinds.End status) new row w = w
  kind_untaken Item parts e kinds.Row new row w = w
  kind_untaken part parts e k new row w = (e, w)

  reads_untaken : (part : Part) → is_drain part ≡ false → (parts : List Part) (p : Place) → takes_none (part ∷ parts) ≡ true → p.taken ≡ false → Untaken (reads login part parts p)
  reads_untaken part tells parts p e w = reads_have Untaken p (λ s _. w) login part parts tells
      (λ k q rest _. (e, and_false p.taken _ w))
      (λ k q rest row _. kind_untaken part parts e k (with_talk p (grow k p.talk q) rest) row (and_false p.taken _ w))
      (λ q rest x. refused_untaken p.trial (with_talk p (grow kinds.Failed p.talk q) rest) (server_error x) (and_false p.taken _ w))

  drains_untaken : (parts : List Part) (p : Place) → takes_none parts ≡ true → p.taken ≡ false → Untaken (reads login Drain parts p)
  drains_untaken parts p e w = drains_have Untaken p (λ s _. w) login parts (λ k q rest. (e, and_false p.taken _ w))

  checked_untaken : (parts : List Part) (p : Place) (v : Values) → takes_none parts ≡ true → p.taken ≡ false → Untaken (checked parts p v)
  checked_untaken parts p (Fitting values) e w = (e, w)
  checked_untaken parts p (Unfitting x) e w = w

  found_untaken : (parts : List Part) (p : Place) (text : List ℕ) (o : Option Held) → takes_none parts ≡ true → p.taken ≡ false → Untaken (found parts p text o)
  found_untaken parts p text None e w = (e, w)
  found_untaken parts p text (Some h) e w = w

  offered_untaken : (parts : List Part) (p : Place) (b : Bool) → takes_none parts ≡ true → p.taken ≡ false → Untaken (offered parts p b)
  offered_untaken parts p true e w = (e, w)
  offered_untaken parts p false e w = w

  undone_untaken : (parts : List Part) (p : Place) (b : Bool) → takes_none parts ≡ true → p.taken ≡ false → Untaken (undone login call parts p b)
  undone_untaken parts p true e w = begun_has Untaken p (λ s _. w) call parts (queried (terms_of login (exchanges p)) rollback_text) (e, refl)
  undone_untaken parts p false e w = (e, w)

  unrefused_untaken : (parts : List Part) (p : Place) (x : Option DriverError) → takes_none parts ≡ true → p.taken ≡ false → Untaken (unless_refused parts p x)
  unrefused_untaken parts p None e w = (e, w)
  unrefused_untaken parts p (Some x) e w = w

  returned_untaken : (p : Place) (trial : Trial) → p.taken ≡ false → Untaken (returned p trial)
  returned_untaken p trials.Off w = w
  returned_untaken p trials.On w = w
  returned_untaken p (trials.Refused first) w = w

  learned_untaken : (p : Place) (f : Facts) → p.taken ≡ false → (learned call p f).taken ≡ false
  learned_untaken p f w = by_rows (is_rows (context_of p.talk).spot)
    where
      by_rows : (b : Bool) → (cond b (with_statements (with_columns (id_in call) f.columns p.statements) p) p).taken ≡ false
      by_rows true = w
      by_rows false = w

  part_untaken : (parts : List Part) (p : Place) → takes_none parts ≡ true → p.taken ≡ false → Untaken (step_of login call parts p)
  part_untaken [] p e w = w
  part_untaken (Command ∷ parts) p e w = command_has Untaken p (λ s _. w) call parts (next_exchange login call p) (e, w) (λ t i. (e, refl))
  part_untaken (All ∷ parts) p e w = either Untaken p.end_left _ _ (e, w) (either Untaken (is_over p.talk) _ _ (e, w) (reads_untaken All refl parts p e w))
  part_untaken (Head ∷ parts) p e w = either Untaken (is_rows (context_of p.talk).spot) _ _ (e, w) (reads_untaken Head refl parts p e w)
  part_untaken (Item ∷ parts) p e w = either Untaken p.end_left _ _ w (either Untaken (is_over p.talk) _ _ w (reads_untaken Item refl parts p e w))
  part_untaken (Set ∷ parts) p e w = absurd (cc)
  part_untaken (Rest ∷ parts) p e w = either Untaken p.end_left _ _ (e, w) (either Untaken (is_rows (context_of p.talk).spot) _ _ (reads_untaken Rest refl parts p e w) (e, w))
  part_untaken (Find ∷ parts) p e w = either Untaken (is_mixed_text (text_in call)) _ _ w (found_untaken parts p (text_in call) (held_in p.statements (query_of (text_in call))) e w)
  part_untaken (Check params ∷ parts) p e w = checked_untaken parts p (values_for (statement_in call) params) e w
  part_untaken (Run params ∷ parts) p e w = command_has Untaken p (λ s _. w) call parts (executed login call p params) (e, w) (λ t i. (e, refl))
  part_untaken (Reply ∷ parts) p e w = either Untaken (is_over p.talk) _ _ (e, w) (reads_untaken Reply refl parts p e w)
  part_untaken (Keep ∷ parts) p e w =
      let f = facts_at login p in
      command_has Untaken (with_statements (with_prepared (query_of (text_in call)) (prepared_by f) f.reply.fields p.statements) p) (λ s _. w) (calls.Prepare (text_in call)) parts
      (closing_of (terms_of login (exchanges p)) (leaving (query_of (text_in call)) (prepared_by f) p.statements)) (e, w) (λ t i. (e, refl))
  part_untaken (Give ∷ parts) p e w = w
  part_untaken (Learn ∷ parts) p e w = (e, learned_untaken p (facts_at login p) w)
  part_untaken (Forget ∷ parts) p e w = (e, w)
  part_untaken (Offered ∷ parts) p e w = offered_untaken parts p (can_reset (version_of (facts_at login p).version)) e w
  part_untaken (Clear ∷ parts) p e w = (e, w)
  part_untaken (Text text ∷ parts) p e w = begun_has Untaken p (λ s _. w) call parts (queried (terms_of login (exchanges p)) text) (e, refl)
  part_untaken (Flag flag ∷ parts) p e w = w
  part_untaken (Adopt change ∷ parts) p e w = (e, w)
  part_untaken (Renew ∷ parts) p e w = begun_has Untaken p (λ s _. w) call parts (renewing login call p (facts_at login p)) (e, refl)
  part_untaken (Drain ∷ parts) p e w = either Untaken p.end_left _ _ (e, w) (either Untaken (is_over p.talk) _ _ (e, w) (drains_untaken parts p e w))
  part_untaken (Undo ∷ parts) p e w = undone_untaken parts p (is_given_up p.status) e w
  part_untaken (Undone ∷ parts) p e w = (e, w)
  part_untaken (Refuse opts ∷ parts) p e w = unrefused_untaken parts p (begin_refusal opts (version_of (facts_at login p).version) p.status) e w
  part_untaken (Settle status ∷ parts) p e w = (e, w)
  part_untaken (GiveUp ∷ parts) p e w = (e, w)
  part_untaken (Try ∷ parts) p e w = (e, w)
  part_untaken (Back ∷ parts) p e w = either Untaken (is_over p.talk) _ _ (returned_untaken p p.trial w) (reads_untaken Back refl parts p e w)

  step_untaken : (parts : List Part) (p : Place) → takes_none parts ≡ true → p.taken ≡ false → Untaken (step login call parts p)
  unfolding step
  step_untaken parts p e w = by_owed (owed p)
    where
      by_owed : (bytes : List ℕ) → Untaken (unless_owed bytes p (step_of login call parts p))
      by_owed [] = part_untaken parts p e w
      by_owed (b ∷ bytes) = w

  run_untaken : (n : ℕ) (s : Step) → Untaken s → (run n login call s).place.taken ≡ false
  unfolding run
  run_untaken zero (Stops p s) w = w
  run_untaken (suc n) (Stops p s) w = w
  run_untaken zero (Goes parts p) w = w.1
  run_untaken (suc n) (Goes parts p) w = run_untaken n (step login call parts p) (step_untaken parts p w.0 w.1)

texts_take_none : (texts : List (List ℕ)) → takes_none (parts_of_texts texts) ≡ true
texts_take_none [] = refl
texts_take_none (text ∷ texts) = texts_take_none texts

lists_take_none : (lists : List Params) → takes_none (parts_of_lists lists) ≡ true
lists_take_none [] = refl
lists_take_none (params ∷ lists) = lists_take_none lists

batch_takes_none : (lists : List Params) → takes_none (parts_of_batch lists) ≡ true
batch_takes_none [] = refl
batch_takes_none (params ∷ lists) = lists_take_none lists

queries_take_none : (texts : List (List ℕ)) (parts : List Part) → takes_none parts ≡ true → takes_none (parts_of_queries texts parts) ≡ true
queries_take_none [] parts e = e
queries_take_none (text ∷ texts) parts e = queries_take_none texts parts e

-- the calls of these kinds take none
abbrev pub is_take : CallKind → Bool
is_take TakeSet = true
is_take kind = false

call_takes_none : (login : Login) (call : Call) → is_take (kind_of call) ≡ false → takes_none (parts_of login call) ≡ true
call_takes_none login calls.Connect e = texts_take_none (arranging_texts login)
call_takes_none login (calls.Batch statement lists) e = batch_takes_none lists
call_takes_none login calls.Reset e = queries_take_none (setup_texts login) (Flag true ∷ []) refl
call_takes_none login (calls.ChangeUser change) e = queries_take_none (setup_texts login) [] refl
call_takes_none login (calls.Begin opts) e = queries_take_none (begin_texts opts) _ refl
call_takes_none login calls.ResetForPool e = queries_take_none (setup_texts login) [] refl
call_takes_none login calls.TakeSet e = cc
call_takes_none login call e = refl

abbrev pub take_no_set : List Call → Bool
take_no_set [] = true
take_no_set (c ∷ cs) = not (is_take (kind_of c)) && take_no_set cs

left_false : (a b : Bool) → not a && b ≡ true → a ≡ false
left_false true b e = cc
left_false false b e = refl

right_true : (a b : Bool) → not a && b ≡ true → b ≡ true
right_true true b e = cc
right_true false b e = e

halt_untaken : (login : Login) (closed : Bool) (s : Span) (p : Place) → is_take (kind_of s.call) ≡ false → p.taken ≡ false → (halt_of login closed s p).place.taken ≡ false
halt_untaken login true s p e w = w
halt_untaken login false s p e w = run_untaken login s.call (enough login s.call (with_bytes s.sent s.taken p)) (Goes (parts_of login s.call) (with_bytes s.sent s.taken p)) (call_takes_none login s.call e, w)

calls_untaken : (login : Login) (ss : List Span) (closed : Bool) (p : Place) → take_no_set (map (λ s. s.call) ss) ≡ true → p.taken ≡ false → (read_calls login ss closed p).place.taken ≡ false
unfolding read_calls
calls_untaken login [] closed p e w = w
calls_untaken login (s ∷ ss) closed p e w =
    calls_untaken login ss (closed || is_closing s.call s.ending) (halt_of login closed s p).place (right_true (is_take (kind_of s.call)) _ e) (halt_untaken login closed s p (left_false (is_take (kind_of s.call)) _ e) w)

same_calls : (t : Tape) (cs : List TapeCall) → map (λ s. s.call) (spans_from t cs) ≡ map (λ c. c.call) cs
same_calls t [] = refl
same_calls t (c ∷ cs) = ap (λ xs. c.call ∷ xs) (same_calls t cs)

pub untaken : (login : Login) (t : Tape) → take_no_set (map (λ c. c.call) t.calls) ≡ true → (reading login t).place.taken ≡ false
unfolding reading
untaken login t e = calls_untaken login (spans t) false (first_place login) (ap take_no_set (same_calls t t.calls) ∙ e) refl

-- one call more
both_true : (a b : Bool) → a ≡ true → b ≡ true → a && b ≡ true
both_true true b e f = f
both_true false b e f = cc

pub take_no_more : (cs : List Call) (c : Call) → take_no_set cs ≡ true → is_take (kind_of c) ≡ false → take_no_set (cs ++ c ∷ []) ≡ true
take_no_more [] c e f = both_true (not (is_take (kind_of c))) true (ap not f) refl
take_no_more (x ∷ cs) c e f = both_true (not (is_take (kind_of x))) _ (ap not (left_false (is_take (kind_of x)) (take_no_set cs) e)) (take_no_more cs c (right_true (is_take (kind_of x)) (take_no_set cs) e) f)
