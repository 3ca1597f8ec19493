-- Each step of a call has callers hear the ERRs of its exchanges.
use Rattle.std.proofs.Common.{◌≡◌, ℕ, List, [], ◌∷◌, Bool, true, false, cond, not, ◌&&◌, ◌||◌, Option, Some, None, is_some, refl, sym, ap, ◌∙◌, subst}
use Rattle.my_reply.specs.declared.err.ErrPacket.{ErrPacket}
use Rattle.my_reply.specs.ErrPacket.{err_at}
use Rattle.my_grammar.specs.declared.login.Login.{Login}
use Rattle.my_grammar.specs.declared.spot.Kind.{Kind}
use Rattle.my_grammar.specs.declared.spot.Kind.TheVariants as kinds
use Rattle.my_grammar.specs.declared.spot.Terms.{Terms}
use Rattle.my_grammar.specs.Cut.{is_over}
use Rattle.my_grammar.specs.Growth.{grow}
use Rattle.my_grammar.specs.Talk.{Talk, commands_in, context_of, limit_of}
use Rattle.my_handshake.specs.Version.{version_of}
use Rattle.my_reading.specs.declared.call.Call.{Call}
use Rattle.my_reading.specs.declared.call.Call.TheVariants.{Prepare, Commit}
use Rattle.my_reading.specs.declared.error.DriverError.{DriverError}
use Rattle.my_reading.specs.declared.error.Error.TheVariants.{Driver, Server}
use Rattle.my_frame.specs.declared.fault.CodecFault.TheVariants.{TooLarge}
use Rattle.my_reading.specs.declared.error.Error.{Error}
use Rattle.my_reading.specs.declared.error.ServerError.{ServerError}
use Rattle.my_reading.specs.declared.transaction.Trial.{Trial}
use Rattle.my_reading.specs.declared.transaction.Trial.TheVariants.{Off, On, Refused}
use Rattle.my_reading.specs.declared.transaction.TxStatus.TheVariants.{RequiresRollback}
use Rattle.my_reading.specs.Accounts.{changed}
use Rattle.my_reading.specs.Calls.{id_in, statement_in, text_in, kind_of}
use Rattle.my_reading.specs.Commands.{queried}
use Rattle.my_reading.specs.Course.{Part, All, Head, Item, Set, Rest, Command, Find, Check, Run, Reply, Keep, Give, Learn, Forget, Offered, Clear, Text, Flag, Adopt, Renew, Drain, Undo, Undone, Refuse, Settle, GiveUp, Try, Back, Goes, Returns, after_kind, checked, closing_of, executed, failure, first_above, found, is_drain, is_greeting, is_rows, offered, reads, refused_at, renewing, returned, step, step_of, undone, unless_long, unless_owed, unless_refused, with_command}
use Rattle.my_reading.specs.Errors.{mixed_params, server_error, codec_error}
use Rattle.my_reading.specs.Executions.{Values, Fitting, Unfitting, values_for}
use Rattle.my_reading.specs.Facts.{prepared_by}
use Rattle.my_reading.specs.Place.{Place, connects_in, exchanges, facts_at, next_exchange, owed, terms_of, with_account, with_end, with_exchange, with_statements, with_status, with_talk, with_taken, with_trial, without_end}
use Rattle.my_reading.specs.Rows.{row_of}
use Rattle.my_reading.specs.Statements.{Statements, cleared, held_in, is_mixed_text, leaving, names_of, query_of, statement_with, with_columns, with_fetched, with_prepared, without_statement}
use Rattle.my_reading.specs.Told.{Told, ToldReady, ToldRow, ToldEnd, ToldNone, ToldStatement, ToldFlag, ToldError, ToldPassed, closes}
use Rattle.my_reading.specs.Transactions.{begin_refusal, given_up, is_given_up, rollback_text, rolled_back}
use Rattle.my_reading.specs.Versions.{can_reset}
use Rattle.my_statements.specs.Cache.{Held}
use Rattle.history_laws.specs.Errors.{EndedBy, error_onto, NoErrors, MoreErrors, errors_in, passes_errors, with_told}
use Rattle.history_laws.specs.Groups.{Made}
use Rattle.history_laws.proofs.Calls.{commit_closes, commits, is_commits, is_tried}
use Rattle.history_laws.proofs.Blaming.{failed_blames, is_failed}
use Rattle.history_laws.proofs.Growing.{failed_over}
use Rattle.history_laws.proofs.Having.{Comes, either, errors_have, IsFault, fault_closes, fault_tells_none}
use Rattle.history_laws.proofs.Opening.{IsNew, closing_new, executed_new, opened_new, queried_new, some_new, renewing_new}
use Rattle.history_laws.proofs.Phases.{reads_sets, returned_so}
use Rattle.history_laws.proofs.Stepping.{both, not_true}
use Rattle.history_laws.proofs.Heard.{HeardAt, Phase, Hearing, Undoing, Backing, IsHalted, Stopped, IsFine, grown_calm, grown_error, hushed_grown, begun_heard, told_heard, opened}

module _ (login : Login) (c : Call) (ms : List Made) where
  -- a call stops where nothing of a commit is open
  halted : (trying hushed : Bool) (p : Place) → (trying ≡ true → c ≡ Commit) → (trying ≡ false → p.trial ≡ Off) → (hushed ≡ true → is_over p.talk ≡ true) → HeardAt hushed ms p None → IsHalted c ms p
  halted trying hushed p tries off over w = record { hushed = hushed; unheard = None; heard = w; clear = λ x. refl; over = λ x. over; off = λ x. off (untried trying tries x); spent = λ x y. absurd (cc) }
    where
      untried : (b : Bool) → (b ≡ true → c ≡ Commit) → not (reads_sets c) ≡ false → b ≡ false
      untried true tries x = absurd (commit_closes c (tries refl) x)
      untried false tries x = refl

  returns : (hushed : Bool) (p : Place) (t : Told) → ((es : List ServerError) → with_told t es ≡ es) → p.trial ≡ Off → (hushed ≡ true → is_over p.talk ≡ true) → HeardAt hushed ms p None → Stopped c ms p (Returns t)
  returns hushed p t calm off over w = record { hushed = hushed; unheard = None; heard = told_heard hushed c ms p None t calm w; clear = λ x. refl; over = λ x. over; off = λ x. off; spent = λ x y. absurd (cc) }

  -- a fault closes the session
  faulted : (hushed : Bool) (o : Option ServerError) (p : Place) → HeardAt hushed ms p o → (hushed ≡ false → is_some o ≡ true → is_over p.talk ≡ true) → (e : Error) → IsFault e → IsFine c ms (failure p e)
  faulted hushed o p w spent e is = let shut : closes (ToldError e) (kind_of c) ≡ true = fault_closes (kind_of c) e is in record {
    hushed = hushed;
    unheard = o;
    heard = told_heard hushed c ms p o (ToldError e) (λ es. fault_tells_none e es is) w;
    clear = λ x. absurd (cc);
    over = λ x. absurd (cc);
    off = λ x. absurd (cc);
    spent = spent;
  }

  -- the parts of a call, where nothing of a commit was refused
  module _ (trying : Bool) (tries : trying ≡ true → c ≡ Commit) where
    goes : (hushed : Bool) (parts : List Part) (p : Place) → is_tried c trying parts ≡ true → (trying ≡ false → p.trial ≡ Off) → (hushed ≡ true → is_over p.talk ≡ true) → HeardAt hushed ms p None
        → ((first : ServerError) → p.trial ≡ Refused first → ⊥) → IsFine c ms (Goes parts p)
    goes hushed parts p e off over w unrefused = (ms, NoErrors, Hearing trying hushed parts p e tries off over w unrefused)

    module _ (hushed : Bool) (p : Place) (off : trying ≡ false → p.trial ≡ Off) (over : hushed ≡ true → is_over p.talk ≡ true) (w : HeardAt hushed ms p None) (unrefused : (first : ServerError) → p.trial ≡ Refused first → ⊥) where
      on : (parts : List Part) → is_tried c trying parts ≡ true → IsFine c ms (Goes parts p)
      on parts e = goes hushed parts p e off over w unrefused

      tells : (t : Told) → ((es : List ServerError) → with_told t es ≡ es) → trying ≡ false → Stopped c ms p (Returns t)
      tells t calm none = returns hushed p t calm (off none) over w

      -- a payload that is no ERR
      calm_here : (k : Kind) → is_failed k ≡ false → (q rest : List ℕ) → Comes p k q → HeardAt false ms (with_talk p (grow k p.talk q) rest) None
      calm_here k calm q rest come =
          subst (λ (b : Bool). HeardAt b ms (with_talk p (grow k p.talk q) rest) None) (opened hushed p k q over come) (grown_calm hushed ms p None k q rest come calm over w)

      again : (part : Part) (parts : List Part) → is_tried c trying (part ∷ parts) ≡ true → (k : Kind) → is_failed k ≡ false → (q rest : List ℕ) → Comes p k q → IsFine c ms (Goes (part ∷ parts) (with_talk p (grow k p.talk q) rest))
      again part parts e k calm q rest come = goes false (part ∷ parts) (with_talk p (grow k p.talk q) rest) e off (λ x. absurd (cc)) (calm_here k calm q rest come) unrefused

      stops : (t : Told) → ((es : List ServerError) → with_told t es ≡ es) → trying ≡ false → (k : Kind) → is_failed k ≡ false → (q rest : List ℕ) → Comes p k q → (r : Place) → r.talk ≡ grow k p.talk q → HeardAt false ms r None → r.trial ≡ p.trial → Stopped c ms r (Returns t)
      stops t calm none k plain q rest come r is v same = returns false r t calm (same ∙ off none) (λ x. absurd (cc)) v

      after : (part : Part) (parts : List Part) → is_tried c trying (part ∷ parts) ≡ true → (k : Kind) → is_failed k ≡ false → (q rest : List ℕ) → Comes p k q
          → IsFine c ms (after_kind part parts k (with_talk p (grow k p.talk q) rest) (ToldRow (row_of (context_of p.talk).rows (facts_at login p).columns q)))
      after Head parts e (kinds.Good s) calm q rest come = goes false parts (with_end (with_talk p (grow (kinds.Good s) p.talk q) rest)) e off (λ x. absurd (cc)) (calm_here (kinds.Good s) calm q rest come) unrefused
      after Item parts e (kinds.Good s) calm q rest come = stops ToldEnd (λ es. refl) (not_true trying (both (not trying) _ e).0) (kinds.Good s) calm q rest come (with_talk p (grow (kinds.Good s) p.talk q) rest) refl (calm_here (kinds.Good s) calm q rest come) refl
      after Item parts e kinds.Row calm q rest come = stops (ToldRow (row_of (context_of p.talk).rows (facts_at login p).columns q)) (λ es. refl) (not_true trying (both (not trying) _ e).0) kinds.Row calm q rest come (with_talk p (grow kinds.Row p.talk q) rest) refl (calm_here kinds.Row calm q rest come) refl
      after Item parts e (kinds.End s) calm q rest come = stops ToldEnd (λ es. refl) (not_true trying (both (not trying) _ e).0) (kinds.End s) calm q rest come (with_talk p (grow (kinds.End s) p.talk q) rest) refl (calm_here (kinds.End s) calm q rest come) refl
      after Set parts e (kinds.Good s) calm q rest come = stops ToldReady (λ es. refl) (not_true trying (both (not trying) _ e).0) (kinds.Good s) calm q rest come (with_taken (with_end (with_talk p (grow (kinds.Good s) p.talk q) rest))) refl (calm_here (kinds.Good s) calm q rest come) refl
      after part parts e k calm q rest come = again part parts e k calm q rest come

      -- an ERR
      refused : (x : Trial) → x ≡ p.trial → (q rest : List ℕ) → Comes p kinds.Failed q → (e : ErrPacket) → err_at (is_greeting (context_of p.talk).spot) q ≡ Some e → IsFine c ms (refused_at x (with_talk p (grow kinds.Failed p.talk q) rest) (server_error e))
      refused Off i q rest come e is = record {
        hushed = false;
        unheard = None;
        heard = grown_error hushed ms (returned_so c (ToldError (Server (server_error e))) ms) p None q rest e come is over refl w;
        clear = λ x. refl;
        over = λ x y. absurd (cc);
        off = λ x. sym i;
        spent = λ x y. absurd (cc);
      }
      refused On i q rest come e is = trying_on trying refl
        where
          trying_on : (b : Bool) → trying ≡ b → IsFine c ms (refused_at On (with_talk p (grow kinds.Failed p.talk q) rest) (server_error e))
          trying_on true t = (
            ms,
            NoErrors,
            Undoing (server_error e) (with_trial (Refused (server_error e)) (with_status RequiresRollback (with_talk p (grow kinds.Failed p.talk q) rest))) (tries t) refl (failed_over p.talk q)
                (errors_in p.talk, failed_blames p.talk q come.kind_is ∙ ap (λ x. error_onto x (errors_in p.talk)) is)
                (grown_error hushed ms ms p (Some (server_error e)) q rest e come is over refl w),
          )
          trying_on false t = absurd (let no : p.trial ≡ Off = off t in cc)
      refused (Refused first) i q rest come e is = absurd (unrefused first (sym i))

      dropping : (part : Part) (parts : List Part) → is_tried c trying (part ∷ parts) ≡ true → (q rest : List ℕ) → Comes p kinds.Failed q → (e : ErrPacket) → err_at (is_greeting (context_of p.talk).spot) q ≡ Some e
          → IsFine c ms (cond (is_drain part) (Goes (Drain ∷ parts) (with_talk p (grow kinds.Failed p.talk q) rest)) (refused_at p.trial (with_talk p (grow kinds.Failed p.talk q) rest) (server_error e)))
      dropping Drain parts e q rest come x is =
          let made = returned_so c (ToldPassed (server_error x)) ms in (
            made,
            MoreErrors ms (server_error x) (both (passes_errors c) _ e).0 NoErrors,
            Hearing trying false (Drain ∷ parts) (with_talk p (grow kinds.Failed p.talk q) rest) e tries off (λ y. absurd (cc)) (grown_error hushed ms made p None q rest x come is over refl w) unrefused,
          )
      dropping part parts e q rest come x is = refused p.trial refl q rest come x is

      reading : (part : Part) (parts : List Part) → is_tried c trying (part ∷ parts) ≡ true → IsFine c ms (reads login part parts p)
      reading part parts e = errors_have (IsFine c ms) p (faulted hushed None p w (λ x y. absurd (cc))) login part parts (halted trying hushed p tries off over w) (again part parts e) (after part parts e) (dropping part parts e)

      -- an exchange begins
      command : (call : Call) (parts : List Part) (x : Option Talk) → ((t : Talk) → x ≡ Some t → IsNew t) → is_tried c trying parts ≡ true → IsFine c ms (with_command call parts p x)
      command call parts None fresh e = on parts e
      command call parts (Some t) fresh e = by_long (first_above (limit_of t) (commands_in t))
        where
          by_long : (o : Option ℕ) → IsFine c ms (unless_long p (limit_of t) o (Goes parts (with_exchange p call t)))
          by_long None = goes false parts (with_exchange p call t) e off (λ x. absurd (cc)) (begun_heard hushed ms p None call t (fresh t refl) w) unrefused
          by_long (Some n) = faulted hushed None p w (λ x y. absurd (cc)) (codec_error (TooLarge n (limit_of t))) refl

      one : (call : Call) (parts : List Part) (t : Talk) → IsNew t → is_tried c trying parts ≡ true → IsFine c ms (with_command call parts p (Some t))
      one call parts t n e = command call parts (Some t) (λ u i. some_new t u n i) e

      -- from a place with other statements
      keeping : (st : Statements) (call : Call) (parts : List Part) (x : Option Talk) → ((t : Talk) → x ≡ Some t → IsNew t) → is_tried c trying parts ≡ true → IsFine c ms (with_command call parts (with_statements st p) x)
      keeping st call parts None fresh e = goes hushed parts (with_statements st p) e off over w unrefused
      keeping st call parts (Some t) fresh e = by_long (first_above (limit_of t) (commands_in t))
        where
          by_long : (o : Option ℕ) → IsFine c ms (unless_long (with_statements st p) (limit_of t) o (Goes parts (with_exchange (with_statements st p) call t)))
          by_long None = goes false parts (with_exchange (with_statements st p) call t) e off (λ x. absurd (cc)) (begun_heard hushed ms p None call t (fresh t refl) w) unrefused
          by_long (Some n) = faulted hushed None (with_statements st p) w (λ x y. absurd (cc)) (codec_error (TooLarge n (limit_of t))) refl

      -- a refusal of the driver's own, where the call may return
      driver : (e : DriverError) → trying ≡ false → IsFine c ms (failure p (Driver e))
      driver e none = returns hushed p (ToldError (Driver e)) (λ es. refl) (off none) over w

      untried : (b : Bool) → (not trying && b) ≡ true → trying ≡ false
      untried b e = not_true trying (both (not trying) b e).0

      checks : (parts : List Part) (v : Values) → (not trying && is_tried c trying parts) ≡ true → IsFine c ms (checked parts p v)
      checks parts (Fitting values) e = on parts (both (not trying) _ e).1
      checks parts (Unfitting x) e = driver x (untried _ e)

      finds : (parts : List Part) (text : List ℕ) (h : Option Held) → (not trying && is_tried c trying parts) ≡ true → IsFine c ms (found parts p text h)
      finds parts text None e = on parts (both (not trying) _ e).1
      finds parts text (Some h) e =
          returns hushed (with_statements (with_fetched (query_of text) p.statements) p) (ToldStatement (statement_with h.stmt (names_of text))) (λ es. refl) (off (untried _ e)) over w

      offers : (parts : List Part) (b : Bool) → (not trying && is_tried c trying parts) ≡ true → IsFine c ms (offered parts p b)
      offers parts true e = on parts (both (not trying) _ e).1
      offers parts false e = tells (ToldFlag false) (λ es. refl) (untried _ e)

      refuses : (parts : List Part) (x : Option DriverError) → (not trying && is_tried c trying parts) ≡ true → IsFine c ms (unless_refused parts p x)
      refuses parts None e = on parts (both (not trying) _ e).1
      refuses parts (Some x) e = driver x (untried _ e)

      undoes : (parts : List Part) (b : Bool) → is_tried c trying parts ≡ true → IsFine c ms (undone login c parts p b)
      undoes parts true e = one c parts (queried (terms_of login (exchanges p)) rollback_text) (queried_new (terms_of login (exchanges p)) rollback_text) e
      undoes parts false e = on parts e

      learns : (parts : List Part) (b : Bool) (st : Statements) → is_tried c trying parts ≡ true → IsFine c ms (Goes parts (cond b (with_statements st p) p))
      learns parts true st e = goes hushed parts (with_statements st p) e off over w unrefused
      learns parts false st e = on parts e

      -- a part that reads unless its exchange is over, and an end that is left first
      rest_of_all : (part : Part) (parts : List Part) → is_tried c trying (part ∷ parts) ≡ true → is_tried c trying parts ≡ true
          → IsFine c ms (cond p.end_left (Goes (part ∷ parts) (without_end p)) (cond (is_over p.talk) (Goes parts p) (reads login part parts p)))
      rest_of_all part parts e more = either (IsFine c ms) p.end_left _ _ (λ _. goes hushed (part ∷ parts) (without_end p) e off over w unrefused)
          (λ _. either (IsFine c ms) (is_over p.talk) _ _ (λ _. on parts more) (λ _. reading part parts e))

      heard_part : (parts : List Part) → is_tried c trying parts ≡ true → IsFine c ms (step_of login c parts p)
      heard_part [] e = tells ToldReady (λ es. refl) (not_true trying e)
      heard_part (All ∷ parts) e = rest_of_all All parts e e
      heard_part (Drain ∷ parts) e = rest_of_all Drain parts e (both (passes_errors c) _ e).1
      heard_part (Head ∷ parts) e = either (IsFine c ms) (is_rows (context_of p.talk).spot) _ _ (λ _. on parts e) (λ _. reading Head parts e)
      heard_part (Item ∷ parts) e = either (IsFine c ms) p.end_left _ _ (λ _. returns hushed (without_end p) ToldEnd (λ es. refl) (off (untried _ e)) over w)
          (λ _. either (IsFine c ms) (is_over p.talk) _ _ (λ _. tells ToldNone (λ es. refl) (untried _ e)) (λ _. reading Item parts e))
      heard_part (Set ∷ parts) e = either (IsFine c ms) (p.end_left || is_rows (context_of p.talk).spot) _ _ (λ _. returns hushed (with_taken p) ToldReady (λ es. refl) (off (untried _ e)) over w)
          (λ _. either (IsFine c ms) (is_over p.talk) _ _ (λ _. tells ToldNone (λ es. refl) (untried _ e)) (λ _. reading Set parts e))
      heard_part (Rest ∷ parts) e = either (IsFine c ms) p.end_left _ _ (λ _. goes hushed (Rest ∷ parts) (without_end p) e off over w unrefused)
          (λ _. either (IsFine c ms) (is_rows (context_of p.talk).spot) _ _ (λ _. reading Rest parts e) (λ _. on parts e))
      heard_part (Command ∷ parts) e = command c parts (next_exchange login c p) (opened_new login (terms_of login (exchanges p)) p.statements c (connects_in (exchanges p))) e
      heard_part (Find ∷ parts) e = either (IsFine c ms) (is_mixed_text (text_in c)) _ _ (λ _. returns hushed p (ToldError mixed_params) (λ es. refl) (off (untried _ e)) over w)
          (λ _. finds parts (text_in c) (held_in p.statements (query_of (text_in c))) e)
      heard_part (Check params ∷ parts) e = checks parts (values_for (statement_in c) params) e
      heard_part (Run params ∷ parts) e = command c parts (executed login c p params) (executed_new (terms_of login (exchanges p)) p.statements (id_in c) (values_for (statement_in c) params)) e
      heard_part (Reply ∷ parts) e = either (IsFine c ms) (is_over p.talk) _ _ (λ _. on parts e) (λ _. reading Reply parts e)
      heard_part (Keep ∷ parts) e =
          let f = facts_at login p in
          let x : Option ℕ = leaving (query_of (text_in c)) (prepared_by f) p.statements in
          keeping (with_prepared (query_of (text_in c)) (prepared_by f) f.reply.fields p.statements) (Prepare (text_in c)) parts (closing_of (terms_of login (exchanges p)) x) (closing_new (terms_of login (exchanges p)) x) e
      heard_part (Give ∷ parts) e = tells (ToldStatement (statement_with (prepared_by (facts_at login p)) (names_of (text_in c)))) (λ es. refl) (untried _ e)
      heard_part (Learn ∷ parts) e = learns parts (is_rows (context_of p.talk).spot) (with_columns (id_in c) (facts_at login p).columns p.statements) e
      heard_part (Forget ∷ parts) e = goes hushed parts (with_statements (without_statement (id_in c) p.statements) p) e off over w unrefused
      heard_part (Offered ∷ parts) e = offers parts (can_reset (version_of (facts_at login p).version)) e
      heard_part (Clear ∷ parts) e = goes hushed parts (with_statements (cleared p.statements) p) e off over w unrefused
      heard_part (Text text ∷ parts) e = one c parts (queried (terms_of login (exchanges p)) text) (queried_new (terms_of login (exchanges p)) text) e
      heard_part (Flag flag ∷ parts) e = tells (ToldFlag flag) (λ es. refl) (untried _ e)
      heard_part (Adopt change ∷ parts) e = goes hushed parts (with_account (changed change p.account) p) e off over w unrefused
      heard_part (Renew ∷ parts) e = one c parts (renewing login c p (facts_at login p)) (renewing_new login c p) e
      heard_part (Undo ∷ parts) e = undoes parts (is_given_up p.status) e
      heard_part (Undone ∷ parts) e = goes hushed parts (with_status (rolled_back p.status) p) e off over w unrefused
      heard_part (Refuse opts ∷ parts) e = refuses parts (begin_refusal opts (version_of (facts_at login p).version) p.status) e
      heard_part (Settle status ∷ parts) e =
          (ms, NoErrors, Hearing false hushed parts (with_trial Off (with_status status p)) e (λ x. absurd (cc)) (λ x. refl) over w (λ first x. absurd (cc)))
      heard_part (GiveUp ∷ parts) e = goes hushed parts (with_status (given_up p.status) p) e off over w unrefused
      heard_part (Try ∷ parts) e =
          let x = both (is_commits c) _ e in
          (ms, NoErrors, Hearing true hushed parts (with_trial On p) x.1 (λ y. commits c x.0) (λ y. absurd (cc)) over w (λ first y. absurd (cc)))
      heard_part (Back ∷ parts) e = absurd (cc)

  -- a commit that was refused
  late : (hushed : Bool) (first : ServerError) (p : Place) → c ≡ Commit → (hushed ≡ false → is_over p.talk ≡ true) → HeardAt hushed ms p (Some first) → IsHalted c ms p
  late hushed first p is over w = record {
    hushed = hushed;
    unheard = Some first;
    heard = w;
    clear = λ x. absurd (commit_closes c is x);
    over = λ x. absurd (commit_closes c is x);
    off = λ x. absurd (commit_closes c is x);
    spent = λ x y. over x;
  }

  rolled : (first : ServerError) (p : Place) (terms : Terms) → c ≡ Commit → EndedBy first (exchanges p) → HeardAt false ms p (Some first) → HeardAt true ms (with_exchange p c (queried terms rollback_text)) (Some first)
  rolled first p terms is after w = record {
    olds = false ∷ w.olds;
    are = (λ h. (terms, record { commits = is; rolls_back = refl; first = first; after = after }), w.are);
    errors = w.errors;
    fits = record { kinds = tt; within = tt };
  }

  undo_long : (first : ServerError) (p : Place) (t : Talk) → c ≡ Commit → p.trial ≡ Refused first → is_over p.talk ≡ true → HeardAt false ms p (Some first) → HeardAt true ms (with_exchange p c t) (Some first) → (o : Option ℕ)
      → IsFine c ms (unless_long p (limit_of t) o (Goes (Back ∷ []) (with_exchange p c t)))
  undo_long first p t is i over w v None = (ms, NoErrors, Backing first true (with_exchange p c t) is i (λ x. absurd (cc)) v)
  undo_long first p t is i over w v (Some n) = faulted false (Some first) p w (λ x y. over) (codec_error (TooLarge n (limit_of t))) refl

  undoing_part : (first : ServerError) (p : Place) (b : Bool) → c ≡ Commit → p.trial ≡ Refused first → is_over p.talk ≡ true → EndedBy first (exchanges p) → HeardAt false ms p (Some first) → IsFine c ms (undone login c (Back ∷ []) p b)
  undoing_part first p true is i over after w =
      let t : Talk = queried (terms_of login (exchanges p)) rollback_text in
      undo_long first p t is i over w (rolled first p (terms_of login (exchanges p)) is after w) (first_above (limit_of t) (commands_in t))
  undoing_part first p false is i over after w = (ms, NoErrors, Backing first false p is i (λ x. over) w)

  -- the first ERR is returned
  first_told : (hushed : Bool) (first : ServerError) (p : Place) (x : Trial) → x ≡ Refused first → is_over p.talk ≡ true → HeardAt hushed ms p (Some first) → IsFine c ms (returned p x)
  first_told hushed first p x i over w =
      let q : Place = with_trial Off (with_status (rolled_back p.status) p) in
      subst (λ (y : Trial). IsFine c ms (returned p y)) (sym i) (record {
        hushed = hushed;
        unheard = None;
        heard = record { olds = w.olds; are = w.are; errors = w.errors; fits = w.fits };
        clear = λ y. refl;
        over = λ y z. over;
        off = λ y. refl;
        spent = λ y z. absurd (cc);
      })

  module _ (first : ServerError) (p : Place) (is : c ≡ Commit) (i : p.trial ≡ Refused first) (w : HeardAt true ms p (Some first)) where
    back_again : (k : Kind) → is_failed k ≡ false → (q rest : List ℕ) → Comes p k q → IsFine c ms (Goes (Back ∷ []) (with_talk p (grow k p.talk q) rest))
    back_again k calm q rest come = (ms, NoErrors, Backing first true (with_talk p (grow k p.talk q) rest) is i (λ x. absurd (cc)) (hushed_grown ms ms p (Some first) (Some first) k q rest come refl w))

    back_error : (q rest : List ℕ) → Comes p kinds.Failed q → (e : ErrPacket) → err_at (is_greeting (context_of p.talk).spot) q ≡ Some e → IsFine c ms (refused_at p.trial (with_talk p (grow kinds.Failed p.talk q) rest) (server_error e))
    back_error q rest come e err =
        let made = returned_so c (ToldError (Server first)) ms in
        subst (λ (y : Trial). IsFine c ms (refused_at y (with_talk p (grow kinds.Failed p.talk q) rest) (server_error e))) (sym i) (record {
          hushed = true;
          unheard = None;
          heard = hushed_grown ms made p (Some first) None kinds.Failed q rest come refl w;
          clear = λ y. refl;
          over = λ y z. failed_over p.talk q;
          off = λ y. refl;
          spent = λ y z. absurd (cc);
        })

    back_reads : IsFine c ms (reads login Back [] p)
    back_reads = errors_have (IsFine c ms) p (faulted true (Some first) p w (λ x y. absurd (cc))) login Back [] (late true first p is (λ x. absurd (cc)) w) back_again back_again back_error

  back_part : (hushed : Bool) (first : ServerError) (p : Place) → c ≡ Commit → p.trial ≡ Refused first → (hushed ≡ false → is_over p.talk ≡ true) → HeardAt hushed ms p (Some first) → IsFine c ms (step_of login c (Back ∷ []) p)
  back_part true first p is i over w = either (IsFine c ms) (is_over p.talk) _ _ (λ done. first_told true first p p.trial i done w) (λ _. back_reads first p is i w)
  back_part false first p is i over w = either (IsFine c ms) (is_over p.talk) _ _ (λ done. first_told false first p p.trial i done w) (λ open_now. absurd (let done = over refl in cc))

  part_fine : (parts : List Part) (p : Place) → Phase c ms parts p → IsFine c ms (step_of login c parts p)
  part_fine parts p (Hearing trying hushed ps q e tries off over w unrefused) = heard_part trying tries hushed q off over w unrefused ps e
  part_fine parts p (Undoing first q is i over after w) = undoing_part first q (is_given_up q.status) is i over after w
  part_fine parts p (Backing first hushed q is i over w) = back_part hushed first q is i over w

  pub phase_halted : (parts : List Part) (p : Place) → Phase c ms parts p → IsHalted c ms p
  phase_halted parts p (Hearing trying hushed ps q e tries off over w unrefused) = halted trying hushed q tries off over w
  phase_halted parts p (Undoing first q is i over after w) = late false first q is (λ x. over) w
  phase_halted parts p (Backing first hushed q is i over w) = late hushed first q is over w

  pub step_fine : (parts : List Part) (p : Place) → Phase c ms parts p → IsFine c ms (step login c parts p)
  unfolding step
  step_fine parts p w = by_owed (owed p)
    where
      by_owed : (x : List ℕ) → IsFine c ms (unless_owed x p (step_of login c parts p))
      by_owed (b ∷ bytes) = phase_halted parts p w
      by_owed [] = part_fine parts p w
