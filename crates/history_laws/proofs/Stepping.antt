-- Each step of a call gives callers what is in the sets, by the parts that are left.
use Rattle.std.proofs.Common.{◌≡◌, inl, ℕ, List, [], ◌∷◌, Bool, true, false, cond, not, ◌&&◌, ◌||◌, Option, Some, None, refl, sym, ap, ◌∙◌, subst}
use Rattle.my_command.specs.declared.client.ClientPacket.TheVariants as packets
use Rattle.my_command.specs.Client.Packet.{client_bytes as packet_bytes}
use Rattle.my_grammar.proofs.Growth.{grows}
use Rattle.my_grammar.specs.declared.login.Login.{Login}
use Rattle.my_grammar.specs.declared.spot.Kind.{Kind}
use Rattle.my_grammar.specs.declared.spot.Kind.TheVariants as kinds
use Rattle.my_grammar.specs.declared.spot.Terms.{Terms}
use Rattle.my_grammar.specs.Cut.{is_over}
use Rattle.my_grammar.specs.Growth.{grow}
use Rattle.my_grammar.specs.Sets.{Asking, ByStatement, ByText, NoSets}
use Rattle.my_grammar.specs.Prepares.{Unanswered}
use Rattle.my_grammar.specs.Talk.{Talk, Preparing, Queried, Silent, Fits, context_of}
use Rattle.my_handshake.specs.Version.{version_of}
use Rattle.my_reading.specs.declared.call.Call.{Call}
use Rattle.my_reading.specs.declared.call.Call.TheVariants.{Query, Prepare, Execute, CloseStmt, Quit}
use Rattle.my_reading.specs.declared.error.DriverError.{DriverError}
use Rattle.my_reading.specs.declared.error.Error.{Error}
use Rattle.my_reading.specs.declared.error.Error.TheVariants.{Driver, Server}
use Rattle.my_reading.specs.declared.error.ServerError.{ServerError}
use Rattle.my_reading.specs.declared.transaction.Trial.{Trial}
use Rattle.my_reading.specs.declared.transaction.Trial.TheVariants.{Off, On, Refused}
use Rattle.my_reading.specs.declared.transaction.TxStatus.TheVariants.{RequiresRollback}
use Rattle.my_reply.specs.declared.err.ErrPacket.{ErrPacket}
use Rattle.my_params.specs.LongData.{ahead_of}
use Rattle.my_params.specs.Parameters.{body_of}
use Rattle.my_reading.specs.Accounts.{changed}
use Rattle.my_reading.specs.Calls.{id_in, kind_of, statement_in, text_in}
use Rattle.my_reading.specs.Commands.{closing, execution, queried}
use Rattle.my_reading.specs.Course.{Part, All, Head, Command, Find, Check, Run, Reply, Keep, Give, Learn, Forget, Offered, Clear, Text, Flag, Adopt, Renew, Drain, Undo, Undone, Refuse, Settle, GiveUp, Try, Back, Goes, Returns, after_kind, checked, closing_of, executed, failure, found, is_rows, kept, looked_for, offered, refused_at, renewing, returned, step_of, undone, unless_refused, with_command}
use Rattle.my_reading.specs.Errors.{mixed_params, server_error}
use Rattle.my_reading.specs.Facts.{prepared_by}
use Rattle.my_reading.specs.Executions.{Values, Fitting, Unfitting, values_for}
use Rattle.my_reading.specs.Place.{Place, connects_in, exchanges, facts_at, next_exchange, terms_of, with_account, with_end, with_exchange, with_statements, with_status, with_talk, with_trial, without_end}
use Rattle.my_reading.specs.Statements.{Statements, cleared, held_in, is_mixed_text, known_in, leaving, names_of, query_of, statement_with, with_columns, with_fetched, with_prepared, without_statement}
use Rattle.my_statements.specs.Cache.{Held}
use Rattle.my_reading.specs.Told.{Told, ToldReady, ToldStatement, ToldFlag, ToldError, closes}
use Rattle.my_reading.specs.Transactions.{begin_refusal, given_up, is_given_up, rollback_text, rolled_back}
use Rattle.my_reading.specs.Versions.{can_reset}
use Rattle.history_laws.specs.Given.{NonePassed}
use Rattle.history_laws.specs.Groups.{Group, Made, given, given_after}
use Rattle.history_laws.proofs.Calls.{ready_same}
use Rattle.history_laws.proofs.Opening.{executed_fits, opened_fits, renewing_new}
use Rattle.history_laws.proofs.Growing.{failed_over, given_on}
use Rattle.history_laws.proofs.Having.{Comes, begun_has, command_has, drains_have, either, reads_have, row_at, IsFault, fault_closes}
use Rattle.history_laws.proofs.Phases.{Gave, GaveAt, IsFine, IsHalted, KeptAt, Stopped, Safely, Heading, Replying, Backing, is_back, is_fitting, is_head, is_query, is_reply, is_safe, may_return, reads_sets, returned_so, settled, shifted}

pub both : (a b : Bool) → (a && b) ≡ true → (a ≡ true) × (b ≡ true)
both true b e = (refl, e)
both false b e = cc

-- more is read of the newest exchange
pub grown_gave : (trying : Bool) (ms : List Made) (p : Place) (o : Option (List Group)) (k : Kind) (q : List ℕ) → Comes p k q → GaveAt trying ms p o → Gave trying ms (grow k p.talk q) p.older p.trial o
grown_gave trying ms p o k q c w = record {
  olds = w.olds;
  given_is = w.given_is;
  newest = given_on o p.talk k q w.newest;
  each = w.each;
  fits = (grows p.talk k q c.kind_is c.good c.short w.fits).fits;
  off = w.off;
}

-- an exchange more
begun_gave : (trying : Bool) (ms : List Made) (p : Place) (o : Option (List Group)) (t : Talk) → Fits t → GaveAt trying ms p o → Gave trying ms t (exchanges p) p.trial None
begun_gave trying ms p o t f w = record { olds = o ∷ w.olds; given_is = w.given_is; newest = tt; each = (w.newest, w.each); fits = f; off = w.off }

module _ (c : Call) (ms : List Made) where
  -- what is told gives nothing more
  pub told_gave : (trying : Bool) (t : Told) (p : Place) (o : Option (List Group)) → given_after t (kind_of c) (given ms) ≡ given ms → GaveAt trying ms p o → GaveAt trying (returned_so c t ms) p o
  told_gave trying t p o e w = record { olds = w.olds; given_is = e ∙ w.given_is; newest = w.newest; each = w.each; fits = w.fits; off = w.off }

  pub faults_fine : (trying : Bool) (p : Place) (o : Option (List Group)) → GaveAt trying ms p o → (e : Error) → IsFault e → IsFine c ms (failure p e)
  faults_fine trying p o w e is =
      let shut : closes (ToldError e) (kind_of c) ≡ true = fault_closes (kind_of c) e is in
      record {
        share = o;
        gave = shifted trying (closes (ToldError e) (kind_of c)) (returned_so c (ToldError e) ms) p.talk p.older p.trial o (λ x. absurd (cc)) (told_gave trying (ToldError e) p o refl w);
        kept = λ x. absurd (cc);
      }

  -- an error that leaves a session open, if it does, as it was
  pub error_fine : (p : Place) (o : Option (List Group)) → GaveAt false ms p o → KeptAt p o → (e : Error) → IsFine c ms (failure p e)
  error_fine p o w k e = record {
    share = o;
    gave = shifted false (closes (ToldError e) (kind_of c)) (returned_so c (ToldError e) ms) p.talk p.older p.trial o (λ x. refl) (told_gave false (ToldError e) p o refl w);
    kept = λ x. k;
  }

  pub refused_fine : (x : Trial) (new : Place) (o : Option (List Group)) (e : ServerError) → x ≡ Off → GaveAt false ms new o → is_over new.talk ≡ true → new.end_left ≡ false → IsFine c ms (refused_at x new e)
  refused_fine x new o e off w over none = subst (λ (y : Trial). IsFine c ms (refused_at y new e)) (sym off) (error_fine new o w (inl (over, none)) (Server e))

  -- an ERR while a transaction is being committed, or none is
  pub tried_fine : reads_sets c ≡ false → (trying : Bool) (x : Trial) (new : Place) (o : Option (List Group)) (e : ServerError) → x ≡ new.trial → GaveAt trying ms new o → is_over new.talk ≡ true → new.end_left ≡ false → IsFine c ms (refused_at x new e)
  tried_fine plain trying Off new o e is w over none = error_fine new o (settled trying false ms new.talk new.older new.trial o (sym is) w) (inl (over, none)) (Server e)
  tried_fine plain trying On new o e is w over none = (
    ms,
    NonePassed,
    Backing (Undo ∷ Back ∷ []) e (with_trial (Refused e) (with_status RequiresRollback new)) o plain refl none refl
        (record { olds = w.olds; given_is = w.given_is; newest = w.newest; each = w.each; fits = w.fits; off = λ x. absurd (cc) }),
  )
  tried_fine plain trying (Refused first) new o e is w over none =
      error_fine (with_trial Off new) o (record { olds = w.olds; given_is = w.given_is; newest = w.newest; each = w.each; fits = w.fits; off = λ x. refl }) (inl (over, none)) (Server first)

pub not_true : (b : Bool) → not b ≡ true → b ≡ false
not_true true e = cc
not_true false e = refl

-- what may return rests, and nothing is being committed
rests : (kept trying : Bool) → may_return kept trying ≡ true → (kept ≡ true) × (trying ≡ false)
rests kept trying e = let x = both kept (not trying) e in (x.0, not_true trying x.1)

module _ (login : Login) (c : Call) (ms : List Made) (plain : reads_sets c ≡ false) where
  at : (kept trying : Bool) (parts : List Part) (p : Place) (o : Option (List Group)) → is_safe c kept trying parts ≡ true → GaveAt trying ms p o → (kept ≡ true → KeptAt p o) → IsFine c ms (Goes parts p)
  at kept trying parts p o e w k = (ms, NonePassed, Safely kept trying parts p o plain e w k)

  loose : (trying : Bool) (parts : List Part) (p : Place) (o : Option (List Group)) → is_safe c false trying parts ≡ true → GaveAt trying ms p o → IsFine c ms (Goes parts p)
  loose trying parts p o e w = at false trying parts p o e w (λ x. absurd (cc))

  halted : (trying : Bool) (p : Place) (o : Option (List Group)) → GaveAt trying ms p o → IsHalted c ms p
  halted trying p o w =
      let closed : not (reads_sets c) ≡ true = ap not plain in
      record { share = o; gave = shifted trying (not (reads_sets c)) ms p.talk p.older p.trial o (λ x. absurd (cc)) w; kept = λ x. absurd (cc) }

  of_trying : (trying : Bool) (p : Place) (o : Option (List Group)) → trying ≡ false → GaveAt trying ms p o → GaveAt false ms p o
  of_trying trying p o none w = shifted trying false ms p.talk p.older p.trial o (λ x. none) w

  told_fine : (t : Told) (p : Place) (o : Option (List Group)) → given_after t (kind_of c) (given ms) ≡ given ms → GaveAt false ms p o → KeptAt p o → Stopped c ms p (Returns t)
  told_fine t p o e w k = record {
    share = o;
    gave = shifted false (closes t (kind_of c)) (returned_so c t ms) p.talk p.older p.trial o (λ x. refl) (told_gave c ms false t p o e w);
    kept = λ x. k;
  }

  ready_fine : (kept trying : Bool) (p : Place) (o : Option (List Group)) → is_safe c kept trying [] ≡ true → GaveAt trying ms p o → (kept ≡ true → KeptAt p o) → Stopped c ms p (Returns ToldReady)
  ready_fine kept trying p o e w k =
      let x = both (may_return kept trying) (not (is_query c)) e in
      let r = rests kept trying x.0 in
      told_fine ToldReady p o (ready_same c (not_true (is_query c) x.1) (given ms)) (of_trying trying p o r.1 w) (k r.0)

  -- the rest of an exchange is read
  stays_fine : (trying : Bool) (part : Part) (parts : List Part) (p : Place) (o : Option (List Group)) → is_safe c false trying (part ∷ parts) ≡ true → GaveAt trying ms p o
      → (k : Kind) (q rest : List ℕ) → Comes p k q → IsFine c ms (Goes (part ∷ parts) (with_talk p (grow k p.talk q) rest))
  stays_fine trying part parts p o e w k q rest come = loose trying (part ∷ parts) (with_talk p (grow k p.talk q) rest) o e (grown_gave trying ms p o k q come w)

  errs_fine : (trying : Bool) (p : Place) (o : Option (List Group)) → GaveAt trying ms p o → (q rest : List ℕ) → Comes p kinds.Failed q → (e : ErrPacket) → IsFine c ms (refused_at p.trial (with_talk p (grow kinds.Failed p.talk q) rest) (server_error e))
  errs_fine trying p o w q rest come e =
      tried_fine c ms plain trying p.trial (with_talk p (grow kinds.Failed p.talk q) rest) o (server_error e) refl (grown_gave trying ms p o kinds.Failed q come w) (failed_over p.talk q) refl

  all_fine : (trying : Bool) (parts : List Part) (p : Place) (o : Option (List Group)) → is_safe c true trying parts ≡ true → GaveAt trying ms p o → IsFine c ms (step_of login c (All ∷ parts) p)
  all_fine trying parts p o e w = either (IsFine c ms) p.end_left _ _ (λ _. loose trying (All ∷ parts) (without_end p) o e w)
      (λ none. either (IsFine c ms) (is_over p.talk) _ _ (λ over. at true trying parts p o e w (λ _. inl (over, none)))
      (λ _. reads_have (IsFine c ms) p (faults_fine c ms trying p o w) login All parts refl (halted trying p o w) (λ k _. stays_fine trying All parts p o e w k) (stays_fine trying All parts p o e w) (errs_fine trying p o w)))

  drain_fine : (trying : Bool) (parts : List Part) (p : Place) (o : Option (List Group)) → is_safe c true trying parts ≡ true → GaveAt trying ms p o → IsFine c ms (step_of login c (Drain ∷ parts) p)
  drain_fine trying parts p o e w = either (IsFine c ms) p.end_left _ _ (λ _. loose trying (Drain ∷ parts) (without_end p) o e w)
      (λ none. either (IsFine c ms) (is_over p.talk) _ _ (λ over. at true trying parts p o e w (λ _. inl (over, none)))
      (λ _. drains_have (IsFine c ms) p (faults_fine c ms trying p o w) login parts (halted trying p o w) (stays_fine trying Drain parts p o e w)))

  head_stays : (trying : Bool) (parts : List Part) (p : Place) (o : Option (List Group)) → is_safe c false trying parts ≡ true → GaveAt trying ms p o
      → (k : Kind) (q rest : List ℕ) → Comes p k q → IsFine c ms (after_kind Head parts k (with_talk p (grow k p.talk q) rest) (row_at login p q))
  head_stays trying parts p o e w (kinds.Good s) q rest come = loose trying parts (with_end (with_talk p (grow (kinds.Good s) p.talk q) rest)) o e (grown_gave trying ms p o (kinds.Good s) q come w)
  head_stays trying parts p o e w k q rest come = stays_fine trying Head parts p o e w k q rest come

  head_fine : (trying : Bool) (parts : List Part) (p : Place) (o : Option (List Group)) → is_safe c false trying parts ≡ true → GaveAt trying ms p o → IsFine c ms (step_of login c (Head ∷ parts) p)
  head_fine trying parts p o e w = either (IsFine c ms) (is_rows (context_of p.talk).spot) _ _ (λ _. loose trying parts p o e w)
      (λ _. reads_have (IsFine c ms) p (faults_fine c ms trying p o w) login Head parts refl (halted trying p o w) (λ k _. stays_fine trying Head parts p o e w k) (head_stays trying parts p o e w) (errs_fine trying p o w))

  -- a command is sent
  begins_fine : (trying : Bool) (call : Call) (parts : List Part) (p : Place) (o : Option (List Group)) (t : Talk) → Fits t → is_safe c false trying parts ≡ true → GaveAt trying ms p o → IsFine c ms (Goes parts (with_exchange p call t))
  begins_fine trying call parts p o t f e w = loose trying parts (with_exchange p call t) None e (begun_gave trying ms p o t f w)

  some_fine : (trying : Bool) (parts : List Part) (p : Place) (o : Option (List Group)) (x : Option Talk) → ((t : Talk) → x ≡ Some t → Fits t) → is_safe c false trying parts ≡ true → GaveAt trying ms p o
      → IsFine c ms (with_command c parts p x)
  some_fine trying parts p o x f e w = command_has (IsFine c ms) p (faults_fine c ms trying p o w) c parts x (loose trying parts p o e w) (λ t i. begins_fine trying c parts p o t (f t i) e w)

  asked_fine : (trying : Bool) (parts : List Part) (p : Place) (o : Option (List Group)) (t : Talk) → Fits t → is_safe c false trying parts ≡ true → GaveAt trying ms p o → IsFine c ms (with_command c parts p (Some t))
  asked_fine trying parts p o t f e w = begun_has (IsFine c ms) p (faults_fine c ms trying p o w) c parts t (begins_fine trying c parts p o t f e w)

  -- one that no server answers
  silent_fine : (trying : Bool) (call : Call) (parts : List Part) (p : Place) (o : Option (List Group)) (t : Talk) → Fits t → is_over t ≡ true → is_safe c true trying parts ≡ true → GaveAt trying ms p o → IsFine c ms (with_command call parts p (Some t))
  silent_fine trying call parts p o t f over e w = begun_has (IsFine c ms) p (faults_fine c ms trying p o w) call parts t
      (at true trying parts (with_exchange p call t) None e (begun_gave trying ms p o t f w) (λ _. inl (over, refl)))

  undone_fine : (trying : Bool) (parts : List Part) (p : Place) (o : Option (List Group)) (b : Bool) → is_safe c false trying parts ≡ true → GaveAt trying ms p o → IsFine c ms (undone login c parts p b)
  undone_fine trying parts p o true e w = asked_fine trying parts p o (queried (terms_of login (exchanges p)) rollback_text) (record { kinds = tt; within = tt }) e w
  undone_fine trying parts p o false e w = loose trying parts p o e w

  checked_fine : (kept trying : Bool) (parts : List Part) (p : Place) (o : Option (List Group)) (v : Values) → (may_return kept trying && (not (is_fitting v) || is_safe c kept trying parts)) ≡ true → GaveAt trying ms p o → (kept ≡ true → KeptAt p o)
      → IsFine c ms (checked parts p v)
  checked_fine kept trying parts p o (Fitting values) e w k = at kept trying parts p o (both (may_return kept trying) _ e).1 w k
  checked_fine kept trying parts p o (Unfitting x) e w k =
      let r = rests kept trying (both (may_return kept trying) _ e).0 in error_fine c ms p o (of_trying trying p o r.1 w) (k r.0) (Driver x)

  offered_fine : (kept trying : Bool) (parts : List Part) (p : Place) (o : Option (List Group)) (b : Bool) → (may_return kept trying && is_safe c kept trying parts) ≡ true → GaveAt trying ms p o → (kept ≡ true → KeptAt p o) → IsFine c ms (offered parts p b)
  offered_fine kept trying parts p o true e w k = at kept trying parts p o (both (may_return kept trying) _ e).1 w k
  offered_fine kept trying parts p o false e w k =
      let r = rests kept trying (both (may_return kept trying) _ e).0 in told_fine (ToldFlag false) p o refl (of_trying trying p o r.1 w) (k r.0)

  unless_fine : (kept trying : Bool) (parts : List Part) (p : Place) (o : Option (List Group)) (x : Option DriverError) → (may_return kept trying && is_safe c kept trying parts) ≡ true → GaveAt trying ms p o → (kept ≡ true → KeptAt p o)
      → IsFine c ms (unless_refused parts p x)
  unless_fine kept trying parts p o None e w k = at kept trying parts p o (both (may_return kept trying) _ e).1 w k
  unless_fine kept trying parts p o (Some x) e w k =
      let r = rests kept trying (both (may_return kept trying) _ e).0 in error_fine c ms p o (of_trying trying p o r.1 w) (k r.0) (Driver x)

  -- a statement is looked for
  found_fine : (kept trying : Bool) (parts : List Part) (p : Place) (o : Option (List Group)) (text : List ℕ) (h : Option Held) → (may_return kept trying && is_safe c kept trying parts) ≡ true → GaveAt trying ms p o → (kept ≡ true → KeptAt p o)
      → IsFine c ms (found parts p text h)
  found_fine kept trying parts p o text None e w k = at kept trying parts p o (both (may_return kept trying) _ e).1 w k
  found_fine kept trying parts p o text (Some h) e w k =
      let r = rests kept trying (both (may_return kept trying) _ e).0 in
      told_fine (ToldStatement (statement_with h.stmt (names_of text))) (with_statements (with_fetched (query_of text) p.statements) p) o refl (of_trying trying p o r.1 w) (k r.0)

  looked_fine : (kept trying : Bool) (parts : List Part) (p : Place) (o : Option (List Group)) (text : List ℕ) → (may_return kept trying && is_safe c kept trying parts) ≡ true → GaveAt trying ms p o → (kept ≡ true → KeptAt p o)
      → IsFine c ms (looked_for parts p text)
  looked_fine kept trying parts p o text e w k = either (IsFine c ms) (is_mixed_text text) _ _
      (λ _. let r = rests kept trying (both (may_return kept trying) _ e).0 in error_fine c ms p o (of_trying trying p o r.1 w) (k r.0) mixed_params)
      (λ _. found_fine kept trying parts p o text (held_in p.statements (query_of text)) e w k)

  -- the reply to a statement to prepare is read
  reply_stays : (p : Place) (o : Option (List Group)) → GaveAt false ms p o → (k : Kind) (q rest : List ℕ) → Comes p k q → IsFine c ms (Goes (Reply ∷ Keep ∷ Give ∷ []) (with_talk p (grow k p.talk q) rest))
  reply_stays p o w k q rest come = (ms, NonePassed, Replying (with_talk p (grow k p.talk q) rest) o plain refl (grown_gave false ms p o k q come w))

  pub reply_fine : (p : Place) (o : Option (List Group)) → p.end_left ≡ false → GaveAt false ms p o → IsFine c ms (step_of login c (Reply ∷ Keep ∷ Give ∷ []) p)
  reply_fine p o none w = either (IsFine c ms) (is_over p.talk) _ _ (λ over. at true false (Keep ∷ Give ∷ []) p o refl w (λ _. inl (over, none)))
      (λ _. reads_have (IsFine c ms) p (faults_fine c ms false p o w) login Reply (Keep ∷ Give ∷ []) refl (halted false p o w) (λ k _. reply_stays p o w k) (reply_stays p o w) (errs_fine false p o w))

  -- its statement is kept, and another one closed for it
  keeping_fine : (kept trying : Bool) (parts : List Part) (q : Place) (o : Option (List Group)) (text : List ℕ) (terms : Terms) (x : Option ℕ) → (kept && is_safe c true trying parts) ≡ true → GaveAt trying ms q o → (kept ≡ true → KeptAt q o)
      → IsFine c ms (with_command (Prepare text) parts q (closing_of terms x))
  keeping_fine kept trying parts q o text terms None e w k = let r = both kept _ e in at true trying parts q o r.1 w (λ _. k r.0)
  keeping_fine kept trying parts q o text terms (Some id) e w k = silent_fine trying (Prepare text) parts q o (closing terms id) (record { kinds = tt; within = tt }) refl (both kept _ e).1 w

  -- a commit that was refused is rolled back, and the first ERR returned
  undoing_fine : (first : ServerError) (p : Place) (o : Option (List Group)) (b : Bool) → p.end_left ≡ false → p.trial ≡ Refused first → GaveAt true ms p o → IsFine c ms (undone login c (Back ∷ []) p b)
  undoing_fine first p o true none is w =
      let t : Talk = queried (terms_of login (exchanges p)) rollback_text in
      begun_has (IsFine c ms) p (faults_fine c ms true p o w) c (Back ∷ []) t (ms, NonePassed, Backing (Back ∷ []) first (with_exchange p c t) None plain refl refl is (begun_gave true ms p o t (record { kinds = tt; within = tt }) w))
  undoing_fine first p o false none is w = (ms, NonePassed, Backing (Back ∷ []) first p o plain refl none is w)

  back_stays : (first : ServerError) (p : Place) (o : Option (List Group)) → p.trial ≡ Refused first → GaveAt true ms p o → (k : Kind) (q rest : List ℕ) → Comes p k q → IsFine c ms (Goes (Back ∷ []) (with_talk p (grow k p.talk q) rest))
  back_stays first p o is w k q rest come = (ms, NonePassed, Backing (Back ∷ []) first (with_talk p (grow k p.talk q) rest) o plain refl refl is (grown_gave true ms p o k q come w))

  returned_fine : (first : ServerError) (x : Trial) (p : Place) (o : Option (List Group)) → x ≡ Refused first → is_over p.talk ≡ true → p.end_left ≡ false → GaveAt true ms p o → IsFine c ms (returned p x)
  returned_fine first x p o is over none w =
      let q : Place = with_trial Off (with_status (rolled_back p.status) p) in
      subst (λ (y : Trial). IsFine c ms (returned p y)) (sym is)
      (error_fine c ms q o (record { olds = w.olds; given_is = w.given_is; newest = w.newest; each = w.each; fits = w.fits; off = λ x. refl }) (inl (over, none)) (Server first))

  pub back_fine : (first : ServerError) (parts : List Part) (p : Place) (o : Option (List Group)) → is_back parts ≡ true → p.end_left ≡ false → p.trial ≡ Refused first → GaveAt true ms p o → IsFine c ms (step_of login c parts p)
  back_fine first (Undo ∷ Back ∷ []) p o e none is w = undoing_fine first p o (is_given_up p.status) none is w
  back_fine first (Back ∷ []) p o e none is w = either (IsFine c ms) (is_over p.talk) _ _ (λ over. returned_fine first p.trial p o is over none w)
      (λ _. reads_have (IsFine c ms) p (faults_fine c ms true p o w) login Back [] refl (halted true p o w) (λ k _. back_stays first p o is w k) (back_stays first p o is w) (errs_fine true p o w))
  back_fine first parts p o e none is w = absurd (cc)

  learned_fine : (kept trying : Bool) (parts : List Part) (p : Place) (o : Option (List Group)) (b : Bool) (st : Statements) → is_safe c kept trying parts ≡ true → GaveAt trying ms p o → (kept ≡ true → KeptAt p o) → IsFine c ms (Goes parts (cond b (with_statements st p) p))
  learned_fine kept trying parts p o true st e w k = at kept trying parts (with_statements st p) o e w k
  learned_fine kept trying parts p o false st e w k = at kept trying parts p o e w k

module _ (login : Login) (ms : List Made) where
  -- the head of the response of a query, or of an execution, is awaited
  heads : (c : Call) → is_query c ≡ true → (parts : List Part) (p : Place) (o : Option (List Group)) (t : Talk) (terms : Terms) (command : List ℕ) (asking : Asking) → t ≡ Queried terms command (NoSets asking) → Fits t → is_head parts ≡ true → GaveAt false ms p o
      → IsFine c ms (with_command c parts p (Some t))
  heads c query [] p o t terms command asking is f h w = absurd (cc)
  heads c query (Head ∷ parts) p o t terms command asking is f h w = begun_has (IsFine c ms) p (faults_fine c ms false p o w) c (Head ∷ parts) t (
    ms,
    NonePassed,
    Heading parts (with_exchange p c t) query h refl (record { terms = terms; command = command; sets = NoSets asking; talk_is = is; none = refl; lone = λ x. absurd (cc) }) (begun_gave false ms p o t f w),
  )
  heads c query (x ∷ more) p o t terms command asking is f h w = absurd (cc)

  -- an execution whose values fit
  executes : (c : Call) → is_query c ≡ true → (parts : List Part) (p : Place) (o : Option (List Group)) (terms : Terms) (st : Statements) (id : ℕ) (v : Values) → (is_fitting v && is_head parts) ≡ true → GaveAt false ms p o
      → IsFine c ms (with_command c parts p (execution terms st id v))
  executes c query parts p o terms st id (Fitting values) e w =
      let asking : Asking = ByStatement (ahead_of id values) (known_in st id) in
      heads c query parts p o (Queried terms (body_of id values) (NoSets asking)) terms (body_of id values) asking refl (record { kinds = tt; within = tt }) e w
  executes c query parts p o terms st id (Unfitting x) e w = absurd (cc)

  -- a statement is to be prepared
  prepares : (c : Call) → reads_sets c ≡ false → (parts : List Part) (p : Place) (o : Option (List Group)) (t : Talk) → Fits t → is_reply parts ≡ true → GaveAt false ms p o → IsFine c ms (with_command c parts p (Some t))
  prepares c plain (Reply ∷ Keep ∷ Give ∷ []) p o t f r w =
      begun_has (IsFine c ms) p (faults_fine c ms false p o w) c (Reply ∷ Keep ∷ Give ∷ []) t (ms, NonePassed, Replying (with_exchange p c t) None plain refl (begun_gave false ms p o t f w))
  prepares c plain parts p o t f r w = absurd (cc)

  -- the command of a call, by its kind
  commands_fine : (c : Call) (plain : reads_sets c ≡ false) (kept trying : Bool) (parts : List Part) (p : Place) (o : Option (List Group)) → is_safe c kept trying (Command ∷ parts) ≡ true → GaveAt trying ms p o
      → IsFine c ms (with_command c parts p (next_exchange login c p))
  commands_fine (Query text) plain kept trying parts p o e w =
      let x = both (not trying) _ e in
      heads (Query text) refl parts p o (queried (terms_of login (exchanges p)) text) (terms_of login (exchanges p)) (packet_bytes (packets.Query text)) ByText refl (record { kinds = tt; within = tt }) x.1
      (of_trying login (Query text) ms plain trying p o (not_true trying x.0) w)
  commands_fine (Execute statement params) plain kept trying parts p o e w =
      let x = both (not trying) _ e in
      executes (Execute statement params) refl parts p o (terms_of login (exchanges p)) p.statements statement.inner.id (values_for statement params) x.1
      (of_trying login (Execute statement params) ms plain trying p o (not_true trying x.0) w)
  commands_fine (Prepare text) plain kept trying parts p o e w =
      let x = both (not trying) _ e in
      prepares (Prepare text) plain parts p o (Preparing (terms_of login (exchanges p)) (packet_bytes (packets.Prepare (query_of text))) Unanswered) (record { kinds = tt; within = tt }) x.1 (of_trying login (Prepare text) ms plain trying p o (not_true trying x.0) w)
  commands_fine (CloseStmt id) plain kept trying parts p o e w = silent_fine login (CloseStmt id) ms plain trying (CloseStmt id) parts p o (closing (terms_of login (exchanges p)) id) (record { kinds = tt; within = tt }) refl e w
  commands_fine Quit plain kept trying parts p o e w = silent_fine login Quit ms plain trying Quit parts p o (Silent (terms_of login (exchanges p)) (packet_bytes packets.Quit)) (record { kinds = tt; within = tt }) refl e w
  commands_fine c plain kept trying parts p o e w = some_fine login c ms plain trying parts p o (next_exchange login c p) (opened_fits login (terms_of login (exchanges p)) p.statements c (connects_in (exchanges p))) e w

  -- a step of a call that is safe
  pub safe_fine : (c : Call) (plain : reads_sets c ≡ false) (kept trying : Bool) (parts : List Part) (p : Place) (o : Option (List Group)) → is_safe c kept trying parts ≡ true → GaveAt trying ms p o → (kept ≡ true → KeptAt p o)
      → IsFine c ms (step_of login c parts p)
  safe_fine c plain kept trying [] p o e w k = ready_fine login c ms plain kept trying p o e w k
  safe_fine c plain kept trying (All ∷ parts) p o e w k = all_fine login c ms plain trying parts p o e w
  safe_fine c plain kept trying (Head ∷ parts) p o e w k = head_fine login c ms plain trying parts p o e w
  safe_fine c plain kept trying (Command ∷ parts) p o e w k = commands_fine c plain kept trying parts p o e w
  safe_fine c plain kept trying (Find ∷ parts) p o e w k = looked_fine login c ms plain kept trying parts p o (text_in c) e w k
  safe_fine c plain kept trying (Check params ∷ parts) p o e w k = checked_fine login c ms plain kept trying parts p o (values_for (statement_in c) params) e w k
  safe_fine c plain kept trying (Run params ∷ parts) p o e w k = some_fine login c ms plain trying parts p o (executed login c p params) (executed_fits (terms_of login (exchanges p)) p.statements (id_in c) (values_for (statement_in c) params)) e w
  safe_fine c plain kept trying (Keep ∷ parts) p o e w k =
      let f = facts_at login p in
      let st : Statements = with_prepared (query_of (text_in c)) (prepared_by f) f.reply.fields p.statements in
      keeping_fine login c ms plain kept trying parts (with_statements st p) o (text_in c) (terms_of login (exchanges p)) (leaving (query_of (text_in c)) (prepared_by f) p.statements) e w k
  safe_fine c plain kept trying (Give ∷ parts) p o e w k =
      let r = rests kept trying e in
      told_fine login c ms plain (ToldStatement (statement_with (prepared_by (facts_at login p)) (names_of (text_in c)))) p o refl (of_trying login c ms plain trying p o r.1 w) (k r.0)
  safe_fine c plain kept trying (Learn ∷ parts) p o e w k = learned_fine login c ms plain kept trying parts p o (is_rows (context_of p.talk).spot) (with_columns (id_in c) (facts_at login p).columns p.statements) e w k
  safe_fine c plain kept trying (Forget ∷ parts) p o e w k = at login c ms plain kept trying parts (with_statements (without_statement (id_in c) p.statements) p) o e w k
  safe_fine c plain kept trying (Offered ∷ parts) p o e w k = offered_fine login c ms plain kept trying parts p o (can_reset (version_of (facts_at login p).version)) e w k
  safe_fine c plain kept trying (Clear ∷ parts) p o e w k = at login c ms plain kept trying parts (with_statements (cleared p.statements) p) o e w k
  safe_fine c plain kept trying (Text text ∷ parts) p o e w k = asked_fine login c ms plain trying parts p o (queried (terms_of login (exchanges p)) text) (record { kinds = tt; within = tt }) e w
  safe_fine c plain kept trying (Flag flag ∷ parts) p o e w k = let r = rests kept trying e in told_fine login c ms plain (ToldFlag flag) p o refl (of_trying login c ms plain trying p o r.1 w) (k r.0)
  safe_fine c plain kept trying (Adopt change ∷ parts) p o e w k = at login c ms plain kept trying parts (with_account (changed change p.account) p) o e w k
  safe_fine c plain kept trying (Renew ∷ parts) p o e w k = asked_fine login c ms plain trying parts p o (renewing login c p (facts_at login p)) (renewing_new login c p).fits e w
  safe_fine c plain kept trying (Drain ∷ parts) p o e w k = drain_fine login c ms plain trying parts p o e w
  safe_fine c plain kept trying (Undo ∷ parts) p o e w k = undone_fine login c ms plain trying parts p o (is_given_up p.status) e w
  safe_fine c plain kept trying (Undone ∷ parts) p o e w k = at login c ms plain kept trying parts (with_status (rolled_back p.status) p) o e w k
  safe_fine c plain kept trying (Refuse opts ∷ parts) p o e w k = unless_fine login c ms plain kept trying parts p o (begin_refusal opts (version_of (facts_at login p).version) p.status) e w k
  safe_fine c plain kept trying (Settle status ∷ parts) p o e w k =
      at login c ms plain kept false parts (with_trial Off (with_status status p)) o e (record { olds = w.olds; given_is = w.given_is; newest = w.newest; each = w.each; fits = w.fits; off = λ x. refl }) k
  safe_fine c plain kept trying (GiveUp ∷ parts) p o e w k = at login c ms plain kept trying parts (with_status (given_up p.status) p) o e w k
  safe_fine c plain kept trying (Try ∷ parts) p o e w k =
      at login c ms plain kept true parts (with_trial On p) o e (record { olds = w.olds; given_is = w.given_is; newest = w.newest; each = w.each; fits = w.fits; off = λ x. absurd (cc) }) k
  safe_fine c plain kept trying (part ∷ parts) p o e w k = absurd (cc)
