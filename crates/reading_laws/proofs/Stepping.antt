-- Each step of a call keeps its statements, by the parts that are left.
use Rattle.std.proofs.Common.{◌≡◌, ℕ, suc, zero, Bool, true, false, cond, ◌||◌, Option, Some, None, IfSome, List, [], ◌∷◌, slice_get, refl, subst}
use Rattle.my_command.specs.declared.client.ClientPacket.{ClientPacket}
use Rattle.my_command.specs.declared.client.ClientPacket.TheVariants as packets
use Rattle.my_command.specs.Client.Packet.{client_bytes as packet_bytes}
use Rattle.my_grammar.specs.declared.login.Login.{Login}
use Rattle.my_grammar.specs.declared.spot.Kind.{Kind}
use Rattle.my_grammar.specs.declared.spot.Kind.TheVariants as kinds
use Rattle.my_grammar.specs.declared.spot.Terms.{Terms}
use Rattle.my_grammar.specs.Cut.{is_over}
use Rattle.my_grammar.specs.Growth.{grow}
use Rattle.my_grammar.specs.Prepares.{Unanswered}
use Rattle.my_grammar.specs.Talk.{Talk, Preparing, context_of}
use Rattle.my_statements.specs.Cache.{Held}
use Rattle.my_reading.specs.declared.call.Call.{Call}
use Rattle.my_reading.specs.declared.call.Call.TheVariants.{Connect, Query, Prepare, Execute, Batch, CloseStmt, Reset, ChangeUser, Begin, ResetForPool, Quit}
use Rattle.my_params.specs.declared.params.Params.{Params}
use Rattle.my_reading.specs.Accounts.{changed}
use Rattle.my_reading.specs.Calls.{id_in, statement_in}
use Rattle.my_reading.specs.Commands.{arranging, arranging_texts, closing, connecting, execution, opening, queried, setup_texts, simple, simple_packet}
use Rattle.my_reading.specs.Course.{Part, All, Head, Item, Set, Rest, Command, Find, Check, Run, Reply, Keep, Give, Learn, Forget, Offered, Clear, Text, Flag, Adopt, Renew, Drain, Undo, Undone, Refuse, Settle, GiveUp, Try, Back, Goes, step, step_of, unless_owed, reads, after_kind, with_command, found, checked, executed, closing_of, learned, offered, undone, unless_refused, is_drain, is_rows, clean, parts_of, parts_of_batch, parts_of_lists, parts_of_queries, parts_of_texts, Owes}
use Rattle.my_reading.specs.Executions.{Values, Fitting, Unfitting, values_for}
use Rattle.my_reading.specs.Facts.{prepared_by}
use Rattle.my_reading.specs.Place.{Place, connects_in, exchanges, facts_at, facts_of, next_exchange, owed, terms_of, with_account, with_end, with_exchange, with_statements, with_status, with_talk, with_trial, without_end}
use Rattle.my_reading.specs.Statements.{Statements, cleared, held_in, is_cached, is_mixed_text, leaving, query_of, with_prepared, without_statement}
use Rattle.my_handshake.specs.Version.{version_of}
use Rattle.my_reading.specs.declared.error.DriverError.{DriverError}
use Rattle.my_reading.specs.declared.transaction.Trial.TheVariants as trials
use Rattle.my_reading.specs.declared.transaction.TxStatus.TheVariants.{InTransaction}
use Rattle.my_reading.specs.Errors.{server_error}
use Rattle.my_reading.specs.Transactions.{begin_refusal, begin_texts, given_up, is_given_up, rollback_text, rolled_back}
use Rattle.my_reading.specs.Versions.{can_reset}
use Rattle.my_reading.specs.Told.{Told}
use Rattle.reading_laws.specs.Kept.{prepared_in}
use Rattle.reading_laws.proofs.Cleaning.{Cleans, Reads, cleans_have}
use Rattle.reading_laws.proofs.Having.{Comes, begun_has, command_has, awaited_drains_have, either, awaited_have}
use Rattle.reading_laws.proofs.Holding.{Holds, HoldsBefore, HoldsBut, cleared_holds, closing_holds, fetched_holds, forgotten_holds, grown_before, grown_holds, learned_holds, opened_before, opened_holds, prepared_holds, refused_holds, weaker_holds}
use Rattle.reading_laws.proofs.Talks.{is_open, over_is_done, whole_talk}
use Rattle.reading_laws.proofs.Phases.{IsFine, Phase, Steady, Finding, Clearing, Asking, Replying, Keeping, Giving, Forgetting, Passing, Closing, Offering, Adopting, ByRenewal, Readying, Commanding, Awaiting, Reverting, Returning, Emptying, closing_stops, is_plain, prepares, preparing_stops, stopped_fine}
use Rattle.reading_laws.proofs.Reverting.{refused_fine, returning, reverting}
use Rattle.reading_laws.proofs.Resetting.{awaiting, commanding, offering, readying}

-- what other calls begin prepares nothing
PreparesNothing : Talk → Type 0
PreparesNothing t = (prepared_in t ≡ None) × (is_open t ≡ false)

connecting_plain : (login : Login) (terms : Terms) (n : ℕ) → IfSome (connecting login terms n) PreparesNothing
unfolding PreparesNothing
connecting_plain login terms zero = (refl, refl)
connecting_plain login terms (suc n) = by_text (slice_get (arranging_texts login) n)
  where
    by_text : (o : Option (List ℕ)) → IfSome (arranging terms o) PreparesNothing
    by_text None = tt
    by_text (Some text) = (refl, refl)

execution_plain : (terms : Terms) (st : Statements) (id : ℕ) (v : Values) → IfSome (execution terms st id v) PreparesNothing
unfolding PreparesNothing
execution_plain terms st id (Fitting values) = (refl, refl)
execution_plain terms st id (Unfitting e) = tt

simple_plain : (terms : Terms) (x : Option ClientPacket) → IfSome (simple terms x) PreparesNothing
unfolding PreparesNothing
simple_plain terms None = tt
simple_plain terms (Some packet) = (refl, refl)

opening_plain : (login : Login) (terms : Terms) (st : Statements) (call : Call) (n : ℕ) → prepares call ≡ false → IfSome (opening login terms st call n) PreparesNothing
unfolding PreparesNothing
opening_plain login terms st Connect n e = connecting_plain login terms n
opening_plain login terms st (Query text) n e = (refl, refl)
opening_plain login terms st (Prepare text) n e = absurd (cc)
opening_plain login terms st (Execute statement params) n e = execution_plain terms st statement.inner.id (values_for statement params)
opening_plain login terms st (CloseStmt id) n e = (refl, refl)
opening_plain login terms st Quit n e = (refl, refl)
opening_plain login terms st call n e = simple_plain terms (simple_packet call)

-- a call that prepares nothing, at each of its parts
module _ (login : Login) (call : Call) (other : prepares call ≡ false) where
  -- the same parts are left, or fewer
  steady_kind : (part : Part) (parts : List Part) → is_plain (part ∷ parts) ≡ true → (k : Kind) (new : Place) (row : Told) → Holds new
      → IsFine call (after_kind part parts k new row)
  steady_kind Back parts e k new row w = absurd (cc)
  steady_kind Find parts e k new row w = absurd (cc)
  steady_kind Reply parts e k new row w = absurd (cc)
  steady_kind Keep parts e k new row w = absurd (cc)
  steady_kind Give parts e k new row w = absurd (cc)
  steady_kind Forget parts e k new row w = absurd (cc)
  steady_kind Renew parts e k new row w = absurd (cc)
  steady_kind Clear parts e k new row w = absurd (cc)
  steady_kind Head parts e (kinds.Good status) new row w = Steady call parts (with_end new) e other w
  steady_kind Item parts e (kinds.Good status) new row w = λ _. w
  steady_kind Item parts e (kinds.End status) new row w = λ _. w
  steady_kind Item parts e kinds.Row new row w = λ _. w
  steady_kind Set parts e (kinds.Good status) new row w = λ _. w
  steady_kind part parts e k new row w = Steady call (part ∷ parts) new e other w

  steady_reads : (part : Part) → is_drain part ≡ false → (parts : List Part) (p : Place) → is_plain (part ∷ parts) ≡ true → Holds p → IsFine call (reads login part parts p)
  steady_reads part tells parts p e w = awaited_have (IsFine call) p (λ s _ _. w) login part parts tells
      (λ k q rest c. Steady call (part ∷ parts) (with_talk p (grow k p.talk q) rest) e other (grown_holds (λ i. ⊥) p k q rest c.awaited w))
      (λ k q rest row c. steady_kind part parts e k (with_talk p (grow k p.talk q) rest) row (grown_holds (λ i. ⊥) p k q rest c.awaited w))
      (λ q rest x awaited. refused_fine call p.trial (with_talk p (grow kinds.Failed p.talk q) rest) (server_error x) (λ s _ _. grown_holds (λ i. ⊥) p kinds.Failed q rest awaited w))

  steady_drains : (parts : List Part) (p : Place) → is_plain parts ≡ true → Holds p → IsFine call (reads login Drain parts p)
  steady_drains parts p e w = awaited_drains_have (IsFine call) p (λ s _ _. w) login parts
      (λ k q rest awaited. Steady call (Drain ∷ parts) (with_talk p (grow k p.talk q) rest) e other (grown_holds (λ i. ⊥) p k q rest awaited w))

  steady_checked : (parts : List Part) (p : Place) (v : Values) → is_plain parts ≡ true → Holds p → IsFine call (checked parts p v)
  steady_checked parts p (Fitting values) e w = Steady call parts p e other w
  steady_checked parts p (Unfitting x) e w = λ _. w

  steady_begun : (t : Talk) (parts : List Part) (p : Place) (o : Option Talk) → IfSome o PreparesNothing → o ≡ Some t → is_plain parts ≡ true → Holds p
      → IsFine call (Goes parts (with_exchange p call t))
  unfolding PreparesNothing
  steady_begun t parts p None v i e w = absurd (cc)
  steady_begun t parts p (Some u) v i e w =
      let same : u ≡ t = cc in
      Steady call parts (with_exchange p call t) e other (opened_holds (λ i. ⊥) p call t (subst (λ x. prepared_in x ≡ None) same v.0) (subst (λ x. is_open x ≡ false) same v.1) w)

  steady_offered : (parts : List Part) (p : Place) (b : Bool) → is_plain parts ≡ true → Holds p → IsFine call (offered parts p b)
  steady_offered parts p true e w = Steady call parts p e other w
  steady_offered parts p false e w = λ _. w

  steady_asked : (parts : List Part) (p : Place) (terms : Terms) (text : List ℕ) → is_plain parts ≡ true → Holds p
      → IsFine call (with_command call parts p (Some (queried terms text)))
  steady_asked parts p terms text e w =
      let t = queried terms text in
      begun_has (IsFine call) p (λ s _ _. w) call parts t (Steady call parts (with_exchange p call t) e other (opened_holds (λ i. ⊥) p call t refl refl w))

  steady_undone : (parts : List Part) (p : Place) (b : Bool) → is_plain parts ≡ true → Holds p → IsFine call (undone login call parts p b)
  steady_undone parts p true e w = steady_asked parts p (terms_of login (exchanges p)) rollback_text e w
  steady_undone parts p false e w = Steady call parts p e other w

  steady_refused : (parts : List Part) (p : Place) (x : Option DriverError) → is_plain parts ≡ true → Holds p → IsFine call (unless_refused parts p x)
  steady_refused parts p None e w = Steady call parts p e other w
  steady_refused parts p (Some x) e w = λ _. w

  steady : (parts : List Part) (p : Place) → is_plain parts ≡ true → Holds p → IsFine call (step_of login call parts p)
  steady [] p e w = λ _. w
  steady (Command ∷ parts) p e w = command_has (IsFine call) p (λ s _ _. w) call parts (next_exchange login call p) (Steady call parts p e other w)
      (λ t i. steady_begun t parts p (next_exchange login call p) (opening_plain login (terms_of login (exchanges p)) p.statements call (connects_in (exchanges p)) other) i e w)
  steady (All ∷ parts) p e w = either (IsFine call) p.end_left _ _ (Steady call (All ∷ parts) (without_end p) e other w)
      (either (IsFine call) (is_over p.talk) _ _ (Steady call parts p e other w) (steady_reads All refl parts p e w))
  steady (Head ∷ parts) p e w = either (IsFine call) (is_rows (context_of p.talk).spot) _ _ (Steady call parts p e other w) (steady_reads Head refl parts p e w)
  steady (Item ∷ parts) p e w = either (IsFine call) p.end_left _ _ (λ _. w) (either (IsFine call) (is_over p.talk) _ _ (λ _. w) (steady_reads Item refl parts p e w))
  steady (Set ∷ parts) p e w = either (IsFine call) (p.end_left || is_rows (context_of p.talk).spot) _ _ (λ _. w)
      (either (IsFine call) (is_over p.talk) _ _ (λ _. w) (steady_reads Set refl parts p e w))
  steady (Rest ∷ parts) p e w = either (IsFine call) p.end_left _ _ (Steady call (Rest ∷ parts) (without_end p) e other w)
      (either (IsFine call) (is_rows (context_of p.talk).spot) _ _ (steady_reads Rest refl parts p e w) (Steady call parts p e other w))
  steady (Check params ∷ parts) p e w = steady_checked parts p (values_for (statement_in call) params) e w
  steady (Run params ∷ parts) p e w = command_has (IsFine call) p (λ s _ _. w) call parts (executed login call p params) (Steady call parts p e other w)
      (λ t i. steady_begun t parts p (executed login call p params) (execution_plain (terms_of login (exchanges p)) p.statements (id_in call) (values_for (statement_in call) params)) i e w)
  steady (Learn ∷ parts) p e w = Steady call parts (learned call p (facts_at login p)) e other (learned_holds (λ i. ⊥) call p (facts_at login p) w)
  steady (Offered ∷ parts) p e w = steady_offered parts p (can_reset (version_of (facts_at login p).version)) e w
  steady (Text text ∷ parts) p e w = steady_asked parts p (terms_of login (exchanges p)) text e w
  steady (Flag flag ∷ parts) p e w = λ _. w
  steady (Adopt change ∷ parts) p e w = Steady call parts (with_account (changed change p.account) p) e other w
  steady (Drain ∷ parts) p e w = either (IsFine call) p.end_left _ _ (Steady call (Drain ∷ parts) (without_end p) e other w)
      (either (IsFine call) (is_over p.talk) _ _ (Steady call parts p e other w) (steady_drains parts p e w))
  steady (Undo ∷ parts) p e w = steady_undone parts p (is_given_up p.status) e w
  steady (Undone ∷ parts) p e w = Steady call parts (with_status (rolled_back p.status) p) e other w
  steady (Refuse opts ∷ parts) p e w = steady_refused parts p (begin_refusal opts (version_of (facts_at login p).version) p.status) e w
  steady (Settle status ∷ parts) p e w = Steady call parts (with_trial trials.Off (with_status status p)) e other w
  steady (GiveUp ∷ parts) p e w = Steady call parts (with_status (given_up p.status) p) e other w
  steady (Try ∷ parts) p e w = Steady call parts (with_trial trials.On p) e other w
  steady (part ∷ parts) p e w = absurd (cc)

-- a call that prepares a statement
module _ (login : Login) (text : List ℕ) where
  abbrev asking_call : Call
  asking_call = Prepare text

  abbrev asked : List Part
  asked = Command ∷ Reply ∷ Keep ∷ Give ∷ []

  found_fine : (p : Place) (o : Option Held) → held_in p.statements (query_of text) ≡ o → Holds p → IsFine asking_call (found (clean asked) p text o)
  found_fine p None e w = Clearing text (clean asked) p Reads w e
  found_fine p (Some h) e w = λ _. fetched_holds p (query_of text) w

  finding : (p : Place) → Holds p → IsFine asking_call (step_of login asking_call (Find ∷ clean asked) p)
  finding p w = either (IsFine asking_call) (is_mixed_text text) _ _ (λ _. w) (found_fine p (held_in p.statements (query_of text)) refl w)

  clearing : (parts : List Part) (p : Place) → Cleans asked parts → Holds p → held_in p.statements (query_of text) ≡ None → IsFine asking_call (step_of login asking_call parts p)
  clearing parts p left w e = cleans_have login asking_call asked (λ q. Holds q × (held_in q.statements (query_of text) ≡ None)) (IsFine asking_call)
      (λ q h. preparing_stops text q)
      (λ more q here h. Clearing text more q here h.0 h.1)
      (λ q h. Asking text q h.0 h.1)
      (λ q k bytes rest awaited h. (grown_holds (λ i. ⊥) q k bytes rest awaited h.0, h.1))
      (λ q bytes rest x awaited h. refused_fine asking_call q.trial (with_talk q (grow kinds.Failed q.talk bytes) rest) (server_error x) (λ s _ _. grown_holds (λ i. ⊥) q kinds.Failed bytes rest awaited h.0))
      (λ q h. h)
      (λ q terms h. (opened_holds (λ i. ⊥) q asking_call (queried terms rollback_text) refl refl h.0, h.1))
      (λ q status h. h)
      parts p left (w, e)

  asking : (p : Place) → Holds p → held_in p.statements (query_of text) ≡ None → IsFine asking_call (step_of login asking_call asked p)
  asking p w e =
      let t = Preparing (terms_of login (exchanges p)) (packet_bytes (packets.Prepare (query_of text))) Unanswered in
      begun_has (IsFine asking_call) p (preparing_stops text p) asking_call (Reply ∷ Keep ∷ Give ∷ []) t
      (Replying text (with_exchange p asking_call t) (opened_before (query_of text) p asking_call t tt e w))

  replying : (p : Place) → HoldsBefore (query_of text) p → IsFine asking_call (step_of login asking_call (Reply ∷ Keep ∷ Give ∷ []) p)
  replying p w = by_over (is_over p.talk) refl
    where
      again : (k : Kind) (q rest : List ℕ) → Comes p k q → Phase (Prepare text) (Reply ∷ Keep ∷ Give ∷ []) (with_talk p (grow k p.talk q) rest)
      again k q rest c = Replying text (with_talk p (grow k p.talk q) rest) (grown_before (query_of text) p k q rest c.awaited c.good c.fresh w)

      by_over : (b : Bool) → is_over p.talk ≡ b → IsFine asking_call (cond b (Goes (Keep ∷ Give ∷ []) p) (reads login Reply (Keep ∷ Give ∷ []) p))
      by_over true e = Keeping text p w e
      by_over false e = awaited_have (IsFine asking_call) p (preparing_stops text p) login Reply (Keep ∷ Give ∷ []) refl again (λ k q rest row c. again k q rest c)
          (λ q rest x awaited. refused_fine asking_call p.trial (with_talk p (grow kinds.Failed p.talk q) rest) (server_error x) (λ s _ _. refused_holds (query_of text) p q rest awaited w))

  closed : (p : Place) (terms : Terms) (o : Option ℕ) → HoldsBut (λ i. o ≡ Some i) p → IsFine asking_call (with_command asking_call (Give ∷ []) p (closing_of terms o))
  closed p terms None w = Giving text p (weaker_holds (λ i. None ≡ Some i) (λ i. ⊥) p (λ i e. absurd (cc)) w)
  closed p terms (Some id) w = begun_has (IsFine asking_call) p (preparing_stops text p) asking_call (Give ∷ []) (closing terms id)
      (Giving text (with_exchange p asking_call (closing terms id)) (closing_holds (λ i. Some id ≡ Some i) p asking_call terms id (λ i e. cc) w))

  keeping : (p : Place) → HoldsBefore (query_of text) p → is_over p.talk ≡ true → IsFine asking_call (step_of login asking_call (Keep ∷ Give ∷ []) p)
  keeping p w e =
      let f = facts_at login p in
      let done = over_is_done (λ ok. is_cached p.statements ok.id ≡ false) p.talk w.1 e in
      let newest = whole_talk (λ i. is_cached p.statements i ≡ false) p.talk (facts_of login p.older) w.1 done in
      closed (with_statements (with_prepared (query_of text) (prepared_by f) f.reply.fields p.statements) p) (terms_of login (exchanges p))
      (leaving (query_of text) (prepared_by f) p.statements) (prepared_holds p (query_of text) (prepared_by f) f.reply.fields newest done w)

-- a call that closes one
module _ (login : Login) (id : ℕ) where
  passing : (parts : List Part) (p : Place) → Cleans (Command ∷ []) parts → HoldsBut (λ i. i ≡ id) p → IsFine (CloseStmt id) (step_of login (CloseStmt id) parts p)
  passing parts p left w = cleans_have login (CloseStmt id) (Command ∷ []) (HoldsBut (λ i. i ≡ id)) (IsFine (CloseStmt id))
      (λ q h. closing_stops id q)
      (λ more q here h. Passing id more q here h)
      (λ q h. Closing id q h)
      (λ q k bytes rest awaited h. grown_holds (λ i. i ≡ id) q k bytes rest awaited h)
      (λ q bytes rest x awaited h. refused_fine (CloseStmt id) q.trial (with_talk q (grow kinds.Failed q.talk bytes) rest) (server_error x) (λ s a e. absurd (cc)))
      (λ q h. h)
      (λ q terms h. opened_holds (λ i. i ≡ id) q (CloseStmt id) (queried terms rollback_text) refl refl h)
      (λ q status h. h)
      parts p left w

  closing_begun : (p : Place) → HoldsBut (λ i. i ≡ id) p → IsFine (CloseStmt id) (step_of login (CloseStmt id) (Command ∷ []) p)
  closing_begun p w =
      let t = closing (terms_of login (exchanges p)) id in
      begun_has (IsFine (CloseStmt id)) p (closing_stops id p) (CloseStmt id) [] t
      (Steady (CloseStmt id) [] (with_exchange p (CloseStmt id) t) refl refl (closing_holds (λ i. i ≡ id) p (CloseStmt id) (terms_of login (exchanges p)) id (λ i e. e) w))

part_fine : (login : Login) (c : Call) (parts : List Part) (p : Place) → Phase c parts p → IsFine c (step_of login c parts p)
part_fine login c parts p (Steady d ps q e other w) = steady login d other ps q e w
part_fine login c parts p (Finding text q w) = finding login text q w
part_fine login c parts p (Clearing text ps q left w e) = clearing login text ps q left w e
part_fine login c parts p (Asking text q w e) = asking login text q w e
part_fine login c parts p (Replying text q w) = replying login text q w
part_fine login c parts p (Keeping text q w e) = keeping login text q w e
part_fine login c parts p (Giving text q w) = λ _. w
part_fine login c parts p (Forgetting id q w) = Passing id (clean (Command ∷ [])) (with_statements (without_statement id q.statements) q) Reads (forgotten_holds q id w)
part_fine login c parts p (Passing id ps q left w) = passing login id ps q left w
part_fine login c parts p (Closing id q w) = closing_begun login id q w
part_fine login c parts p (Offering ps q e w) = offering login ps e q (can_reset (version_of (facts_at login q).version)) w
part_fine login c parts p (Adopting change ps q e w) =
    Readying (ChangeUser change) Renew (ByRenewal (ChangeUser change) refl) ps (clean (Renew ∷ All ∷ Clear ∷ ps)) (with_account (changed change q.account) q) Reads e w
part_fine login c parts p (Readying d part by ps more q left e w) = readying login ps e d part by more q left w
part_fine login c parts p (Commanding d part by ps q e w) = commanding login ps e d part by q w
part_fine login c parts p (Awaiting d other ps q e w r) = awaiting login ps e d other q w r
part_fine login c parts p (Reverting d q r w) = reverting login d q r w
part_fine login c parts p (Returning d q r w) = returning login d q r w
part_fine login c parts p (Emptying d other ps q e w r) = Steady d ps (with_statements (cleared q.statements) q) e other (cleared_holds q r w)

pub step_fine : (login : Login) (call : Call) (parts : List Part) (p : Place) → Phase call parts p → IsFine call (step login call parts p)
unfolding step
step_fine login call parts p w = by_owed (owed p)
  where
    by_owed : (x : List ℕ) → IsFine call (unless_owed x p (step_of login call parts p))
    by_owed (b ∷ bytes) = stopped_fine call parts p w Owes refl
    by_owed [] = part_fine login call parts p w

texts_plain : (texts : List (List ℕ)) → is_plain (parts_of_texts texts) ≡ true
texts_plain [] = refl
texts_plain (text ∷ texts) = texts_plain texts

lists_plain : (lists : List Params) → is_plain (parts_of_lists lists) ≡ true
lists_plain [] = refl
lists_plain (params ∷ lists) = lists_plain lists

batch_plain : (lists : List Params) → is_plain (parts_of_batch lists) ≡ true
batch_plain [] = refl
batch_plain (params ∷ lists) = lists_plain lists

queries_plain : (texts : List (List ℕ)) (parts : List Part) → is_plain parts ≡ true → is_plain (parts_of_queries texts parts) ≡ true
queries_plain [] parts e = e
queries_plain (text ∷ texts) parts e = queries_plain texts parts e

pub begins_fine : (login : Login) (call : Call) (p : Place) → Holds p → Phase call (parts_of login call) p
begins_fine login Connect p w = Steady Connect (parts_of login Connect) p (texts_plain (arranging_texts login)) refl w
begins_fine login (Prepare text) p w = Finding text p w
begins_fine login (Batch statement lists) p w = Steady (Batch statement lists) (parts_of login (Batch statement lists)) p (batch_plain lists) refl w
begins_fine login (CloseStmt id) p w = Forgetting id p w
begins_fine login Reset p w = Offering (parts_of_queries (setup_texts login) (Flag true ∷ [])) p (queries_plain (setup_texts login) (Flag true ∷ []) refl) w
begins_fine login (ChangeUser change) p w = Adopting change (parts_of_queries (setup_texts login) []) p (queries_plain (setup_texts login) [] refl) w
begins_fine login (Begin opts) p w = Steady (Begin opts) (parts_of login (Begin opts)) p (queries_plain (begin_texts opts) (Settle InTransaction ∷ []) refl) refl w
begins_fine login ResetForPool p w = Readying ResetForPool Renew (ByRenewal ResetForPool refl) (parts_of_queries (setup_texts login) []) (parts_of login ResetForPool) p Reads (queries_plain (setup_texts login) [] refl) w
-- a call whose parts touch no statement that is cached
begins_fine login call p w = Steady call (parts_of login call) p refl refl w
