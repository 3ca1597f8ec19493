-- A step that isn't stopped by bytes owed doesn't look at what was sent.
use Rattle.std.proofs.Common.{◌≡◌, ℕ, zero, suc, ◌≤◌, List, [], ◌∷◌, length, drop, nat_lt, Option, Some, None, Bool, true, false, ◌||◌, cond, refl, ap, ◌∙◌, sym, subst, arith}
use Rattle.my_frame.specs.Front.{Front, Waiting, Broken, Whole}
use Rattle.my_handshake.specs.Version.{version_of}
use Rattle.my_reply.specs.declared.err.ErrPacket.{ErrPacket}
use Rattle.my_reply.specs.ErrPacket.{err_at}
use Rattle.my_reply.specs.declared.replies.PrepareOk.{PrepareOk}
use Rattle.my_reply.specs.Replies.{prepare_ok_at}
use Rattle.my_statements.specs.Cache.{Held}
use Rattle.my_grammar.specs.declared.login.Login.{Login}
use Rattle.my_grammar.specs.declared.spot.Kind.{Kind}
use Rattle.my_grammar.specs.declared.spot.Kind.TheVariants as kinds
use Rattle.my_grammar.specs.Cut.{front_of, kind_of, is_over}
use Rattle.my_grammar.specs.Growth.{grow}
use Rattle.my_grammar.specs.Talk.{Talk, commands_in, context_of, limit_of, says, secret_in}
use Rattle.my_reading.specs.declared.call.Call.{Call}
use Rattle.my_reading.specs.declared.call.Call.TheVariants.{Prepare}
use Rattle.my_reading.specs.declared.error.DriverError.{DriverError}
use Rattle.my_reading.specs.declared.error.ServerError.{ServerError}
use Rattle.my_reading.specs.declared.transaction.Trial.{Trial}
use Rattle.my_reading.specs.declared.transaction.Trial.TheVariants as trials
use Rattle.my_reading.specs.Calls.{id_in, statement_in, text_in}
use Rattle.my_reading.specs.Commands.{queried}
use Rattle.my_reading.specs.Course.{Part, All, Head, Item, Set, Rest, Command, Find, Check, Run, Reply, Keep, Learn, Offered, Text, Renew, Drain, Undo, Refuse, Back, Step, Goes, Stops, Stop, Owes, Awaits, Returns, step, step_of, unless_owed, with_front, reads, after_payload, after_kind, after_err, dropped_at, is_drain, is_greeting, is_rows, unless_cached, with_command, first_above, found, checked, executed, closing_of, offered, undone, renewing, unless_refused, refused_at, returned, above, unless_long}
use Rattle.my_reading.specs.Errors.{server_error}
use Rattle.my_reading.specs.Executions.{Values, Fitting, Unfitting, values_for}
use Rattle.my_reading.specs.Facts.{prepared_by}
use Rattle.my_reading.specs.Leads.{Leads, Here, Then}
use Rattle.my_reading.specs.Place.{Place, owed, client_side, exchanges, facts_at, terms_of, next_exchange, with_statements, with_talk}
use Rattle.my_reading.specs.Rows.{row_of}
use Rattle.my_reading.specs.Statements.{Statements, held_in, is_cached, is_mixed_text, leaving, query_of, with_columns, with_prepared}
use Rattle.my_reading.specs.Told.{Told, ToldRow}
use Rattle.my_reading.specs.Transactions.{begin_refusal, is_given_up, rollback_text}
use Rattle.my_reading.specs.Versions.{can_reset}

-- other bytes were sent
abbrev pub with_sent : List ℕ → Place → Place
with_sent bytes p = record { call = p.call; talk = p.talk; older = p.older; end_left = p.end_left; taken = p.taken; statements = p.statements; status = p.status; account = p.account; trial = p.trial; unread = p.unread; sent = bytes }

module _ (bytes : List ℕ) where
  -- A step from a place and one from that place with other bytes sent are the same, and send nothing.
  abbrev pub Alike : Place → Step → Step → Type 0
  Alike q (Goes parts m) y = (y ≡ Goes parts (with_sent bytes m)) × (m.sent ≡ q.sent)
  Alike q (Stops m Owes) y = ⊥
  Alike q (Stops m Awaits) y = (y ≡ Stops (with_sent bytes m) Awaits) × (m.sent ≡ q.sent)
  Alike q (Stops m (Returns t)) y = (y ≡ Stops (with_sent bytes m) (Returns t)) × (m.sent ≡ q.sent)

  either : (q : Place) (b : Bool) (x y u v : Step) → Alike q x u → Alike q y v → Alike q (cond b x y) (cond b u v)
  either q true x y u v f g = f
  either q false x y u v f g = g

  module _ (q new : Place) (same : new.sent ≡ q.sent) (parts : List Part) where
    kind_alike : (part : Part) (k : Kind) (t : Told) → Alike q (after_kind part parts k new t) (after_kind part parts k (with_sent bytes new) t)
    kind_alike Head (kinds.Good status) t = (refl, same)
    kind_alike Item (kinds.Good status) t = (refl, same)
    kind_alike Item (kinds.End status) t = (refl, same)
    kind_alike Item kinds.Row t = (refl, same)
    kind_alike Set (kinds.Good status) t = (refl, same)
    kind_alike part k t = (refl, same)

    refused_alike : (x : Trial) (e : ServerError) → Alike q (refused_at x new e) (refused_at x (with_sent bytes new) e)
    refused_alike trials.Off e = (refl, same)
    refused_alike trials.On e = (refl, same)
    refused_alike (trials.Refused first) e = (refl, same)

    command_alike : (call : Call) (x : Option Talk) → Alike q (with_command call parts new x) (with_command call parts (with_sent bytes new) x)
    command_alike call None = (refl, same)
    command_alike call (Some t) = by_length (first_above (limit_of t) (commands_in t)) refl
      where
        by_length : (x : Option ℕ) → first_above (limit_of t) (commands_in t) ≡ x → Alike q (with_command call parts new (Some t)) (with_command call parts (with_sent bytes new) (Some t))
        by_length None e = rw e (refl, same)
        by_length (Some len) e = rw e (refl, same)

  module _ (login : Login) (q : Place) (parts : List Part) where
    err_alike : (new : Place) → new.sent ≡ q.sent → (x : Option ErrPacket) → Alike q (after_err login q new x) (after_err login (with_sent bytes q) (with_sent bytes new) x)
    err_alike new same None = (refl, refl)
    err_alike new same (Some e) = refused_alike q new same parts q.trial (server_error e)

    dropped_alike : (new : Place) → new.sent ≡ q.sent → (x : Option ErrPacket) → Alike q (dropped_at login parts q new x) (dropped_at login parts (with_sent bytes q) (with_sent bytes new) x)
    dropped_alike new same None = (refl, refl)
    dropped_alike new same (Some e) = (refl, same)

    cached_alike : (x : Option PrepareOk) (part : Part) (new : Place) → new.sent ≡ q.sent
        → Alike q (unless_cached login q x (Goes (part ∷ parts) new)) (unless_cached login (with_sent bytes q) x (Goes (part ∷ parts) (with_sent bytes new)))
    cached_alike None part new same = (refl, same)
    cached_alike (Some ok) part new same = either q (is_cached q.statements ok.id) _ _ _ _ (refl, refl) (refl, same)

    said_alike : (part : Part) (new : Place) → new.sent ≡ q.sent → (o : Option ℕ)
        → Alike q (unless_long q (limit_of q.talk) o (Goes (part ∷ parts) new)) (unless_long (with_sent bytes q) (limit_of q.talk) o (Goes (part ∷ parts) (with_sent bytes new)))
    said_alike part new same None = (refl, same)
    said_alike part new same (Some len) = (refl, refl)

    payload_alike : (part : Part) (payload : List ℕ) (new : Place) → new.sent ≡ q.sent → (k : Kind)
        → Alike q (after_payload login part parts q new payload k) (after_payload login part parts (with_sent bytes q) (with_sent bytes new) payload k)
    payload_alike part payload new same kinds.Bad = (refl, refl)
    payload_alike part payload new same kinds.Failed =
        let packet = err_at (is_greeting (context_of q.talk).spot) payload in
        either q (is_drain part) _ _ _ _ (dropped_alike new same packet) (err_alike new same packet)
    payload_alike part payload new same (kinds.Greets n) = said_alike part new same (above (limit_of q.talk) (says login (secret_in q.talk) (kinds.Greets n) payload))
    payload_alike part payload new same (kinds.Asks n) = said_alike part new same (above (limit_of q.talk) (says login (secret_in q.talk) (kinds.Asks n) payload))
    payload_alike part payload new same (kinds.Prepared params columns) = cached_alike (prepare_ok_at payload) part new same
    payload_alike part payload new same k = kind_alike q new same parts part k (ToldRow (row_of (context_of q.talk).rows (facts_at login q).columns payload))

    front_alike : (part : Part) (x : Front) → Alike q (with_front login part parts q x) (with_front login part parts (with_sent bytes q) x)
    front_alike part Waiting = (refl, refl)
    front_alike part (Broken fault) = (refl, refl)
    front_alike part (Whole payload rest next) = payload_alike part payload (with_talk q (grow (kind_of q.talk payload) q.talk payload) rest) refl (kind_of q.talk payload)

    reads_alike : (part : Part) → Alike q (reads login part parts q) (reads login part parts (with_sent bytes q))
    reads_alike part = front_alike part (front_of q.talk q.unread)

    found_alike : (text : List ℕ) (x : Option Held) → Alike q (found parts q text x) (found parts (with_sent bytes q) text x)
    found_alike text None = (refl, refl)
    found_alike text (Some h) = (refl, refl)

    checked_alike : (x : Values) → Alike q (checked parts q x) (checked parts (with_sent bytes q) x)
    checked_alike (Fitting values) = (refl, refl)
    checked_alike (Unfitting e) = (refl, refl)

    offered_alike : (b : Bool) → Alike q (offered parts q b) (offered parts (with_sent bytes q) b)
    offered_alike true = (refl, refl)
    offered_alike false = (refl, refl)

    learned_alike : (b : Bool) (st : Statements) → Alike q (Goes parts (cond b (with_statements st q) q)) (Goes parts (cond b (with_statements st (with_sent bytes q)) (with_sent bytes q)))
    learned_alike true st = (refl, refl)
    learned_alike false st = (refl, refl)

    undone_alike : (call : Call) (b : Bool) → Alike q (undone login call parts q b) (undone login call parts (with_sent bytes q) b)
    undone_alike call true = command_alike q q refl parts call (Some (queried (terms_of login (exchanges q)) rollback_text))
    undone_alike call false = (refl, refl)

    unless_alike : (x : Option DriverError) → Alike q (unless_refused parts q x) (unless_refused parts (with_sent bytes q) x)
    unless_alike None = (refl, refl)
    unless_alike (Some e) = (refl, refl)

    returned_alike : (x : Trial) → Alike q (returned q x) (returned (with_sent bytes q) x)
    returned_alike trials.Off = (refl, refl)
    returned_alike trials.On = (refl, refl)
    returned_alike (trials.Refused first) = (refl, refl)

  part_alike : (login : Login) (call : Call) (parts : List Part) (q : Place) → Alike q (step_of login call parts q) (step_of login call parts (with_sent bytes q))
  part_alike login call [] q = (refl, refl)
  part_alike login call (Command ∷ parts) q = command_alike q q refl parts call (next_exchange login call q)
  part_alike login call (All ∷ parts) q = either q q.end_left _ _ _ _ (refl, refl) (either q (is_over q.talk) _ _ _ _ (refl, refl) (reads_alike login q parts All))
  part_alike login call (Head ∷ parts) q = either q (is_rows (context_of q.talk).spot) _ _ _ _ (refl, refl) (reads_alike login q parts Head)
  part_alike login call (Item ∷ parts) q = either q q.end_left _ _ _ _ (refl, refl) (either q (is_over q.talk) _ _ _ _ (refl, refl) (reads_alike login q parts Item))
  part_alike login call (Set ∷ parts) q =
      either q (q.end_left || is_rows (context_of q.talk).spot) _ _ _ _ (refl, refl) (either q (is_over q.talk) _ _ _ _ (refl, refl) (reads_alike login q parts Set))
  part_alike login call (Rest ∷ parts) q = either q q.end_left _ _ _ _ (refl, refl) (either q (is_rows (context_of q.talk).spot) _ _ _ _ (reads_alike login q parts Rest) (refl, refl))
  part_alike login call (Find ∷ parts) q = either q (is_mixed_text (text_in call)) _ _ _ _ (refl, refl) (found_alike login q parts (text_in call) (held_in q.statements (query_of (text_in call))))
  part_alike login call (Check params ∷ parts) q = checked_alike login q parts (values_for (statement_in call) params)
  part_alike login call (Run params ∷ parts) q = command_alike q q refl parts call (executed login call q params)
  part_alike login call (Reply ∷ parts) q = either q (is_over q.talk) _ _ _ _ (refl, refl) (reads_alike login q parts Reply)
  part_alike login call (Keep ∷ parts) q =
      let f = facts_at login q in
      command_alike q (with_statements (with_prepared (query_of (text_in call)) (prepared_by f) f.reply.fields q.statements) q) refl parts (Prepare (text_in call))
      (closing_of (terms_of login (exchanges q)) (leaving (query_of (text_in call)) (prepared_by f) q.statements))
  part_alike login call (Learn ∷ parts) q = learned_alike login q parts (is_rows (context_of q.talk).spot) (with_columns (id_in call) (facts_at login q).columns q.statements)
  part_alike login call (Offered ∷ parts) q = offered_alike login q parts (can_reset (version_of (facts_at login q).version))
  part_alike login call (Text text ∷ parts) q = command_alike q q refl parts call (Some (queried (terms_of login (exchanges q)) text))
  part_alike login call (Renew ∷ parts) q = command_alike q q refl parts call (Some (renewing login call q (facts_at login q)))
  part_alike login call (Drain ∷ parts) q = either q q.end_left _ _ _ _ (refl, refl) (either q (is_over q.talk) _ _ _ _ (refl, refl) (reads_alike login q parts Drain))
  part_alike login call (Undo ∷ parts) q = undone_alike login q parts call (is_given_up q.status)
  part_alike login call (Refuse opts ∷ parts) q = unless_alike login q parts (begin_refusal opts (version_of (facts_at login q).version) q.status)
  part_alike login call (Back ∷ parts) q = either q (is_over q.talk) _ _ _ _ (returned_alike login q parts q.trial) (reads_alike login q parts Back)
  part_alike login call (part ∷ parts) q = (refl, refl)

  -- what was sent whole stays so
  none_of_none : (k : ℕ) → drop {A = ℕ} k [] ≡ []
  none_of_none zero = refl
  none_of_none (suc k) = refl

  drop_longer : (m n : ℕ) (xs : List ℕ) → m ≤ n → drop m xs ≡ [] → drop n xs ≡ []
  drop_longer m n [] h e = none_of_none n
  drop_longer zero n (x ∷ xs) h e = absurd cc
  drop_longer (suc m) zero (x ∷ xs) h e = absurd (omega (arith, h))
  drop_longer (suc m) (suc n) (x ∷ xs) h e = drop_longer m n xs (omega (arith, h)) e

  module _ (login : Login) (call : Call) where
    -- a step that continues does the same once other bytes were sent, which are no fewer
    pub record Resent (parts : List Part) (q : Place) (more : List Part) (m : Place) : Type 0 where
      pub goes : step login call parts (with_sent bytes q) ≡ Goes more (with_sent bytes m)
      pub sent_is : m.sent ≡ q.sent

    resent : (parts : List Part) (q : Place) (more : List Part) (m : Place) → length q.sent ≤ length bytes → step login call parts q ≡ Goes more m → Resent parts q more m
    unfolding step
    resent parts q more m h e = by_owed (owed q) refl e
      where
        by_step : (x : Step) → step_of login call parts q ≡ x → x ≡ Goes more m → drop (length bytes) (client_side (exchanges q)) ≡ [] → Resent parts q more m
        by_step x is goes none =
            let a : Alike q (Goes more m) (step_of login call parts (with_sent bytes q)) = subst (λ y. Alike q y (step_of login call parts (with_sent bytes q))) (is ∙ goes) (part_alike login call parts q) in
            record { goes = ap (λ os. unless_owed os (with_sent bytes q) (step_of login call parts (with_sent bytes q))) none ∙ a.0; sent_is = a.1 }

        by_owed : (x : List ℕ) → owed q ≡ x → unless_owed x q (step_of login call parts q) ≡ Goes more m → Resent parts q more m
        by_owed [] is goes = by_step (step_of login call parts q) refl goes (drop_longer (length q.sent) (length bytes) (client_side (exchanges q)) h is)
        by_owed (b ∷ bs) is goes = absurd cc

    pub record ResentLeads (parts : List Part) (q : Place) (more : List Part) (m : Place) : Type 0 where
      pub leads : Leads login call parts (with_sent bytes q) more (with_sent bytes m)
      pub sent_is : m.sent ≡ q.sent

    pub resent_leads : (parts : List Part) (q : Place) (more : List Part) (m : Place) → length q.sent ≤ length bytes → Leads login call parts q more m → ResentLeads parts q more m
    resent_leads parts q more m h (Here a b) = record { leads = Here parts (with_sent bytes q); sent_is = refl }
    resent_leads parts q more m h (Then a b next n d f one rest) =
        let here = resent parts q next n h one in
        let there = resent_leads next n more m (omega (arith, h, ap length here.sent_is)) rest in
        record {
          leads = Then parts (with_sent bytes q) next (with_sent bytes n) more (with_sent bytes m) here.goes there.leads;
          sent_is = there.sent_is ∙ here.sent_is;
        }

    -- a step that stops
    pub record ResentStops (parts : List Part) (q end : Place) (s : Stop) : Type 0 where
      pub stops : step login call parts (with_sent bytes q) ≡ Stops (with_sent bytes end) s
      pub sent_is : end.sent ≡ q.sent

    -- where bytes are owed, it stops there, and in both cases if as many were sent
    pub record OwesThere (parts : List Part) (q end : Place) : Type 0 where
      pub there : end ≡ q
      pub owes : length bytes ≡ length q.sent → step login call parts (with_sent bytes q) ≡ Stops (with_sent bytes q) Owes
      pub some : owed q ≡ [] → ⊥

    abbrev StopsSo : List Part → Place → Place → Stop → Type 0
    StopsSo parts q end Owes = OwesThere parts q end
    StopsSo parts q end Awaits = ResentStops parts q end Awaits
    StopsSo parts q end (Returns t) = ResentStops parts q end (Returns t)

    pub stops_so : (parts : List Part) (q end : Place) (s : Stop) → length q.sent ≤ length bytes → step login call parts q ≡ Stops end s → StopsSo parts q end s
    unfolding step
    stops_so parts q end s h e = by_owed (owed q) refl e
      where
        free : (s : Stop) → Alike q (Stops end s) (step_of login call parts (with_sent bytes q)) → drop (length bytes) (client_side (exchanges q)) ≡ [] → StopsSo parts q end s
        free Owes a none = absurd a
        free Awaits a none = record { stops = ap (λ os. unless_owed os (with_sent bytes q) (step_of login call parts (with_sent bytes q))) none ∙ a.0; sent_is = a.1 }
        free (Returns t) a none = record { stops = ap (λ os. unless_owed os (with_sent bytes q) (step_of login call parts (with_sent bytes q))) none ∙ a.0; sent_is = a.1 }

        stuck : (b : ℕ) (bs : List ℕ) (s : Stop) → owed q ≡ b ∷ bs → end ≡ q → s ≡ Owes → StopsSo parts q end s
        stuck b bs s is same owes = subst (StopsSo parts q end) (sym owes) (record {
          there = same;
          owes = λ l. ap (λ os. unless_owed os (with_sent bytes q) (step_of login call parts (with_sent bytes q))) (ap (λ n. drop n (client_side (exchanges q))) l ∙ is);
          some = λ none. let no : b ∷ bs ≡ [] = sym is ∙ none in cc;
        })

        by_owed : (x : List ℕ) → owed q ≡ x → unless_owed x q (step_of login call parts q) ≡ Stops end s → StopsSo parts q end s
        by_owed [] is stops =
            free s (subst (λ y. Alike q y (step_of login call parts (with_sent bytes q))) stops (part_alike login call parts q)) (drop_longer (length q.sent) (length bytes) (client_side (exchanges q)) h is)
        by_owed (b ∷ bs) is stops =
            let here : Stops q Owes ≡ Stops end s = stops in
            let there : end ≡ q = cc in
            let owes : s ≡ Owes = cc in
            stuck b bs s is there owes
