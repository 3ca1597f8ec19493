-- Steps that go on stay when more bytes are sent or received.
use Rattle.std.proofs.Common.{◌≡◌, ℕ, suc, zero, List, [], ◌∷◌, ◌++◌, length, drop, nat_lt, Option, Some, None, Bool, true, false, ◌||◌, cond, refl, ap, ◌∙◌}
use Rattle.my_frame.specs.Front.{Front, Waiting, Broken, Whole}
use Rattle.my_frame.specs.FrontLaws.{FrontGrows}
use Rattle.my_frame.proofs.Growing.{front_grows}
use Rattle.my_reply.specs.declared.err.ErrPacket.{ErrPacket}
use Rattle.my_reply.specs.ErrPacket.{err_at}
use Rattle.my_grammar.specs.declared.login.Login.{Login}
use Rattle.my_grammar.specs.declared.spot.Kind.{Kind}
use Rattle.my_grammar.specs.declared.spot.Kind.TheVariants as kinds
use Rattle.my_grammar.specs.Cut.{front_of, kind_of, is_over}
use Rattle.my_grammar.specs.Growth.{grow}
use Rattle.my_grammar.specs.Talk.{Talk, commands_in, context_of, limit_of, turns, number_of, says, secret_in}
use Rattle.my_reading.specs.declared.call.Call.{Call}
use Rattle.my_reading.specs.declared.error.DriverError.{DriverError}
use Rattle.my_reading.specs.declared.transaction.Trial.{Trial}
use Rattle.my_reading.specs.declared.transaction.Trial.TheVariants as trials
use Rattle.my_reading.specs.declared.call.Call.TheVariants.{Prepare}
use Rattle.my_reading.specs.Calls.{statement_in, text_in}
use Rattle.my_reading.specs.Course.{Part, All, Head, Item, Set, Rest, Command, Find, Check, Run, Reply, Keep, Give, Learn, Forget, Offered, Clear, Text, Flag, Adopt, Renew, Drain, Undo, Undone, Refuse, Settle, GiveUp, Try, Back, Step, Goes, Stops, return, step, step_of, unless_owed, with_front, reads, after_payload, after_kind, after_err, dropped_at, failed_at, is_drain, unless_cached, above, unless_long, unless_long_said, with_command, first_above, found, checked, executed, closing_of, learned, offered, undone, renewing, unless_refused, refused_at, returned, is_greeting, is_rows}
use Rattle.my_handshake.specs.Version.{version_of}
use Rattle.my_reading.specs.Commands.{queried}
use Rattle.my_reading.specs.Executions.{Values, Fitting, Unfitting, values_for}
use Rattle.my_reading.specs.Facts.{prepared_by}
use Rattle.my_reading.specs.Leads.{Here, Then, StepStays, LeadingStays}
use Rattle.my_reading.specs.Place.{Place, with_bytes, owed, client_side, exchanges, with_statements, with_talk, next_exchange, facts_at, terms_of}
use Rattle.my_reading.specs.Statements.{held_in, is_cached, is_mixed_text, leaving, query_of, with_prepared}
use Rattle.my_reply.specs.declared.replies.PrepareOk.{PrepareOk}
use Rattle.my_reply.specs.Replies.{prepare_ok_at}
use Rattle.my_statements.specs.Cache.{Held}
use Rattle.my_reading.specs.Rows.{row_of}
use Rattle.my_reading.specs.Errors.{server_error}
use Rattle.my_reading.specs.Told.{Told, ToldRow}
use Rattle.my_reading.specs.Transactions.{begin_refusal, is_given_up, rollback_text}
use Rattle.my_reading.specs.Versions.{can_reset}

-- the same step, with more bytes
lift : List ℕ → List ℕ → Step → Step
lift sent taken (Goes parts p) = Goes parts (with_bytes sent taken p)
lift sent taken (Stops p s) = Stops (with_bytes sent taken p) s

drop_of_none : (k : ℕ) → drop {A = ℕ} k [] ≡ []
drop_of_none zero = refl
drop_of_none (suc k) = refl

-- what was sent whole stays so
drop_more : (xs ys zs : List ℕ) → drop (length xs) zs ≡ [] → drop (length (xs ++ ys)) zs ≡ []
drop_more [] ys [] e = drop_of_none (length ys)
drop_more [] ys (z ∷ zs) e = cc
drop_more (x ∷ xs) ys [] e = refl
drop_more (x ∷ xs) ys (z ∷ zs) e = drop_more xs ys zs e

if_true : (b : Bool) (x y : Step) → b ≡ true → cond b x y ≡ x
if_true true x y e = refl
if_true false x y e = cc

if_false : (b : Bool) (x y : Step) → b ≡ false → cond b x y ≡ y
if_false false x y e = refl
if_false true x y e = cc

module _ (login : Login) (sent taken : List ℕ) where
  abbrev more : Place → Place
  more p = with_bytes sent taken p

  kind_more : (part : Part) (parts : List Part) (k : Kind) (new : Place) (row : Told)
      → after_kind part parts k (more new) row ≡ lift sent taken (after_kind part parts k new row)
  unfolding lift
  kind_more All parts k new row = refl
  kind_more Command parts k new row = refl
  kind_more Rest parts k new row = refl
  kind_more Find parts k new row = refl
  kind_more (Check params) parts k new row = refl
  kind_more (Run params) parts k new row = refl
  kind_more Reply parts k new row = refl
  kind_more Keep parts k new row = refl
  kind_more Give parts k new row = refl
  kind_more Learn parts k new row = refl
  kind_more Forget parts k new row = refl
  kind_more Offered parts k new row = refl
  kind_more Clear parts k new row = refl
  kind_more (Text text) parts k new row = refl
  kind_more (Flag flag) parts k new row = refl
  kind_more (Adopt change) parts k new row = refl
  kind_more Renew parts k new row = refl
  kind_more Drain parts k new row = refl
  kind_more Undo parts k new row = refl
  kind_more Undone parts k new row = refl
  kind_more (Refuse opts) parts k new row = refl
  kind_more (Settle status) parts k new row = refl
  kind_more GiveUp parts k new row = refl
  kind_more Try parts k new row = refl
  kind_more Back parts k new row = refl
  kind_more Head parts (kinds.Good status) new row = refl
  kind_more Head parts (kinds.Greets n) new row = refl
  kind_more Head parts (kinds.Asks n) new row = refl
  kind_more Head parts kinds.Failed new row = refl
  kind_more Head parts (kinds.Count n) new row = refl
  kind_more Head parts kinds.Column new row = refl
  kind_more Head parts kinds.ColumnsDone new row = refl
  kind_more Head parts kinds.Row new row = refl
  kind_more Head parts (kinds.End status) new row = refl
  kind_more Head parts (kinds.Prepared params columns) new row = refl
  kind_more Head parts kinds.Parameter new row = refl
  kind_more Head parts kinds.Field new row = refl
  kind_more Head parts kinds.Bad new row = refl
  kind_more Item parts (kinds.Good status) new row = refl
  kind_more Item parts (kinds.Greets n) new row = refl
  kind_more Item parts (kinds.Asks n) new row = refl
  kind_more Item parts kinds.Failed new row = refl
  kind_more Item parts (kinds.Count n) new row = refl
  kind_more Item parts kinds.Column new row = refl
  kind_more Item parts kinds.ColumnsDone new row = refl
  kind_more Item parts kinds.Row new row = refl
  kind_more Item parts (kinds.End status) new row = refl
  kind_more Item parts (kinds.Prepared params columns) new row = refl
  kind_more Item parts kinds.Parameter new row = refl
  kind_more Item parts kinds.Field new row = refl
  kind_more Item parts kinds.Bad new row = refl
  kind_more Set parts (kinds.Good status) new row = refl
  kind_more Set parts (kinds.Greets n) new row = refl
  kind_more Set parts (kinds.Asks n) new row = refl
  kind_more Set parts kinds.Failed new row = refl
  kind_more Set parts (kinds.Count n) new row = refl
  kind_more Set parts kinds.Column new row = refl
  kind_more Set parts kinds.ColumnsDone new row = refl
  kind_more Set parts kinds.Row new row = refl
  kind_more Set parts (kinds.End status) new row = refl
  kind_more Set parts (kinds.Prepared params columns) new row = refl
  kind_more Set parts kinds.Parameter new row = refl
  kind_more Set parts kinds.Field new row = refl
  kind_more Set parts kinds.Bad new row = refl

  module _ (part : Part) (parts : List Part) (p : Place) where
    abbrev row : List ℕ → Told
    row payload = ToldRow (row_of (context_of p.talk).rows (facts_at login p).columns payload)

    err_more : (new : Place) (x : Option ErrPacket)
        → after_err login (more p) (more new) x ≡ lift sent taken (after_err login p new x)
    unfolding lift
    err_more new None = refl
    err_more new (Some e) = by_trial p.trial
      where
        by_trial : (x : Trial) → refused_at x (more new) (server_error e) ≡ lift sent taken (refused_at x new (server_error e))
        by_trial trials.Off = refl
        by_trial trials.On = refl
        by_trial (trials.Refused first) = refl

    dropped_more : (new : Place) (x : Option ErrPacket)
        → dropped_at login parts (more p) (more new) x ≡ lift sent taken (dropped_at login parts p new x)
    unfolding lift
    dropped_more new None = refl
    dropped_more new (Some e) = refl

    failed_more : (new : Place) (x : Option ErrPacket)
        → failed_at login part parts (more p) (more new) x ≡ lift sent taken (failed_at login part parts p new x)
    failed_more new x = by_drain (is_drain part)
      where
        by_drain : (b : Bool)
            → cond b (dropped_at login parts (more p) (more new) x) (after_err login (more p) (more new) x)
            ≡ lift sent taken (cond b (dropped_at login parts p new x) (after_err login p new x))
        by_drain true = dropped_more new x
        by_drain false = err_more new x

    long_more : (new : Place) (o : Option ℕ)
        → unless_long (more p) (limit_of p.talk) o (Goes (part ∷ parts) (more new))
        ≡ lift sent taken (unless_long p (limit_of p.talk) o (Goes (part ∷ parts) new))
    unfolding lift
    long_more new None = refl
    long_more new (Some len) = refl

    said_more : (new : Place) (k : Kind) (payload : List ℕ)
        → unless_long_said login (more p) k payload (Goes (part ∷ parts) (more new))
        ≡ lift sent taken (unless_long_said login p k payload (Goes (part ∷ parts) new))
    said_more new k payload = long_more new (above (limit_of p.talk) (says login (secret_in p.talk) k payload))

    cached_more : (new : Place) (x : Option PrepareOk)
        → unless_cached login (more p) x (Goes (part ∷ parts) (more new))
        ≡ lift sent taken (unless_cached login p x (Goes (part ∷ parts) new))
    unfolding lift
    cached_more new None = refl
    cached_more new (Some ok) = by_id (is_cached p.statements ok.id) refl
      where
        by_id : (b : Bool) → is_cached p.statements ok.id ≡ b
            → unless_cached login (more p) (Some ok) (Goes (part ∷ parts) (more new))
            ≡ lift sent taken (unless_cached login p (Some ok) (Goes (part ∷ parts) new))
        by_id true e = rw e refl
        by_id false e = rw e refl

    payload_more : (new : Place) (payload : List ℕ) (k : Kind)
        → after_payload login part parts (more p) (more new) payload k
        ≡ lift sent taken (after_payload login part parts p new payload k)
    unfolding lift
    payload_more new payload kinds.Bad = refl
    payload_more new payload kinds.Failed = failed_more new (err_at (is_greeting (context_of p.talk).spot) payload)
    payload_more new payload (kinds.Greets n) = said_more new (kinds.Greets n) payload
    payload_more new payload (kinds.Asks n) = said_more new (kinds.Asks n) payload
    payload_more new payload (kinds.Good status) = kind_more part parts (kinds.Good status) new (row payload)
    payload_more new payload (kinds.Count n) = kind_more part parts (kinds.Count n) new (row payload)
    payload_more new payload kinds.Column = kind_more part parts kinds.Column new (row payload)
    payload_more new payload kinds.ColumnsDone = kind_more part parts kinds.ColumnsDone new (row payload)
    payload_more new payload kinds.Row = kind_more part parts kinds.Row new (row payload)
    payload_more new payload (kinds.End status) = kind_more part parts (kinds.End status) new (row payload)
    payload_more new payload (kinds.Prepared params columns) = cached_more new (prepare_ok_at payload)
    payload_more new payload kinds.Parameter = kind_more part parts kinds.Parameter new (row payload)
    payload_more new payload kinds.Field = kind_more part parts kinds.Field new (row payload)

    front_more : (rest : List Part) (q : Place) (x : Front) → FrontGrows taken x (front_of p.talk (p.unread ++ taken))
        → with_front login part parts p x ≡ Goes rest q → reads login part parts (more p) ≡ Goes rest (more q)
    unfolding lift
    front_more rest q Waiting g e = cc
    front_more rest q (Broken fault) g e = cc
    front_more rest q (Whole payload left next) g e =
        ap (with_front login part parts (more p)) g
        ∙ payload_more (with_talk p (grow (kind_of p.talk payload) p.talk payload) left) payload (kind_of p.talk payload)
        ∙ ap (lift sent taken) e

    reads_more : (rest : List Part) (q : Place) → reads login part parts p ≡ Goes rest q
        → reads login part parts (more p) ≡ Goes rest (more q)
    reads_more rest q e = front_more rest q (front_of p.talk p.unread) (front_grows (number_of (turns p.talk)) (limit_of p.talk) p.unread taken) e

  command_more : (call : Call) (parts : List Part) (p : Place) (x : Option Talk)
      → with_command call parts (more p) x ≡ lift sent taken (with_command call parts p x)
  unfolding lift
  command_more call parts p None = refl
  command_more call parts p (Some t) = by_length (first_above (limit_of t) (commands_in t)) refl
    where
      by_length : (x : Option ℕ) → first_above (limit_of t) (commands_in t) ≡ x
          → with_command call parts (more p) (Some t) ≡ lift sent taken (with_command call parts p (Some t))
      by_length None e = rw e refl
      by_length (Some len) e = rw e refl

  found_more : (parts : List Part) (p : Place) (text : List ℕ) (x : Option Held)
      → found parts (more p) text x ≡ lift sent taken (found parts p text x)
  unfolding lift
  found_more parts p text None = refl
  found_more parts p text (Some h) = refl

  checked_more : (parts : List Part) (p : Place) (x : Values) → checked parts (more p) x ≡ lift sent taken (checked parts p x)
  unfolding lift
  checked_more parts p (Fitting values) = refl
  checked_more parts p (Unfitting e) = refl

  offered_more : (parts : List Part) (p : Place) (b : Bool) → offered parts (more p) b ≡ lift sent taken (offered parts p b)
  unfolding lift
  offered_more parts p true = refl
  offered_more parts p false = refl

  undone_more : (call : Call) (parts : List Part) (p : Place) (b : Bool)
      → undone login call parts (more p) b ≡ lift sent taken (undone login call parts p b)
  unfolding lift
  undone_more call parts p true = command_more call parts p (Some (queried (terms_of login (exchanges p)) rollback_text))
  undone_more call parts p false = refl

  refused_more : (parts : List Part) (p : Place) (x : Option DriverError)
      → unless_refused parts (more p) x ≡ lift sent taken (unless_refused parts p x)
  unfolding lift
  refused_more parts p None = refl
  refused_more parts p (Some e) = refl

  learned_more : (call : Call) (p : Place) → learned call (more p) (facts_at login (more p)) ≡ more (learned call p (facts_at login p))
  learned_more call p = by_rows (is_rows (context_of p.talk).spot) refl
    where
      by_rows : (b : Bool) → is_rows (context_of p.talk).spot ≡ b
          → learned call (more p) (facts_at login (more p)) ≡ more (learned call p (facts_at login p))
      by_rows true e = rw e refl
      by_rows false e = rw e refl

  module _ (call : Call) (p : Place) (rest : List Part) (q : Place) where
    -- one of two steps, by a test that more bytes leave as it is
    either_more : (b : Bool) (x y x' y' : Step) → (x ≡ Goes rest q → x' ≡ Goes rest (more q))
        → (y ≡ Goes rest q → y' ≡ Goes rest (more q)) → cond b x y ≡ Goes rest q → cond b x' y' ≡ Goes rest (more q)
    either_more true x y x' y' f g e = f e
    either_more false x y x' y' f g e = g e

    no_stop : (r : Place) (t : Told) {x : Step} → return r t ≡ Goes rest q → x ≡ Goes rest (more q)
    no_stop r t f = cc

    returned_more : (x : Trial) {y : Step} → returned p x ≡ Goes rest q → y ≡ Goes rest (more q)
    returned_more trials.Off f = cc
    returned_more trials.On f = cc
    returned_more (trials.Refused first) f = cc

    part_more : (parts : List Part) → step_of login call parts p ≡ Goes rest q → step_of login call parts (more p) ≡ Goes rest (more q)
    unfolding lift
    part_more [] e = cc
    part_more (Command ∷ parts) e = command_more call parts p (next_exchange login call p) ∙ ap (lift sent taken) e
    part_more (All ∷ parts) e =
        either_more p.end_left _ _ _ _ (λ f. ap (lift sent taken) f)
        (either_more (is_over p.talk) _ _ _ _ (λ f. ap (lift sent taken) f) (reads_more All parts p rest q)) e
    part_more (Head ∷ parts) e =
        either_more (is_rows (context_of p.talk).spot) _ _ _ _ (λ f. ap (lift sent taken) f) (reads_more Head parts p rest q) e
    part_more (Item ∷ parts) e =
        either_more p.end_left _ _ _ _ (λ f. no_stop _ _ f)
        (either_more (is_over p.talk) _ _ _ _ (λ f. no_stop _ _ f) (reads_more Item parts p rest q)) e
    part_more (Set ∷ parts) e =
        either_more (p.end_left || is_rows (context_of p.talk).spot) _ _ _ _ (λ f. no_stop _ _ f)
        (either_more (is_over p.talk) _ _ _ _ (λ f. no_stop _ _ f) (reads_more Set parts p rest q)) e
    part_more (Rest ∷ parts) e =
        either_more p.end_left _ _ _ _ (λ f. ap (lift sent taken) f)
        (either_more (is_rows (context_of p.talk).spot) _ _ _ _ (reads_more Rest parts p rest q) (λ f. ap (lift sent taken) f)) e
    part_more (Find ∷ parts) e =
        either_more (is_mixed_text (text_in call)) _ _ _ _ (λ f. no_stop _ _ f)
        (λ f. found_more parts p (text_in call) (held_in p.statements (query_of (text_in call))) ∙ ap (lift sent taken) f) e
    part_more (Check params ∷ parts) e = checked_more parts p (values_for (statement_in call) params) ∙ ap (lift sent taken) e
    part_more (Run params ∷ parts) e = command_more call parts p (executed login call p params) ∙ ap (lift sent taken) e
    part_more (Reply ∷ parts) e =
        either_more (is_over p.talk) _ _ _ _ (λ f. ap (lift sent taken) f) (reads_more Reply parts p rest q) e
    part_more (Keep ∷ parts) e =
        let f = facts_at login p in
        command_more (Prepare (text_in call)) parts (with_statements (with_prepared (query_of (text_in call)) (prepared_by f) f.reply.fields p.statements) p)
        (closing_of (terms_of login (exchanges p)) (leaving (query_of (text_in call)) (prepared_by f) p.statements))
        ∙ ap (lift sent taken) e
    part_more (Give ∷ parts) e = cc
    part_more (Learn ∷ parts) e = ap (Goes parts) (learned_more call p) ∙ ap (lift sent taken) e
    part_more (Forget ∷ parts) e = ap (lift sent taken) e
    part_more (Offered ∷ parts) e = offered_more parts p (can_reset (version_of (facts_at login p).version)) ∙ ap (lift sent taken) e
    part_more (Clear ∷ parts) e = ap (lift sent taken) e
    part_more (Text text ∷ parts) e = command_more call parts p (Some (queried (terms_of login (exchanges p)) text)) ∙ ap (lift sent taken) e
    part_more (Flag flag ∷ parts) e = cc
    part_more (Adopt change ∷ parts) e = ap (lift sent taken) e
    part_more (Renew ∷ parts) e = command_more call parts p (Some (renewing login call p (facts_at login p))) ∙ ap (lift sent taken) e
    part_more (Drain ∷ parts) e =
        either_more p.end_left _ _ _ _ (λ f. ap (lift sent taken) f)
        (either_more (is_over p.talk) _ _ _ _ (λ f. ap (lift sent taken) f) (reads_more Drain parts p rest q)) e
    part_more (Undo ∷ parts) e = undone_more call parts p (is_given_up p.status) ∙ ap (lift sent taken) e
    part_more (Undone ∷ parts) e = ap (lift sent taken) e
    part_more (Refuse opts ∷ parts) e =
        refused_more parts p (begin_refusal opts (version_of (facts_at login p).version) p.status) ∙ ap (lift sent taken) e
    part_more (Settle status ∷ parts) e = ap (lift sent taken) e
    part_more (GiveUp ∷ parts) e = ap (lift sent taken) e
    part_more (Try ∷ parts) e = ap (lift sent taken) e
    part_more (Back ∷ parts) e =
        either_more (is_over p.talk) _ _ _ _ (λ f. returned_more p.trial f) (reads_more Back parts p rest q) e

pub step_stays : StepStays
unfolding step
step_stays login call parts p sent taken rest q e = by_owed (owed p) refl e
  where
    by_owed : (x : List ℕ) → owed p ≡ x → unless_owed x p (step_of login call parts p) ≡ Goes rest q
        → unless_owed (owed (with_bytes sent taken p)) (with_bytes sent taken p) (step_of login call parts (with_bytes sent taken p))
        ≡ Goes rest (with_bytes sent taken q)
    by_owed (b ∷ bytes) o e = cc
    by_owed [] o e =
        ap (λ x. unless_owed x (with_bytes sent taken p) (step_of login call parts (with_bytes sent taken p)))
        (drop_more p.sent sent (client_side (exchanges p)) o)
        ∙ part_more login sent taken call p rest q parts e

pub leading_stays : LeadingStays
leading_stays login call parts p rest q sent taken (Here a b) = Here a (with_bytes sent taken b)
leading_stays login call parts p rest r sent taken (Then a b more q c d one l) =
    Then a (with_bytes sent taken b) more (with_bytes sent taken q) c (with_bytes sent taken d)
    (step_stays login call a b sent taken more q one) (leading_stays login call more q c d sent taken l)
