-- Each step of a call that doesn't connect begins exchanges by the command table, and they are its own.
use Rattle.std.proofs.Common.{◌≡◌, ◌⊎◌, inl, inr, ℕ, suc, zero, length, List, [], ◌∷◌, Bool, true, false, cond, not, ◌||◌, Option, Some, None, is_some, slice_get, refl, sym, ap, ◌∙◌, subst}
use Rattle.my_grammar.proofs.Growth.{grows}
use Rattle.my_grammar.specs.declared.login.Login.{Login}
use Rattle.my_grammar.specs.declared.spot.Kind.{Kind}
use Rattle.my_grammar.specs.declared.spot.Kind.TheVariants as kinds
use Rattle.my_grammar.specs.declared.spot.Terms.{Terms}
use Rattle.my_grammar.specs.Cut.{is_over}
use Rattle.my_grammar.specs.Growth.{grow, is_calm}
use Rattle.my_grammar.specs.Talk.{Talk, Fits, context_of, packets_of}
use Rattle.my_handshake.specs.Version.{version_of}
use Rattle.my_params.specs.declared.params.Params.{Params}
use Rattle.my_reply.specs.declared.err.ErrPacket.{ErrPacket}
use Rattle.my_value.specs.declared.value.Value.{Value}
use Rattle.my_reading.specs.declared.call.Call.{Call}
use Rattle.my_reading.specs.declared.call.Call.TheVariants as calls
use Rattle.my_reading.specs.declared.call.CallKind.TheVariants as callkinds
use Rattle.my_reading.specs.declared.error.DriverError.{DriverError}
use Rattle.my_reading.specs.declared.error.Error.TheVariants.{Server}
use Rattle.my_reading.specs.declared.transaction.Trial.{Trial}
use Rattle.my_reading.specs.declared.transaction.Trial.TheVariants as trials
use Rattle.my_reading.specs.declared.transaction.TxStatus.{TxStatus}
use Rattle.my_reading.specs.Calls.{asks, id_in, is_connect, kind_of, lists_in, statement_in, text_in}
use Rattle.my_reading.specs.Commands.{arranging_texts, closing, execution, opening, queried, renewal, renews_by_reset}
use Rattle.my_reading.specs.Course.{Part, All, Head, Item, Set, Rest, Command, Find, Check, Run, Reply, Keep, Give, Learn, Offered, Text, Flag, Renew, Drain, Undo, Undone, Refuse, Settle, GiveUp, Try, Back, Step, Goes, Stops, Stop, Owes, Awaits, Returns, after_kind, checked, closing_of, executed, found, is_drain, is_rows, offered, reads, refused_at, renewing, returned, run, step, step_of, undone, unless_owed, unless_refused, with_command}
use Rattle.my_reading.specs.Errors.{server_error}
use Rattle.my_reading.specs.Executions.{Values, Fitting, Unfitting, values_for}
use Rattle.my_reading.specs.Facts.{facts_by, prepared_by}
use Rattle.my_reading.specs.Place.{Exchange, Place, connects_in, exchanges, facts_at, facts_of, next_exchange, owed, terms_of, with_exchange, with_statements, with_talk}
use Rattle.my_reading.specs.Statements.{Statements, held_in, is_mixed_text, leaving, query_of, with_columns, with_prepared}
use Rattle.my_reading.specs.Told.{Told, ToldReady, ToldEnd, ToldError}
use Rattle.my_reading.specs.Transactions.{begin_refusal, given_up, is_given_up, rollback_text, rolled_back}
use Rattle.my_reading.specs.Versions.{can_reset}
use Rattle.my_statements.specs.Cache.{Held as Cached}
use Rattle.history_laws.specs.Groups.{Made}
use Rattle.history_laws.specs.Ended.{was_made}
use Rattle.history_laws.specs.Owners.{IsTied, OwnsFirst, calls_in, may_lack, needs_own, owns_more}
use Rattle.history_laws.specs.Sent.{is_answered}
use Rattle.history_laws.specs.Settled.{Knows, is_known}
use Rattle.history_laws.specs.Table.{Follow, Opens, Opening, Closing, Running, Asking, Renewing, Undoing, queries_of, renews}
use Rattle.my_grammar.specs.declared.spot.Context.{Context}
use Rattle.my_reading.specs.Endings.{awaits_head}
use Rattle.history_laws.proofs.Awaiting.{not_calm_awaits}
use Rattle.history_laws.proofs.Calls.{pooled}
use Rattle.history_laws.proofs.Having.{Comes, begun_has, drains_have, either, reads_have, row_at}
use Rattle.history_laws.proofs.Heard.{idle_bad}
use Rattle.history_laws.proofs.Opening.{IsNew, closing_new, executed_new, opened_new, queried_new, renewing_new}
use Rattle.history_laws.proofs.Sending.{fresh, grown_paid}
use Rattle.history_laws.proofs.Setting.{known_on}
use Rattle.history_laws.proofs.Shaping.{IsShook, executed_shook, opened_shook, shook_on, renewing_shook}

-- What the parts that are left of a call need, while it has surely begun an exchange or may not have, and where a transaction stands so:
-- what begins an exchange is the call's, and a call that needs one has begun one where it returns.
abbrev pub Leads : Login → Call → Bool → TxStatus → List Part → Type 0
Leads login c own st [] = (own || not (needs_own c)) ≡ true
Leads login c own st (Set ∷ parts) = ((own || not (needs_own c)) ≡ true) × Leads login c own st parts
Leads login c own st (Command ∷ parts) = (asks (kind_of c) ≡ true) × ((terms : Terms) (known : Statements) (n : ℕ) → is_some (opening login terms known c n) ≡ true) × Leads login c true st parts
Leads login c own st (Check params ∷ parts) = (values : List Value) → values_for (statement_in c) params ≡ Fitting values → Leads login c own st parts
Leads login c own st (Run params ∷ parts) = (kind_of c ≡ callkinds.Batch) × ((place : ℕ) × (slice_get (lists_in c) place ≡ Some params)) × ((values : List Value) × (values_for (statement_in c) params ≡ Fitting values)) × Leads login c true st parts
Leads login c own st (Keep ∷ parts) = (calls.Prepare (text_in c) ≡ c) × Leads login c own st parts
Leads login c own st (Text text ∷ parts) = (asks (kind_of c) ≡ true) × ((place : ℕ) × (slice_get (queries_of login c) place ≡ Some text)) × Leads login c true st parts
Leads login c own st (Flag flag ∷ parts) = ((own || not flag) ≡ true) × Leads login c own st parts
Leads login c own st (Renew ∷ parts) = (asks (kind_of c) ≡ true) × (renews (kind_of c) ≡ true) × Leads login c true st parts
Leads login c own st (Undo ∷ parts) = (asks (kind_of c) ≡ true) × Leads login c (is_given_up st || own) st parts
Leads login c own st (Undone ∷ parts) = Leads login c own (rolled_back st) parts
Leads login c own st (Settle status ∷ parts) = Leads login c own status parts
Leads login c own st (GiveUp ∷ parts) = Leads login c own (given_up st) parts
Leads login c own st (Try ∷ parts) = (asks (kind_of c) ≡ true) × Leads login c own st parts
Leads login c own st (Back ∷ parts) = own ≡ true
Leads login c own st (part ∷ parts) = Leads login c own st parts

-- the newest exchange is the call's own, before those of calls that ended
abbrev pub Owned : Call → List Made → Call → List Exchange → Type 0
Owned c ms call older = OwnsFirst c (call ∷ calls_in older) (IsTied ms)

-- while a call that doesn't connect is open
pub record Held (login : Login) (c : Call) (ms : List Made) (own : Bool) (call : Call) (talk : Talk) (older : List Exchange) : Type 0 where
  pub table : Follow login (record { call = call; talk = talk } ∷ older)
  pub owns : own ≡ true → Owned c ms call older
  pub tied : Owned c ms call older ⊎ IsTied ms (call ∷ calls_in older)
  pub shook : IsShook talk
  pub arranged : was_made ms ≡ true → (connects_in (record { call = call; talk = talk } ∷ older) ≡ suc (length (arranging_texts login))) × (is_connect (kind_of call) ≡ true → (is_over talk ≡ true) × (is_answered talk ≡ true))
  pub known : Knows login ms (record { call = call; talk = talk } ∷ older)
  pub fits : Fits talk

abbrev pub HeldAt : Login → Call → List Made → Bool → Place → Type 0
HeldAt login c ms own p = Held login c ms own p.call p.talk p.older

abbrev pub is_off : Trial → Bool
is_off trials.Off = true
is_off _ = false

-- a call that sends no commands owes nothing, unless the head of a set is awaited, or an end of a chain
abbrev pub OwesNone : Call → Place → Type 0
OwesNone c p = asks (kind_of c) ≡ false → awaits_head (context_of p.talk).spot ≡ false → owed p ≡ []

-- only a call that sends commands has a trial, and owes bytes
abbrev Calm : Call → Place → Type 0
Calm c p = ((is_off p.trial || asks (kind_of c)) ≡ true) × OwesNone c p

abbrev pub Waits : Login → Call → List Made → Place → Type 0
Waits login c ms p = (own : Bool) × HeldAt login c ms own p × OwesNone c p

abbrev pub Stopped : Login → Call → List Made → Place → Stop → Type 0
Stopped login c ms p Owes = Waits login c ms p
Stopped login c ms p Awaits = Waits login c ms p
Stopped login c ms p (Returns t) = (own : Bool) × HeldAt login c ms own p × ((own || may_lack t c) ≡ true) × (owed p ≡ [])

abbrev pub IsFine : Login → Call → List Made → Step → Type 0
IsFine login c ms (Goes parts q) = (own : Bool) × HeldAt login c ms own q × Leads login c own q.status parts × Calm c q
IsFine login c ms (Stops q s) = Stopped login c ms q s

pub or_true : (b : Bool) → (b || true) ≡ true
or_true true = refl
or_true false = refl

asks_own : (c : Call) → asks (kind_of c) ≡ true → owns_more (kind_of c) ≡ true
asks_own c e = ap (λ b. b || is_connect (kind_of c)) e

module _ (login : Login) (c : Call) (ms : List Made) (other : is_connect (kind_of c) ≡ false) where
  -- a payload more
  held_on : (own : Bool) (p : Place) (k : Kind) (q rest : List ℕ) → Comes p k q → HeldAt login c ms own p → HeldAt login c ms own (with_talk p (grow k p.talk q) rest)
  held_on own p k q rest come w =
      let g = grows p.talk k q come.kind_is come.good come.short w.fits in
      let unread : is_over p.talk ≡ false = idle_bad (context_of p.talk).spot _ _ _ _ q k come.kind_is come.good in
      record {
        table = (subst (λ (t : Talk). Opens login (terms_of login p.older) p.call (connects_in p.older) t) (sym g.origin_is) w.table.0, w.table.1);
        owns = w.owns;
        tied = w.tied;
        shook = shook_on p.talk k q w.shook;
        arranged = λ made. ((w.arranged made).0, λ e. absurd (let over = ((w.arranged made).1 e).0 in cc));
        known = λ made. known_on (facts_of login p.older) (record { kind = k; payload = q }) (packets_of p.talk) (packets_of (grow k p.talk q)) g.packets_are (w.known made);
        fits = g.fits;
      }

  -- an exchange more, which is the call's
  held_more : (own : Bool) (p : Place) (t : Talk) → asks (kind_of c) ≡ true → Opens login (terms_of login (exchanges p)) c (connects_in (exchanges p)) t → IsNew t → IsShook t → HeldAt login c ms own p → HeldAt login c ms true (with_exchange p c t)
  held_more own p t sends opens new shook w =
      let owned : Owned c ms c (exchanges p) = (refl, by_tied w.tied) in
      record {
        table = (subst (λ (u : Talk). Opens login (terms_of login (exchanges p)) c (connects_in (exchanges p)) u) (sym new.origin_is) opens, w.table);
        owns = λ _. owned;
        tied = inl owned;
        shook = shook;
        arranged = λ made. (ap (λ b. cond b (suc (connects_in (exchanges p))) (connects_in (exchanges p))) other ∙ (w.arranged made).0, λ e. absurd (cc));
        known = λ made. ap (λ ps. is_known (facts_by ps (facts_of login (exchanges p))).settings.stage) (fresh t new.origin_is) ∙ w.known made;
        fits = new.fits;
      }
    where
      by_tied : Owned c ms p.call p.older ⊎ IsTied ms (p.call ∷ calls_in p.older) → IsTied ms (p.call ∷ calls_in p.older) ⊎ ((owns_more (kind_of c) ≡ true) × Owned c ms p.call p.older)
      by_tied (inl o) = inr (asks_own c sends, o)
      by_tied (inr t) = inl t

  looser : (own : Bool) (p : Place) → HeldAt login c ms true p → HeldAt login c ms own p
  looser own p w = record { table = w.table; owns = λ _. w.owns refl; tied = w.tied; shook = w.shook; arranged = w.arranged; known = w.known; fits = w.fits }

  module _ (p : Place) (own : Bool) (w : HeldAt login c ms own p) (calm : Calm c p) (paid : owed p ≡ []) where
    abbrev Fine : Step → Type 0
    Fine s = IsFine login c ms s

    waits : Fine (Stops p Awaits)
    waits = (own, w, λ _ _. paid)

    stays_paid : (k : Kind) (q rest : List ℕ) → Comes p k q → is_calm k ≡ true → owed (with_talk p (grow k p.talk q) rest) ≡ []
    stays_paid k q rest come quiet = grown_paid p k q rest (grows p.talk k q come.kind_is come.good come.short w.fits).origin_is quiet paid

    -- after a greeting or a request of a chain its end is awaited
    stays_calm : (k : Kind) (q rest : List ℕ) → Comes p k q → OwesNone c (with_talk p (grow k p.talk q) rest)
    stays_calm k q rest come = λ _ none. by_calm (is_calm k) refl none
      where
        by_calm : (b : Bool) → is_calm k ≡ b → awaits_head (context_of (grow k p.talk q)).spot ≡ false → owed (with_talk p (grow k p.talk q) rest) ≡ []
        by_calm true quiet none = stays_paid k q rest come quiet
        by_calm false loud none =
            let g = grows p.talk k q come.kind_is come.good come.short w.fits in
            absurd (not_calm_awaits k (context_of p.talk).spot _ _ _ _ q come.kind_is loud (sym (ap (λ (x : Context). awaits_head x.spot) g.context) ∙ none))

    after : (parts : List Part) (k : Kind) (q rest : List ℕ) → Comes p k q → Leads login c own p.status parts → Fine (Goes parts (with_talk p (grow k p.talk q) rest))
    after parts k q rest come l = (own, held_on own p k q rest come w, l, (calm.0, stays_calm k q rest come))

    gives : (k : Kind) (q rest : List ℕ) → Comes p k q → is_calm k ≡ true → (t : Told) → (own || may_lack t c) ≡ true → Fine (Stops (with_talk p (grow k p.talk q) rest) (Returns t))
    gives k q rest come quiet t may = (own, held_on own p k q rest come w, may, stays_paid k q rest come quiet)

    errs : (q rest : List ℕ) → Comes p kinds.Failed q → (e : ErrPacket) → Fine (refused_at p.trial (with_talk p (grow kinds.Failed p.talk q) rest) (server_error e))
    errs q rest come e = by_trial p.trial calm.0
      where
        by_trial : (x : Trial) → (is_off x || asks (kind_of c)) ≡ true → Fine (refused_at x (with_talk p (grow kinds.Failed p.talk q) rest) (server_error e))
        by_trial trials.Off t = gives kinds.Failed q rest come refl (ToldError (Server (server_error e))) (or_true own)
        by_trial trials.On t = (own, held_on own p kinds.Failed q rest come w, (t, refl), (t, stays_calm kinds.Failed q rest come))
        by_trial (trials.Refused first) t = gives kinds.Failed q rest come refl (ToldError (Server first)) (or_true own)

    whole : (part : Part) (parts : List Part) → is_drain part ≡ false → Leads login c own p.status (part ∷ parts)
        → ((k : Kind) (q rest : List ℕ) → Comes p k q → Fine (after_kind part parts k (with_talk p (grow k p.talk q) rest) (row_at login p q))) → Fine (reads login part parts p)
    whole part parts tells l other_kind = reads_have (IsFine login c ms) p (λ e _. (own, w, or_true own, paid)) login part parts tells waits (λ k quiet q rest come. after (part ∷ parts) k q rest come l) other_kind errs

    head_kind : (parts : List Part) → Leads login c own p.status parts → (k : Kind) (q rest : List ℕ) → Comes p k q → Fine (after_kind Head parts k (with_talk p (grow k p.talk q) rest) (row_at login p q))
    head_kind parts l (kinds.Good s) q rest come = after parts (kinds.Good s) q rest come l
    head_kind parts l k q rest come = after (Head ∷ parts) k q rest come l

    item_kind : (parts : List Part) → Leads login c own p.status parts → (k : Kind) (q rest : List ℕ) → Comes p k q → Fine (after_kind Item parts k (with_talk p (grow k p.talk q) rest) (row_at login p q))
    item_kind parts l (kinds.Good s) q rest come = gives (kinds.Good s) q rest come refl ToldEnd (or_true own)
    item_kind parts l kinds.Row q rest come = gives kinds.Row q rest come refl (row_at login p q) (or_true own)
    item_kind parts l (kinds.End s) q rest come = gives (kinds.End s) q rest come refl ToldEnd (or_true own)
    item_kind parts l k q rest come = after (Item ∷ parts) k q rest come l

    set_kind : (parts : List Part) → Leads login c own p.status (Set ∷ parts) → (k : Kind) (q rest : List ℕ) → Comes p k q → Fine (after_kind Set parts k (with_talk p (grow k p.talk q) rest) (row_at login p q))
    set_kind parts l (kinds.Good s) q rest come = gives (kinds.Good s) q rest come refl ToldReady l.0
    set_kind parts l k q rest come = after (Set ∷ parts) k q rest come l

    -- the call goes on, with the exchanges as they are
    on : (parts : List Part) → Leads login c own p.status parts → Fine (Goes parts p)
    on parts l = (own, w, l, calm)

    -- an exchange begins
    begins : (parts : List Part) (t : Talk) → asks (kind_of c) ≡ true → Opens login (terms_of login (exchanges p)) c (connects_in (exchanges p)) t → IsNew t → IsShook t → Leads login c true p.status parts → Fine (with_command c parts p (Some t))
    begins parts t sends opens new shook l = begun_has (IsFine login c ms) p (λ e _. (own, w, or_true own, paid)) c parts t
        (true, held_more own p t sends opens new shook w, l, (calm.0, λ e _. absurd (cc)))

    opens_one : (parts : List Part) (o : Option Talk) → asks (kind_of c) ≡ true → is_some o ≡ true → ((t : Talk) → o ≡ Some t → Opens login (terms_of login (exchanges p)) c (connects_in (exchanges p)) t) → ((t : Talk) → o ≡ Some t → IsNew t)
        → ((t : Talk) → o ≡ Some t → IsShook t) → Leads login c true p.status parts → Fine (with_command c parts p o)
    opens_one parts None sends some opens new shook l = absurd (cc)
    opens_one parts (Some t) sends some opens new shook l = begins parts t sends (opens t refl) (new t refl) (shook t refl) l

    commands : (parts : List Part) → Leads login c own p.status (Command ∷ parts) → Fine (with_command c parts p (next_exchange login c p))
    commands parts l =
        let terms = terms_of login (exchanges p) in
        let n = connects_in (exchanges p) in
        opens_one parts (next_exchange login c p) l.0 (l.1 terms p.statements n) (λ t e. Opening p.statements e) (opened_new login terms p.statements c n) (λ t e. opened_shook login terms p.statements c n t other e) l.2

    values_some : (terms : Terms) (v : Values) (values : List Value) → v ≡ Fitting values → is_some (execution terms p.statements (id_in c) v) ≡ true
    values_some terms (Fitting vs) values e = refl
    values_some terms (Unfitting x) values e = absurd (cc)

    runs : (params : Params) (parts : List Part) → Leads login c own p.status (Run params ∷ parts) → Fine (with_command c parts p (executed login c p params))
    runs params parts l =
        let terms = terms_of login (exchanges p) in
        let v = values_for (statement_in c) params in
        opens_one parts (executed login c p params) (ap asks l.0) (values_some terms v l.2.0 l.2.1)
        (λ t e. Running (record { kind = l.0; place = l.1.0; params = params; listed = l.1.1; statements = p.statements; executes = e })) (executed_new terms p.statements (id_in c) v) (executed_shook terms p.statements (id_in c) v) l.3

    undoes : (parts : List Part) (b : Bool) → asks (kind_of c) ≡ true → Leads login c (b || own) p.status parts → Fine (undone login c parts p b)
    undoes parts true sends l =
        let terms = terms_of login (exchanges p) in
        begins parts (queried terms rollback_text) sends (Undoing (record { cleans = sends; queries = refl })) (queried_new terms rollback_text) refl l
    undoes parts false sends l = on parts l

    renews_it : (parts : List Part) → Leads login c own p.status (Renew ∷ parts) → Fine (with_command c parts p (Some (renewing login c p (facts_at login p))))
    renews_it parts l =
        let f = facts_at login p in
        let reset = renews_by_reset (kind_of c) (version_of f.version) in
        begins parts (renewal login (terms_of login (exchanges p)) f p.account reset) l.0
        (Renewing (record { kind = l.1; facts = f; account = p.account; by_reset = reset; pooled = pooled c (version_of f.version); renewal_is = refl }))
        (renewing_new login c p) (renewing_shook login c p) l.2

    finds : (parts : List Part) (text : List ℕ) (x : Option Cached) → Leads login c own p.status parts → Fine (found parts p text x)
    finds parts text None l = on parts l
    finds parts text (Some h) l = (own, w, or_true own, paid)

    checks : (params : Params) (parts : List Part) (v : Values) → values_for (statement_in c) params ≡ v → Leads login c own p.status (Check params ∷ parts) → Fine (checked parts p v)
    checks params parts (Fitting values) e l = on parts (l values e)
    checks params parts (Unfitting x) e l = (own, w, or_true own, paid)

    offers : (parts : List Part) (b : Bool) → Leads login c own p.status parts → Fine (offered parts p b)
    offers parts true l = on parts l
    offers parts false l = (own, w, or_true own, paid)

    refuses : (parts : List Part) (x : Option DriverError) → Leads login c own p.status parts → Fine (unless_refused parts p x)
    refuses parts None l = on parts l
    refuses parts (Some x) l = (own, w, or_true own, paid)

    learns : (parts : List Part) (b : Bool) (st : Statements) → Leads login c own p.status parts → Fine (Goes parts (cond b (with_statements st p) p))
    learns parts true st l = (own, w, l, calm)
    learns parts false st l = on parts l

    returns : (x : Trial) → own ≡ true → Fine (returned p x)
    returns trials.Off o = (own, w, ap (λ b. b || not (needs_own c)) o, paid)
    returns trials.On o = (own, w, ap (λ b. b || not (needs_own c)) o, paid)
    returns (trials.Refused first) o = (own, w, or_true own, paid)

    -- a statement that goes for another is closed
    keeps : (parts : List Part) (st : Statements) (terms : Terms) (x : Option ℕ) → terms ≡ terms_of login (exchanges p) → calls.Prepare (text_in c) ≡ c → Leads login c own p.status parts → Fine (with_command c parts (with_statements st p) (closing_of terms x))
    keeps parts st terms None is same l = (own, w, l, calm)
    keeps parts st terms (Some id) is same l =
        let kind : kind_of c ≡ callkinds.Prepare = ap kind_of (sym same) in
        let sends : asks (kind_of c) ≡ true = ap asks kind in
        begun_has (IsFine login c ms) (with_statements st p) (λ e _. (own, w, or_true own, paid)) c parts (closing terms id)
        (own, looser own (with_exchange (with_statements st p) c (closing terms id)) (held_more own p (closing terms id) sends (Closing id kind (ap (λ ts. closing ts id) (sym is))) (closing_new terms (Some id) (closing terms id) refl) refl w), l, (calm.0, λ e _. absurd (cc)))

    part_fine : (parts : List Part) → Leads login c own p.status parts → Fine (step_of login c parts p)
    part_fine [] l = (own, w, l, paid)
    part_fine (All ∷ parts) l = either Fine p.end_left _ _ (λ _. (own, w, l, calm)) (λ _. either Fine (is_over p.talk) _ _ (λ _. on parts l) (λ _. whole All parts refl l (λ k q rest come. after (All ∷ parts) k q rest come l)))
    part_fine (Reply ∷ parts) l = either Fine (is_over p.talk) _ _ (λ _. on parts l) (λ _. whole Reply parts refl l (λ k q rest come. after (Reply ∷ parts) k q rest come l))
    part_fine (Drain ∷ parts) l = either Fine p.end_left _ _ (λ _. (own, w, l, calm)) (λ _. either Fine (is_over p.talk) _ _ (λ _. on parts l) (λ _. drains_have Fine p (λ e _. (own, w, or_true own, paid)) login parts waits (λ k q rest come. after (Drain ∷ parts) k q rest come l)))
    part_fine (Back ∷ parts) l = either Fine (is_over p.talk) _ _ (λ _. returns p.trial l) (λ _. whole Back parts refl l (λ k q rest come. after (Back ∷ parts) k q rest come l))
    part_fine (Head ∷ parts) l = either Fine (is_rows (context_of p.talk).spot) _ _ (λ _. on parts l) (λ _. whole Head parts refl l (head_kind parts l))
    part_fine (Item ∷ parts) l = either Fine p.end_left _ _ (λ _. (own, w, or_true own, paid)) (λ _. either Fine (is_over p.talk) _ _ (λ _. (own, w, or_true own, paid)) (λ _. whole Item parts refl l (item_kind parts l)))
    part_fine (Set ∷ parts) l = either Fine (p.end_left || is_rows (context_of p.talk).spot) _ _ (λ _. (own, w, l.0, paid)) (λ _. either Fine (is_over p.talk) _ _ (λ _. (own, w, or_true own, paid)) (λ _. whole Set parts refl l (set_kind parts l)))
    part_fine (Rest ∷ parts) l = either Fine p.end_left _ _ (λ _. (own, w, l, calm)) (λ _. either Fine (is_rows (context_of p.talk).spot) _ _ (λ _. whole Rest parts refl l (λ k q rest come. after (Rest ∷ parts) k q rest come l)) (λ _. on parts l))
    part_fine (Command ∷ parts) l = commands parts l
    part_fine (Run params ∷ parts) l = runs params parts l
    part_fine (Text text ∷ parts) l =
        let terms = terms_of login (exchanges p) in
        begins parts (queried terms text) l.0 (Asking (record { place = l.1.0; text = text; listed = l.1.1; queries = refl })) (queried_new terms text) refl l.2
    part_fine (Renew ∷ parts) l = renews_it parts l
    part_fine (Undo ∷ parts) l = undoes parts (is_given_up p.status) l.0 l.1
    part_fine (Find ∷ parts) l = either Fine (is_mixed_text (text_in c)) _ _ (λ _. (own, w, or_true own, paid)) (λ _. finds parts (text_in c) (held_in p.statements (query_of (text_in c))) l)
    part_fine (Check params ∷ parts) l = checks params parts (values_for (statement_in c) params) refl l
    part_fine (Keep ∷ parts) l =
        let f = facts_at login p in
        let st : Statements = with_prepared (query_of (text_in c)) (prepared_by f) f.reply.fields p.statements in
        let terms : Terms = terms_of login (exchanges p) in
        let x : Option ℕ = leaving (query_of (text_in c)) (prepared_by f) p.statements in
        subst (λ (d : Call). Fine (with_command d parts (with_statements st p) (closing_of terms x))) (sym l.0) (keeps parts st terms x refl l.0 l.1)
    part_fine (Give ∷ parts) l = (own, w, or_true own, paid)
    part_fine (Learn ∷ parts) l = learns parts (is_rows (context_of p.talk).spot) (with_columns (id_in c) (facts_at login p).columns p.statements) l
    part_fine (Offered ∷ parts) l = offers parts (can_reset (version_of (facts_at login p).version)) l
    part_fine (Flag flag ∷ parts) l = (own, w, l.0, paid)
    part_fine (Refuse opts ∷ parts) l = refuses parts (begin_refusal opts (version_of (facts_at login p).version) p.status) l
    part_fine (Settle status ∷ parts) l = (own, w, l, (refl, calm.1))
    part_fine (Try ∷ parts) l = (own, w, l.1, (l.0, calm.1))
    part_fine _ l = (own, w, l, calm)

  step_fine : (parts : List Part) (p : Place) → IsFine login c ms (Goes parts p) → IsFine login c ms (step login c parts p)
  unfolding step
  step_fine parts p g = by_owed (owed p) refl
    where
      by_owed : (x : List ℕ) → owed p ≡ x → IsFine login c ms (unless_owed x p (step_of login c parts p))
      by_owed (b ∷ bytes) e = (g.0, g.1, g.3.1)
      by_owed [] e = part_fine p g.0 g.1 g.3 e parts g.2

  pub run_fine : (n : ℕ) (s : Step) → IsFine login c ms s → Stopped login c ms (run n login c s).place (run n login c s).stop
  unfolding run
  run_fine zero (Stops p s) w = w
  run_fine (suc n) (Stops p s) w = w
  run_fine zero (Goes parts p) w = (w.0, w.1, w.3.1)
  run_fine (suc n) (Goes parts p) w = run_fine n (step login c parts p) (step_fine parts p w)
