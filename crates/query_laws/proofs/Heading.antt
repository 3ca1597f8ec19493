-- A query, or an execution, that returns ready leaves its exchange at the first row of the first set, or at the end of a lone OK.
use Rattle.std.proofs.Common.{◌≡◌, ℕ, List, [], ◌∷◌, Bool, true, false, cond, Some, refl, sym, ap, subst}
use Rattle.my_flags.specs.declared.flags.StatusFlags.{StatusFlags}
use Rattle.my_flags.specs.Sets.{deprecates_eof}
use Rattle.my_command.specs.declared.client.ClientPacket.TheVariants as packets
use Rattle.my_command.specs.Client.Packet.{client_bytes as packet_bytes}
use Rattle.my_value.specs.RowParts.{RowParts}
use Rattle.my_value.specs.declared.value.Value.{Value}
use Rattle.my_params.specs.LongData.{ahead_of}
use Rattle.my_params.specs.Parameters.{body_of}
use Rattle.my_params.specs.declared.params.Params.{Params}
use Rattle.my_statements.specs.Prepared.{StatementView}
use Rattle.my_grammar.specs.declared.login.Login.{Login}
use Rattle.my_grammar.specs.declared.spot.Kind.{Kind}
use Rattle.my_grammar.specs.declared.spot.Kind.TheVariants as kinds
use Rattle.my_grammar.specs.declared.spot.Terms.{Terms}
use Rattle.my_grammar.specs.Growth.{grow}
use Rattle.my_grammar.specs.Sets.{Asking, ByStatement, ByText, NoSets, Sets, spot_in}
use Rattle.my_grammar.specs.Talk.{Queried, Talk, context_of}
use Rattle.my_reading.specs.declared.call.Call.{Call}
use Rattle.my_reading.specs.declared.call.Call.TheVariants.{Query, Execute}
use Rattle.my_reading.specs.declared.error.DriverError.{DriverError}
use Rattle.my_reading.specs.declared.error.Error.{Error}
use Rattle.my_reading.specs.Calls.{id_in, statement_in}
use Rattle.my_reading.specs.Commands.{execution}
use Rattle.my_reading.specs.Course.{Part, Check, Command, Head, Learn, Step, Goes, Returns, after_kind, checked, clean, course, halt, parts_of, reads, step_of, with_command}
use Rattle.my_reading.specs.Executions.{Values, Fitting, Unfitting, values_for}
use Rattle.my_reading.specs.Place.{Place, exchanges, facts_at, is_rows, next_exchange, terms_of, with_end, with_exchange, with_statements, with_talk}
use Rattle.my_reading.specs.Statements.{Statements, known_in, with_columns}
use Rattle.my_reading.specs.Told.{Told, ToldReady, ToldError}
use Rattle.history_laws.proofs.Blaming.{is_failed}
use Rattle.history_laws.proofs.Growing.{is_quiet}
use Rattle.history_laws.proofs.Having.{Comes, begun_has, either, row_at}
use Rattle.query_laws.specs.Begins.{IsExecution, IsQuery}
use Rattle.query_laws.proofs.Answering.{Answered, At, comes, implies}
use Rattle.query_laws.proofs.Cleaning.{Cleaning, Cleans, clean_fine}
use Rattle.query_laws.proofs.Firsts.{IsFirst, IsHeading, IsLone, good_lone, head_begun, head_grows, is_good}
use Rattle.query_laws.proofs.Running.{IsFine, Phase, Owns, course_fine, reads_fine}

-- the head of the first set is awaited
abbrev pub Heads : Bool → Sets → Type 0
Heads false x = IsHeading x
Heads true x = ⊥

-- these rows were read, and no end
abbrev pub Reads : List RowParts → Bool → Sets → Type 0
Reads rows false x = IsFirst rows x
Reads rows true x = (rows ≡ []) × IsLone x

-- what may follow the head
abbrev is_tail : List Part → Bool
is_tail [] = true
is_tail (Learn ∷ []) = true
is_tail parts = false

-- what the call returns
abbrev pub Opens : Call → (Talk → Type 0) → Place → Told → Type 0
Opens c B q ToldReady = At c B (Reads []) q
Opens c B q t = Unit {0}

-- where the call is
pub data Begins (c : Call) (B : Talk → Type 0) (tail : List Part) : List Part → Place → Type 0 where
  Checks : (params : Params) (values : List Value) (p : Place) → values_for (statement_in c) params ≡ Fitting values → Begins c B tail (Check params ∷ clean (Command ∷ Head ∷ tail)) p
  Before : (parts : List Part) (p : Place) → Cleaning (Command ∷ Head ∷ tail) parts → Begins c B tail parts p
  Commands : (p : Place) → Begins c B tail (Command ∷ Head ∷ tail) p
  Awaits : (p : Place) → At c B Heads p → Begins c B tail (Head ∷ tail) p
  Opened : (parts : List Part) (p : Place) → is_tail parts ≡ true → At c B (Reads []) p → Begins c B tail parts p

-- the exchange that the call begins, wherever it is
pub record Commanded (login : Login) (c : Call) (B : Talk → Type 0) (p : Place) : Type 0 where
  pub terms : Terms
  pub command : List ℕ
  pub asking : Asking
  pub next_is : next_exchange login c p ≡ Some (Queried terms command (NoSets asking))
  pub so : B (Queried terms command (NoSets asking))

heads_is : (e : Bool) (x : Sets) → Heads e x → (e ≡ false) × IsHeading x
heads_is false x w = (refl, w)
heads_is true x w = absurd w

module _ (login : Login) (c : Call) (B : Talk → Type 0) (tail : List Part) (ends : is_tail tail ≡ true) (commands : (p : Place) → Commanded login c B p) where
  abbrev Own : List Part → Place → Type 0
  Own parts p = Begins c B tail parts p

  abbrev Fine : Step → Type 0
  Fine s = IsFine Own (Opens c B) s

  fails : (q : Place) (e : Error) → Opens c B q (ToldError e)
  fails q e = tt

  command_fine : (p : Place) → Fine (step_of login c (Command ∷ Head ∷ tail) p)
  command_fine p =
      let m = commands p in
      let t : Talk = Queried m.terms m.command (NoSets m.asking) in
      subst (λ o. Fine (with_command c (Head ∷ tail) p o)) (sym m.next_is)
      (begun_has Fine p (λ e _. tt) c (Head ∷ tail) t (Owns _ _ (Awaits (with_exchange p c t) (record {
        began = t;
        so = m.so;
        call_is = refl;
        answered = record { terms = m.terms; command = m.command; sets = NoSets m.asking; talk_is = refl; origin_is = refl; has = tt; fits = record { kinds = tt; within = tt } };
      }))))

  -- the head of the first set is awaited
  module _ (p : Place) (w : At c B Heads p) where
    unended : p.end_left ≡ false
    unended = (heads_is p.end_left w.answered.sets w.answered.has).0

    heading : Answered w.began IsHeading p.talk
    heading = implies w.began (Heads p.end_left) IsHeading p.talk (λ x h. (heads_is p.end_left x h).1) w.answered

    begun_fine : is_rows (context_of p.talk).spot ≡ true → Fine (Goes tail p)
    begun_fine rows = Owns tail p (Opened tail p ends (record {
      began = w.began;
      so = w.so;
      call_is = w.call_is;
      answered = record {
        terms = heading.terms;
        command = heading.command;
        sets = heading.sets;
        talk_is = heading.talk_is;
        origin_is = heading.origin_is;
        has = subst (λ e. Reads [] e heading.sets) (sym unended) (head_begun heading.sets heading.has (subst (λ (t : Talk). is_rows (context_of t).spot ≡ true) heading.talk_is rows));
        fits = heading.fits;
      };
    }))

    module _ (none : is_rows (context_of p.talk).spot ≡ false) where
      spot_is : is_rows (spot_in heading.sets) ≡ false
      spot_is = subst (λ (t : Talk). is_rows (context_of t).spot ≡ false) heading.talk_is none

      again : (k : Kind) → is_failed k ≡ false → is_good k ≡ false → (q rest : List ℕ) → Comes p k q → Fine (Goes (Head ∷ tail) (with_talk p (grow k p.talk q) rest))
      again k calm other q rest come = Owns _ _ (Awaits _ (record {
        began = w.began;
        so = w.so;
        call_is = w.call_is;
        answered = comes w.began IsHeading IsHeading p heading k q come (λ f. head_grows (deprecates_eof heading.terms.kept) k heading.sets q calm other spot_is f heading.has);
      }))

      lone : (s : StatusFlags) (q rest : List ℕ) → Comes p (kinds.Good s) q → Fine (Goes tail (with_end (with_talk p (grow (kinds.Good s) p.talk q) rest)))
      lone s q rest come = Owns _ _ (Opened tail _ ends (record {
        began = w.began;
        so = w.so;
        call_is = w.call_is;
        answered = comes w.began IsHeading (Reads [] true) p heading (kinds.Good s) q come (λ f. (refl, good_lone (deprecates_eof heading.terms.kept) heading.sets q s heading.has f));
      }))

      quiet_other : (k : Kind) → is_quiet k ≡ true → is_good k ≡ false
      quiet_other (kinds.Good s) e = cc
      quiet_other k e = refl

      after : (k : Kind) → is_failed k ≡ false → (q rest : List ℕ) → Comes p k q → Fine (after_kind Head tail k (with_talk p (grow k p.talk q) rest) (row_at login p q))
      after (kinds.Good s) calm q rest come = lone s q rest come
      after (kinds.Greets n) calm q rest come = again (kinds.Greets n) calm refl q rest come
      after (kinds.Asks n) calm q rest come = again (kinds.Asks n) calm refl q rest come
      after kinds.Failed calm q rest come = absurd (cc)
      after (kinds.Count n) calm q rest come = again (kinds.Count n) calm refl q rest come
      after kinds.Column calm q rest come = again kinds.Column calm refl q rest come
      after kinds.ColumnsDone calm q rest come = again kinds.ColumnsDone calm refl q rest come
      after kinds.Row calm q rest come = again kinds.Row calm refl q rest come
      after (kinds.End s) calm q rest come = again (kinds.End s) calm refl q rest come
      after (kinds.Prepared m n) calm q rest come = again (kinds.Prepared m n) calm refl q rest come
      after kinds.Parameter calm q rest come = again kinds.Parameter calm refl q rest come
      after kinds.Field calm q rest come = again kinds.Field calm refl q rest come
      after kinds.Bad calm q rest come = again kinds.Bad calm refl q rest come

      awaits_fine : Fine (reads login Head tail p)
      awaits_fine = reads_fine login c Own (Opens c B) fails p Head tail refl (λ k quiet calm. again k calm (quiet_other k quiet)) after

    head_fine : Fine (step_of login c (Head ∷ tail) p)
    head_fine = either Fine (is_rows (context_of p.talk).spot) _ _ begun_fine awaits_fine

  -- the columns of an execution's rows are learned
  learned_fine : (p : Place) (b : Bool) (st : Statements) → At c B (Reads []) p → Fine (Goes [] (cond b (with_statements st p) p))
  learned_fine p true st w = Owns [] (with_statements st p) (Opened [] _ refl (record { began = w.began; so = w.so; call_is = w.call_is; answered = w.answered }))
  learned_fine p false st w = Owns [] p (Opened [] p refl w)

  opened_fine : (parts : List Part) (p : Place) → is_tail parts ≡ true → At c B (Reads []) p → Fine (step_of login c parts p)
  opened_fine [] p e w = w
  opened_fine (Learn ∷ []) p e w = learned_fine p (is_rows (context_of p.talk).spot) (with_columns (id_in c) (facts_at login p).columns p.statements) w
  opened_fine parts p e w = absurd (cc)

  own_fine : (parts : List Part) (p : Place) → Own parts p → Fine (step_of login c parts p)
  own_fine parts p (Checks params values q is) = subst (λ v. Fine (checked (clean (Command ∷ Head ∷ tail)) q v)) (sym is) (Owns _ q (Before _ q Cleans))
  own_fine parts p (Before xs q w) = clean_fine login c Own (Opens c B) fails (Command ∷ Head ∷ tail) (λ ys r v. Before ys r v) (λ r. Commands r) xs q w
  own_fine parts p (Commands q) = command_fine q
  own_fine parts p (Awaits q w) = head_fine q w
  own_fine parts p (Opened xs q e w) = opened_fine xs q e w

  begins_fine : (p q : Place) (t : Told) → Own (parts_of login c) p → course login c p ≡ halt q (Returns t) → Opens c B q t
  begins_fine p q t w e = course_fine login c Own (Opens c B) fails own_fine p q t (Owns _ p w) e

pub query_opens : (login : Login) (text : List ℕ) (p q : Place) (t : Told) → course login (Query text) p ≡ halt q (Returns t) → Opens (Query text) (IsQuery text) q t
query_opens login text p q t e =
    begins_fine login (Query text) (IsQuery text) [] refl
    (λ r. record { terms = terms_of login (exchanges r); command = packet_bytes (packets.Query text); asking = ByText; next_is = refl; so = (terms_of login (exchanges r), refl) })
    p q t (Before _ p Cleans) e

-- values that don't fit are refused
data IsChecked (params : Params) : List Part → Place → Type 0 where
  Checked : (parts : List Part) (p : Place) → IsChecked params (Check params ∷ parts) p

module _ (login : Login) (statement : StatementView) (params : Params) where
  abbrev executes : Call
  executes = Execute statement params

  unfitting : (e : DriverError) → values_for statement params ≡ Unfitting e → (p q : Place) (t : Told) → course login executes p ≡ halt q (Returns t) → Opens executes (IsExecution statement params) q t
  unfitting e is p q t w = course_fine login executes (IsChecked params) (Opens executes (IsExecution statement params)) (λ _ _. tt) refuses p q t (Owns _ p (Checked _ p)) w
    where
      refuses : (parts : List Part) (p : Place) → IsChecked params parts p → IsFine (IsChecked params) (Opens executes (IsExecution statement params)) (step_of login executes parts p)
      refuses parts p (Checked xs r) = subst (λ v. IsFine (IsChecked params) (Opens executes (IsExecution statement params)) (checked xs r v)) (sym is) tt

  fitting : (values : List Value) → values_for statement params ≡ Fitting values → (p q : Place) (t : Told) → course login executes p ≡ halt q (Returns t) → Opens executes (IsExecution statement params) q t
  fitting values is p q t w =
      begins_fine login executes (IsExecution statement params) (Learn ∷ []) refl
      (λ r.
      let next = ap (execution (terms_of login (exchanges r)) r.statements statement.inner.id) is in
      record {
        terms = terms_of login (exchanges r);
        command = body_of statement.inner.id values;
        asking = ByStatement (ahead_of statement.inner.id values) (known_in r.statements statement.inner.id);
        next_is = next;
        so = (terms_of login (exchanges r), r.statements, next);
      })
      p q t (Checks params values p is) w

  by_values : (v : Values) → values_for statement params ≡ v → (p q : Place) (t : Told) → course login executes p ≡ halt q (Returns t) → Opens executes (IsExecution statement params) q t
  by_values (Fitting values) is = fitting values is
  by_values (Unfitting e) is = unfitting e is

  pub execution_opens : (p q : Place) (t : Told) → course login executes p ≡ halt q (Returns t) → Opens executes (IsExecution statement params) q t
  execution_opens = by_values (values_for statement params) refl
