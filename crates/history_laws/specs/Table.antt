-- How each exchange of a tape began, by the command table.
use Rattle.std.specs.Prelude.{◌≡◌, ℕ, List, [], ◌∷◌, slice_get, Some, Bool, true, false}
use Rattle.my_grammar.specs.declared.account.Account.{Account}
use Rattle.my_grammar.specs.declared.login.Login.{Login}
use Rattle.my_grammar.specs.declared.spot.Terms.{Terms}
use Rattle.my_grammar.specs.Talk.{Talk, origin}
use Rattle.my_params.specs.declared.params.Params.{Params}
use Rattle.my_reading.specs.declared.call.Call.{Call}
use Rattle.my_reading.specs.declared.call.Call.TheVariants as calls
use Rattle.my_reading.specs.declared.call.CallKind.{CallKind}
use Rattle.my_reading.specs.declared.call.CallKind.TheVariants.{Prepare, Batch, ChangeUser, ResetForPool}
use Rattle.my_reading.specs.declared.facts.Facts.{Facts}
use Rattle.my_reading.specs.Calls.{asks, id_in, kind_of, lists_in, statement_in}
use Rattle.my_reading.specs.Commands.{closing, execution, opening, queried, renewal, setup_texts}
use Rattle.my_reading.specs.Executions.{values_for}
use Rattle.my_reading.specs.Place.{Exchange, connects_in, terms_of}
use Rattle.my_reading.specs.Statements.{Statements}
use Rattle.my_reading.specs.Transactions.{begin_texts, commit_text, rollback_text}

-- the queries that a call has of its own, in the order in which they are sent
abbrev pub queries_of : Login → Call → List (List ℕ)
queries_of login calls.Reset = setup_texts login
queries_of login (calls.ChangeUser change) = setup_texts login
queries_of login calls.ResetForPool = setup_texts login
queries_of login (calls.Begin opts) = begin_texts opts
queries_of login calls.Commit = commit_text ∷ []
queries_of login _ = []

-- The exchange is one of a batch: its statement is executed with some of its parameters.
pub record IsRun (terms : Terms) (call : Call) (t : Talk) : Type 0 where
  pub kind : kind_of call ≡ Batch
  pub place : ℕ
  pub params : Params
  pub listed : slice_get (lists_in call) place ≡ Some params
  pub statements : Statements
  pub executes : execution terms statements (id_in call) (values_for (statement_in call) params) ≡ Some t

-- The exchange is one of the queries that the call has of its own, after a reset or where a transaction begins or is committed.
pub record IsQuery (login : Login) (terms : Terms) (call : Call) (t : Talk) : Type 0 where
  pub place : ℕ
  pub text : List ℕ
  pub listed : slice_get (queries_of login call) place ≡ Some text
  pub queries : queried terms text ≡ t

-- the calls that renew the server's session by a command that tells the account
abbrev pub renews : CallKind → Bool
renews ChangeUser = true
renews ResetForPool = true
renews c = false

-- The exchange renews the server's session, where the server said something of itself and the options have some account: by a change of
-- user, or for a pool by a reset.
pub record IsRenewal (login : Login) (terms : Terms) (call : Call) (t : Talk) : Type 0 where
  pub kind : renews (kind_of call) ≡ true
  pub facts : Facts
  pub account : Account
  pub by_reset : Bool
  pub pooled : by_reset ≡ true → call ≡ calls.ResetForPool
  pub renewal_is : renewal login terms facts account by_reset ≡ t

-- The exchange rolls a transaction back, before the call's own.
pub record IsUndo (terms : Terms) (call : Call) (t : Talk) : Type 0 where
  pub cleans : asks (kind_of call) ≡ true
  pub queries : queried terms rollback_text ≡ t

-- The exchange is the one that the table has for the call, and for its place among those of connecting, where some prepared statements are
-- known; or it is the close of a statement, which a call that prepares one may begin, too, one of a batch, one of a call's own queries, the
-- renewal of the server's session, or the ROLLBACK before the call's own.
pub data Opens (login : Login) (terms : Terms) (call : Call) (n : ℕ) (t : Talk) : Type 0 where
  Opening : (st : Statements) → opening login terms st call n ≡ Some t → Opens login terms call n t
  Closing : (id : ℕ) → kind_of call ≡ Prepare → closing terms id ≡ t → Opens login terms call n t
  Running : IsRun terms call t → Opens login terms call n t
  Asking : IsQuery login terms call t → Opens login terms call n t
  Renewing : IsRenewal login terms call t → Opens login terms call n t
  Undoing : IsUndo terms call t → Opens login terms call n t

-- each exchange is by the table, after the exchanges before it
abbrev pub Follow : Login → List Exchange → Type 0
Follow login [] = Unit {0}
Follow login (e ∷ es) = Opens login (terms_of login es) e.call (connects_in es) (origin e.talk) × Follow login es
