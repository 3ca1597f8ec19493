-- The exchange that each call begins, by its kind, and what holds of an exchange that begins.
use Rattle.std.proofs.Common.{◌≡◌, ℕ, suc, zero, List, [], Bool, true, false, Option, Some, None, slice_get, refl, subst}
use Rattle.my_command.specs.declared.client.ClientPacket.{ClientPacket}
use Rattle.my_command.specs.declared.client.ClientPacket.TheVariants as packets
use Rattle.my_command.specs.Client.Packet.{client_bytes as packet_bytes}
use Rattle.my_handshake.specs.Version.{version_of}
use Rattle.my_grammar.proofs.Commands.{commands_silent}
use Rattle.my_grammar.specs.declared.account.Account.{Account}
use Rattle.my_grammar.specs.declared.login.Login.{Login}
use Rattle.my_grammar.specs.declared.spot.Terms.{Terms}
use Rattle.my_grammar.specs.Prepares.{Unanswered}
use Rattle.my_grammar.specs.Sets.{Asking, ByStatement, NoSets}
use Rattle.my_grammar.specs.Talk.{Talk, Start, Asked, Queried, Preparing, Silent, Fits, origin, server_bytes, turns}
use Rattle.my_params.specs.LongData.{ahead_of}
use Rattle.my_params.specs.Parameters.{body_of}
use Rattle.my_reading.specs.declared.call.Call.{Call}
use Rattle.my_reading.specs.declared.call.Call.TheVariants.{Connect, Query, Prepare, Execute, CloseStmt, Quit}
use Rattle.my_reading.specs.declared.facts.Facts.{Facts}
use Rattle.my_reading.specs.Calls.{is_connect, kind_of}
use Rattle.my_reading.specs.Commands.{arranging, arranging_texts, closing, execution, opening, queried, renewal, renews_by_reset, simple, simple_packet}
use Rattle.my_reading.specs.Course.{closing_of, renewing}
use Rattle.my_reading.specs.Executions.{Values, Fitting, Unfitting, values_for}
use Rattle.my_reading.specs.Place.{Place, exchanges, facts_at, terms_of}
use Rattle.my_reading.specs.Statements.{Statements, known_in, query_of}

-- The kinds of exchanges that a call begins: the login, where it connects; a query; a statement is prepared; a command that one packet
-- answers; one that nothing answers; or a statement is executed.
pub data Opened (connects : Bool) (terms : Terms) : Talk → Type 0 where
  Starts : (login : Login) → connects ≡ true → Opened connects terms (Start login)
  Queries : (text : List ℕ) → Opened connects terms (queried terms text)
  Prepares : (command : List ℕ) → Opened connects terms (Preparing terms command Unanswered)
  Asks : (command : List ℕ) → Opened connects terms (Asked terms command)
  Tells : (command : List ℕ) → Opened connects terms (Silent terms command)
  Runs : (command : List ℕ) (asking : Asking) → Opened connects terms (Queried terms command (NoSets asking))

some_opened : (connects : Bool) (terms : Terms) (u t : Talk) → Opened connects terms u → Some u ≡ Some t → Opened connects terms t
some_opened connects terms u t o e = let same : u ≡ t = cc in subst (λ (x : Talk). Opened connects terms x) same o

arranged : (connects : Bool) (terms : Terms) (o : Option (List ℕ)) (t : Talk) → arranging terms o ≡ Some t → Opened connects terms t
arranged connects terms None t e = cc
arranged connects terms (Some text) t e = some_opened connects terms (queried terms text) t (Queries text) e

pub executed : (connects : Bool) (terms : Terms) (st : Statements) (id : ℕ) (v : Values) (t : Talk) → execution terms st id v ≡ Some t → Opened connects terms t
executed connects terms st id (Fitting values) t e =
    let asking : Asking = ByStatement (ahead_of id values) (known_in st id) in
    some_opened connects terms (Queried terms (body_of id values) (NoSets asking)) t (Runs (body_of id values) asking) e
executed connects terms st id (Unfitting x) t e = cc

simply_opened : (connects : Bool) (terms : Terms) (x : Option ClientPacket) (t : Talk) → simple terms x ≡ Some t → Opened connects terms t
simply_opened connects terms None t e = cc
simply_opened connects terms (Some packet) t e = some_opened connects terms _ t (Asks (packet_bytes packet)) e

-- Each call has a line that sends another command than one that an OK or ERR answers.
pub opened : (login : Login) (terms : Terms) (st : Statements) (c : Call) (n : ℕ) (t : Talk) → opening login terms st c n ≡ Some t → Opened (is_connect (kind_of c)) terms t
opened login terms st Connect zero t e = some_opened true terms _ t (Starts login refl) e
opened login terms st Connect (suc n) t e = arranged true terms (slice_get (arranging_texts login) n) t e
opened login terms st (Query text) n t e = some_opened false terms _ t (Queries text) e
opened login terms st (Prepare text) n t e = some_opened false terms _ t (Prepares (packet_bytes (packets.Prepare (query_of text)))) e
opened login terms st (Execute statement params) n t e = executed false terms st statement.inner.id (values_for statement params) t e
opened login terms st (CloseStmt id) n t e = some_opened false terms _ t (Tells (packet_bytes (packets.CloseStatement id))) e
opened login terms st Quit n t e = some_opened false terms _ t (Tells (packet_bytes packets.Quit)) e
opened login terms st c n t e = simply_opened false terms (simple_packet c) t e

-- an exchange that begins: nothing was received of it
pub record IsNew (t : Talk) : Type 0 where
  pub fits : Fits t
  pub silent : server_bytes (turns t) ≡ []
  pub origin_is : origin t ≡ t

pub queried_new : (terms : Terms) (text : List ℕ) → IsNew (queried terms text)
queried_new terms text = record { fits = record { kinds = tt; within = tt }; silent = refl; origin_is = refl }

pub some_new : (u t : Talk) → IsNew u → Some u ≡ Some t → IsNew t
some_new u t n e = let same : u ≡ t = cc in subst IsNew same n

pub closing_new : (terms : Terms) (x : Option ℕ) (t : Talk) → closing_of terms x ≡ Some t → IsNew t
closing_new terms None t e = cc
closing_new terms (Some id) t e = some_new (closing terms id) t (record { fits = record { kinds = tt; within = tt }; silent = refl; origin_is = refl }) e

-- the renewal of the server's session, by a reset or by a change of user
renewal_new : (login : Login) (terms : Terms) (f : Facts) (account : Account) (by_reset : Bool) → IsNew (renewal login terms f account by_reset)
renewal_new login terms f account true = record { fits = record { kinds = tt; within = tt }; silent = refl; origin_is = refl }
renewal_new login terms f account false = record { fits = record { kinds = tt; within = tt }; silent = refl; origin_is = refl }

pub renewing_new : (login : Login) (c : Call) (p : Place) → IsNew (renewing login c p (facts_at login p))
renewing_new login c p =
    let f = facts_at login p in
    renewal_new login (terms_of login (exchanges p)) f p.account (renews_by_reset (kind_of c) (version_of f.version))

begun_new : (connects : Bool) (terms : Terms) (t : Talk) → Opened connects terms t → IsNew t
begun_new connects terms t (Queries text) = queried_new terms text
begun_new connects terms t (Runs command asking) = record { fits = record { kinds = tt; within = tt }; silent = commands_silent command asking; origin_is = refl }
begun_new connects terms t _ = record { fits = record { kinds = tt; within = tt }; silent = refl; origin_is = refl }

pub opened_new : (login : Login) (terms : Terms) (st : Statements) (c : Call) (n : ℕ) (t : Talk) → opening login terms st c n ≡ Some t → IsNew t
opened_new login terms st c n t e = begun_new (is_connect (kind_of c)) terms t (opened login terms st c n t e)

pub opened_fits : (login : Login) (terms : Terms) (st : Statements) (c : Call) (n : ℕ) (t : Talk) → opening login terms st c n ≡ Some t → Fits t
opened_fits login terms st c n t e = (opened_new login terms st c n t e).fits

pub executed_new : (terms : Terms) (st : Statements) (id : ℕ) (v : Values) (t : Talk) → execution terms st id v ≡ Some t → IsNew t
executed_new terms st id v t e = begun_new false terms t (executed false terms st id v t e)

pub executed_fits : (terms : Terms) (st : Statements) (id : ℕ) (v : Values) (t : Talk) → execution terms st id v ≡ Some t → Fits t
executed_fits terms st id v t e = (executed_new terms st id v t e).fits
