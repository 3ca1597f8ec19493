-- What became of each statement that a connection's calls prepared.
-- MySQL client/server protocol, "COM_STMT_CLOSE": a statement that isn't closed stays at the server while the connection lasts, unless
-- "COM_RESET_CONNECTION" resets its session or "COM_CHANGE_USER" gives it another user, each of which frees all statements.
use Rattle.std.specs.Prelude.{◌≡◌, ◌⊎◌, ℕ, List, [], ◌∷◌, Option, Some, None, IfSome, Bool, true, false, not, ◌||◌}
use Rattle.std.specs.List.{AllByRecursion}
use Rattle.std.specs.Option.{option_map}
use Rattle.my_flags.specs.declared.flags.StatusFlags.{StatusFlags}
use Rattle.my_auth.specs.declared.chain.AuthStand.{AuthStand}
use Rattle.my_command.specs.declared.client.ClientPacket.TheVariants.{ResetConnection, ChangeUser}
use Rattle.my_command.specs.Client.Packet.{client_bytes}
use Rattle.my_handshake.specs.declared.login.ChangeUser.{ChangeUser as UserChange}
use Rattle.my_reply.specs.Replies.{prepare_ok_at}
use Rattle.my_grammar.specs.declared.login.Login.{Login}
use Rattle.my_grammar.specs.declared.packet.Packet.{Packet}
use Rattle.my_grammar.specs.declared.spot.Kind.TheVariants.{Good}
use Rattle.my_grammar.specs.declared.spot.Terms.{Terms}
use Rattle.my_grammar.specs.Prepares.{Reply, Complete}
use Rattle.my_grammar.specs.Talk.{Talk, Preparing, Replied, Changing}
use Rattle.my_reading.specs.declared.call.Call.{Call}
use Rattle.my_reading.specs.declared.call.Call.TheVariants.{Prepare, CloseStmt}
use Rattle.my_reading.specs.declared.call.CallKind.TheVariants as kinds
use Rattle.my_reading.specs.Commands.{closing}
use Rattle.my_reading.specs.Course.{Stop, Returns}
use Rattle.my_reading.specs.Endings.{IsTape}
use Rattle.my_reading.specs.Place.{Exchange, exchanges}
use Rattle.my_reading.specs.Reading.{ReadCall, reading}
use Rattle.my_reading.specs.Statements.{Statements, is_cached}
use Rattle.my_reading.specs.Tape.{Tape}
use Rattle.my_reading.specs.Told.{Told, ToldError, Dropped, closes}

-- the statement that an exchange prepared, by the id in the head of a whole reply
abbrev pub id_in_reply : Reply → Option ℕ
id_in_reply (Complete head parameters fields) = option_map (λ ok. ok.id) (prepare_ok_at head.payload)
id_in_reply _ = None

abbrev pub prepared_in : Talk → Option ℕ
prepared_in (Preparing terms command reply) = id_in_reply reply
prepared_in _ = None

-- the exchange closes the statement
abbrev pub Closes : ℕ → Talk → Type 0
Closes id t = (terms : Terms) × (t ≡ closing terms id)

-- the exchange resets the server's session, or gives it another user: an OK answers the reset, or ends the chain of the change
pub data Resets (t : Talk) : Type 0 where
  ByReset : (terms : Terms) (ok : List ℕ) (status : StatusFlags) → t ≡ Replied terms (client_bytes ResetConnection) ok (Good status) → Resets t
  ByChange : (terms : Terms) (secret : Option (List ℕ)) (first : AuthStand) (change : UserChange) (chain : List Packet) (ok : List ℕ) (status : StatusFlags)
      → t ≡ Changing terms secret first (client_bytes (ChangeUser change)) (record { kind = Good status; payload = ok } ∷ chain) → Resets t

-- the server freed the statement in one of these exchanges: it was closed, or the session was reset
abbrev pub IsFreed : ℕ → List Exchange → Type 0
IsFreed id [] = ⊥
IsFreed id (e ∷ es) = (Closes id e.talk ⊎ Resets e.talk) ⊎ IsFreed id es

-- the statement is cached, or was freed in one of these exchanges, or the cache keeps none
abbrev pub IsKept : Statements → List Exchange → ℕ → Type 0
IsKept st since id = (is_cached st id ≡ true) ⊎ (IsFreed id since ⊎ (st.cache.capacity ≡ 0))

-- Of exchanges, the newest first, each statement that one prepared is cached, or was freed in a newer one, these among them, or the cache
-- keeps none.
abbrev pub EachIsKept : Statements → List Exchange → List Exchange → Type 0
EachIsKept st since [] = Unit {0}
EachIsKept st since (e ∷ es) = IfSome (prepared_in e.talk) (IsKept st since) × EachIsKept st (e ∷ since) es

-- a call returned, with no error
abbrev pub is_answer : Told → Bool
is_answer (ToldError e) = false
is_answer (Dropped closing) = false
is_answer _ = true

abbrev pub is_answered : Stop → Bool
is_answered (Returns t) = is_answer t
is_answered _ = false

abbrev pub AllReturned : List ReadCall → Type 0
AllReturned calls = AllByRecursion (λ c. is_answered c.halt.stop ≡ true) calls

-- Where each call so far returned with no error, each statement that a call prepared is cached, or was freed after that, or the cache
-- keeps none.
abbrev pub StatementsAreKept : Type 0
StatementsAreKept = (login : Login) (t : Tape) → AllReturned (reading login t).calls
    → EachIsKept (reading login t).place.statements [] (exchanges (reading login t).place)

-- A call that prepares a statement returned something that doesn't close the session, and one that closes a statement returned with no
-- error; of other calls nothing is asked.
abbrev pub leaves_open : Stop → Bool
leaves_open (Returns t) = not (closes t kinds.Prepare)
leaves_open _ = false

abbrev pub is_settled : Call → Stop → Bool
is_settled (Prepare text) s = leaves_open s
is_settled (CloseStmt id) s = is_answered s
is_settled call s = true

-- so does each call, but for those on a session that was closed before
abbrev pub AllSettled : List ReadCall → Type 0
AllSettled calls = AllByRecursion (λ c. (c.closed || is_settled c.span.call c.halt.stop) ≡ true) calls

-- Where each statement to prepare was returned or refused, and each close returned, each statement is kept so, whatever other calls came to.
abbrev pub SettledAreKept : Type 0
SettledAreKept = (login : Login) (t : Tape) → AllSettled (reading login t).calls
    → EachIsKept (reading login t).place.statements [] (exchanges (reading login t).place)

-- a call has ended, one that closes a statement with no error
abbrev pub is_ended : Call → Option Told → Bool
is_ended call None = false
is_ended (CloseStmt id) (Some t) = is_answer t
is_ended call (Some t) = true

abbrev pub AllEnded : List ReadCall → Type 0
AllEnded calls = AllByRecursion (λ c. is_ended c.span.call c.span.ending ≡ true) calls

-- So each statement is kept while a connection is open, unless a call that was to close one ended with an error.
abbrev pub OpenAreKept : Type 0
OpenAreKept = (login : Login) (t : Tape) → IsTape login t → (reading login t).closed ≡ false → AllEnded (reading login t).calls
    → EachIsKept (reading login t).place.statements [] (exchanges (reading login t).place)
