-- An exchange as it was read: a client's command with the server's payloads so far, or the opening of a connection, which begins with
-- the server. MySQL client/server protocol, "Connection Phase" and "Command Phase". One running sequence id goes over the packets of both
-- sides, from 0 on, anew from each command of the client on.
use Rattle.std.specs.Prelude.{◌≡◌, ℕ, ◌≤◌, List, [], ◌∷◌, ◌++◌, length, Option, Some, None, false, unwrap_or}
use Rattle.std.specs.List.{AllByRecursion, flat_map}
use Rattle.my_flags.specs.declared.flags.CapabilityFlags.{CapabilityFlags}
use Rattle.my_flags.specs.Sets.{deprecates_eof, intersection}
use Rattle.my_frame.specs.declared.limits.TheConstants.{DEFAULT_MAX_ALLOWED_PACKET}
use Rattle.my_frame.specs.Chunks.{chunks, number_after_payload}
use Rattle.my_auth.specs.declared.chain.AuthStand.{AuthStand}
use Rattle.my_auth.specs.Chain.{after_ask, first_stand, reply_to}
use Rattle.my_auth.specs.Plugins.{challenge_plugin}
use Rattle.my_grammar.specs.declared.login.Login.{Login}
use Rattle.my_reply.specs.declared.column.Column.{Column}
use Rattle.my_grammar.specs.declared.spot.RowFormat.TheVariants.{Text}
use Rattle.my_grammar.specs.declared.spot.Offer.{Offer}
use Rattle.my_grammar.specs.declared.spot.Spot.{Spot}
use Rattle.my_grammar.specs.declared.spot.Spot.TheVariants as spots
use Rattle.my_grammar.specs.declared.spot.Kind.{Kind}
use Rattle.my_grammar.specs.declared.spot.Kind.TheVariants as kinds
use Rattle.my_grammar.specs.declared.spot.Terms.{Terms}
use Rattle.my_grammar.specs.declared.spot.Context.{Context}
use Rattle.my_grammar.specs.Contexts.{is_bad}
use Rattle.my_grammar.specs.Kinds.{auth_kind, greeting_kind, single_kind}
use Rattle.my_grammar.specs.Sets.{Asking, ByText, ByStatement, Sets, NoSets, Packet, asking_in, packets_in, context_in, described_in}
use Rattle.my_grammar.specs.FitSets.{FitSets}
use Rattle.my_grammar.specs.Prepares.{Reply, Unanswered, packets_in_reply, context_in_reply}
use Rattle.my_grammar.specs.FitReplies.{FitReply}
use Rattle.my_grammar.specs.Response.{response}

-- Start: a connection before the greeting; Unwelcome: an ERR in its place; Greeted: the greeting, the client's response and the chain
-- after it, the newest payload first. Asked: a simple command; Replied: with its OK or ERR. Changing: a change of user with its chain,
-- where the client's password is `secret` and `stand` is where the chain begins. Queried: a query, or a statement that is executed,
-- with its sets. Preparing: a statement to prepare with its reply. Silent: a command without a reply.
pub data Talk : Type 0 where
  Start : (login : Login) → Talk
  Unwelcome : (login : Login) (p : List ℕ) → Talk
  Greeted : (login : Login) (p : List ℕ) (offer : Offer) (chain : List Packet) → Talk
  Asked : (terms : Terms) (command : List ℕ) → Talk
  Replied : (terms : Terms) (command : List ℕ) (last : List ℕ) (kind : Kind) → Talk
  Changing : (terms : Terms) (secret : Option (List ℕ)) (stand : AuthStand) (command : List ℕ) (chain : List Packet) → Talk
  Queried : (terms : Terms) (command : List ℕ) (sets : Sets) → Talk
  Preparing : (terms : Terms) (command : List ℕ) (reply : Reply) → Talk
  Silent : (terms : Terms) (command : List ℕ) → Talk

-- the longest payload that is read until the settings are known
abbrev pub default_limit : ℕ
default_limit = DEFAULT_MAX_ALLOWED_PACKET

-- before the greeting the client's own capabilities hold
abbrev pub start_terms : Login → Terms
start_terms login = record { kept = login.capabilities; limit = default_limit }

abbrev pub greeted_terms : Login → CapabilityFlags → Terms
greeted_terms login capabilities = record { kept = intersection login.capabilities capabilities; limit = default_limit }

-- where a chain stands after a payload of this kind; none where it is over
abbrev pub stand_next : Kind → Option AuthStand → Option AuthStand
stand_next (kinds.Asks ask) (Some stand) = Some (after_ask stand ask)
stand_next k stand = None

-- where a chain stands after these payloads
abbrev pub stand_in : AuthStand → List Packet → Option AuthStand
stand_in first [] = Some first
stand_in first (packet ∷ chain) = stand_next packet.kind (stand_in first chain)

abbrev pub chain_spot : Option AuthStand → Spot
chain_spot None = spots.Idle
chain_spot (Some stand) = spots.Authentication stand

-- what a payload is where a chain stands so
abbrev pub chain_kind : Option AuthStand → List ℕ → Kind
chain_kind None p = kinds.Bad
chain_kind (Some stand) p = auth_kind stand p

-- each payload of a chain fits where the chain stands then
abbrev pub FitChain : AuthStand → List Packet → Type 0
FitChain first [] = Unit {0}
FitChain first (packet ∷ chain) =
    FitChain first chain × (chain_kind (stand_in first chain) packet.payload ≡ packet.kind) × (is_bad packet.kind ≡ false)

-- the chain after a greeting begins with the client's response
abbrev pub greeted_stand : Login → Offer → AuthStand
greeted_stand login offer = first_stand login.rules (challenge_plugin offer.caching)

-- the server's payloads with what they are, the newest first: facts of an exchange are folds over them
abbrev pub packets_of : Talk → List Packet
packets_of (Unwelcome login p) = record { kind = kinds.Failed; payload = p } ∷ []
packets_of (Greeted login p offer chain) = chain ++ record { kind = kinds.Greets offer; payload = p } ∷ []
packets_of (Replied terms c last kind) = record { kind = kind; payload = last } ∷ []
packets_of (Changing terms secret stand c chain) = chain
packets_of (Queried terms c sets) = packets_in sets
packets_of (Preparing terms c reply) = packets_in_reply reply
packets_of _ = []

-- Whose payload it is. A command is the client's, and its sequence ids begin with 0 whatever was sent before: an exchange has more than
-- one where parts of long values go ahead of a statement that is executed.
pub data Turn : Type 0 where
  Client : (p : List ℕ) → Turn
  Command : (p : List ℕ) → Turn
  Server : (p : List ℕ) → Turn

-- the server's payloads, after other turns
abbrev pub served : List Packet → List Turn → List Turn
served [] others = others
served (packet ∷ packets) others = Server packet.payload ∷ served packets others

-- the payloads of long data, in the order in which they are sent, after other turns
abbrev pub sent_ahead : List (List ℕ) → List Turn → List Turn
sent_ahead [] others = others
sent_ahead (p ∷ ps) others = sent_ahead ps (Command p ∷ others)

-- what the client answers at once to a payload of this kind in a chain, if anything
abbrev pub answers : (secret : Option (List ℕ)) → Kind → List ℕ → Option (List ℕ)
answers secret (kinds.Asks ask) p = reply_to (unwrap_or secret []) ask p
answers secret k p = None

-- and to a payload anywhere: its response to a greeting, too
abbrev pub says : Login → (secret : Option (List ℕ)) → Kind → List ℕ → Option (List ℕ)
says login secret (kinds.Greets offer) p = Some (response login p)
says login secret (kinds.Asks ask) p = reply_to (unwrap_or secret []) ask p
says login secret k p = None

abbrev pub client_turns : Option (List ℕ) → List Turn
client_turns None = []
client_turns (Some p) = Client p ∷ []

-- the turns of a chain after other turns, where the client's password is this
abbrev pub chained : (secret : Option (List ℕ)) → List Packet → List Turn → List Turn
chained secret [] others = others
chained secret (packet ∷ chain) others = client_turns (answers secret packet.kind packet.payload) ++ Server packet.payload ∷ chained secret chain others

-- the client's turns of a command that sets answer
abbrev pub commands_by : List ℕ → Asking → List Turn
commands_by c ByText = Client c ∷ []
commands_by c (ByStatement ahead known) = Command c ∷ sent_ahead ahead []

-- both sides' payloads, the newest first
abbrev pub turns : Talk → List Turn
turns (Start login) = []
turns (Unwelcome login p) = Server p ∷ []
turns (Greeted login p offer chain) = chained login.password chain (Client (response login p) ∷ Server p ∷ [])
turns (Asked terms c) = Client c ∷ []
turns (Replied terms c last kind) = Server last ∷ Client c ∷ []
turns (Changing terms secret stand c chain) = chained secret chain (Client c ∷ [])
turns (Queried terms c sets) = served (packets_in sets) (commands_by c (asking_in sets))
turns (Preparing terms c reply) = served (packets_in_reply reply) (Client c ∷ [])
turns (Silent terms c) = Client c ∷ []

-- the sequence id of the next packet, of either side
abbrev pub number_of : List Turn → ℕ
number_of [] = 0
number_of (Client p ∷ ts) = number_after_payload p (number_of ts)
number_of (Command p ∷ ts) = number_after_payload p 0
number_of (Server p ∷ ts) = number_after_payload p (number_of ts)

-- the bytes of one side's payloads
abbrev pub server_bytes : List Turn → List ℕ
server_bytes [] = []
server_bytes (Server p ∷ ts) = server_bytes ts ++ chunks p (number_of ts)
server_bytes (Client p ∷ ts) = server_bytes ts
server_bytes (Command p ∷ ts) = server_bytes ts

abbrev pub client_bytes : List Turn → List ℕ
client_bytes [] = []
client_bytes (Client p ∷ ts) = client_bytes ts ++ chunks p (number_of ts)
client_bytes (Command p ∷ ts) = client_bytes ts ++ chunks p 0
client_bytes (Server p ∷ ts) = client_bytes ts

-- the commands that a client says in an exchange, in order; none in the opening of a connection
abbrev pub commands_with : List ℕ → Asking → List (List ℕ)
commands_with c ByText = c ∷ []
commands_with c (ByStatement ahead known) = ahead ++ c ∷ []

abbrev pub commands_in : Talk → List (List ℕ)
commands_in (Asked terms c) = c ∷ []
commands_in (Replied terms c last kind) = c ∷ []
commands_in (Changing terms secret stand c chain) = c ∷ []
commands_in (Queried terms c sets) = commands_with c (asking_in sets)
commands_in (Preparing terms c reply) = c ∷ []
commands_in (Silent terms c) = c ∷ []
commands_in _ = []

-- the bytes of commands, of each from the sequence id 0
abbrev pub commands_bytes : List (List ℕ) → List ℕ
commands_bytes ps = flat_map (λ p. chunks p 0) ps

-- the context of the next payload
abbrev pub context_of : Talk → Context
context_of (Start login) = record { spot = spots.Greeting login.rules; rows = Text; columns = 0; terms = start_terms login }
context_of (Unwelcome login p) = record { spot = spots.Idle; rows = Text; columns = 0; terms = start_terms login }
context_of (Greeted login p offer chain) = record {
  spot = chain_spot (stand_in (greeted_stand login offer) chain);
  rows = Text;
  columns = 0;
  terms = greeted_terms login offer.capabilities;
}
context_of (Asked terms c) = record { spot = spots.Single; rows = Text; columns = 0; terms = terms }
context_of (Replied terms c last kind) = record { spot = spots.Idle; rows = Text; columns = 0; terms = terms }
context_of (Changing terms secret stand c chain) = record { spot = chain_spot (stand_in stand chain); rows = Text; columns = 0; terms = terms }
context_of (Queried terms c sets) = context_in terms sets
context_of (Preparing terms c reply) = context_in_reply terms reply
context_of (Silent terms c) = record { spot = spots.Idle; rows = Text; columns = 0; terms = terms }

-- the columns of the set that is being read, in order, as far as its packets describe them; none between sets and in other exchanges
abbrev pub described : Talk → List Column
described (Queried terms c sets) = described_in sets
described _ = []

-- each payload is one that fits in its place
abbrev pub FitKinds : Talk → Type 0
FitKinds (Unwelcome login p) = greeting_kind p ≡ kinds.Failed
FitKinds (Greeted login p offer chain) = (greeting_kind p ≡ kinds.Greets offer) × FitChain (greeted_stand login offer) chain
FitKinds (Replied terms c last kind) = (single_kind last ≡ kind) × (is_bad kind ≡ false)
FitKinds (Changing terms secret stand c chain) = FitChain stand chain
FitKinds (Queried terms c sets) = FitSets (deprecates_eof terms.kept) sets
FitKinds (Preparing terms c reply) = FitReply (deprecates_eof terms.kept) reply
FitKinds _ = Unit {0}

-- the longest payload that is read in the exchange
abbrev pub limit_of : Talk → ℕ
limit_of (Asked terms c) = terms.limit
limit_of (Replied terms c last kind) = terms.limit
limit_of (Changing terms secret stand c chain) = terms.limit
limit_of (Queried terms c sets) = terms.limit
limit_of (Preparing terms c reply) = terms.limit
limit_of (Silent terms c) = terms.limit
limit_of _ = default_limit

-- The exchange is one that the protocol has, with no payload above the limit.
pub record Fits (t : Talk) : Type 0 where
  pub kinds : FitKinds t
  pub within : AllByRecursion (λ packet. length packet.payload ≤ limit_of t) (packets_of t)

-- the exchange as it began
abbrev pub origin : Talk → Talk
origin (Start login) = Start login
origin (Unwelcome login p) = Start login
origin (Greeted login p offer chain) = Start login
origin (Asked terms c) = Asked terms c
origin (Replied terms c last kind) = Asked terms c
origin (Changing terms secret stand c chain) = Changing terms secret stand c []
origin (Queried terms c sets) = Queried terms c (NoSets (asking_in sets))
origin (Preparing terms c reply) = Preparing terms c Unanswered
origin (Silent terms c) = Silent terms c

-- the login of a connecting exchange; for others the default any
abbrev pub login_in : Login → Talk → Login
login_in any (Start login) = login
login_in any (Unwelcome login p) = login
login_in any (Greeted login p offer chain) = login
login_in any _ = any

-- the password by which the client answers in the exchange's chain; none in others
abbrev pub secret_in : Talk → Option (List ℕ)
secret_in (Start login) = login.password
secret_in (Unwelcome login p) = login.password
secret_in (Greeted login p offer chain) = login.password
secret_in (Changing terms secret stand c chain) = secret
secret_in _ = None
