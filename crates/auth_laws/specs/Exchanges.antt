-- What a client says in the exchanges that have a chain: a login, and a change of user.
use Rattle.std.specs.Prelude.{ℕ, ◌≡◌, ◌≤◌, List, [], ◌∷◌, ◌++◌, length, Option, Some, None, false, unwrap_or}
use Rattle.std.specs.List.{AllByRecursion}
use Rattle.my_auth.specs.declared.chain.AuthStand.{AuthStand}
use Rattle.my_auth.specs.Laws.{IsScrambled}
use Rattle.my_grammar.specs.declared.packet.Packet.{Packet}
use Rattle.my_grammar.specs.Response.{response}
use Rattle.my_grammar.specs.Talk.{Talk, Greeted, Changing, Turn, Client, Command, Server, Fits, answers, greeted_stand, secret_in, turns}
use Rattle.auth_laws.specs.Chains.{at_most_one}

-- what the client says, of both sides' payloads
abbrev pub said_by_client : List Turn → List (List ℕ)
said_by_client [] = []
said_by_client (Client p ∷ ts) = p ∷ said_by_client ts
said_by_client (Command p ∷ ts) = p ∷ said_by_client ts
said_by_client (Server p ∷ ts) = said_by_client ts

-- what it says after its first packet, where this is the password
abbrev pub answered : Option (List ℕ) → List Packet → List (List ℕ)
answered secret [] = []
answered secret (packet ∷ chain) = at_most_one (answers secret packet.kind packet.payload) ++ answered secret chain

-- the server's payloads after the client's first packet
abbrev pub chain_in : Talk → List Packet
chain_in (Greeted login p offer chain) = chain
chain_in (Changing terms secret stand c chain) = chain
chain_in t = []

-- where their chain begins
abbrev pub first_in : Talk → Option AuthStand
first_in (Greeted login p offer chain) = Some (greeted_stand login offer)
first_in (Changing terms secret stand c chain) = Some stand
first_in t = None

-- the client's first packet: the response to the greeting, or the command
abbrev pub opening_in : Talk → List (List ℕ)
opening_in (Greeted login p offer chain) = response login p ∷ []
opening_in (Changing terms secret stand c chain) = c ∷ []
opening_in t = []

-- The client says its first packet, and then its answers, and nothing else.
abbrev pub SaysNoMore : Type 0
SaysNoMore = (t : Talk) (first : AuthStand) → first_in t ≡ Some first → said_by_client (turns t) ≡ answered (secret_in t) (chain_in t) ++ opening_in t

-- They are at most two.
abbrev pub AnswersTwice : Type 0
AnswersTwice = (t : Talk) → Fits t → length (answered (secret_in t) (chain_in t)) ≤ 2

-- Each is a scramble of the password, or empty, where neither the options nor the link allow the password itself.
abbrev pub AnswersByScrambles : Type 0
AnswersByScrambles = (t : Talk) (first : AuthStand) → Fits t → first_in t ≡ Some first → first.rules.cleartext ≡ false → first.rules.local ≡ false
    → AllByRecursion (IsScrambled (unwrap_or (secret_in t) [])) (answered (secret_in t) (chain_in t))
