-- A chain: what a server sent after the client's first packet, and what the client did with each payload.
use Rattle.std.specs.Prelude.{ℕ, ◌≡◌, ◌≤◌, List, [], ◌∷◌, ◌++◌, length, Option, Some, None, false}
use Rattle.std.specs.List.{AllByRecursion}
use Rattle.my_auth.specs.declared.chain.AuthStand.{AuthStand}
use Rattle.my_auth.specs.declared.chain.AuthMove.{AuthMove}
use Rattle.my_auth.specs.declared.chain.AuthMove.TheVariants.{Over, Ask, Refuse}
use Rattle.my_auth.specs.declared.chain.AuthRefusal.{AuthRefusal}
use Rattle.my_auth.specs.Chain.{after_ask, move_at, reply_to}
use Rattle.my_auth.specs.Laws.{IsScrambled}

-- The chain ended; or the client said this, if anything, and then the chain stands so; or the client goes on no more.
pub data Did : Type 0 where
  Ended : Did
  Says : (said : Option (List ℕ)) (later : AuthStand) → Did
  Refused : (refusal : AuthRefusal) → Did

-- what a client with this password does with a payload that is this
abbrev pub did_by : List ℕ → AuthStand → List ℕ → AuthMove → Did
did_by password stand payload Over = Ended
did_by password stand payload (Ask ask) = Says (reply_to password ask payload) (after_ask stand ask)
did_by password stand payload (Refuse refusal) = Refused refusal

abbrev pub does : List ℕ → AuthStand → List ℕ → Did
does password stand payload = did_by password stand payload (move_at stand payload)

-- a payload of the server, and what the client did with it
pub record Link : Type 0 where
  pub payload : List ℕ
  pub did : Did

-- the chain goes on, and stands so
abbrev pub Leaves : Did → AuthStand → Type 0
Leaves (Says said later) stand = stand ≡ later
Leaves Ended stand = ⊥
Leaves (Refused refusal) stand = ⊥

-- where a chain stands after these links, the newest first
abbrev pub StandsAt : AuthStand → List Link → AuthStand → Type 0
StandsAt first [] stand = stand ≡ first
StandsAt first (l ∷ ls) stand = Leaves l.did stand

-- the client did what the definition of the chain says, where the chain stood
abbrev pub DoesNext : List ℕ → AuthStand → List Link → Link → Type 0
DoesNext password first ls l = (stand : AuthStand) × StandsAt first ls stand × (l.did ≡ does password stand l.payload)

-- These are the links of a chain, the newest first; nothing follows a payload that ended it.
abbrev pub IsChain : List ℕ → AuthStand → List Link → Type 0
IsChain password first [] = Unit {0}
IsChain password first (l ∷ ls) = IsChain password first ls × DoesNext password first ls l

abbrev pub at_most_one : Option (List ℕ) → List (List ℕ)
at_most_one None = []
at_most_one (Some bytes) = bytes ∷ []

abbrev pub sent_by : Did → List (List ℕ)
sent_by (Says said later) = at_most_one said
sent_by did = []

-- what the client sent, the newest first
abbrev pub sent : List Link → List (List ℕ)
sent [] = []
sent (l ∷ ls) = sent_by l.did ++ sent ls

abbrev pub IsShort : Type 0
IsShort = (password : List ℕ) (first : AuthStand) (ls : List Link) → IsChain password first ls → length (sent ls) ≤ 2

abbrev pub PasswordsStay : Type 0
PasswordsStay = (password : List ℕ) (first : AuthStand) (ls : List Link) → first.rules.cleartext ≡ false → first.rules.local ≡ false
    → IsChain password first ls → AllByRecursion (IsScrambled password) (sent ls)
