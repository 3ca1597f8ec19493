-- What follows of the chain.
use Rattle.std.specs.Prelude.{ℕ, ◌≡◌, ◌<◌, List, Option, Some, None, Bool, true, false}
use Rattle.my_auth.specs.declared.plugin.AuthPlugin.{AuthPlugin}
use Rattle.my_auth.specs.declared.plugin.AuthPlugin.TheVariants.{Native, Caching}
use Rattle.my_auth.specs.declared.chain.AuthStand.{AuthStand}
use Rattle.my_auth.specs.declared.chain.AuthMove.{AuthMove}
use Rattle.my_auth.specs.declared.chain.AuthMove.TheVariants.{Over, Ask, Refuse}
use Rattle.my_auth.specs.Plugins.{plugin_name, plugin_named}
use Rattle.my_auth.specs.Scrambles.{answer}
use Rattle.my_auth.specs.Chain.{after_ask, move_at, reply_to}

abbrev pub KnowsItsNames : Type 0
KnowsItsNames = (plugin : AuthPlugin) → plugin_named (plugin_name plugin) ≡ Some plugin

-- a scramble of this password by a nonce; without a password it is empty
pub data IsScrambled (password bytes : List ℕ) : Type 0 where
  Natively : (nonce : List ℕ) → bytes ≡ answer Native password nonce → IsScrambled password bytes
  Cachingly : (nonce : List ℕ) → bytes ≡ answer Caching password nonce → IsScrambled password bytes

-- this holds of what is said, if anything is
abbrev pub IfSaid : (List ℕ → Type 0) → Option (List ℕ) → Type 0
IfSaid P None = Unit {0}
IfSaid P (Some bytes) = P bytes

-- of what is sent where a payload is this, whose password this is
abbrev pub Sends : List ℕ → List ℕ → (List ℕ → Type 0) → AuthMove → Type 0
Sends password payload P Over = Unit {0}
Sends password payload P (Ask ask) = IfSaid P (reply_to password ask payload)
Sends password payload P (Refuse refusal) = Unit {0}

abbrev pub KeepsThePassword : Type 0
KeepsThePassword = (password : List ℕ) (stand : AuthStand) (payload : List ℕ) → stand.rules.cleartext ≡ false → stand.rules.local ≡ false
    → Sends password payload (IsScrambled password) (move_at stand payload)

-- how many answers and waits can follow at most
abbrev pub left_of : Bool → Bool → ℕ
left_of switched true = 0
left_of true false = 1
left_of false false = 2

abbrev pub left : AuthStand → ℕ
left stand = left_of stand.switched stand.decided

-- of where the chain stands then, if it goes on
abbrev pub GoesOn : AuthStand → (AuthStand → Type 0) → AuthMove → Type 0
GoesOn stand P Over = Unit {0}
GoesOn stand P (Ask ask) = P (after_ask stand ask)
GoesOn stand P (Refuse refusal) = Unit {0}

abbrev pub ChainsEnd : Type 0
ChainsEnd = (stand : AuthStand) (payload : List ℕ) → GoesOn stand (λ later. left later < left stand) (move_at stand payload)
