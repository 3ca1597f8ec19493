-- Chains that no client does.
use Rattle.std.specs.Prelude.{ℕ, ◌≡◌, List, [], ◌∷◌, Some, None, true, false}
use Rattle.std.specs.List.{AllByRecursion}
use Rattle.my_handshake.specs.declared.switch.SwitchRequest.{SwitchRequest}
use Rattle.my_handshake.specs.SwitchRequest.{switch_at}
use Rattle.my_auth.specs.declared.plugin.AuthPlugin.TheVariants.{Native, Clear}
use Rattle.my_auth.specs.declared.chain.AuthStand.{AuthStand}
use Rattle.my_auth.specs.Plugins.{plugin_named}
use Rattle.my_auth.specs.Scrambles.{answer}
use Rattle.auth_laws.specs.Chains.{IsChain, Link, Says, sent}

-- two payloads that ask for another plugin, and both are answered
abbrev pub NoSecondSwitch : Type 0
NoSecondSwitch = (password : List ℕ) (first s t : AuthStand) (l m : Link) (ls : List Link) (a b x y : List ℕ)
    → l.payload ≡ 0xFE ∷ a → l.did ≡ Says (Some x) s → m.payload ≡ 0xFE ∷ b → m.did ≡ Says (Some y) t
    → IsChain password first (m ∷ l ∷ ls) → ⊥

-- a switch to the plugin by which the password is sent as it is, which is answered though the options don't allow it
abbrev pub NoClearPassword : Type 0
NoClearPassword = (password : List ℕ) (first t : AuthStand) (l : Link) (ls : List Link) (request : SwitchRequest) (a x : List ℕ)
    → first.rules.cleartext ≡ false → l.payload ≡ 0xFE ∷ a → switch_at l.payload ≡ Some request
    → plugin_named request.plugin ≡ Some Clear → l.did ≡ Says (Some x) t → IsChain password first (l ∷ ls) → ⊥

-- the password as it is, since the server asks for it, over a link that others may read
abbrev pub NoFullPassword : Type 0
NoFullPassword = (password : List ℕ) (first t : AuthStand) (l : Link) (ls : List Link) (a x : List ℕ)
    → first.rules.local ≡ false → l.payload ≡ 0x01 ∷ a → l.did ≡ Says (Some x) t → IsChain password first (l ∷ ls) → ⊥

-- a switch to the native plugin, which is answered by another scramble than that with the switch's nonce
abbrev pub NoEarlierNonce : Type 0
NoEarlierNonce = (password : List ℕ) (first t : AuthStand) (l : Link) (ls : List Link) (request : SwitchRequest) (a x : List ℕ)
    → l.payload ≡ 0xFE ∷ a → switch_at l.payload ≡ Some request → plugin_named request.plugin ≡ Some Native
    → l.did ≡ Says (Some x) t → (x ≡ answer Native password request.nonce → ⊥) → IsChain password first (l ∷ ls) → ⊥

-- something else than an empty payload, where there is no password and it isn't sent as it is
abbrev pub NoEmptyScramble : Type 0
NoEmptyScramble = (first : AuthStand) (ls : List Link) → first.rules.cleartext ≡ false → first.rules.local ≡ false
    → IsChain [] first ls → AllByRecursion (λ (bytes : List ℕ). bytes ≡ []) (sent ls)

-- an answer after the server said that the hash was right
abbrev pub NoGoingOn : Type 0
NoGoingOn = (password : List ℕ) (first s t : AuthStand) (l m : Link) (ls : List Link) (x : List ℕ)
    → l.did ≡ Says None s → m.did ≡ Says (Some x) t → IsChain password first (m ∷ l ∷ ls) → ⊥
