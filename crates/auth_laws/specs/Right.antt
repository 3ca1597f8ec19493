-- Chains that a client does.
use Rattle.std.specs.Prelude.{ℕ, ◌≡◌, List, [], ◌∷◌, ◌++◌, Some, None, codes}
use Rattle.my_auth.specs.declared.plugin.AuthPlugin.TheVariants.{Native, Caching}
use Rattle.my_auth.specs.declared.chain.AuthAsk.TheVariants.{Switch, Wait}
use Rattle.my_auth.specs.declared.chain.AuthRules.{AuthRules}
use Rattle.my_auth.specs.Chain.{after_ask, first_stand}
use Rattle.my_auth.specs.Scrambles.{answer}
use Rattle.auth_laws.specs.Chains.{Ended, IsChain, Says}

-- an OK
abbrev pub fine : List ℕ
fine = 0x00 ∷ 0 ∷ 0 ∷ 2 ∷ 0 ∷ 0 ∷ 0 ∷ []

-- a switch to the native plugin with the nonce "ab"
abbrev pub switch : List ℕ
switch = 0xFE ∷ codes "mysql_native_password" ++ 0 ∷ codes "ab" ++ 0 ∷ []

-- it is answered by the scramble with that nonce, and then the server says that the login was right
abbrev pub SwitchedLogin : Type 0
SwitchedLogin = (rules : AuthRules) (password : List ℕ) → IsChain password (first_stand rules Caching)
    (record { payload = fine; did = Ended }
    ∷ record { payload = switch; did = Says (Some (answer Native password (codes "ab"))) (after_ask (first_stand rules Caching) (Switch Native)) }
    ∷ [])

-- the server had the hash of the password, and says so; nothing is sent
abbrev pub CachedLogin : Type 0
CachedLogin = (rules : AuthRules) (password : List ℕ) → IsChain password (first_stand rules Caching)
    (record { payload = fine; did = Ended }
    ∷ record { payload = 0x01 ∷ 0x03 ∷ []; did = Says None (after_ask (first_stand rules Caching) Wait) } ∷ [])
