-- What a client answers to a server's nonce. MySQL client/server protocol, "Authentication Methods": Native Authentication,
-- Caching SHA-2 Pluggable Authentication, Clear Text Authentication.
use Rattle.std.specs.Prelude.{ℕ, List, [], ◌∷◌, ◌++◌, map, bit_xor}
use Rattle.std.specs.List.{zip}
use Rattle.sha1.specs.Sha1.{sha1}
use Rattle.sha2.specs.Sha256.{sha256}
use Rattle.my_auth.specs.declared.plugin.AuthPlugin.{AuthPlugin}
use Rattle.my_auth.specs.declared.plugin.AuthPlugin.TheVariants.{Native, Caching, Clear, Old}

-- two lists byte by byte, as far as the shorter goes
abbrev pub xor_bytes : List ℕ → List ℕ → List ℕ
xor_bytes xs ys = map (λ p. bit_xor p.0 p.1) (zip xs ys)

-- SHA1(password) xor SHA1(nonce ++ SHA1(SHA1(password)))
unfoldable pub native_scramble : List ℕ → List ℕ → List ℕ
native_scramble password nonce = xor_bytes (sha1 password) (sha1 (nonce ++ sha1 (sha1 password)))

-- SHA256(password) xor SHA256(SHA256(SHA256(password)) ++ nonce)
unfoldable pub caching_scramble : List ℕ → List ℕ → List ℕ
caching_scramble password nonce = xor_bytes (sha256 password) (sha256 (sha256 (sha256 password) ++ nonce))

-- a password and a nonce; without a password the scrambles are empty
abbrev pub answer : AuthPlugin → List ℕ → List ℕ → List ℕ
answer Clear password nonce = password ++ 0 ∷ []
answer Old password nonce = []
answer Native [] nonce = []
answer Native (b ∷ password) nonce = native_scramble (b ∷ password) nonce
answer Caching [] nonce = []
answer Caching (b ∷ password) nonce = caching_scramble (b ∷ password) nonce
