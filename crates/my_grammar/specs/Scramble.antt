-- The answer to a server's nonce that proves that the client knows the password.
use Rattle.std.specs.Prelude.{ℕ, List, [], Option, Bool, unwrap_or}
use Rattle.my_auth.specs.Plugins.{challenge_plugin}
use Rattle.my_auth.specs.Scrambles.{answer}

-- by `caching_sha2_password` or by the native plugin; an empty password and none have an empty answer
abbrev pub password_answer : Bool → Option (List ℕ) → List ℕ → List ℕ
password_answer caching password nonce = answer (challenge_plugin caching) (unwrap_or password []) nonce
