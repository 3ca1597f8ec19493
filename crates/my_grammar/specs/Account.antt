-- Who logs in, and the command by which a connection gets another user.
-- MySQL client/server protocol, "Utility Commands": COM_CHANGE_USER.
use Rattle.std.specs.Prelude.{ℕ, List, [], Some, None, Bool, unwrap_or, if◌then◌else◌}
use Rattle.my_flags.specs.declared.flags.CapabilityFlags.{CapabilityFlags}
use Rattle.my_flags.specs.Sets.{sends_connect_attrs}
use Rattle.my_handshake.specs.declared.login.ChangeUser.{ChangeUser}
use Rattle.my_handshake.specs.Version.{version_of}
use Rattle.my_grammar.specs.declared.account.Account.{Account}
use Rattle.my_grammar.specs.declared.login.Login.{Login}
use Rattle.my_grammar.specs.Response.{charset_of}
use Rattle.my_auth.specs.Plugins.{challenge_plugin, plugin_name}
use Rattle.my_grammar.specs.Scramble.{password_answer}

-- the account with which a client logs in
abbrev pub account_of : Login → Account
account_of login = record { user = login.user; password = login.password; database = login.database }

-- The change to this account, on a connection with these capabilities of both sides, to a server of this version whose last challenge
-- was this nonce, for `caching_sha2_password` or for the native plugin.
abbrev pub change_to : Login → CapabilityFlags → (version : List ℕ) → (caching : Bool) → (nonce : List ℕ) → Account → ChangeUser
change_to login kept version caching nonce account = record {
  user = unwrap_or account.user [];
  scramble = password_answer caching account.password nonce;
  database = unwrap_or account.database [];
  charset = charset_of (version_of version);
  plugin = plugin_name (challenge_plugin caching);
  attributes = if sends_connect_attrs kept then Some login.attributes else None;
}
