-- What a client with some options says of itself: when a connection is made, and of its account.
use Rattle.std.specs.Prelude.{ℕ, List, [], ◌∷◌, Bool, false, Option, Some, None, bit_or, is_some, unwrap_or, if◌then◌else◌}
use Rattle.my_flags.specs.declared.flags.TheConstants.CapabilityFlags.{CLIENT_CONNECT_ATTRS}
use Rattle.my_handshake.specs.Attributes.{put_in_order}
use Rattle.my_handshake.specs.declared.attributes.Attribute.{Attribute}
use Rattle.my_auth.specs.declared.chain.AuthRules.{AuthRules}
use Rattle.my_grammar.specs.declared.account.Account.{Account}
use Rattle.my_grammar.specs.declared.login.Login.{Login}
use Rattle.my_frame.specs.declared.limits.TheConstants.{DEFAULT_MAX_ALLOWED_PACKET}
use Rattle.my_opts.specs.Opts.{OptsView}
use Rattle.my_opts.specs.Capabilities.{capabilities_of}

-- these pairs are put among attributes, in their order
abbrev pub with_pairs : List Attribute → List (List ℕ × List ℕ) → List Attribute
with_pairs attributes [] = attributes
with_pairs attributes (p ∷ ps) = with_pairs (put_in_order attributes (record { key = p.0; value = p.1 })) ps

abbrev pub attributes_of : Option (List (List ℕ × List ℕ)) → List Attribute
attributes_of None = []
attributes_of (Some pairs) = with_pairs [] pairs

-- a connection whose options have attributes offers to send them
abbrev pub offering : Bool → ℕ → ℕ
offering attributes bits = if attributes then bit_or bits CLIENT_CONNECT_ATTRS.0 else bits

-- What a client with these options may answer where a server asks for more. The password as it is goes over no link by
-- `caching_sha2_password`.
abbrev pub rules_of : OptsView → AuthRules
rules_of o = record { cleartext = o.enable_cleartext_plugin; secure = o.secure_auth; local = false }

abbrev pub login_of : OptsView → Login
login_of o = record {
  user = o.user;
  password = o.pass;
  database = o.db_name;
  max_packet = unwrap_or o.max_allowed_packet DEFAULT_MAX_ALLOWED_PACKET;
  attributes = attributes_of o.connect_attributes;
  capabilities = record { 0 = offering (is_some o.connect_attributes) (capabilities_of o) };
  packet_limit = o.max_allowed_packet;
  wait_timeout = o.wait_timeout;
  init = o.init;
  setup = o.setup;
  statements = o.stmt_cache_size;
  rules = rules_of o;
}

-- the account of options
abbrev pub account_in : OptsView → Account
account_in o = record { user = o.user; password = o.pass; database = o.db_name }

-- the options with this account, and without any
abbrev pub with_account : Account → OptsView → OptsView
with_account a o = record o { user = a.user; pass = a.password; db_name = a.database }

abbrev pub without_account : OptsView → OptsView
without_account o = record o { user = None; pass = None; db_name = None }
