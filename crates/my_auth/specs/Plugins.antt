-- The names of the plugins by which a client logs in.
use Rattle.std.specs.Prelude.{ℕ, List, Bool, codes, Option, Some, None, if◌then◌else◌}
use Rattle.std.specs.Str.{bytes_eq}
use Rattle.my_auth.specs.declared.plugin.AuthPlugin.{AuthPlugin}
use Rattle.my_auth.specs.declared.plugin.AuthPlugin.TheVariants.{Native, Caching, Clear, Old}

abbrev pub plugin_name : AuthPlugin → List ℕ
plugin_name Native = codes "mysql_native_password"
plugin_name Caching = codes "caching_sha2_password"
plugin_name Clear = codes "mysql_clear_password"
plugin_name Old = codes "mysql_old_password"

-- the plugin of this name
abbrev pub plugin_named : List ℕ → Option AuthPlugin
plugin_named name =
    if bytes_eq name (codes "mysql_native_password") then Some Native
    else if bytes_eq name (codes "caching_sha2_password") then Some Caching
    else if bytes_eq name (codes "mysql_clear_password") then Some Clear
    else if bytes_eq name (codes "mysql_old_password") then Some Old
    else None

-- the plugin by which a nonce is answered
abbrev pub challenge_plugin : Bool → AuthPlugin
challenge_plugin caching = if caching then Caching else Native
