-- Which versions of a server have which commands.
-- MySQL 5.7.3 release notes and MariaDB, "COM_RESET_CONNECTION": MySQL has it from 5.7.3 on, MariaDB from 10.2.4 on. MySQL 5.6.5 release
-- notes: SET TRANSACTION READ ONLY and READ WRITE.
use Rattle.std.specs.Prelude.{ℕ, nat_lt, nat_le, Bool, ◌==◌, ◌&&◌, ◌||◌, if◌then◌else◌}
use Rattle.my_handshake.specs.declared.version.ServerVersion.{ServerVersion}

-- the version is this one or a later one
abbrev pub is_from : ℕ → ℕ → ℕ → ServerVersion → Bool
is_from major minor patch v =
    nat_lt major v.major
    || ((v.major == major) && (nat_lt minor v.minor || ((v.minor == minor) && nat_le patch v.patch)))

-- whether a server of this version can reset its session without a new login
abbrev pub can_reset : ServerVersion → Bool
can_reset v = if v.mariadb then is_from 10 2 4 v else is_from 5 7 3 v

-- whether a server of this version can be told that a transaction only reads
abbrev pub can_set_access : ServerVersion → Bool
can_set_access v = is_from 5 6 5 v
