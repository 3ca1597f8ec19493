-- The account of a connection's options: what a change of user makes of it.
use Rattle.std.specs.Prelude.{unwrap_or}
use Rattle.my_grammar.specs.declared.account.Account.{Account}
use Rattle.my_opts.specs.ChangeUser.{ChangeView}

-- each part stays, or is what the change says
abbrev pub changed : ChangeView → Account → Account
changed change a = record {
  user = unwrap_or change.user a.user;
  password = unwrap_or change.pass a.password;
  database = unwrap_or change.db_name a.database;
}
