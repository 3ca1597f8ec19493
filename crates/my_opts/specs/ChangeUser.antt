-- What a change of user changes: the COM_CHANGE_USER command of the MySQL client/server protocol.
use Rattle.std.specs.Prelude.{◌≡◌, ℕ, List, Option, None, unwrap_or}
use Rattle.my_opts.specs.Opts.{OptsView}

-- for each part the value that it gets, or none where it stays
pub record ChangeView : Type 0 where
  pub user : Option (Option (List ℕ))
  pub pass : Option (Option (List ℕ))
  pub db_name : Option (Option (List ℕ))

-- nothing is changed
abbrev pub no_change : ChangeView
no_change = record { user = None; pass = None; db_name = None }

-- the options after the change
abbrev pub changed_opts : ChangeView → OptsView → OptsView
changed_opts change opts = record opts {
  user = unwrap_or change.user opts.user;
  pass = unwrap_or change.pass opts.pass;
  db_name = unwrap_or change.db_name opts.db_name;
}

-- the parts have the values that the change gives them
pub record IsUnchangedBy (change : ChangeView) (opts : OptsView) : Type 0 where
  pub same_user : unwrap_or change.user opts.user ≡ opts.user
  pub same_pass : unwrap_or change.pass opts.pass ≡ opts.pass
  pub same_db_name : unwrap_or change.db_name opts.db_name ≡ opts.db_name
