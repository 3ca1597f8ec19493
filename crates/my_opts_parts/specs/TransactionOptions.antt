-- The options of a transaction.
use Rattle.std.specs.Prelude.{Bool, false, Option, None}
use Rattle.my_opts_parts.specs.declared.transaction.IsolationLevel.{IsolationLevel}

-- how a transaction begins
pub record TxView : Type 0 where
  pub consistent_snapshot : Bool
  pub isolation_level : Option IsolationLevel
  pub readonly : Option Bool

-- nothing is set
abbrev pub default_tx : TxView
default_tx = record { consistent_snapshot = false; isolation_level = None; readonly = None }
