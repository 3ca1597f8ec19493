-- How a transaction begins: START TRANSACTION and SET TRANSACTION ISOLATION LEVEL of the MySQL
-- manual.
use Rattle.std.specs.Prelude.{ℕ, List, codes}
use Rattle.my_opts_parts.specs.declared.transaction.IsolationLevel.{IsolationLevel}
use Rattle.my_opts_parts.specs.declared.transaction.IsolationLevel.TheVariants.{ReadUncommitted, ReadCommitted, RepeatableRead, Serializable}

-- the words for a level
abbrev pub level_text : IsolationLevel → List ℕ
level_text ReadUncommitted = codes "READ UNCOMMITTED"
level_text ReadCommitted = codes "READ COMMITTED"
level_text RepeatableRead = codes "REPEATABLE READ"
level_text Serializable = codes "SERIALIZABLE"

-- the number of a level, from the weakest
abbrev pub level_number : IsolationLevel → ℕ
level_number ReadUncommitted = 0
level_number ReadCommitted = 1
level_number RepeatableRead = 2
level_number Serializable = 3
