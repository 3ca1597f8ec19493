-- The columns of the results of statements, by the statements' numbers, the ones that were put last first.
use Rattle.std.specs.Prelude.{ℕ, nat_eq, Option, List, ◌∷◌, take}
use Rattle.std.specs.Map.{lookup, remove_entry}
use Rattle.my_frame.specs.declared.limits.TheConstants.{MOST_STATEMENTS}
use Rattle.my_reply.specs.declared.column.Column.{Column}

-- the columns of a statement, where they are known
abbrev pub known_of : ℕ → List (ℕ × List Column) → Option (List Column)
known_of id known = lookup (nat_eq id) known

-- after columns of a statement were put in place of those that it had: they are in front, and where one too many is
-- known, the last goes
abbrev pub known_put : ℕ → List Column → List (ℕ × List Column) → List (ℕ × List Column)
known_put id columns known = take MOST_STATEMENTS ((id, columns) ∷ remove_entry (nat_eq id) known)
