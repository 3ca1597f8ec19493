-- How a transaction begins: what follows the word `begin`.
use Rattle.std.specs.Prelude.{ℕ, ◌==◌, List, codes, Option, Some, None, option_map, true, false, if◌then◌else◌}
use Rattle.std.specs.Str.{bytes_eq}
use Rattle.my_frame.specs.Numbers.{◌>>=◌}
use Rattle.my_opts_parts.specs.declared.transaction.IsolationLevel.{IsolationLevel}
use Rattle.my_opts_parts.specs.declared.transaction.IsolationLevel.TheVariants.{ReadUncommitted, ReadCommitted, RepeatableRead, Serializable}
use Rattle.my_opts_parts.specs.TransactionOptions.{TxView, default_tx}
use Rattle.my_script.specs.declared.reading.beginning.BeginParts.{BeginParts}
use Rattle.my_script.specs.Cut.{first_of, rest_of, words_in}
use Rattle.my_script.specs.Number.{number_of}

-- the number of a connection, and what follows a blank after it
pub record BeginWords : Type 0 where
  pub connection : ℕ
  pub rest : Option (List ℕ)

unfoldable pub begin_parts : List ℕ → Option BeginWords
begin_parts rest = do
  connection ← number_of (first_of 32 rest)
  Some (record { connection = connection; rest = rest_of 32 rest })

abbrev pub begin_view : BeginParts → BeginWords
begin_view p = record { connection = p.connection; rest = option_map (λ r. r.now) p.rest }

-- the level of this number
abbrev pub level_at : ℕ → Option IsolationLevel
level_at n =
    if n == 0 then Some ReadUncommitted
    else if n == 1 then Some ReadCommitted
    else if n == 2 then Some RepeatableRead
    else if n == 3 then Some Serializable
    else None

abbrev pub level_with : Option (List ℕ) → Option IsolationLevel
level_with None = None
level_with (Some digits) = number_of digits >>= level_at

-- `level=N`
abbrev pub level_in : List ℕ → Option IsolationLevel
level_in word = if bytes_eq (first_of 61 word) (codes "level") then level_with (rest_of 61 word) else None

-- `snapshot`, `ro`, `rw`, `level=N`: the later one counts
abbrev pub with_option : TxView → List ℕ → Option TxView
with_option t word =
    if bytes_eq word (codes "snapshot") then Some (record t { consistent_snapshot = true })
    else if bytes_eq word (codes "ro") then Some (record t { readonly = Some true })
    else if bytes_eq word (codes "rw") then Some (record t { readonly = Some false })
    else option_map (λ level. record t { isolation_level = Some level }) (level_in word)

-- the options that all words say which follow; none where one of them doesn't read
abbrev pub options_in : Option (List ℕ) → Option TxView
options_in rest = words_in with_option default_tx rest
