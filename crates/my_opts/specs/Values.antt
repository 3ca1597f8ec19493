-- How the value of an option is parsed in a URL's query.
use Rattle.std.specs.Prelude.{ℕ, ◌||◌, ◌&&◌, ◌==◌, Bool, true, false, List, codes, bytes_eq, length, slice_index, Option, Some, None, if◌then◌else◌}
use Rattle.std.specs.Char.{is_digit}

-- a truth value: `true` or `false`
abbrev pub truth : List ℕ → Option Bool
truth text =
    if bytes_eq text (codes "true") then Some true
    else (if bytes_eq text (codes "false") then Some false else None)

-- how strongly payloads are compressed: a word, or one digit
abbrev pub is_compression : List ℕ → Bool
is_compression text =
    bytes_eq text (codes "fast") || bytes_eq text (codes "best") || bytes_eq text (codes "on")
    || bytes_eq text (codes "true") || (length text == 1 && is_digit (slice_index text 0) 10)
