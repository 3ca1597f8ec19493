-- What a call that reads a URL returns: the result of reading its text, unless memory ran out.
use Rattle.std.specs.Prelude.{◌≡◌, Result, Ok, Err}
use Rattle.my_opts_parts.specs.declared.error.UrlError.{UrlError}
use Rattle.my_opts.specs.declared.error.UrlFault.{UrlFault}
use Rattle.my_opts.specs.declared.error.UrlFault.TheVariants.{Url, NoMemory}

-- the result is that of reading, unless memory ran out
abbrev pub ReadsAs : {A : Type 0} → Result A UrlFault → Result A UrlError → Type 0
ReadsAs (Ok x) read = read ≡ Ok x
ReadsAs (Err (Url e)) read = read ≡ Err e
ReadsAs (Err NoMemory) read = Unit {0}

-- the same of a call that changes what it is lent: with no error, that is what was read
abbrev pub LeavesAs : {A : Type 0} → Result (Unit {0}) UrlFault → A → Result A UrlError → Type 0
LeavesAs (Ok _) left read = read ≡ Ok left
LeavesAs (Err (Url e)) left read = read ≡ Err e
LeavesAs (Err NoMemory) left read = Unit {0}

-- the fault is this error, or memory ran out
abbrev pub IsFault : UrlFault → UrlError → Type 0
IsFault (Url e) error = error ≡ e
IsFault NoMemory error = Unit {0}
