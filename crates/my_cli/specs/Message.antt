-- Why a run ended, as text.
use Rattle.std.specs.Prelude.{◌≡◌, ℕ, ◌==◌, ◌||◌, List, [], ◌∷◌, ◌++◌, codes, map, Option, Some, None, if◌then◌else◌}
use Rattle.std.specs.Char.{is_ascii_graphic}
use Rattle.std.specs.Fmt.{decimal}
use Rattle.my_run.specs.declared.tool.Status.{Status}
use Rattle.my_run.specs.declared.tool.Status.TheVariants as status
use Rattle.my_cli.specs.declared.help.TheConstants.{USAGE}
use Rattle.my_cli.specs.declared.unread.Unread.{Unread}
use Rattle.my_cli.specs.Unread.{unread_text}

-- a byte that can be printed, or `?`
abbrev pub printable : ℕ → ℕ
printable b = if is_ascii_graphic b || b == 32 then b else 63

abbrev pub printed : List ℕ → List ℕ
printed bytes = map printable bytes

-- each word after a blank
abbrev pub words_text : List (List ℕ) → List ℕ
words_text [] = []
words_text (word ∷ words) = 32 ∷ printed word ++ words_text words

-- without words the usage, in three lines
abbrev pub no_command_text : List (List ℕ) → List ℕ
no_command_text [] = USAGE.now
no_command_text words = codes "no such command:" ++ words_text words ++ codes "; --help teaches the words"

abbrev pub bad_line_text : ℕ → Unread → List ℕ → List ℕ
bad_line_text number cause line = codes "line " ++ decimal number ++ codes " doesn't read (" ++ unread_text cause ++ codes "): " ++ printed line

-- the message of a status; that of a refused word is its fault's own text, and a line that doesn't read has one of the causes
abbrev pub MessageIs : List (List ℕ) → Status → Option (List ℕ) → Type 0
MessageIs words status.Done m = m ≡ None
MessageIs words status.NoCommand m = m ≡ Some (no_command_text words)
MessageIs words (status.Unread line) m = (cause : Unread) × (m ≡ Some (bad_line_text line.number cause line.text))
MessageIs words status.SourceFailed m = m ≡ Some (codes "standard input failed")
MessageIs words status.SinkFailed m = m ≡ Some (codes "standard output failed")
MessageIs words (status.Refused fault) m = (text : List ℕ) × (m ≡ Some text)
MessageIs words status.TooLong m = m ≡ Some (codes "standard input has more than 67108864 bytes")
MessageIs words status.NoMemory m = m ≡ Some (codes "out of memory")
