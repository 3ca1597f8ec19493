-- How a connection's user changes: what follows the word `user`.
use Rattle.std.specs.Prelude.{ℕ, List, [], ◌∷◌, codes, Option, Some, None, if◌then◌else◌}
use Rattle.std.specs.Str.{bytes_eq, is_utf8}
use Rattle.my_frame.specs.Numbers.{◌>>=◌}
use Rattle.my_opts.specs.ChangeUser.{ChangeView}
use Rattle.my_script.specs.declared.reading.changing.Part.{Part}
use Rattle.my_script.specs.declared.reading.changing.Part.TheVariants.{Kept, Cleared, Valued}
use Rattle.my_script.specs.declared.reading.changing.ChangeWords.{ChangeWords}
use Rattle.my_script.specs.declared.reading.changing.UserParts.{UserParts}
use Rattle.my_script.specs.Cut.{first_of, rest_of}
use Rattle.my_script.specs.Number.{number_of}

-- bytes that are text
abbrev pub text_in : List ℕ → Option (List ℕ)
text_in word = if is_utf8 word then Some word else None

abbrev pub valued : Option (List ℕ) → Option (Option (Option (List ℕ)))
valued None = None
valued (Some text) = Some (Some (Some text))

-- What a word changes of a part: `=` keeps it, `-` clears it, and each other word that is text is its new value.
abbrev pub part_of : List ℕ → Option (Option (Option (List ℕ)))
part_of [] = None
part_of (b ∷ word) =
    if bytes_eq (b ∷ word) (codes "=") then Some None
    else if bytes_eq (b ∷ word) (codes "-") then Some (Some None)
    else valued (text_in (b ∷ word))

-- the last word, which nothing follows
abbrev pub last_part : List ℕ → Option (List ℕ) → Option (Option (Option (List ℕ)))
last_part word None = part_of word
last_part word (Some rest) = None

-- the change of three words: of the user's name, the password and the database
unfoldable pub change_of : List ℕ → Option ChangeView
change_of words = do
  user ← part_of (first_of 32 words)
  after_user ← rest_of 32 words
  pass ← part_of (first_of 32 after_user)
  after_pass ← rest_of 32 after_user
  db_name ← last_part (first_of 32 after_pass) (rest_of 32 after_pass)
  Some (record { user = user; pass = pass; db_name = db_name })

-- the number of a connection, and the change that the words after it say
pub record UserWords : Type 0 where
  pub connection : ℕ
  pub change : ChangeView

unfoldable pub user_parts : List ℕ → Option UserWords
user_parts rest = do
  connection ← number_of (first_of 32 rest)
  words ← rest_of 32 rest
  change ← change_of words
  Some (record { connection = connection; change = change })

abbrev pub part_view : Part → Option (Option (List ℕ))
part_view Kept = None
part_view Cleared = Some None
part_view (Valued text) = Some (Some text.now)

abbrev pub change_view : ChangeWords → ChangeView
change_view w = record { user = part_view w.user; pass = part_view w.pass; db_name = part_view w.db_name }

abbrev pub user_view : UserParts → UserWords
user_view p = record { connection = p.connection; change = change_view p.words }
