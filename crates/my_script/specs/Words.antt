-- The words of a command line.
use Rattle.std.specs.Prelude.{ℕ, List, [], ◌∷◌, codes, length, nat_lt, Bool, true, false, Option, Some, None, Result, Ok, Err, if◌then◌else◌}
use Rattle.std.specs.Str.{bytes_eq}
use Rattle.my_frame.specs.Numbers.{◌>>=◌}
use Rattle.my_opts.specs.Limits.{packet_limit, waiting_limit}
use Rattle.my_opts.specs.Opts.{OptsView, default_opts}
use Rattle.my_opts.specs.Url.{options_of}
use Rattle.my_opts_parts.specs.declared.error.UrlError.{UrlError}
use Rattle.my_opts_parts.specs.declared.limits.TheConstants.{LONGEST_URL}
use Rattle.my_script.specs.declared.words.Command.{Command}
use Rattle.my_script.specs.declared.words.Plain.{Plain as PlainParts}
use Rattle.my_script.specs.declared.words.WordFault.{WordFault}
use Rattle.my_script.specs.declared.words.WordFault.TheVariants.{Plain, TooLong, Url}
use Rattle.my_script.specs.Cut.{first_of, rest_of}
use Rattle.my_script.specs.Number.{number_of}

-- a command: whether its connections go to real servers, and the word that gives the options
pub record CommandWords : Type 0 where
  pub live : Bool
  pub word : List ℕ

abbrev pub command_view : Command → CommandWords
command_view c = record { live = c.is_live; word = c.word.now }

-- `script` or `live`, and one more word
abbrev pub command_of : List (List ℕ) → Option CommandWords
command_of (name ∷ word ∷ []) =
    if bytes_eq name (codes "script") then Some (record { live = false; word = word })
    else if bytes_eq name (codes "live") then Some (record { live = true; word = word })
    else None
command_of _ = None

-- a user, a password, a packet's limit and a waiting time
pub record PlainWords : Type 0 where
  pub user : List ℕ
  pub pass : List ℕ
  pub packet : ℕ
  pub wait : ℕ

abbrev pub plain_view : PlainParts → PlainWords
plain_view p = record { user = p.user.now; pass = p.pass.now; packet = p.packet; wait = p.wait }

-- USER,PASS,PACKET,WAIT; a fifth part isn't digits alone
unfoldable pub plain_parts : List ℕ → Option PlainWords
plain_parts text = do
  after_user ← rest_of 44 text
  after_pass ← rest_of 44 after_user
  wait_digits ← rest_of 44 after_pass
  packet ← number_of (first_of 44 after_pass)
  wait ← number_of wait_digits
  Some (record { user = first_of 44 text; pass = first_of 44 after_user; packet = packet; wait = wait })

-- what follows `plain,`, where a word begins so
abbrev pub after_plain : List ℕ → Option (List ℕ)
after_plain word = if bytes_eq (first_of 44 word) (codes "plain") then rest_of 44 word else None

-- an empty text is none
abbrev pub some_text : List ℕ → Option (List ℕ)
some_text [] = None
some_text (b ∷ bytes) = Some (b ∷ bytes)

-- the options that such a word stands for
abbrev pub plain_opts : PlainWords → OptsView
plain_opts p = record default_opts { user = some_text p.user; pass = some_text p.pass; max_allowed_packet = Some (packet_limit p.packet); wait_timeout = Some (waiting_limit p.wait) }

-- such a word has these four parts, or is refused
abbrev pub plain_word : Option PlainWords → Result OptsView WordFault
plain_word (Some p) = Ok (plain_opts p)
plain_word None = Err Plain

-- a URL is refused for what the option table says
abbrev pub url_word : Result OptsView UrlError → Result OptsView WordFault
url_word (Ok opts) = Ok opts
url_word (Err e) = Err (Url e)

-- the options of a URL by the option table, which refuses some; a longer text is none
abbrev pub url_opts : List ℕ → Result OptsView WordFault
url_opts word = if nat_lt LONGEST_URL (length word) then Err TooLong else url_word (options_of word)

-- `plain,USER,PASS,PACKET,WAIT`, by what follows the first comma, or a URL
abbrev pub opts_by : Option (List ℕ) → List ℕ → Result OptsView WordFault
opts_by (Some text) word = plain_word (plain_parts text)
opts_by None word = url_opts word

-- the options of the second word, or why it is refused
abbrev pub word_opts : List ℕ → Result OptsView WordFault
word_opts word = opts_by (after_plain word) word
