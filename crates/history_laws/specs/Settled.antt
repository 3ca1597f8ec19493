-- The settings of a tape: the longest payload, and the server's timeout.
-- MySQL reference manual, "Server System Variables": max_allowed_packet and wait_timeout.
use Rattle.std.specs.Prelude.{◌≡◌, ℕ, List, [], ◌∷◌, ◌++◌, Option, Some, None, Bool, true, false, if◌then◌else◌}
use Rattle.my_frame.specs.declared.limits.TheConstants.{DEFAULT_MAX_ALLOWED_PACKET}
use Rattle.my_grammar.specs.declared.login.Login.{Login}
use Rattle.my_grammar.specs.declared.spot.RowFormat.TheVariants.{Text}
use Rattle.my_grammar.specs.declared.spot.Terms.{Terms}
use Rattle.my_grammar.specs.Sets.{SetHead, Sets, NoSets, Lone, Failed, Heading, Headed, Begun, Ended, Broken, head_packets, packets_in}
use Rattle.my_grammar.specs.Talk.{Queried}
use Rattle.my_reply.specs.declared.column.Column.{Column}
use Rattle.my_value.specs.RowParts.{RowParts}
use Rattle.my_reading.specs.declared.call.Call.{Call}
use Rattle.my_reading.specs.declared.facts.Facts.{Facts}
use Rattle.my_reading.specs.declared.settings.Settings.{Settings}
use Rattle.my_reading.specs.declared.settings.Stage.{Stage}
use Rattle.my_reading.specs.declared.settings.Stage.TheVariants.{Asked, Known}
use Rattle.my_reading.specs.Endings.{IsTape}
use Rattle.my_reading.specs.Facts.{facts_by}
use Rattle.my_reading.specs.Place.{Exchange, exchanges, facts_of}
use Rattle.my_reading.specs.Reading.{reading}
use Rattle.my_reading.specs.Rows.{row_at}
use Rattle.my_reading.specs.Settings.{in_force, told_by}
use Rattle.my_reading.specs.Tape.{Tape, spans}
use Rattle.history_laws.specs.Ended.{ended_after, was_made}
use Rattle.history_laws.specs.Groups.{Made}

abbrev pub is_known : Stage → Bool
is_known Known = true
is_known s = false

-- An option that is set holds. The limit is the default until the settings are known, and then what the option or the server says.
pub record IsSet (login : Login) (s : Settings) : Type 0 where
  pub limit_option : s.limit_option ≡ login.packet_limit
  pub wait_option : s.wait_option ≡ login.wait_timeout
  pub limit_set : (n : ℕ) → login.packet_limit ≡ Some n → s.next_limit ≡ n
  pub wait_set : (n : ℕ) → login.wait_timeout ≡ Some n → s.wait_timeout ≡ n
  pub before : is_known s.stage ≡ false → s.limit ≡ DEFAULT_MAX_ALLOWED_PACKET
  pub after : is_known s.stage ≡ true → s.limit ≡ s.next_limit

abbrev pub or_older : Option RowParts → Option RowParts → Option RowParts
or_older None older = older
or_older (Some row) older = Some row

-- the last row of those that were read, which are newest first
abbrev pub last_row : List Column → List (List ℕ) → Option RowParts
last_row columns [] = None
last_row columns (p ∷ ps) = or_older (row_at Text columns p) (last_row columns ps)

-- the columns that are known after a head
abbrev pub columns_after : Facts → SetHead → List Column
columns_after f head = (facts_by (head_packets head []) f).columns

abbrev pub is_none : Sets → Bool
is_none (NoSets asking) = true
is_none x = false

-- What a response says to a client that has asked for the settings: the last row of the first set says what will hold, the set's end puts
-- that in force, as an OK without rows does, and no later set says anything.
abbrev pub said_by : Facts → Sets → Settings
said_by f (NoSets asking) = f.settings
said_by f (Lone older p status) = if is_none older then in_force f.settings else said_by f older
said_by f (Failed older p) = said_by f older
said_by f (Heading older head left) = said_by f older
said_by f (Headed older head) = said_by f older
said_by f (Begun older head rows) = if is_none older then told_by (last_row (columns_after f head) rows) f.settings else said_by f older
said_by f (Ended older head rows last status) = if is_none older then in_force (told_by (last_row (columns_after f head) rows) f.settings) else said_by f older
said_by f (Broken older head rows last) = if is_none older then told_by (last_row (columns_after f head) rows) f.settings else said_by f older

-- a connection that was made knows them
abbrev pub Knows : Login → List Made → List Exchange → Type 0
Knows login made es = was_made made ≡ true → is_known (facts_of login es).settings.stage ≡ true

-- They are those of the options and, where the server was asked, of what it said in the response. A connection that was made knows them,
-- and once they are known they stay as they are.
pub record AreSettings (login : Login) (made : List Made) (es : List Exchange) : Type 0 where
  pub set : IsSet login (facts_of login es).settings
  pub said : (newer older : List Exchange) (call : Call) (terms : Terms) (c : List ℕ) (x : Sets) → es ≡ newer ++ record { call = call; talk = Queried terms c x } ∷ older → (facts_of login older).settings.stage ≡ Asked
      → (facts_by (packets_in x) (facts_of login older)).settings ≡ said_by (facts_of login older) x
  pub known : Knows login made es
  pub stay : (newer older : List Exchange) → es ≡ newer ++ older → is_known (facts_of login older).settings.stage ≡ true → (facts_of login es).settings ≡ (facts_of login older).settings

abbrev pub EachIsSettled : Type 0
EachIsSettled = (login : Login) (t : Tape) → IsTape login t → AreSettings login (ended_after [] (spans t)) (exchanges (reading login t).place)
