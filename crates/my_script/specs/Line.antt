-- What a line of a script says: its first word, then its arguments, one space apart.
use Rattle.std.specs.Prelude.{ℕ, ◌==◌, nat_le, List, [], ◌∷◌, length, codes, Option, Some, None, if◌then◌else◌}
use Rattle.std.specs.Str.{bytes_eq}
use Rattle.my_frame.specs.Numbers.{◌>>=◌}
use Rattle.my_script.specs.declared.step.Step.TheVariants as steps
use Rattle.my_params.specs.declared.params.Params.{Params}
use Rattle.my_params.specs.declared.params.Params.TheVariants.{Named, Positional}
use Rattle.my_opts_parts.specs.TransactionOptions.{TxView}
use Rattle.my_link.specs.declared.line.WorldLine.TheVariants as lines
use Rattle.my_script.specs.declared.reading.item.Item.{Item}
use Rattle.my_script.specs.declared.reading.item.Item.TheVariants.{Nothing, Plans, Steps, Wrong}
use Rattle.my_script.specs.declared.reading.keyword.Keyword.{Keyword}
use Rattle.my_script.specs.declared.reading.keyword.Keyword.TheVariants.{Packet, Drip, Bytes, Turn, Wait, Fail, End, Accept, WriteWait, WriteFail, Dial, Conn, Query, Prepare, Execute, ExecuteNamed, CloseStatement, Next, Collect, Stream, StreamItem, Unstream, Drop, Ping, Reset, User, Begin, Commit, Rollback, Forget, Quit, Fields, Poll, Cancel, Advance, Random, Unknown}
use Rattle.my_script.specs.declared.reading.plan.PacketParts.{PacketParts}
use Rattle.my_script.specs.declared.reading.plan.LinkParts.{LinkParts}
use Rattle.my_script.specs.declared.reading.plan.AcceptParts.{AcceptParts}
use Rattle.my_script.specs.declared.reading.line.QueryParts.{QueryParts}
use Rattle.my_script.specs.Cut.{first_of, rest_of}
use Rattle.my_script.specs.Keyword.{keyword_of}
use Rattle.my_script.specs.Number.{number_of, number_at_most, bytes_of}
use Rattle.my_script.specs.Beginning.{BeginWords, begin_parts, options_in}
use Rattle.my_script.specs.Changing.{UserWords, user_parts}
use Rattle.my_script.specs.Execution.{StatementWords, statement_parts, params_in}

-- a link's number, a packet's number and the digits of its payload
pub record PacketWords : Type 0 where
  pub link : ℕ
  pub number : ℕ
  pub digits : List ℕ

unfoldable pub packet_parts : List ℕ → Option PacketWords
packet_parts rest = do
  link ← number_at_most 65535 (first_of 32 rest)
  more ← rest_of 32 rest
  number ← number_at_most 255 (first_of 32 more)
  digits ← rest_of 32 more
  Some (record { link = link; number = number; digits = digits })

abbrev pub packet_view : PacketParts → PacketWords
packet_view p = record { link = p.link; number = p.number; digits = p.digits.now }

-- a link's number and what is said of it
pub record LinkWords : Type 0 where
  pub link : ℕ
  pub rest : List ℕ

unfoldable pub link_parts : List ℕ → Option LinkWords
link_parts rest = do
  link ← number_at_most 65535 (first_of 32 rest)
  more ← rest_of 32 rest
  Some (record { link = link; rest = more })

abbrev pub link_view : LinkParts → LinkWords
link_view p = record { link = p.link; rest = p.rest.now }

-- a link's number and how many bytes
pub record AcceptWords : Type 0 where
  pub link : ℕ
  pub count : ℕ

unfoldable pub accept_parts : List ℕ → Option AcceptWords
accept_parts rest = do
  link ← number_at_most 65535 (first_of 32 rest)
  more ← rest_of 32 rest
  count ← number_of more
  Some (record { link = link; count = count })

abbrev pub accept_view : AcceptParts → AcceptWords
accept_view p = record { link = p.link; count = p.count }

-- a connection's number and a text
pub record QueryWords : Type 0 where
  pub connection : ℕ
  pub text : List ℕ

unfoldable pub query_parts : List ℕ → Option QueryWords
query_parts rest = do
  connection ← number_of (first_of 32 rest)
  text ← rest_of 32 rest
  Some (record { connection = connection; text = text })

abbrev pub query_view : QueryParts → QueryWords
query_view p = record { connection = p.connection; text = p.text.now }

-- a packet that comes whole, or byte by byte
abbrev pub packet_as : Keyword → ℕ → ℕ → List ℕ → Item
packet_as Packet link number payload = Plans (lines.Packet link number payload)
packet_as Drip link number payload = Plans (lines.Drip link number payload)
packet_as _ link number payload = Wrong

-- a packet of one header
abbrev pub packet_with : Keyword → ℕ → ℕ → Option (List ℕ) → Item
packet_with keyword link number None = Wrong
packet_with keyword link number (Some payload) = if nat_le (length payload) 0xFFFFFE then packet_as keyword link number payload else Wrong

-- bytes, of which there is at least one
abbrev pub bytes_with : ℕ → Option (List ℕ) → Item
bytes_with link None = Wrong
bytes_with link (Some []) = Wrong
bytes_with link (Some (b ∷ bytes)) = Plans (lines.Bytes link (b ∷ bytes))

-- the dial waits or fails
abbrev pub dial_with : ℕ → List ℕ → Item
dial_with link word =
    if bytes_eq word (codes "wait") then Plans (lines.DialWait link)
    else if bytes_eq word (codes "fail") then Plans (lines.DialFail link)
    else Wrong

-- `packet L N HEX`, `drip L N HEX`
abbrev pub packet_item : Keyword → Option PacketWords → Item
packet_item keyword None = Wrong
packet_item keyword (Some p) = packet_with keyword p.link p.number (bytes_of p.digits)

-- `bytes L HEX`
abbrev pub bytes_item : Option LinkWords → Item
bytes_item None = Wrong
bytes_item (Some p) = bytes_with p.link (bytes_of p.rest)

-- `dial L wait`, `dial L fail`
abbrev pub dial_item : Option LinkWords → Item
dial_item None = Wrong
dial_item (Some p) = dial_with p.link p.rest

-- `accept L N`
abbrev pub accept_item : Option AcceptWords → Item
accept_item None = Wrong
accept_item (Some p) = Plans (lines.Accept p.link p.count)

-- a text that is sent, or prepared
abbrev pub text_as : Keyword → ℕ → List ℕ → Item
text_as Query connection text = Steps (steps.Query connection text)
text_as Prepare connection text = Steps (steps.Prepare connection text)
text_as _ connection text = Wrong

-- `query C TEXT`, `prep C TEXT`
abbrev pub text_item : Keyword → Option QueryWords → Item
text_item keyword None = Wrong
text_item keyword (Some p) = text_as keyword p.connection p.text

-- parameters by name or by place, of which none is read yet
abbrev pub no_params : Keyword → Params
no_params ExecuteNamed = Named []
no_params _ = Positional []

abbrev pub executed_with : ℕ → ℕ → Option Params → Item
executed_with connection statement None = Wrong
executed_with connection statement (Some params) = Steps (steps.Execute connection statement params)

-- `exec C S VALUES`, `execn C S NAMES`
abbrev pub execute_item : Keyword → Option StatementWords → Item
execute_item keyword None = Wrong
execute_item keyword (Some p) = executed_with p.connection p.statement (params_in (no_params keyword) p.rest)

abbrev pub closed_with : ℕ → ℕ → Option (List ℕ) → Item
closed_with connection statement None = Steps (steps.CloseStatement connection statement)
closed_with connection statement (Some rest) = Wrong

-- `closestmt C S`
abbrev pub close_item : Option StatementWords → Item
close_item None = Wrong
close_item (Some p) = closed_with p.connection p.statement p.rest

abbrev pub begun_with : ℕ → Option TxView → Item
begun_with connection None = Wrong
begun_with connection (Some opts) = Steps (steps.Begin connection opts)

-- `begin C OPTS`
abbrev pub begin_item : Option BeginWords → Item
begin_item None = Wrong
begin_item (Some p) = begun_with p.connection (options_in p.rest)

-- `user C USER PASS DB`
abbrev pub user_item : Option UserWords → Item
user_item None = Wrong
user_item (Some p) = Steps (steps.User p.connection p.change)

-- `turn L`, `wait L`, `fail L`, `end L`, `wwait L`, `wfail L`
abbrev pub link_item : Keyword → Option ℕ → Item
link_item keyword None = Wrong
link_item Turn (Some link) = Plans (lines.Turn link)
link_item Wait (Some link) = Plans (lines.Wait link)
link_item Fail (Some link) = Plans (lines.Fail link)
link_item End (Some link) = Plans (lines.End link)
link_item WriteWait (Some link) = Plans (lines.WriteWait link)
link_item WriteFail (Some link) = Plans (lines.WriteFail link)
link_item _ (Some link) = Wrong

-- `next C`, and the other steps that name a connection alone
abbrev pub connection_item : Keyword → Option ℕ → Item
connection_item keyword None = Wrong
connection_item Next (Some connection) = Steps (steps.Next connection)
connection_item Collect (Some connection) = Steps (steps.Collect connection)
connection_item Stream (Some connection) = Steps (steps.Stream connection)
connection_item StreamItem (Some connection) = Steps (steps.Item connection)
connection_item Unstream (Some connection) = Steps (steps.Unstream connection)
connection_item Drop (Some connection) = Steps (steps.Drop connection)
connection_item Ping (Some connection) = Steps (steps.Ping connection)
connection_item Reset (Some connection) = Steps (steps.Reset connection)
connection_item Commit (Some connection) = Steps (steps.Commit connection)
connection_item Rollback (Some connection) = Steps (steps.Rollback connection)
connection_item Forget (Some connection) = Steps (steps.ForgetTransaction connection)
connection_item Quit (Some connection) = Steps (steps.Quit connection)
connection_item Fields (Some connection) = Steps (steps.Fields connection)
connection_item Poll (Some connection) = Steps (steps.Poll connection)
connection_item Cancel (Some connection) = Steps (steps.Cancel connection)
connection_item _ (Some connection) = Wrong

-- `advance MS`, `random N`
abbrev pub moving_item : Keyword → Option ℕ → Item
moving_item keyword None = Wrong
moving_item Advance (Some by) = Steps (steps.Advance by)
moving_item Random (Some word) = Steps (steps.Random word)
moving_item _ (Some n) = Wrong

-- `conn`
abbrev pub bare_item : Keyword → Item
bare_item Conn = Steps steps.Conn
bare_item _ = Wrong

-- a line of this word, with what follows its first blank
abbrev pub item_with : Keyword → List ℕ → Item
item_with Packet rest = packet_item Packet (packet_parts rest)
item_with Drip rest = packet_item Drip (packet_parts rest)
item_with Bytes rest = bytes_item (link_parts rest)
item_with Accept rest = accept_item (accept_parts rest)
item_with Dial rest = dial_item (link_parts rest)
item_with Query rest = text_item Query (query_parts rest)
item_with Prepare rest = text_item Prepare (query_parts rest)
item_with Execute rest = execute_item Execute (statement_parts rest)
item_with ExecuteNamed rest = execute_item ExecuteNamed (statement_parts rest)
item_with CloseStatement rest = close_item (statement_parts rest)
item_with Turn rest = link_item Turn (number_at_most 65535 rest)
item_with Wait rest = link_item Wait (number_at_most 65535 rest)
item_with Fail rest = link_item Fail (number_at_most 65535 rest)
item_with End rest = link_item End (number_at_most 65535 rest)
item_with WriteWait rest = link_item WriteWait (number_at_most 65535 rest)
item_with WriteFail rest = link_item WriteFail (number_at_most 65535 rest)
item_with Next rest = connection_item Next (number_of rest)
item_with Collect rest = connection_item Collect (number_of rest)
item_with Stream rest = connection_item Stream (number_of rest)
item_with StreamItem rest = connection_item StreamItem (number_of rest)
item_with Unstream rest = connection_item Unstream (number_of rest)
item_with Drop rest = connection_item Drop (number_of rest)
item_with Ping rest = connection_item Ping (number_of rest)
item_with Reset rest = connection_item Reset (number_of rest)
item_with Begin rest = begin_item (begin_parts rest)
item_with User rest = user_item (user_parts rest)
item_with Commit rest = connection_item Commit (number_of rest)
item_with Rollback rest = connection_item Rollback (number_of rest)
item_with Forget rest = connection_item Forget (number_of rest)
item_with Quit rest = connection_item Quit (number_of rest)
item_with Fields rest = connection_item Fields (number_of rest)
item_with Poll rest = connection_item Poll (number_of rest)
item_with Cancel rest = connection_item Cancel (number_of rest)
item_with Advance rest = moving_item Advance (number_of rest)
item_with Random rest = moving_item Random (number_of rest)
item_with Conn rest = Wrong
item_with Unknown rest = Wrong

abbrev pub said_by : Keyword → Option (List ℕ) → Item
said_by keyword None = bare_item keyword
said_by keyword (Some rest) = item_with keyword rest

-- an empty line and one that begins with `#` say nothing
abbrev pub line_of : List ℕ → Item
line_of [] = Nothing
line_of (b ∷ bytes) = if b == 35 then Nothing else said_by (keyword_of (first_of 32 (b ∷ bytes))) (rest_of 32 (b ∷ bytes))
