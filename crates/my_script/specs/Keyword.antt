-- Which word a line begins with.
use Rattle.std.specs.Prelude.{ℕ, List, codes, if◌then◌else◌}
use Rattle.std.specs.Str.{bytes_eq}
use Rattle.my_script.specs.declared.reading.keyword.Keyword.{Keyword}
use Rattle.my_script.specs.declared.reading.keyword.Keyword.TheVariants.{Packet, Drip, Bytes, Turn, Wait, Fail, End, Accept, WriteWait, WriteFail, Dial, Conn, Query, Prepare, Execute, ExecuteNamed, CloseStatement, Next, Collect, Stream, StreamItem, Unstream, Drop, Ping, Reset, User, Begin, Commit, Rollback, Forget, Quit, Fields, Poll, Cancel, Advance, Random, Unknown}

-- the words of steps that move the world
abbrev pub moving_keyword_of : List ℕ → Keyword
moving_keyword_of word =
    if bytes_eq word (codes "advance") then Advance
    else if bytes_eq word (codes "random") then Random
    else Unknown

-- the words of steps on transactions
abbrev pub transaction_keyword_of : List ℕ → Keyword
transaction_keyword_of word =
    if bytes_eq word (codes "begin") then Begin
    else if bytes_eq word (codes "commit") then Commit
    else if bytes_eq word (codes "rollback") then Rollback
    else if bytes_eq word (codes "forget") then Forget
    else moving_keyword_of word

-- the words of steps on prepared statements
abbrev pub statement_keyword_of : List ℕ → Keyword
statement_keyword_of word =
    if bytes_eq word (codes "prep") then Prepare
    else if bytes_eq word (codes "exec") then Execute
    else if bytes_eq word (codes "execn") then ExecuteNamed
    else if bytes_eq word (codes "closestmt") then CloseStatement
    else transaction_keyword_of word

-- the words of steps that name a session and nothing of a result
abbrev pub session_keyword_of : List ℕ → Keyword
session_keyword_of word =
    if bytes_eq word (codes "ping") then Ping
    else if bytes_eq word (codes "reset") then Reset
    else if bytes_eq word (codes "user") then User
    else if bytes_eq word (codes "quit") then Quit
    else if bytes_eq word (codes "fields") then Fields
    else statement_keyword_of word

-- the words of steps
abbrev pub step_keyword_of : List ℕ → Keyword
step_keyword_of word =
    if bytes_eq word (codes "conn") then Conn
    else if bytes_eq word (codes "query") then Query
    else if bytes_eq word (codes "next") then Next
    else if bytes_eq word (codes "collect") then Collect
    else if bytes_eq word (codes "stream") then Stream
    else if bytes_eq word (codes "item") then StreamItem
    else if bytes_eq word (codes "unstream") then Unstream
    else if bytes_eq word (codes "drop") then Drop
    else if bytes_eq word (codes "poll") then Poll
    else if bytes_eq word (codes "cancel") then Cancel
    else session_keyword_of word

-- the words of a world's lines, and those of steps
abbrev pub keyword_of : List ℕ → Keyword
keyword_of word =
    if bytes_eq word (codes "packet") then Packet
    else if bytes_eq word (codes "drip") then Drip
    else if bytes_eq word (codes "bytes") then Bytes
    else if bytes_eq word (codes "turn") then Turn
    else if bytes_eq word (codes "wait") then Wait
    else if bytes_eq word (codes "fail") then Fail
    else if bytes_eq word (codes "end") then End
    else if bytes_eq word (codes "accept") then Accept
    else if bytes_eq word (codes "wwait") then WriteWait
    else if bytes_eq word (codes "wfail") then WriteFail
    else if bytes_eq word (codes "dial") then Dial
    else step_keyword_of word
