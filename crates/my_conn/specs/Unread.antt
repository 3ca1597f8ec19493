-- What of a response is still to be read at a connection: none of one that is lost.
use Rattle.std.specs.Prelude.{List, Bool, not, ◌&&◌, ◌||◌, Option, None, is_some, if◌then◌else◌}
use Rattle.my_reply.specs.declared.column.Column.{Column}
use Rattle.my_session.specs.Unread as session
use Rattle.my_conn.specs.Conn.{ConnSeen}

-- the columns of the set whose rows, or whose end, are next
abbrev pub unread_columns : {L : Type 0} → ConnSeen L → Option (List Column)
unread_columns c = if c.lost then None else session.unread_columns c.seen

-- whether a further set follows all that was read
abbrev pub has_further : {L : Type 0} → ConnSeen L → Bool
has_further c = not c.lost && session.has_further c.seen
