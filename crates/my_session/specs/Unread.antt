-- What of a response is still to be read: the columns of the set whose rows are next, and whether a further set follows.
use Rattle.std.specs.Prelude.{List, Bool, true, false, not, ◌&&◌, Option, Some, None, if◌then◌else◌}
use Rattle.my_grammar.specs.declared.spot.Spot.{Spot}
use Rattle.my_grammar.specs.declared.spot.Spot.TheVariants as spots
use Rattle.my_reply.specs.declared.column.Column.{Column}
use Rattle.my_reading.specs.Place.{is_rows}
use Rattle.my_session.specs.Sessions.{Seen}

-- the head of a further set is next
abbrev pub is_further : Spot → Bool
is_further spots.Further = true
is_further spot = false

-- the columns of the set whose rows, or whose end, are next; a closed session reads none
abbrev pub unread_columns : Seen → Option (List Column)
unread_columns s =
    if not s.closed && is_rows s.stand.context.spot then Some s.stand.facts.columns else None

-- whether a further set follows all that was read; none does on a closed session
abbrev pub has_further : Seen → Bool
has_further s = not s.closed && is_further s.stand.context.spot
