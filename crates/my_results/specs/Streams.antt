-- What a stream of a set does.
use Rattle.std.specs.Borrow.{GName}
use Rattle.std.specs.Prelude.{◌≡◌, [], Vec, Bool, true, false, Option, Some, None}
use Rattle.std.specs.declared.result.Result.{Result}
use Rattle.std.specs.declared.result.Result.TheVariants.{Ok, Err}
use Rattle.my_link.specs.Looks.{Looks}
use Rattle.my_value.specs.RowParts.{RowParts}
use Rattle.my_reading.specs.declared.error.Error.{Error}
use Rattle.my_conn.specs.Conn.{ConnSeen}
use Rattle.my_rows.specs.Reads.{ItemIs}
use Rattle.my_rows.specs.declared.error.QueryError.{QueryError}
use Rattle.my_rows.specs.declared.error.QueryError.TheVariants.{Client, FromRow}
use Rattle.my_results.specs.Sets.{CollectsSet}
use Rattle.my_results.specs.declared.result.QueryResult.{QueryResult}
use Rattle.my_results.specs.declared.stream.SetStream.{SetStream}
use Rattle.my_results.specs.declared.owned.ResultSetStream.{ResultSetStream}
use Rattle.my_results.specs.declared.taken.TakenSet.{TakenSet}

-- A set was taken so, for a stream over this reference that didn't end; or nothing is left, or the call failed.
abbrev pub StreamIs : {L C T P : Type 0} → (QueryResult C P → ConnSeen L) → GName
    → (ConnSeen L → Result Bool Error → Type 0) → Result (Option (SetStream C T P)) Error → Type 0
StreamIs conn_of name takes (Ok (Some stream)) = takes (conn_of stream.over.now) (Ok true) × (stream.ended ≡ false)
    × (stream.over.ghost_name ≡ name)
StreamIs {L} conn_of name takes (Ok None) = (new : ConnSeen L) × takes new (Ok false)
StreamIs {L} conn_of name takes (Err error) = (new : ConnSeen L) × takes new (Err error)

-- whether a stream ends by this error: it goes on after a row that doesn't convert
abbrev pub ends_stream : QueryError → Bool
ends_stream (Client error) = true
ends_stream (FromRow row) = false

-- whether the stream ended: the end was read, or the read failed
abbrev pub ended_by : {T : Type 0} → Result (Option T) QueryError → Bool
ended_by (Ok (Some item)) = false
ended_by (Ok None) = true
ended_by (Err error) = ends_stream error

-- A stream that ended reads nothing. Before that an item is read.
abbrev pub ItemLeftIs : {L T : Type 0} → (L → Looks) → (RowParts → Type 0) → (RowParts → T → Type 0) → Bool → Bool
    → ConnSeen L → ConnSeen L → Result (Option T) QueryError → Type 0
ItemLeftIs look converts becomes true ended old new result = (result ≡ Ok None) × (new ≡ old) × (ended ≡ true)
ItemLeftIs look converts becomes false ended old new result =
    ItemIs look converts becomes old new result × (ended ≡ ended_by result)

-- there is no item
abbrev pub IsEmpty : {T A : Type 0} → Result (Vec T A) QueryError → Type 0
IsEmpty (Ok items) = items.items ≡ []
IsEmpty (Err error) = ⊥

-- whether the stream ended: its set was read whole, or a read failed
abbrev pub ended_with : {T A : Type 0} → Result (Vec T A) QueryError → Bool
ended_with (Ok items) = true
ended_with (Err error) = ends_stream error

-- A stream that ended reads nothing. Before that its set is collected.
abbrev pub CollectsLeft : {L T A : Type 0} → (L → Looks) → (RowParts → Type 0) → (RowParts → T → Type 0) → Bool → Bool
    → ConnSeen L → ConnSeen L → Result (Vec T A) QueryError → Type 0
CollectsLeft look converts becomes true ended old new result = IsEmpty result × (new ≡ old) × (ended ≡ true)
CollectsLeft look converts becomes false ended old new result =
    CollectsSet look converts becomes old new result × (ended ≡ ended_with result)

-- A set was taken so, and its stream has the holder as that left it; or nothing is left, or the call failed.
abbrev pub OwnStreamIs : {L C T P : Type 0} → (C → ConnSeen L) → (ConnSeen L → Result TakenSet Error → Type 0)
    → Result (Option (ResultSetStream C T P)) Error → Type 0
OwnStreamIs conn_of takes (Ok (Some stream)) =
    takes (conn_of stream.result.holder) (Ok stream.set) × (stream.set.ended ≡ false)
OwnStreamIs {L} conn_of takes (Ok None) = (new : ConnSeen L) × (set : TakenSet) × takes new (Ok set) × (set.ended ≡ true)
OwnStreamIs {L} conn_of takes (Err error) = (new : ConnSeen L) × takes new (Err error)
