-- The prepared statements of a connection that its client knows: those that it keeps by their texts, and the columns of their rows.
-- MySQL client/server protocol, "Prepared Statements": a statement's id is the server's; it holds until the statement is closed.
use Rattle.std.specs.Prelude.{ℕ, List, [], min, Option, Some, None, Bool, ◌||◌, if◌then◌else◌}
use Rattle.std.specs.List.{find, list_any}
use Rattle.std.specs.Option.{option_map}
use Rattle.my_frame.specs.Lists.{without}
use Rattle.my_frame.specs.declared.limits.TheConstants.{MOST_STATEMENTS}
use Rattle.my_reply.specs.declared.column.Column.{Column}
use Rattle.my_params.specs.NamedParams.{all_names, all_sent, is_mixed}
use Rattle.my_params.specs.SqlText.{split}
use Rattle.my_grammar.specs.declared.login.Login.{Login}
use Rattle.my_statements.specs.declared.statement.StmtInner.{StmtInner}
use Rattle.my_statements.specs.Cache.{Cached, Held, cached, evicted, fetched, has_id, has_query, held, with_first}
use Rattle.my_statements.specs.Known.{known_of, known_put}
use Rattle.my_statements.specs.Prepared.{StatementView}

-- a text with named parameters: what is prepared of it, with `?` for each name, and the names
abbrev pub query_of : List ℕ → List ℕ
query_of text = all_sent (split text)

abbrev pub names_of : List ℕ → List (List ℕ)
names_of text = all_names (split text)

-- whether it has both names and marks
abbrev pub is_mixed_text : List ℕ → Bool
is_mixed_text text = is_mixed (split text)

-- the cache, the statement that was used last first, and the columns of statements by their ids, those that were learned last first
pub record Statements : Type 0 where
  pub cache : Cached
  pub known : List (ℕ × List Column)

abbrev pub first_statements : Login → Statements
first_statements login = record { cache = cached [] (min login.statements MOST_STATEMENTS); known = [] }

-- a statement by the text that is prepared
abbrev pub held_in : Statements → List ℕ → Option Held
held_in st query = find (has_query query) st.cache.list

-- whether a statement of this id is still cached
abbrev pub is_cached : Statements → ℕ → Bool
is_cached st id = list_any (has_id id) st.cache.list

-- a statement as a caller gets it
abbrev pub statement_with : StmtInner → List (List ℕ) → StatementView
statement_with inner names = record { inner = inner; names = names }

-- after a statement was looked for by the text that is prepared
abbrev pub with_fetched : List ℕ → Statements → Statements
with_fetched query st = record { cache = fetched query st.cache; known = st.known }

-- the columns of a statement's rows are these
abbrev pub with_columns : ℕ → List Column → Statements → Statements
with_columns id columns st = record { cache = st.cache; known = known_put id columns st.known }

-- whether a statement of this text or id is cached already
abbrev pub is_held : Held → Cached → Bool
is_held h c = list_any (has_query h.query) c.list || list_any (has_id h.stmt.id) c.list

-- the cache with a statement more; one whose text or id it has already isn't put
abbrev pub with_new : Held → Cached → Cached
with_new h c = if is_held h c then c else with_first h c

abbrev pub with_put : Held → Statements → Statements
with_put h st = record { cache = with_new h st.cache; known = st.known }

-- a statement was prepared of this text, and the columns of its rows are these
abbrev pub with_prepared : List ℕ → StmtInner → List Column → Statements → Statements
with_prepared query inner columns st = record { cache = with_new (held query inner) st.cache; known = known_put inner.id columns st.known }

-- the id of the statement that has to go for another
abbrev pub leaving_for : Held → Cached → Option ℕ
leaving_for h c = if is_held h c then None else option_map (λ s. s.id) (evicted c)

abbrev pub leaving : List ℕ → StmtInner → Statements → Option ℕ
leaving query inner st = leaving_for (held query inner) st.cache

-- a statement isn't cached any more; the columns of its rows stay known
abbrev pub without_statement : ℕ → Statements → Statements
without_statement id st = record { cache = cached (without (has_id id) st.cache.list) st.cache.capacity; known = st.known }

-- the columns that are known of a statement's rows, none where none are
abbrev pub columns_or : Option (List Column) → List Column
columns_or None = []
columns_or (Some columns) = columns

abbrev pub known_in : Statements → ℕ → List Column
known_in st id = columns_or (known_of id st.known)

-- after the server's session was reset none is cached; the columns of statements' rows stay known
abbrev pub cleared : Statements → Statements
cleared st = record { cache = cached [] st.cache.capacity; known = st.known }

-- of a connection that is closed nothing is known
abbrev pub emptied : Statements → Statements
emptied st = record { cache = cached [] st.cache.capacity; known = [] }
