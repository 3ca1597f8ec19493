-- What a cache of prepared statements holds: the statements with their texts, the one that was used last first.
use Rattle.std.specs.Prelude.{ℕ, zero, suc, nat_eq, Bool, Option, None, List, ◌∷◌, Vec, take, slice_get}
use Rattle.std.specs.Option.{option_map, option_map_or}
use Rattle.std.specs.List.{find}
use Rattle.std.specs.Arc.{arc_value}
use Rattle.std.specs.declared.sync.Arc.{Arc}
use Rattle.std.specs.Cmp.Lexicographic.{pointwise}
use Rattle.my_frame.specs.Lists.{without}
use Rattle.my_statements.specs.declared.statement.StmtInner.{StmtInner}

abbrev pub text_of : {A B : Type 0} → Arc (Vec ℕ A) B → List ℕ
text_of text = (arc_value text).items

abbrev pub stmt_of : {B : Type 0} → Arc StmtInner B → StmtInner
stmt_of stmt = arc_value stmt

-- a statement and the text that it was prepared from
pub record Held : Type 0 where
  pub query : List ℕ
  pub stmt : StmtInner

abbrev pub held : List ℕ → StmtInner → Held
held query stmt = record { query = query; stmt = stmt }

abbrev pub has_query : List ℕ → Held → Bool
has_query query h = pointwise nat_eq query h.query

abbrev pub has_id : ℕ → Held → Bool
has_id id h = nat_eq id h.stmt.id

-- the statements, the one that was used last first, and how many there may be
pub record Cached : Type 0 where
  pub list : List Held
  pub capacity : ℕ

abbrev pub cached : List Held → ℕ → Cached
cached list capacity = record { list = list; capacity = capacity }

-- the first one that passes goes to the front
abbrev pub in_front : (Held → Bool) → List Held → List Held
in_front test hs = option_map_or (λ h. h ∷ without test hs) (find test hs) hs

-- after a statement was looked for by its text
abbrev pub fetched : List ℕ → Cached → Cached
fetched query c = cached (in_front (has_query query) c.list) c.capacity

-- after a statement that is not held was put
abbrev pub with_first : Held → Cached → Cached
with_first h c = cached (take c.capacity (h ∷ c.list)) c.capacity

-- the last one, where no more fit
abbrev pub last_of_full : ℕ → List Held → Option Held
last_of_full zero hs = None
last_of_full (suc before) hs = slice_get hs before

-- the statement that has to go for another
abbrev pub evicted : Cached → Option StmtInner
evicted c = option_map (λ h. h.stmt) (last_of_full c.capacity c.list)
