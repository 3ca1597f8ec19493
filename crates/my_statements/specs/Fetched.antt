-- What a cache ends as, once a statement that was looked for in it is let go.
use Rattle.std.specs.Prelude.{◌≡◌, List, ℕ, ⊤}
use Rattle.std.specs.Borrow.{Fml, MutBor, follows_so}
use mathlib.Core.Option.{none}
use Rattle.my_statements.specs.Cache.{Cached, fetched}
use Rattle.my_statements.specs.contracts.cache.StmtCache.{the_row}

-- it has the statement of that text in front
abbrev pub ends_fetched : MutBor Cached → List ℕ → Fml
ends_fetched c query = follows_so the_row the_row c.ghost_name none (λ _ _. ⊤) (λ n. n ≡ fetched query c.now)
