-- How a cache keeps its statements: by their numbers, and the number of each text.
use Rattle.std.specs.Prelude.{◌≡◌, ℕ, ◌≤◌, ◌<◌, nat_eq, false, Bool, if◌then◌else◌, List, [], ◌∷◌, length, map}
use Rattle.std.specs.Option.{option_map}
use Rattle.std.specs.List.{find, list_any}
use Rattle.std.specs.HashMap.{HashMap, get}
use Rattle.std.specs.Cmp.Lexicographic.{pointwise}
use Rattle.lru.specs.LruCache.{LruCache}
use Rattle.my_statements.specs.Cache.{Held, has_query, has_id}

abbrev pub list_of : LruCache ℕ Held → List Held
list_of c = map (λ e. e.1) c.entries

abbrev pub capacity_of : Bool → LruCache ℕ Held → ℕ
capacity_of keeps c = if keeps then c.cap else 0

-- each statement stands at its number
abbrev pub at_numbers : List Held → List (ℕ × Held)
at_numbers hs = map (λ h. (h.stmt.id, h)) hs

-- each text once, and each number
abbrev pub AreApart : List Held → Type 0
AreApart [] = Unit {0}
AreApart (h ∷ hs) = (list_any (has_query h.query) hs ≡ false) × (list_any (has_id h.stmt.id) hs ≡ false) × AreApart hs

-- the index has the number of each text
abbrev pub Finds : {S : Type 0} → HashMap (List ℕ) ℕ S → List Held → Type 0
Finds ids hs = (query : List ℕ) → get (pointwise nat_eq) ids query ≡ option_map (λ h. h.stmt.id) (find (has_query query) hs)

-- the statements by number are apart, no more than fit, and none where none is kept
pub record IsIndexed {S : Type 0} (c : LruCache ℕ Held) (ids : HashMap (List ℕ) ℕ S) (keeps : Bool) : Type 0 where
  pub numbered : c.entries ≡ at_numbers (list_of c)
  pub apart : AreApart (list_of c)
  pub few : length (list_of c) ≤ capacity_of keeps c
  pub some : 0 < c.cap
  pub found : Finds ids (list_of c)
