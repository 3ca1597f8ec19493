-- What a call that prepares a statement comes to, by whether the statement is cached.
use Rattle.std.specs.Prelude.{◌≡◌, ◌<◌, ℕ, List, [], length, Some, None, true, false}
use Rattle.my_grammar.specs.declared.login.Login.{Login}
use Rattle.my_reading.specs.declared.call.Call.TheVariants.{Prepare}
use Rattle.my_reading.specs.Course.{Returns, course, halt}
use Rattle.my_reading.specs.Place.{Place, exchanges, owed, with_statements}
use Rattle.my_reading.specs.Statements.{held_in, is_mixed_text, names_of, query_of, statement_with, with_fetched}
use Rattle.my_reading.specs.Told.{ToldStatement}
use Rattle.my_statements.specs.Cache.{Held}
use Rattle.reading_laws.specs.Kept.{is_answered}

-- A statement that is cached is returned at once, with no exchange and as the one that was used last.
abbrev pub CachedIsReturned : Type 0
CachedIsReturned = (login : Login) (text : List ℕ) (p : Place) (h : Held)
    → owed p ≡ [] → is_mixed_text text ≡ false → held_in p.statements (query_of text) ≡ Some h
    → course login (Prepare text) p
    ≡ halt (with_statements (with_fetched (query_of text) p.statements) p) (Returns (ToldStatement (statement_with h.stmt (names_of text))))

-- Where it isn't cached, the call returns without an error only once an exchange more has begun.
abbrev pub OthersAreAskedFor : Type 0
OthersAreAskedFor = (login : Login) (text : List ℕ) (p : Place)
    → held_in p.statements (query_of text) ≡ None → is_answered (course login (Prepare text) p).stop ≡ true
    → length (exchanges p) < length (exchanges (course login (Prepare text) p).place)
