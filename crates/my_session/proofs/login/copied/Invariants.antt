-- What is copied is the front of the queries.
use Rattle.std.proofs.Common.{◌≡◌, map, take, string_bytes}
use Rattle.my_session.proofs.login.copied.Given as goal

abbrev pub invariant-loop-query : goal.invariant-loop-query
invariant-loop-query l = l.texts ≡ map string_bytes (take l.query-index l.queries)
