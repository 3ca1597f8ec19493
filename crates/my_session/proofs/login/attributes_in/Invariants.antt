-- What is put is the front of the pairs.
use Rattle.std.proofs.Common.{◌≡◌, [], map}
use Rattle.my_opts_parts.specs.Lists.{pair_bytes}
use Rattle.my_session.specs.Login.{with_pairs}
use Rattle.my_session.proofs.login.attributes_in.Given as goal

abbrev pub invariant-loop-key : goal.invariant-loop-key
invariant-loop-key l = with_pairs l.attributes (map pair_bytes l.key-iterator) ≡ with_pairs [] (map pair_bytes l.pairs.entries)
