use Rattle.std.proofs.Common.{◌≡◌, ◌++◌, take, drop}
use Rattle.my_script.specs.Cut.{first_of, rest_of}
use Rattle.my_script.proofs.reading.cut.cut.Given as goal

abbrev pub invariant-loop-i : goal.invariant-loop-i
invariant-loop-i l = record {
  first : take l.i l.bytes ++ first_of l.mark (drop l.i l.bytes) ≡ first_of l.mark l.bytes;
  rest : rest_of l.mark (drop l.i l.bytes) ≡ rest_of l.mark l.bytes;
}
