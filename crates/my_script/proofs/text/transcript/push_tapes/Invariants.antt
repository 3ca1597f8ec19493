use Rattle.std.proofs.Common.{◌≡◌, ◌++◌, drop}
use Rattle.my_script.specs.Text.{tapes_text}
use Rattle.my_script.proofs.text.transcript.push_tapes.Given as goal

abbrev pub invariant-loop-tape : goal.invariant-loop-tape
invariant-loop-tape l = l.out.items ++ tapes_text (drop l.tape-index l.tapes) ≡ l.fn.out.items ++ tapes_text l.tapes
