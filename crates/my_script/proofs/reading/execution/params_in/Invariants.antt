use Rattle.std.proofs.Common.{◌≡◌}
use Rattle.my_script.specs.Execution.{params_in}
use Rattle.my_script.proofs.Scripts.{text_of, left_over}
use Rattle.my_script.proofs.reading.execution.params_in.Given as goal

abbrev pub invariant-words : goal.invariant-words
invariant-words l = params_in l.params (text_of l.left) ≡ params_in l.fn.params (text_of l.fn.rest)

abbrev pub decreases-words : goal.decreases-words
decreases-words l = left_over l.left
