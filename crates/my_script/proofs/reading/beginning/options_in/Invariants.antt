use Rattle.std.proofs.Common.{◌≡◌}
use Rattle.my_script.specs.Beginning.{options_in, with_option}
use Rattle.my_script.specs.Cut.{words_in}
use Rattle.my_script.proofs.Scripts.{text_of, left_over}
use Rattle.my_script.proofs.reading.beginning.options_in.Given as goal

abbrev pub invariant-words : goal.invariant-words
invariant-words l = words_in with_option l.opts (text_of l.left) ≡ options_in (text_of l.fn.rest)

abbrev pub decreases-words : goal.decreases-words
decreases-words l = left_over l.left
