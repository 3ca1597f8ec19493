use Rattle.std.proofs.Common.{◌≡◌, ◌+◌, ◌≤◌, length}
use Rattle.my_script.specs.Cut.{pieces_left}
use Rattle.my_script.specs.Script.{front, script_from, script_of}
use Rattle.my_script.proofs.Scripts.{text_of, left_over}
use Rattle.my_script.proofs.reading.script.read_lines.Given as goal

abbrev pub invariant-lines : goal.invariant-lines
invariant-lines l = record {
  so : front l.script.plan.items l.script.steps.items (script_from l.plans l.sofar l.number (pieces_left 10 (text_of l.rest))) ≡ script_of l.plans l.bytes;
  small : l.number + left_over l.rest ≤ length l.bytes + 2;
}

abbrev pub decreases-lines : goal.decreases-lines
decreases-lines l = left_over l.rest
