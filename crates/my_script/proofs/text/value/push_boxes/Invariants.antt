use Rattle.std.proofs.Common.{◌≡◌, ◌++◌, drop}
use Rattle.my_script.specs.ValueText.{boxes_text}
use Rattle.my_script.proofs.text.value.push_boxes.Given as goal

abbrev pub invariant-loop-row : goal.invariant-loop-row
invariant-loop-row l = l.out.items ++ boxes_text (drop l.row-index l.rows) ≡ l.fn.out.items ++ boxes_text l.rows
