use Rattle.std.proofs.Common.{◌≡◌, ◌<◌, ◌++◌, length, slice_get, rules}
use Rattle.my_script.specs.ValueText.{cell_text}
use Rattle.my_script.proofs.Texts.{cell_on}
use Rattle.my_script.proofs.text.value.push_cells.Goals as goal

pub loop-i-preserved : goal.loop-i-preserved
loop-i-preserved c =
    let within : c.loop-i.i < length c.args.row.now.cells = search rules in
    let grown : c.push_cell.new.out.items ≡ c.loop-i.out.items ++ cell_text (slice_get c.args.row.now.cells c.loop-i.i) = search rules in
    cell_on c.loop-i.i c.args.row.now.cells c.loop-i.out.items c.push_cell.new.out.items _ within grown c.loop-i.invariant
