use Rattle.std.proofs.Common.{◌<◌, ◌≤◌, length, sym, rules, arith}
use Rattle.std.proofs.lemmas.List.{take_all, length-take-le}
use Rattle.my_script.proofs.reading.script.shown.Goals as goal

pub returns : goal.returns
returns c =
    let short : length c.args.line.now ≤ 200 = search rules in
    sym (take_all 200 c.args.line.now short)

pub slice_bounds-result-end : goal.slice_bounds-result-end
slice_bounds-result-end c =
    let long : 200 < length c.args.line.now = search rules in
    sym (length-take-le 200 c.args.line.now (omega (arith, long)))
