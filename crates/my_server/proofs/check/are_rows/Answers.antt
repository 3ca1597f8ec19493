use Rattle.std.proofs.Common.{◌≡◌, ◌≢◌, ℕ, true, false, length, sym, ◌∙◌, arith}
use Rattle.std.proofs.lemmas.Bool.Decides.{nat_tests}
use Rattle.std.proofs.lemmas.List.{at_drop_all}
use Rattle.std.specs.Prelude.{◌==◌}
use Rattle.std.specs.List.{list_all}
use Rattle.my_server.proofs.Every.{all_by_next}
use Rattle.my_server.proofs.check.are_rows.Goals as goal

same : (len found columns : ℕ) → found ≡ len → found ≡ columns → true ≡ (len == columns)
same len found columns e is = grind (arith, nat_tests)

other : (len found columns : ℕ) → found ≡ len → found ≢ columns → false ≡ (len == columns)
other len found columns e not = grind (arith, nat_tests)

pub loop-row-preserved : goal.loop-row-preserved
loop-row-preserved c =
    all_by_next (λ row. length row == c.args.columns) c.args.rows.now c.loop-row.row-index c.row-item.result true c.loop-row-test.true c.row-item.is (same (length c.row-item.result) c.len.result c.args.columns c.len.ensures c.if-len-columns.false) c.loop-row.invariant

pub returns-then-len-columns : goal.returns-then-len-columns
returns-then-len-columns c =
    all_by_next (λ row. length row == c.args.columns) c.args.rows.now c.loop-row.row-index c.row-item.result false c.loop-row-test.true c.row-item.is (other (length c.row-item.result) c.len.result c.args.columns c.len.ensures c.if-len-columns.true) c.loop-row.invariant

pub returns : goal.returns
returns c = sym (at_drop_all (list_all (λ row. length row == c.args.columns)) c.args.rows.now c.loop-row.row-index c.loop-row-test.false) ∙ c.loop-row.invariant
