use Rattle.std.proofs.Common.{arith}
use Rattle.my_command.proofs.StatementLaws.{bits_put, bits_left, bits_all}
use Rattle.my_command.proofs.statement.put_bitmap.Goals as goal

pub loop-preserved : goal.loop-preserved
loop-preserved c =
    let i = c.loop.invariant in
    (bits_put c.args.out.now.items c.loop.out.items _ c.args.heads.now c.loop.rest.now c.loop.counter c.null_byte.result i.0 i.1 c.null_byte.ensures c.in_ok-put_u8.ensures, bits_left c.args.heads.now c.loop.rest.now _ c.loop.counter i.1 c.after_eight-rest.ensures)

pub returns : goal.returns
returns c = bits_all c.args.out.now.items c.loop.out.items c.args.heads.now c.loop.counter c.loop.invariant.0 (omega (arith, c.div_ceil-end.ensures))
