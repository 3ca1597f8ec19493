use Rattle.std.proofs.Common.{refl, ◌∙◌, arith}
use Rattle.my_frame.proofs.Putting.{puts_full, puts_last, puts_number}
use Rattle.my_frame.proofs.put.put_chunks.Goals as goal

pub chunks-init : goal.chunks-init
chunks-init c = record { items = refl; number_is = refl; room = c.requires }

pub chunks-preserved : goal.chunks-preserved
chunks-preserved c =
    let split = c.split_at.ensures in
    rw (c.put_chunk.ensures.items, split.front, split.back) (puts_full c.chunks.invariant c.put_chunk.new.dst.spare c.chunks-test.true (omega (arith, c.put_chunk.ensures.spare, split.front_len)))

pub returns-clause-items : goal.returns-clause-items
returns-clause-items c = c.put_chunk-2.ensures.items ∙ puts_last c.chunks.invariant c.chunks-test.false

pub returns-clause-number : goal.returns-clause-number
returns-clause-number c = puts_number c.chunks.invariant c.chunks-test.false
