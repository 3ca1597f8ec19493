use Rattle.std.proofs.Common.{length, ap, arith}
use Rattle.my_frame.proofs.Fronts.Gathering.{gathered_none, gathered_short, gathered_partial, gathered_last, gathered_full}
use Rattle.my_frame.proofs.front.gather.Goals as goal

pub chunks-init : goal.chunks-init
chunks-init c = gathered_none _ _ c.new-payload.ensures.items

pub returns-then-body-header : goal.returns-then-body-header
returns-then-body-header c = gathered_partial _ c.chunks.invariant c.read_header-header.ensures.len (omega (arith, ap length c.split_at.ensures.back))

pub returns-then-header-lt-FULL_LENGTH : goal.returns-then-header-lt-FULL_LENGTH
returns-then-header-lt-FULL_LENGTH c =
    rw (c.in_ok-extend_from_slice.ensures.items, c.split_at-in-chunks.ensures.front, c.split_at.ensures.back) (gathered_last _ c.chunks.invariant c.read_header-header.ensures.len c.if-header-lt-FULL_LENGTH.true)

pub chunks-preserved : goal.chunks-preserved
chunks-preserved c =
    rw (c.in_ok-extend_from_slice.ensures.items, c.split_at-in-chunks.ensures.front, c.split_at-in-chunks.ensures.back, c.split_at.ensures.back) (gathered_full _ c.chunks.invariant c.read_header-header.ensures.len c.if-header-lt-FULL_LENGTH.false)

pub returns : goal.returns
returns c = gathered_short c.chunks.invariant c.chunks-test.false
