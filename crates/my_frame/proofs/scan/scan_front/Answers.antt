use Rattle.std.proofs.Common.{length, ap, arith}
use Rattle.my_frame.proofs.Fronts.Scanning.{scanned-short, scanned-misnumbered, scanned-too_large, scanned-partial, scanned-last, scanned-full}
use Rattle.my_frame.proofs.scan.scan_front.Goals as goal

pub returns-then-header-expected : goal.returns-then-header-expected
returns-then-header-expected c =
    let e = c.read_header-header.ensures in
    scanned-misnumbered c.chunks.invariant (record { long = c.chunks-test.true; len_is = e.len; number_is = e.number }) c.if-header-expected.true

pub returns-then-length-limit : goal.returns-then-length-limit
returns-then-length-limit c =
    let e = c.read_header-header.ensures in
    scanned-too_large c.chunks.invariant (record { long = c.chunks-test.true; len_is = e.len; number_is = e.number }) c.if-header-expected.false c.if-length-limit.true

pub returns-then-body-header : goal.returns-then-body-header
returns-then-body-header c =
    let e = c.read_header-header.ensures in
    scanned-partial c.chunks.invariant (record { long = c.chunks-test.true; len_is = e.len; number_is = e.number }) c.if-header-expected.false c.if-length-limit.false (omega (arith, ap length c.split_at.ensures.back))

pub returns-then-header-lt-FULL_LENGTH : goal.returns-then-header-lt-FULL_LENGTH
returns-then-header-lt-FULL_LENGTH c =
    let e = c.read_header-header.ensures in
    rw (c.split_at-in-chunks.ensures.back, c.split_at.ensures.back) (scanned-last c.chunks.invariant (record { long = c.chunks-test.true; len_is = e.len; number_is = e.number }) c.if-header-expected.false c.if-length-limit.false (omega (arith, ap length c.split_at.ensures.back)) c.if-header-lt-FULL_LENGTH.true)

pub chunks-preserved : goal.chunks-preserved
chunks-preserved c =
    let e = c.read_header-header.ensures in
    rw (c.split_at-in-chunks.ensures.back, c.split_at.ensures.back) (scanned-full c.chunks.invariant (record { long = c.chunks-test.true; len_is = e.len; number_is = e.number }) c.if-header-expected.false c.if-length-limit.false (omega (arith, ap length c.split_at.ensures.back)) c.if-header-lt-FULL_LENGTH.false)

pub returns : goal.returns
returns c = scanned-short c.chunks.invariant c.chunks-test.false
