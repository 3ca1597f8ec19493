use Rattle.std.proofs.Common.{◌≡◌, ℕ, ◌<◌, ◌≤◌, true, false, length, nat_le, sym, ◌∙◌, arith}
use Rattle.std.proofs.lemmas.Bool.Decides.{nat_tests}
use Rattle.std.proofs.lemmas.List.{at_drop_all}
use Rattle.std.specs.List.{list_all}
use Rattle.my_frame.specs.declared.limits.TheConstants.{GREATEST_MAX_ALLOWED_PACKET}
use Rattle.my_server.specs.Faults.{is_sent}
use Rattle.my_server.proofs.Every.{all_by_next}
use Rattle.my_server.proofs.check.are_sent.Goals as goal

short : (len found : ℕ) → found ≡ len → found ≤ GREATEST_MAX_ALLOWED_PACKET → true ≡ nat_le len GREATEST_MAX_ALLOWED_PACKET
short len found e within = grind (arith, nat_tests)

long : (len found : ℕ) → found ≡ len → GREATEST_MAX_ALLOWED_PACKET < found → false ≡ nat_le len GREATEST_MAX_ALLOWED_PACKET
long len found e above = grind (arith, nat_tests)

pub loop-payload-preserved : goal.loop-payload-preserved
loop-payload-preserved c =
    all_by_next is_sent c.args.payloads.now c.loop-payload.payload-index c.payload-item.result true c.loop-payload-test.true c.payload-item.is (short (length c.payload-item.result) c.len.result c.len.ensures c.if-len-gt-GREATEST_MAX_ALLOWED_PACKET.false) c.loop-payload.invariant

pub returns-then-len-gt-GREATEST_MAX_ALLOWED_PACKET : goal.returns-then-len-gt-GREATEST_MAX_ALLOWED_PACKET
returns-then-len-gt-GREATEST_MAX_ALLOWED_PACKET c =
    all_by_next is_sent c.args.payloads.now c.loop-payload.payload-index c.payload-item.result false c.loop-payload-test.true c.payload-item.is (long (length c.payload-item.result) c.len.result c.len.ensures c.if-len-gt-GREATEST_MAX_ALLOWED_PACKET.true) c.loop-payload.invariant

pub returns : goal.returns
returns c = sym (at_drop_all (list_all is_sent) c.args.payloads.now c.loop-payload.payload-index c.loop-payload-test.false) ∙ c.loop-payload.invariant
