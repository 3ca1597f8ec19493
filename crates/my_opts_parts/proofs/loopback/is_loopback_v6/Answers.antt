use Rattle.std.proofs.Common.{inr}
use Rattle.my_opts_parts.proofs.loopback.is_loopback_v6.Goals as goal

pub returns-in-Err : goal.returns-in-Err
returns-in-Err c = inr (rw (c.unbracketed.ensures, c.as_bytes.ensures.value) at c.in-Err.ensures)
