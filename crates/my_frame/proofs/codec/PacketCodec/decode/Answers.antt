use Rattle.my_frame.proofs.Decoding.{none_is_no_fault, some_is_no_fault, error_is_fault, error_is_memory, some_is_payload}
use Rattle.my_frame.proofs.codec.PacketCodec.decode.Goals as goal

pub returns-in-Ok-None-clause-fault : goal.returns-in-Ok-None-clause-fault
returns-in-Ok-None-clause-fault c =
    let framed = rw c.in-Ok-None.field-0-is at c.in-Ok-None.ensures.framed in
    rw (← c.as_slice.ensures, ← c.self.view_is) (none_is_no_fault _ _ _ framed)

pub returns-in-Err-clause-read_back : goal.returns-in-Err-clause-read_back
returns-in-Err-clause-read_back c = rw (← c.as_slice.ensures, ← c.self.view_is) (λ p more within spelled. error_is_memory _ _ _ p more within spelled _ c.in-Err.ensures.framed)

pub returns-in-Err-clause-fault : goal.returns-in-Err-clause-fault
returns-in-Err-clause-fault c = rw (← c.as_slice.ensures, ← c.self.view_is) (error_is_fault _ _ _ _ c.in-Err.ensures.framed c.in-Err.ensures.means)

pub returns-clause-read_back : goal.returns-clause-read_back
returns-clause-read_back c =
    let framed = rw c.in-Ok-Some.field-0-is at c.in-Ok-Some.ensures.framed in
    rw (c.into_vec.ensures, c.advance.ensures.items, ← c.as_slice.ensures, ← c.self.view_is) (λ p more within spelled. some_is_payload _ _ _ p more within spelled _ framed)

pub returns-clause-fault : goal.returns-clause-fault
returns-clause-fault c =
    let framed = rw c.in-Ok-Some.field-0-is at c.in-Ok-Some.ensures.framed in
    rw (← c.as_slice.ensures, ← c.self.view_is) (some_is_no_fault _ _ _ _ c.into_vec.result framed)
