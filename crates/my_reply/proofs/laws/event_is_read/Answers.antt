use Rattle.my_reply.specs.Event.{IsEvent, event_at}
use Rattle.my_frame.proofs.ReadingLaws.{finds_exactly}
use Rattle.my_reply.proofs.Readers.EventLaws.{event_found, event_again}
use Rattle.my_reply.proofs.laws.event_is_read.Goals as goal

pub returns : goal.returns
returns c = finds_exactly event_at IsEvent event_found event_again
