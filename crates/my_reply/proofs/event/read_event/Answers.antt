use Rattle.my_reply.specs.Event.{IsEvent, event_at}
use Rattle.my_frame.proofs.ReadingLaws.{reads_exactly}
use Rattle.my_reply.proofs.Readers.EventLaws.{event_found, event_again}
use Rattle.my_reply.proofs.event.read_event.Goals as goal

pub returns-clause-exact : goal.returns-clause-exact
returns-clause-exact c =
    let payload = c.args.payload.now in
    reads_exactly (IsEvent payload) (event_at payload) _ (event_found payload) (event_again payload) c.event_of.ensures
