use Rattle.my_handshake.specs.Greeting.{IsGreeting, greeting_at}
use Rattle.my_frame.proofs.ReadingLaws.{reads_exactly}
use Rattle.my_handshake.proofs.Readers.GreetingLaws.{greeting_found, greeting_again}
use Rattle.my_handshake.proofs.greeting.read_greeting.Goals as goal

pub returns-clause-exact : goal.returns-clause-exact
returns-clause-exact c =
    let payload = c.args.payload.now in
    reads_exactly (IsGreeting payload) (greeting_at payload) _ (greeting_found payload) (greeting_again payload) c.greeting_of.ensures
