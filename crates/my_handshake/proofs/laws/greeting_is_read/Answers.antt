use Rattle.my_handshake.specs.Greeting.{IsGreeting, greeting_at}
use Rattle.my_frame.proofs.ReadingLaws.{finds_exactly}
use Rattle.my_handshake.proofs.Readers.GreetingLaws.{greeting_found, greeting_again}
use Rattle.my_handshake.proofs.laws.greeting_is_read.Goals as goal

pub returns : goal.returns
returns c = finds_exactly greeting_at IsGreeting greeting_found greeting_again
