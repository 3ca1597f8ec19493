use Rattle.my_handshake.specs.SwitchRequest.{IsSwitch, switch_at}
use Rattle.my_frame.proofs.ReadingLaws.{reads_exactly}
use Rattle.my_handshake.proofs.Readers.SwitchLaws.{switch_found, switch_again}
use Rattle.my_handshake.proofs.switch.read_switch.Goals as goal

pub returns-clause-exact : goal.returns-clause-exact
returns-clause-exact c =
    let payload = c.args.payload.now in
    reads_exactly (IsSwitch payload) (switch_at payload) _ (switch_found payload) (switch_again payload) c.switch_of.ensures
