use Rattle.my_handshake.specs.SwitchRequest.{IsMoreData, more_data_at}
use Rattle.my_frame.proofs.ReadingLaws.{reads_plainly}
use Rattle.my_handshake.proofs.Readers.SwitchLaws.{more_data_found, more_data_again}
use Rattle.my_handshake.proofs.switch.read_more_data.Goals as goal

pub returns-clause-exact : goal.returns-clause-exact
returns-clause-exact c =
    let payload = c.args.payload.now in
    reads_plainly (IsMoreData payload) (more_data_at payload) _ _ (more_data_found payload) (more_data_again payload) c.more_data_of.ensures c.ok_or.ensures.value
