use Rattle.my_handshake.specs.SwitchRequest.{IsMoreData, IsSwitch, more_data_at, switch_at}
use Rattle.my_frame.proofs.ReadingLaws.{finds_exactly}
use Rattle.my_handshake.proofs.Readers.SwitchLaws.{more_data_found, more_data_again, switch_found, switch_again}
use Rattle.my_handshake.proofs.laws.switch_is_read.Goals as goal

pub returns-clause-switch : goal.returns-clause-switch
returns-clause-switch c = finds_exactly switch_at IsSwitch switch_found switch_again

pub returns-clause-more_data : goal.returns-clause-more_data
returns-clause-more_data c = finds_exactly more_data_at IsMoreData more_data_found more_data_again
