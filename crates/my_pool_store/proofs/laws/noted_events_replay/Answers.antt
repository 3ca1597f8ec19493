use Rattle.my_pool_store.proofs.Noting.{replays-on}
use Rattle.my_pool_store.proofs.laws.noted_events_replay.Goals as goal

pub returns : goal.returns
returns c = replays-on
