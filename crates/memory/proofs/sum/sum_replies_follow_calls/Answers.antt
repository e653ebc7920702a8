use Rattle.memory.proofs.SumReplays.{sum_replays}
use Rattle.memory.proofs.sum.sum_replies_follow_calls.Goals as goal

pub returns : goal.returns
returns g c = sum_replays
