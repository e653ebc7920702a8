use Rattle.dispatch.proofs.BoxReplays.{boxed_replays}
use Rattle.dispatch.proofs.StackReplays.{layer_replays, stack_replays}
use Rattle.dispatch.proofs.replies.replies_follow_calls.Goals as goal

pub returns : goal.returns
returns g c = record { layer = layer_replays g.met.M.Memory.obeys; boxed = boxed_replays; stack = stack_replays }
