use Rattle.std.proofs.Common.{[], ◌∷◌}
use Rattle.dispatch.proofs.Stacking.{raised}
use Rattle.dispatch.proofs.stack.three.Goals as goal

pub returns : goal.returns
returns c = raised c.args.bytes (c.args.middle ∷ c.args.bottom ∷ []) 2 c.in_ok-two.field-0 c.args.top c.in_ok-two.ensures c.add.result c.add.ensures
