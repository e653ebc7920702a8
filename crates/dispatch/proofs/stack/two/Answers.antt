use Rattle.std.proofs.Common.{[], ◌∷◌}
use Rattle.dispatch.proofs.Stacking.{raised}
use Rattle.dispatch.proofs.stack.two.Goals as goal

pub returns : goal.returns
returns c = raised c.args.bytes (c.args.lower ∷ []) 1 c.in_ok-one.field-0 c.args.upper c.in_ok-one.ensures c.add.result c.add.ensures
