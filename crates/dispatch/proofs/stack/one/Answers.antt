use Rattle.std.proofs.Common.{[]}
use Rattle.dispatch.proofs.Stacking.{raised}
use Rattle.dispatch.proofs.stack.one.Goals as goal

pub returns : goal.returns
returns c = raised c.args.bytes [] 0 c.in_ok-flat.field-0 c.args.layer c.in_ok-flat.ensures c.add.result c.add.ensures
