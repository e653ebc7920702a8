use Rattle.std.proofs.Common.{◌∙◌}
use Rattle.worked_examples.proofs.Given.{counter_given}
use Rattle.worked_examples.proofs.table.Goals as goal

-- the target is in no term that the counters come to
pub returns-clause-counts : goal.returns-clause-counts
returns-clause-counts c = c.taken_thrice.ensures ∙ counter_given c.args.address c.args.target
