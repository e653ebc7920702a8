use Rattle.report.proofs.Refusing.{data_made}
use Rattle.report.proofs.timing.assembly.zeroed_memory.Goals as goal

pub returns : goal.returns
returns c =
    let zeros = c.in_ok-zeros.ensures in
    data_made c.args.setup.now c.in_ok-zeros.zeros _ c.in_ok-check.ensures zeros.len (zeros.items_if_clones_equal (λ y e. e)) c.in_ok-build.ensures
