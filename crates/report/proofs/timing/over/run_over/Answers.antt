use Rattle.std.proofs.Common.{subst, string_bytes}
use Rattle.dispatch.specs.Predictors.{chosen_table}
use Rattle.report.specs.Timings.{Shown}
use Rattle.report.specs.declared.lines.Longest.{Longest}
use Rattle.report.proofs.timing.over.run_over.Goals as goal

pub returns : goal.returns
returns g c =
    let a = c.in_ok-assembly.ensures in
    let P : Longest → Type 0 = λ w. Shown chosen_table g.I.Memory.means g.D.Memory.means c.args.setup.now w c.in_ok-assembly.assembly.machine (string_bytes c.in_ok-run_and_report.field-0) in
    (a.0, record { first = c.in_ok-assembly.assembly.machine; assembled = a.1; run = subst P a.2 c.in_ok-run_and_report.ensures })
