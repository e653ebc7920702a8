use Rattle.std.proofs.Common.{◌≡◌, string_bytes}
use Rattle.std.proofs.lemmas.Result.{IfOk-weaker}
use Rattle.report.specs.Lines.{report_text}
use Rattle.report.specs.Timings.{Shown}
use Rattle.report.proofs.Running.{unlogged_shown}
use Rattle.report.proofs.timing.running.unlogged.Goals as goal

pub returns : goal.returns
returns g c =
    let s = c.args.setup.now in
    let w = c.args.assembly.now.longest in
    let table = g.P.Predictor.table in
    let text = g.I.Memory.means in
    let data_memory = g.D.Memory.means in
    IfOk-weaker c.report.result (λ t. string_bytes t ≡ report_text s w c.outcomes_of.result) (λ t. Shown table text data_memory s w c.args.assembly.now.machine (string_bytes t))
    (λ t e. unlogged_shown table text data_memory s w c.args.assembly.now.machine c.run_to.new.machine c.new-gaps.result c.run_to.new.gaps c.outcomes_of.result (string_bytes t) c.requires c.new-gaps.ensures c.run_to.ensures.ran c.outcomes_of.ensures e)
    c.report.ensures
