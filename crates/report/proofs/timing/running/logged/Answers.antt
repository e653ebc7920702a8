use Rattle.std.proofs.Common.{◌≡◌, ◌≤◌, ◌++◌, length, string_bytes, arith}
use Rattle.base.specs.Logs.{records}
use Rattle.clocktable.specs.Tables.{two_tables}
use Rattle.longrun.specs.Gaps.{none_yet, gaps_after}
use Rattle.report.specs.Lines.{report_text}
use Rattle.report.proofs.Running.{whole_run, logged_shown}
use Rattle.report.proofs.timing.running.logged.Goals as goal

pub returns : goal.returns
returns g c =
    let s = c.args.setup.now in
    let w = c.args.assembly.now.longest in
    let filled = c.run.new.journal in
    let bound : s.clocks ≤ 4294967295 = omega arith in
    let retired_room : length c.as_mut_slice.result.now ≡ s.clocks = cc (c.as_mut_slice.ensures.value, c.in_ok-retired_slots.retired_slots.ok.0, c.in_ok-retired_slots.ensures.len) in
    let clock_room : length c.as_mut_slice-2.result.now ≡ s.clocks = cc (c.as_mut_slice-2.ensures.value, c.in_ok-clock_slots.clock_slots.ok.0, c.in_ok-clock_slots.ensures.len) in
    let gaps : c.note.new.self ≡ gaps_after none_yet (records filled.retirements) = cc (c.note.ensures, c.new-gaps.ensures, c.records.ensures) in
    let text : string_bytes c.write.new.self ≡ two_tables (records filled.retirements) (records filled.clocks) ++ report_text s w c.outcomes_of.result =
    cc (c.in_ok-write.ensures.bytes, c.in_ok-text.ensures, c.records-2.ensures, c.records-3.ensures) in
    let whole = whole_run g.P.Predictor.table g.I.Memory.means g.D.Memory.means s.clocks _ _ c.new-journal.result filled
    c.args.assembly.now.machine c.run.new.self c.run.result bound c.new-journal.ensures.empty retired_room clock_room c.run.ensures.does in
    logged_shown g.P.Predictor.table g.I.Memory.means g.D.Memory.means s w c.args.assembly.now.machine c.run.new.self c.note.new.self c.outcomes_of.result
    (records filled.retirements) (records filled.clocks) (string_bytes c.write.new.self) c.requires whole gaps c.outcomes_of.ensures text
