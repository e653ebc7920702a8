use Rattle.std.proofs.Common.{ℕ, ◌+◌, List, ◌++◌, ap, ◌∙◌, append_assoc}
use Rattle.text.proofs.Lines.{lines_more}
use Rattle.text.proofs.table.write_table.Goals as goal

pub loop-i-preserved : goal.loop-i-preserved
loop-i-preserved g c =
    let row = c.index-records-i.result in
    let more = lines_more g.C.Columns.line c.args.records.now c.loop-i.i row c.loop-i-test.true c.index-records-i.is in
    c.in_ok-write_line.ensures ∙ ap (λ (t : List ℕ). t ++ g.C.Columns.line (c.loop-i.i + 1) row) c.loop-i.invariant ∙ rw more (simp append_assoc)
